-- The arrays after a node was put in front or behind, or was taken out.
use Rattle.std.proofs.Common.{◌≡◌, ◌≢◌, ℕ, ◌<◌, Bool, true, false, ◌||◌, true≢false, List, [], ◌∷◌, ◌++◌, length, replicate, Option, Some, None, nat_eq, refl, sym, ◌∙◌, ap, inl, inr, arith}
use Rattle.std.specs.Prelude.{slice_get, slice_set, slice_index_or}
use Rattle.std.specs.List.{last_or, IsDistinct}
use Rattle.std.proofs.lemmas.Grind.{get_or-set_at}
use Rattle.std.proofs.lemmas.List.{get_or-replicate, get_or-set_other, length-set, length-replicate}
use Rattle.pei_types.specs.Recency.{change_at, list_at, without}
use Rattle.link_list.specs.Linked.{IsWellFormed, has_node, follower}
use Rattle.link_list.specs.Walks.{Links, behind_led, firsts_led}
use Rattle.link_list.proofs.Nodes.{has_node-same, has_node-append, has_node-middle, or_fails, distinct-front, distinct-back, distinct-apart, without-split}
use Rattle.link_list.proofs.Followers.{or_else, first-append, follower-append_in, follower-append_out, follower-cons_same, follower-cons_other, led_in, led_out, firsts_led_in, firsts_led_out}
use Rattle.link_list.proofs.Formed.{at_changed, comes_or_is, has_node-push}
use Rattle.pei_types.proofs.Lists.{list_at-none, length-change_at}
use Rattle.std.proofs.lemmas.Bool.{cases_Bool, or_left, or_right}
use Rattle.pei_types.proofs.Tests.{not_both}
use Rattle.pei_types.proofs.Members.{distinct-head}

or_else-none : (o : Option ℕ) → or_else o None ≡ o
or_else-none None = refl
or_else-none (Some x) = refl

pub none_formed : (n m : ℕ) → IsWellFormed (record { nodes = n; lists = replicate m [] })
unfolding IsDistinct
none_formed n m = record {
  in_range = λ l x here. absurd (true≢false (sym (rw (list_at-none m l) at here)));
  distinct = λ l. rw (list_at-none m l) tt;
  apart = λ l k x here there. absurd (true≢false (sym (rw (list_at-none m l) at here)));
}

pub none_linked : (n m : ℕ) → Links (replicate n None) (replicate m None) (replicate m [])
none_linked n m = record {
  same_length = length-replicate m None ∙ sym (length-replicate {A = List ℕ} m []);
  first = λ l within. get_or-replicate m l None None (rw (length-replicate {A = List ℕ} m []) at within) ∙ ap (λ xs. slice_get xs 0) (sym (list_at-none m l));
  next = λ l x here. absurd (true≢false (sym (rw (list_at-none m l) at here)));
  well_formed = none_formed (length (replicate n None)) m;
}

pub length-behind_led : (behind : List (Option ℕ)) (from to : Option ℕ) → length (behind_led behind from to) ≡ length behind
length-behind_led behind None to = refl
length-behind_led behind (Some x) to = length-set behind x to

length-firsts_led : (firsts : List (Option ℕ)) (list : ℕ) (from to : Option ℕ) → length (firsts_led firsts list from to) ≡ length firsts
length-firsts_led firsts list None to = length-set firsts list to
length-firsts_led firsts list (Some x) to = refl

differs : (lists : List (List ℕ)) (node l x : ℕ) → ((m : ℕ) → has_node (list_at lists m) node ≡ false) → has_node (list_at lists l) x ≡ true → x ≢ node
differs lists node l x free here same = not_both (has_node (list_at lists l) node) (has_node-same (list_at lists l) x node same here) (free l)

elsewhere : (behind firsts : List (Option ℕ)) (lists : List (List ℕ)) → Links behind firsts lists → (list l x : ℕ) → l ≢ list → has_node (list_at lists l) x ≡ true → has_node (list_at lists list) x ≡ false
elsewhere behind firsts lists links list l x apart here = elim (cases_Bool (has_node (list_at lists list) x)) [
  | inl also ↦ absurd (apart (links.well_formed.apart l list x here also))
  | inr free ↦ free
]

or_rest : (a b : Bool) → a ≡ false → (a || b) ≡ true → b ≡ true
or_rest true b fails h = absurd (true≢false fails)
or_rest false b fails h = h

later_differs : (node x : ℕ) (ys zs : List ℕ) → IsDistinct nat_eq (ys ++ node ∷ zs) → has_node zs x ≡ true → x ≢ node
later_differs node x ys zs differ here same = not_both (has_node zs node) (has_node-same zs x node same here) (distinct-head node zs (distinct-back ys (node ∷ zs) differ))

-- ---- in front

pub front_linked : (behind firsts : List (Option ℕ)) (lists : List (List ℕ)) (list node : ℕ) → Links behind firsts lists → list < length lists → node < length behind
    → ((m : ℕ) → has_node (list_at lists m) node ≡ false)
    → IsWellFormed (record { nodes = length behind; lists = change_at lists list (λ xs. node ∷ xs) })
    → Links (slice_set behind node (slice_index_or firsts list None)) (slice_set firsts list (Some node)) (change_at lists list (λ xs. node ∷ xs))
front_linked behind firsts lists list node links on within free formed =
    let on_firsts : list < length firsts = omega (arith, on, links.same_length)
    in record {
      same_length = length-set firsts list (Some node) ∙ links.same_length ∙ sym (length-change_at lists list (λ xs. node ∷ xs));
      first = λ l there. elim (at_changed lists list (λ xs. node ∷ xs) on l) [
        | inl same ↦ get_or-set_at firsts list l (Some node) None same.0 on_firsts ∙ ap (λ xs. slice_get xs 0) (sym same.1)
        | inr other ↦ get_or-set_other firsts list l (Some node) None other.0
            ∙ links.first l (omega (arith, there, length-change_at lists list (λ xs. node ∷ xs)))
            ∙ ap (λ xs. slice_get xs 0) (sym other.1)
      ];
      next = λ l x here. elim (at_changed lists list (λ xs. node ∷ xs) on l) [
        | inl same ↦ elim (comes_or_is x node (list_at lists list) (ap (λ xs. has_node xs x) (sym same.1) ∙ here)) [
          | inl new ↦ get_or-set_at behind node x (slice_index_or firsts list None) None new within ∙ links.first list on
              ∙ sym (follower-cons_same node (list_at lists list)) ∙ ap (λ z. follower (node ∷ list_at lists list) z) (sym new) ∙ ap (λ xs. follower xs x) (sym same.1)
          | inr was ↦
              let apart = differs lists node list x free was
              in get_or-set_other behind node x (slice_index_or firsts list None) None apart ∙ links.next list x was
              ∙ sym (follower-cons_other x node (list_at lists list) apart) ∙ ap (λ xs. follower xs x) (sym same.1)
        ]
        | inr other ↦
            let was : has_node (list_at lists l) x ≡ true = ap (λ xs. has_node xs x) (sym other.1) ∙ here
            in get_or-set_other behind node x (slice_index_or firsts list None) None (differs lists node l x free was)
            ∙ links.next l x was ∙ ap (λ xs. follower xs x) (sym other.1)
      ];
      well_formed = rw (length-set behind node (slice_index_or firsts list None)) formed;
    }

-- ---- behind

pub back_linked : (behind firsts : List (Option ℕ)) (lists : List (List ℕ)) (list node : ℕ) → Links behind firsts lists → list < length lists → node < length behind
    → ((m : ℕ) → has_node (list_at lists m) node ≡ false)
    → IsWellFormed (record { nodes = length behind; lists = change_at lists list (λ xs. xs ++ node ∷ []) })
    → Links (slice_set (behind_led behind (last_or None (list_at lists list)) (Some node)) node None) (firsts_led firsts list (last_or None (list_at lists list)) (Some node)) (change_at lists list (λ xs. xs ++ node ∷ []))
back_linked behind firsts lists list node links on within free formed =
    let old : List ℕ = list_at lists list
    in let led : List (Option ℕ) = behind_led behind (last_or None (list_at lists list)) (Some node)
    in let on_firsts : list < length firsts = omega (arith, on, links.same_length)
    in let in_led : node < length led = omega (arith, within, length-behind_led behind (last_or None (list_at lists list)) (Some node))
    in record {
      same_length = length-firsts_led firsts list (last_or None old) (Some node) ∙ links.same_length ∙ sym (length-change_at lists list (λ xs. xs ++ node ∷ []));
      first = λ l there. elim (at_changed lists list (λ xs. xs ++ node ∷ []) on l) [
        | inl same ↦ ap (λ i. slice_index_or (firsts_led firsts list (last_or None old) (Some node)) i None) same.0
            ∙ firsts_led_in firsts list old None (Some node) on_firsts (links.first list on ∙ sym (or_else-none (slice_get old 0)))
            ∙ sym (first-append old (node ∷ [])) ∙ ap (λ xs. slice_get xs 0) (sym same.1)
        | inr other ↦ firsts_led_out firsts list l (last_or None old) (Some node) other.0
            ∙ links.first l (omega (arith, there, length-change_at lists list (λ xs. xs ++ node ∷ [])))
            ∙ ap (λ xs. slice_get xs 0) (sym other.1)
      ];
      next = λ l x here. elim (at_changed lists list (λ xs. xs ++ node ∷ []) on l) [
        | inl same ↦ elim (comes_or_is x node old (sym (has_node-push x node old) ∙ ap (λ xs. has_node xs x) (sym same.1) ∙ here)) [
          | inl new ↦ get_or-set_at led node x None None new in_led
              ∙ sym (follower-append_out old (node ∷ []) node (free list) ∙ follower-cons_same node [])
              ∙ ap (λ z. follower (old ++ node ∷ []) z) (sym new) ∙ ap (λ xs. follower xs x) (sym same.1)
          | inr was ↦ get_or-set_other led node x None None (differs lists node list x free was)
              ∙ led_in behind old x None (Some node) (links.well_formed.distinct list) was (links.well_formed.in_range list x was) (links.next list x was ∙ sym (or_else-none (follower old x)))
              ∙ sym (follower-append_in old (node ∷ []) x was) ∙ ap (λ xs. follower xs x) (sym same.1)
        ]
        | inr other ↦
            let was : has_node (list_at lists l) x ≡ true = ap (λ xs. has_node xs x) (sym other.1) ∙ here
            in get_or-set_other led node x None None (differs lists node l x free was)
            ∙ led_out behind old x (Some node) (elsewhere behind firsts lists links list l x other.0 was)
            ∙ links.next l x was ∙ ap (λ xs. follower xs x) (sym other.1)
      ];
      well_formed = rw (length-set led node None ∙ length-behind_led behind (last_or None old) (Some node)) formed;
    }

-- ---- out

pub out_linked : (behind firsts : List (Option ℕ)) (lists : List (List ℕ)) (list node : ℕ) (ys zs : List ℕ) → Links behind firsts lists → list < length lists
    → list_at lists list ≡ ys ++ node ∷ zs
    → IsWellFormed (record { nodes = length behind; lists = change_at lists list (without (nat_eq node)) })
    → Links (behind_led behind (last_or None ys) (slice_index_or behind node None)) (firsts_led firsts list (last_or None ys) (slice_index_or behind node None)) (change_at lists list (without (nat_eq node)))
out_linked behind firsts lists list node ys zs links on split formed =
    let to : Option ℕ = slice_index_or behind node None
    in let on_firsts : list < length firsts = omega (arith, on, links.same_length)
    in let differ : IsDistinct nat_eq (ys ++ node ∷ zs) = rw split at (links.well_formed.distinct list)
    in let left : without (nat_eq node) (list_at lists list) ≡ ys ++ zs = ap (λ xs. without (nat_eq node) xs) split ∙ without-split node ys zs differ
    in let was_next : (x : ℕ) → has_node (ys ++ node ∷ zs) x ≡ true → slice_index_or behind x None ≡ follower (ys ++ node ∷ zs) x =
    λ x here. links.next list x (ap (λ xs. has_node xs x) split ∙ here) ∙ ap (λ xs. follower xs x) split
    in let free : has_node ys node ≡ false = distinct-apart ys (node ∷ zs) node differ (has_node-middle [] zs node)
    in let leads : to ≡ slice_get zs 0 = was_next node (has_node-middle ys zs node) ∙ follower-append_out ys (node ∷ zs) node free ∙ follower-cons_same node zs
    in record {
      same_length = length-firsts_led firsts list (last_or None ys) to ∙ links.same_length ∙ sym (length-change_at lists list (without (nat_eq node)));
      first = λ l there. elim (at_changed lists list (without (nat_eq node)) on l) [
        | inl same ↦ ap (λ i. slice_index_or (firsts_led firsts list (last_or None ys) to) i None) same.0
            ∙ firsts_led_in firsts list ys (Some node) to on_firsts (links.first list on ∙ ap (λ xs. slice_get xs 0) split ∙ first-append ys (node ∷ zs))
            ∙ ap (λ o. or_else (slice_get ys 0) o) leads ∙ sym (first-append ys zs) ∙ ap (λ xs. slice_get xs 0) (sym (same.1 ∙ left))
        | inr other ↦ firsts_led_out firsts list l (last_or None ys) to other.0
            ∙ links.first l (omega (arith, there, length-change_at lists list (without (nat_eq node))))
            ∙ ap (λ xs. slice_get xs 0) (sym other.1)
      ];
      next = λ l x here. elim (at_changed lists list (without (nat_eq node)) on l) [
        | inl same ↦
            let remains : has_node (ys ++ zs) x ≡ true = ap (λ xs. has_node xs x) (sym (same.1 ∙ left)) ∙ here
            in elim (cases_Bool (has_node ys x)) [
              | inl before ↦
                  let was : has_node (ys ++ node ∷ zs) x ≡ true = has_node-append ys (node ∷ zs) x ∙ or_left (has_node ys x) (has_node (node ∷ zs) x) before
                  in led_in behind ys x (Some node) to (distinct-front ys (node ∷ zs) differ) before (links.well_formed.in_range list x (ap (λ xs. has_node xs x) split ∙ was))
                  (was_next x was ∙ follower-append_in ys (node ∷ zs) x before)
                  ∙ ap (λ o. or_else (follower ys x) o) leads ∙ sym (follower-append_in ys zs x before) ∙ ap (λ xs. follower xs x) (sym (same.1 ∙ left))
              | inr later ↦
                  let in_rest : has_node zs x ≡ true = or_rest (has_node ys x) (has_node zs x) later (sym (has_node-append ys zs x) ∙ remains)
                  in let in_both : has_node (node ∷ zs) x ≡ true = or_right (nat_eq x node) (has_node zs x) in_rest
                  in let was : has_node (ys ++ node ∷ zs) x ≡ true = has_node-append ys (node ∷ zs) x ∙ or_right (has_node ys x) (has_node (node ∷ zs) x) in_both
                  in led_out behind ys x to later ∙ was_next x was ∙ follower-append_out ys (node ∷ zs) x later
                  ∙ follower-cons_other x node zs (later_differs node x ys zs differ in_rest)
                  ∙ sym (follower-append_out ys zs x later) ∙ ap (λ xs. follower xs x) (sym (same.1 ∙ left))
            ]
        | inr other ↦
            let was : has_node (list_at lists l) x ≡ true = ap (λ xs. has_node xs x) (sym other.1) ∙ here
            in let not_here : has_node (ys ++ node ∷ zs) x ≡ false = ap (λ xs. has_node xs x) (sym split) ∙ elsewhere behind firsts lists links list l x other.0 was
            in led_out behind ys x to (or_fails (has_node ys x) (has_node (node ∷ zs) x) (sym (has_node-append ys (node ∷ zs) x) ∙ not_here))
            ∙ links.next l x was ∙ ap (λ xs. follower xs x) (sym other.1)
      ];
      well_formed = rw (length-behind_led behind (last_or None ys) to) formed;
    }
