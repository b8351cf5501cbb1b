-- The order, the places and the number of the nodes of a list, with a node taken out or moved to the front.
use Rattle.std.proofs.Common.{◌≡◌, ◌≢◌, ℕ, zero, suc, ◌+◌, ◌-◌, ◌<◌, ◌≤◌, Bool, true, false, not, true≢false, List, [], ◌∷◌, ◌++◌, map, take, length, filter, Some, None, nat_eq, refl, sym, ◌∙◌, ap, inl, inr, arith, length-append}
use Rattle.std.specs.Prelude.{slice_get, IsTrue}
use Rattle.std.specs.List.{last_or, IsDistinct}
use Rattle.std.proofs.lemmas.List.{map-append, append-nil}
use Rattle.std.proofs.lemmas.List.Elements.{filter-append}
use Rattle.std.proofs.lemmas.List.Filters.{length-filter_both}
use Rattle.std.proofs.lemmas.Map.Steps.{length-le_from_distinct_below}
use Rattle.std.proofs.lemmas.Bool.Decides.{eqb_tells}
use Rattle.pei_types.specs.Recency.{change_at, list_at, without, to_front}
use Rattle.link_list.specs.Linked.{Linked, IsWellFormed, has_node, list_of, pushed_front, pushed_back, unlinked, moved_front}
use Rattle.link_list.proofs.Nodes.{has_node-same, has_node-append, has_node-split, has_node-cons_other, has_node-without_other, without-absent, without-split}
use Rattle.link_list.proofs.Followers.{has_node-place}
use Rattle.link_list.proofs.Changing.{map-one, some_or_none, position-map, list_of-some, others_absent}
use Rattle.link_list.proofs.Formed.{list_at-unlinked, list_at-moved_front, to_front-once, to_front-absent}
use Rattle.std.proofs.Math.Bool.{or-false}
use Rattle.pei_types.proofs.Members.{map-filter, map-without, distinct-head, distinct-tail, distinct-cons, first_is_member, absent-without, distinct-without}
use Rattle.std.proofs.lemmas.Bool.{cases_Bool, or_right}
use Rattle.std.proofs.lemmas.Option.{same_Some}
use Rattle.pei_types.proofs.Tests.{not_both}
use Rattle.pei_types.proofs.Lists.{list_at-change_at_same}

-- ---- places

pub place_of : (xs : List ℕ) (node : ℕ) → has_node xs node ≡ true → (place : ℕ) × (slice_get xs place ≡ Some node)
place_of [] node h = absurd (true≢false (sym h))
place_of (x ∷ xs) node h = elim (eqb_tells node x) [
  | inl same ↦ (zero, ap Some (sym same.1))
  | inr other ↦ let rest = place_of xs node (rw other.0 at h) in (suc rest.0, rest.1)
]

pub place-once : (xs : List ℕ) (node k j : ℕ) → IsDistinct nat_eq xs → slice_get xs k ≡ Some node → slice_get xs j ≡ Some node → k ≡ j
place-once [] node k j d h i = absurd (some_or_none node (sym h))
place-once (x ∷ xs) node zero zero d h i = refl
place-once (x ∷ xs) node zero (suc j) d h i = absurd (not_both (has_node xs x) (has_node-same xs node x (sym (same_Some x node h)) (has_node-place xs j node i)) (distinct-head x xs d))
place-once (x ∷ xs) node (suc k) zero d h i = absurd (not_both (has_node xs x) (has_node-same xs node x (sym (same_Some x node i)) (has_node-place xs k node h)) (distinct-head x xs d))
place-once (x ∷ xs) node (suc k) (suc j) d h i = ap suc (place-once xs node k j (distinct-tail x xs d) h i)

pub once : (v : Linked) → IsWellFormed v → (node list place other_list other_place : ℕ) → slice_get (list_at v.lists list) place ≡ Some node → slice_get (list_at v.lists other_list) other_place ≡ Some node → (list ≡ other_list) × (place ≡ other_place)
once v formed node list place other_list other_place here there =
    let same = formed.apart list other_list node (has_node-place (list_at v.lists list) place node here) (has_node-place (list_at v.lists other_list) other_place node there)
    in (same, place-once (list_at v.lists list) node place other_place (formed.distinct list) here (ap (λ l. slice_get (list_at v.lists l) other_place) same ∙ there))

-- ---- filters

filter-swap : (p q : ℕ → Bool) (xs : List ℕ) → filter p (filter q xs) ≡ filter q (filter p xs)
filter-swap p q [] = refl
filter-swap p q (x ∷ xs) = elim (cases_Bool (p x)) [
  | inl p_yes ↦ elim (cases_Bool (q x)) [
    | inl q_yes ↦ rw (p_yes, q_yes) (rw p_yes (ap (λ l. x ∷ l) (filter-swap p q xs)))
    | inr q_no ↦ rw (p_yes, q_no) (filter-swap p q xs)
  ]
  | inr p_no ↦ elim (cases_Bool (q x)) [
    | inl q_yes ↦ rw (p_no, q_yes) (rw p_no (filter-swap p q xs))
    | inr q_no ↦ rw (p_no, q_no) (filter-swap p q xs)
  ]
]

pub filter-without : (test : ℕ → Bool) (node : ℕ) (xs : List ℕ) → filter test (without (nat_eq node) xs) ≡ without (nat_eq node) (filter test xs)
filter-without test node xs = filter-swap test (λ x. not (nat_eq node x)) xs

pub filter-to_front : (test : ℕ → Bool) (node : ℕ) (xs : List ℕ) → filter test (to_front (nat_eq node) xs) ≡ to_front (nat_eq node) (filter test xs)
filter-to_front test node xs =
    filter-append test (filter (nat_eq node) xs) (without (nat_eq node) xs)
    ∙ ap (λ l. l ++ filter test (without (nat_eq node) xs)) (filter-swap test (nat_eq node) xs)
    ∙ ap (λ l. filter (nat_eq node) (filter test xs) ++ l) (filter-without test node xs)

pub map-to_front : {A : Type 0} (hold : ℕ → A) (test : A → Bool) (node : ℕ) (xs : List ℕ) → ((other : ℕ) → IsTrue (has_node xs other) → test (hold other) ≡ nat_eq node other) → map hold (to_front (nat_eq node) xs) ≡ to_front test (map hold xs)
map-to_front hold test node xs agree =
    map-append hold (filter (nat_eq node) xs) (without (nat_eq node) xs)
    ∙ ap (λ l. l ++ map hold (without (nat_eq node) xs)) (map-filter hold test (nat_eq node) xs agree)
    ∙ ap (λ l. filter test (map hold xs) ++ l) (map-without hold test node xs agree)

map-others : {A : Type 0} (hold new_hold : ℕ → A) (lists : List (List ℕ)) → ((other : ℕ) → map new_hold (list_at lists other) ≡ map hold (list_at lists other)) → map (map new_hold) lists ≡ map (map hold) lists
map-others hold new_hold [] same = refl
map-others hold new_hold (xs ∷ lists) same = rw (same zero) (ap (λ ls. map hold xs ∷ ls) (map-others hold new_hold lists (λ other. same (suc other))))

pub map-changed : {A : Type 0} (hold new_hold : ℕ → A) (lists : List (List ℕ)) (list : ℕ) (change : List ℕ → List ℕ) (change_held : List A → List A)
    → ((other : ℕ) → other ≢ list → map new_hold (list_at lists other) ≡ map hold (list_at lists other))
    → map new_hold (change (list_at lists list)) ≡ change_held (map hold (list_at lists list))
    → map (map new_hold) (change_at lists list change) ≡ change_at (map (map hold) lists) list change_held
map-changed hold new_hold [] list change change_held others same = refl
map-changed hold new_hold (xs ∷ lists) zero change change_held others same =
    rw same (ap (λ ls. change_held (map hold xs) ∷ ls) (map-others hold new_hold lists (λ other. others (suc other) (λ e. absurd (omega arith)))))
map-changed hold new_hold (xs ∷ lists) (suc list) change change_held others same =
    rw (others zero (λ e. absurd (omega arith))) (ap (λ ls. map hold xs ∷ ls) (map-changed hold new_hold lists list change change_held (λ other apart. others (suc other) (λ e. apart (omega arith))) same))

-- ---- the rest

pub unlinked_rest : (v : Linked) → IsWellFormed v → (node list : ℕ) (front back : List ℕ) → list_at v.lists list ≡ front ++ node ∷ back → list_at (unlinked v node).lists list ≡ front ++ back
unlinked_rest v formed node list front back split =
    list_at-unlinked v node list ∙ ap (λ xs. without (nat_eq node) xs) split ∙ without-split node front back (rw split at (formed.distinct list))

pub to_front-split : (node : ℕ) (ys zs : List ℕ) → IsDistinct nat_eq (ys ++ node ∷ zs) → to_front (nat_eq node) (ys ++ node ∷ zs) ≡ node ∷ (ys ++ zs)
to_front-split node ys zs differ =
    to_front-once node (ys ++ node ∷ zs) differ (has_node-append ys (node ∷ zs) node ∙ or_right (has_node ys node) (has_node (node ∷ zs) node) (first_is_member node zs))
    ∙ ap (λ l. node ∷ l) (without-split node ys zs differ)

pub moved_rest : (v : Linked) → IsWellFormed v → (node list : ℕ) (front back : List ℕ) → list_at v.lists list ≡ front ++ node ∷ back → list_at (moved_front v node).lists list ≡ node ∷ (front ++ back)
moved_rest v formed node list front back split =
    list_at-moved_front v node list ∙ ap (λ xs. to_front (nat_eq node) xs) split ∙ to_front-split node front back (rw split at (formed.distinct list))

split-last : (xs : List ℕ) (node : ℕ) → last_or None xs ≡ Some node → xs ≡ take (length xs - 1) xs ++ node ∷ []
split-last [] node h = absurd (some_or_none node (sym h))
split-last (x ∷ []) node h = ap (λ n. n ∷ []) (same_Some x node h)
split-last (x ∷ y ∷ ys) node h =
    let more : length (x ∷ y ∷ ys) - 1 ≡ suc (length (y ∷ ys) - 1) = omega arith
    in rw more (ap (λ l. x ∷ l) (split-last (y ∷ ys) node h))

pub unlinked_back : (v : Linked) → IsWellFormed v → (node list : ℕ) → last_or None (list_at v.lists list) ≡ Some node → list_at (unlinked v node).lists list ≡ take (length (list_at v.lists list) - 1) (list_at v.lists list)
unlinked_back v formed node list last =
    let front : List ℕ = take (length (list_at v.lists list) - 1) (list_at v.lists list)
    in unlinked_rest v formed node list front [] (split-last (list_at v.lists list) node last) ∙ append-nil front

pub unlinked_other : (v : Linked) → IsWellFormed v → (node list other : ℕ) → list_of v node ≡ Some list → other ≢ list → list_at (unlinked v node).lists other ≡ list_at v.lists other
unlinked_other v formed node list other listed apart =
    list_at-unlinked v node other ∙ without-absent node (list_at v.lists other) (others_absent v formed node list listed other apart)

pub moved_other : (v : Linked) → IsWellFormed v → (node list other : ℕ) → list_of v node ≡ Some list → other ≢ list → list_at (moved_front v node).lists other ≡ list_at v.lists other
moved_other v formed node list other listed apart =
    list_at-moved_front v node other ∙ to_front-absent node (list_at v.lists other) (others_absent v formed node list listed other apart)

pub moved_one : (v : Linked) → IsWellFormed v → (node list : ℕ) → list_of v node ≡ Some list → (moved_front v node).lists ≡ change_at v.lists list (to_front (nat_eq node))
moved_one v formed node list listed =
    map-one (to_front (nat_eq node)) v.lists list (λ other apart. to_front-absent node (list_at v.lists other) (others_absent v formed node list listed other apart))

-- ---- which nodes, and how many

has_node-filter_same : (node : ℕ) (xs : List ℕ) → has_node (filter (nat_eq node) xs) node ≡ has_node xs node
has_node-filter_same node [] = refl
has_node-filter_same node (x ∷ xs) = elim (eqb_tells node x) [
  | inl same ↦ rw same.0 (rw same.0 refl)
  | inr other ↦ rw other.0 (has_node-filter_same node xs)
]

has_node-filter_other : (node x : ℕ) (xs : List ℕ) → x ≢ node → has_node (filter (nat_eq node) xs) x ≡ false
has_node-filter_other node x [] apart = refl
has_node-filter_other node x (y ∷ ys) apart = elim (eqb_tells node y) [
  | inl same ↦ rw same.0 (has_node-cons_other x y (filter (nat_eq node) ys) (λ e. apart (e ∙ sym same.1)) ∙ has_node-filter_other node x ys apart)
  | inr other ↦ rw other.0 (has_node-filter_other node x ys apart)
]

pub has_node-to_front : (node x : ℕ) (xs : List ℕ) → has_node (to_front (nat_eq node) xs) x ≡ has_node xs x
has_node-to_front node x xs = has_node-append (filter (nat_eq node) xs) (without (nat_eq node) xs) x ∙ elim (eqb_tells x node) [
  | inl same ↦ rw same.1 (rw (absent-without node xs) (or-false (has_node (filter (nat_eq node) xs) node) ∙ has_node-filter_same node xs))
  | inr other ↦ rw (has_node-filter_other node x xs other.1) (has_node-without_other x node xs other.1)
]

pub list_of-moved_front : (v : Linked) (node other : ℕ) → list_of (moved_front v node) other ≡ list_of v other
list_of-moved_front v node other = position-map (λ xs. has_node xs other) (to_front (nat_eq node)) (λ xs. has_node-to_front node other xs) v.lists 0

distinct-to_front : (node : ℕ) (xs : List ℕ) → IsDistinct nat_eq xs → IsDistinct nat_eq (to_front (nat_eq node) xs)
distinct-to_front node xs differ = elim (cases_Bool (has_node xs node)) [
  | inl here ↦ rw (to_front-once node xs differ here) (distinct-cons node (without (nat_eq node) xs) (absent-without node xs) (distinct-without node xs differ))
  | inr free ↦ rw (to_front-absent node xs free) differ
]

pub moved_front-well_formed : (v : Linked) → IsWellFormed v → (node : ℕ) → IsWellFormed (moved_front v node)
moved_front-well_formed v formed node =
    let was : (l x : ℕ) → has_node (list_at (moved_front v node).lists l) x ≡ true → has_node (list_at v.lists l) x ≡ true =
    λ l x here. sym (has_node-to_front node x (list_at v.lists l)) ∙ ap (λ xs. has_node xs x) (sym (list_at-moved_front v node l)) ∙ here
    in record {
      in_range = λ l x here. formed.in_range l x (was l x here);
      distinct = λ l. rw (list_at-moved_front v node l) (distinct-to_front node (list_at v.lists l) (formed.distinct l));
      apart = λ l m x here there. formed.apart l m x (was l x here) (was m x there);
    }

pub length-within : (v : Linked) → IsWellFormed v → (list : ℕ) → length (list_at v.lists list) ≤ v.nodes
length-within v formed list = length-le_from_distinct_below (list_at v.lists list) v.nodes (formed.distinct list) (λ x here. formed.in_range list x here)

pub length-unlinked : (v : Linked) → IsWellFormed v → (node list : ℕ) → list_of v node ≡ Some list → length (list_at (unlinked v node).lists list) + 1 ≡ length (list_at v.lists list)
length-unlinked v formed node list listed =
    let part = has_node-split node (list_at v.lists list) (list_of-some v node list listed).1
    in let left = unlinked_rest v formed node list part.0 part.1 part.2
    in omega (arith, ap length left, ap length part.2, length-append part.0 part.1, length-append part.0 (node ∷ part.1))

pub length-moved_front : (v : Linked) (node list : ℕ) → length (list_at (moved_front v node).lists list) ≡ length (list_at v.lists list)
length-moved_front v node list =
    ap length (list_at-moved_front v node list) ∙ length-append (filter (nat_eq node) (list_at v.lists list)) (without (nat_eq node) (list_at v.lists list))
    ∙ length-filter_both (nat_eq node) (λ x. not (nat_eq node x)) (λ x. refl) (list_at v.lists list)

pub length-pushed_front : (v : Linked) (list node : ℕ) → list < length v.lists → length (list_at (pushed_front v list node).lists list) ≡ length (list_at v.lists list) + 1
length-pushed_front v list node on = omega (arith, ap length (list_at-change_at_same v.lists list (λ xs. node ∷ xs) on))

pub length-pushed_back : (v : Linked) (list node : ℕ) → list < length v.lists → length (list_at (pushed_back v list node).lists list) ≡ length (list_at v.lists list) + 1
length-pushed_back v list node on = omega (arith, ap length (list_at-change_at_same v.lists list (λ xs. xs ++ node ∷ []) on), length-append (list_at v.lists list) (node ∷ []))
