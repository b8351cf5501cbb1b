-- The node behind each node of one list.
use Rattle.std.proofs.Common.{◌≡◌, ◌≢◌, ℕ, zero, suc, ◌+◌, ◌<◌, true, false, true≢false, List, [], ◌∷◌, ◌++◌, reverse, length, Option, Some, None, nat_eq, refl, sym, ◌∙◌, ap, append_assoc, inl, inr, arith}
use Rattle.std.specs.Prelude.{slice_get, slice_index_or}
use Rattle.std.specs.List.{last_or, IsDistinct}
use Rattle.std.proofs.lemmas.Grind.{get_or-set_at}
use Rattle.std.proofs.lemmas.List.{reverse-reverse, reverse-append, get_or-set_same, get_or-set_other}
use Rattle.std.proofs.lemmas.Bool.{eq-eqb, ne_eqb, or_right}
use Rattle.std.proofs.lemmas.Bool.Decides.{eqb_tells}
use Rattle.link_list.specs.Linked.{has_node, follower, rest_from}
use Rattle.link_list.specs.Walks.{behind_led, firsts_led}
use Rattle.link_list.proofs.Nodes.{has_node-same, same_nodes-reverse}
use Rattle.std.proofs.lemmas.Option.{same_Some}
use Rattle.pei_types.proofs.Members.{last_is_member, distinct-head, distinct-tail, first_is_member}
use Rattle.pei_types.proofs.Tests.{not_both}

-- the first, or else the other
abbrev pub or_else : Option ℕ → Option ℕ → Option ℕ
or_else None other = other
or_else (Some x) other = Some x

none_or_some : (x : ℕ) → None ≡ Some x → ⊥
none_or_some x e = cc e

pub first-append : (ys zs : List ℕ) → slice_get (ys ++ zs) 0 ≡ or_else (slice_get ys 0) (slice_get zs 0)
first-append [] zs = refl
first-append (y ∷ ys) zs = refl

pub follower-append_in : (ys zs : List ℕ) (x : ℕ) → has_node ys x ≡ true → follower (ys ++ zs) x ≡ or_else (follower ys x) (slice_get zs 0)
follower-append_in [] zs x h = absurd (true≢false (sym h))
follower-append_in (y ∷ ys) zs x h = elim (eqb_tells x y) [
  | inl same ↦ rw same.0 (first-append ys zs)
  | inr other ↦ rw other.0 (follower-append_in ys zs x (rw other.0 at h))
]

pub follower-append_out : (ys zs : List ℕ) (x : ℕ) → has_node ys x ≡ false → follower (ys ++ zs) x ≡ follower zs x
follower-append_out [] zs x h = refl
follower-append_out (y ∷ ys) zs x h = elim (eqb_tells x y) [
  | inl same ↦ absurd (true≢false (rw same.0 at h))
  | inr other ↦ rw other.0 (follower-append_out ys zs x (rw other.0 at h))
]

pub follower-cons_same : (x : ℕ) (xs : List ℕ) → follower (x ∷ xs) x ≡ slice_get xs 0
follower-cons_same x xs = rw (eq-eqb x x refl) refl

pub follower-cons_other : (x y : ℕ) (xs : List ℕ) → x ≢ y → follower (y ∷ xs) x ≡ follower xs x
follower-cons_other x y xs other = rw (ne_eqb x y other) refl

-- ---- the last node

pub last_or-some : (y : ℕ) (ys : List ℕ) → last_or None (y ∷ ys) ≡ None → ⊥
last_or-some y [] h = none_or_some y (sym h)
last_or-some y (z ∷ zs) h = last_or-some z zs h

pub follower_last : (ys : List ℕ) (p : ℕ) → IsDistinct nat_eq ys → last_or None ys ≡ Some p → follower ys p ≡ None
follower_last [] p d h = refl
follower_last (y ∷ []) p d h = elim (eqb_tells p y) [ inl same ↦ rw same.0 refl | inr other ↦ rw other.0 refl ]
follower_last (y ∷ z ∷ zs) p d h =
    let rest = follower_last (z ∷ zs) p (distinct-tail y (z ∷ zs) d) h
    in let later = last_is_member (z ∷ zs) p h
    in follower-cons_other p y (z ∷ zs) (λ same. not_both (has_node (z ∷ zs) y) (has_node-same (z ∷ zs) p y same later) (distinct-head y (z ∷ zs) d)) ∙ rest

pub last_from_follower : (ys : List ℕ) (p : ℕ) → has_node ys p ≡ true → follower ys p ≡ None → last_or None ys ≡ Some p
last_from_follower [] p here h = absurd (true≢false (sym here))
last_from_follower (y ∷ []) p here h = elim (eqb_tells p y) [
  | inl same ↦ ap Some (sym same.1)
  | inr other ↦ absurd (true≢false (sym (rw other.0 at here)))
]
last_from_follower (y ∷ z ∷ zs) p here h = elim (eqb_tells p y) [
  | inl same ↦ absurd (none_or_some z (sym (rw same.0 at h)))
  | inr other ↦ last_from_follower (z ∷ zs) p (rw other.0 at here) (rw other.0 at h)
]

pub last_or-push : (ys : List ℕ) (x : ℕ) (o : Option ℕ) → last_or o (ys ++ x ∷ []) ≡ Some x
last_or-push [] x o = refl
last_or-push (y ∷ ys) x o = last_or-push ys x (Some y)

pub last_or-reverse : (xs : List ℕ) → last_or None (reverse xs) ≡ slice_get xs 0
last_or-reverse [] = refl
last_or-reverse (x ∷ xs) = rw (reverse-append (x ∷ []) xs) (last_or-push (reverse xs) x None)

pub first-reverse : (xs : List ℕ) → slice_get (reverse xs) 0 ≡ last_or None xs
first-reverse xs = sym (last_or-reverse (reverse xs)) ∙ ap (λ l. last_or None l) (reverse-reverse xs)

-- the node in front of a node, as the follower in reverse
pub follower-reverse : (ys zs : List ℕ) (x : ℕ) → has_node zs x ≡ false → follower (reverse (ys ++ x ∷ zs)) x ≡ last_or None ys
follower-reverse ys zs x free =
    let turned : reverse (ys ++ x ∷ zs) ≡ reverse zs ++ x ∷ reverse ys = reverse-append ys (x ∷ zs) ∙ ap (λ l. l ++ reverse ys) (reverse-append (x ∷ []) zs) ∙ append_assoc (reverse zs) (x ∷ []) (reverse ys)
    in ap (λ l. follower l x) turned ∙ follower-append_out (reverse zs) (x ∷ reverse ys) x (same_nodes-reverse zs x ∙ free) ∙ follower-cons_same x (reverse ys) ∙ first-reverse ys

-- ---- a node leads to another

last_none : (ys : List ℕ) (x : ℕ) → has_node ys x ≡ true → last_or None ys ≡ None → ⊥
last_none [] x here h = true≢false (sym here)
last_none (y ∷ ys) x here h = last_or-some y ys h

or_else_same : (o old to : Option ℕ) → (o ≡ None → ⊥) → or_else o old ≡ or_else o to
or_else_same None old to h = absurd (h refl)
or_else_same (Some x) old to h = refl

pub led_in : (behind : List (Option ℕ)) (ys : List ℕ) (x : ℕ) (old to : Option ℕ) → IsDistinct nat_eq ys → has_node ys x ≡ true → x < length behind
    → slice_index_or behind x None ≡ or_else (follower ys x) old → slice_index_or (behind_led behind (last_or None ys) to) x None ≡ or_else (follower ys x) to
led_in behind ys x old to d here within was = by (last_or None ys) refl
  where
    by : (last : Option ℕ) → last_or None ys ≡ last → slice_index_or (behind_led behind (last_or None ys) to) x None ≡ or_else (follower ys x) to
    by None is_last = absurd (last_none ys x here is_last)
    by (Some p) is_last = elim (eqb_tells x p) [
      | inl same ↦
          let none = follower_last ys x d (is_last ∙ ap Some (sym same.1))
          in rw is_last (get_or-set_at behind p x to None same.1 (rw (sym same.1) within) ∙ ap (λ o. or_else o to) (sym none))
      | inr other ↦
          rw is_last (get_or-set_other behind p x to None other.1 ∙ was
          ∙ or_else_same (follower ys x) old to (λ none. other.1 (same_Some x p (sym (last_from_follower ys x here none) ∙ is_last))))
    ]

pub led_out : (behind : List (Option ℕ)) (ys : List ℕ) (x : ℕ) (to : Option ℕ) → has_node ys x ≡ false → slice_index_or (behind_led behind (last_or None ys) to) x None ≡ slice_index_or behind x None
led_out behind ys x to free = by (last_or None ys) refl
  where
    by : (last : Option ℕ) → last_or None ys ≡ last → slice_index_or (behind_led behind (last_or None ys) to) x None ≡ slice_index_or behind x None
    by None is_last = rw is_last refl
    by (Some p) is_last = rw is_last (get_or-set_other behind p x to None (λ same. not_both (has_node ys x) (has_node-same ys p x (sym same) (last_is_member ys p is_last)) free))

pub firsts_led_in : (firsts : List (Option ℕ)) (list : ℕ) (ys : List ℕ) (old to : Option ℕ) → list < length firsts
    → slice_index_or firsts list None ≡ or_else (slice_get ys 0) old → slice_index_or (firsts_led firsts list (last_or None ys) to) list None ≡ or_else (slice_get ys 0) to
firsts_led_in firsts list [] old to within was = get_or-set_same firsts list to None within
firsts_led_in firsts list (y ∷ ys) old to within was = by (last_or None (y ∷ ys)) refl
  where
    by : (last : Option ℕ) → last_or None (y ∷ ys) ≡ last → slice_index_or (firsts_led firsts list (last_or None (y ∷ ys)) to) list None ≡ Some y
    by None is_last = absurd (last_or-some y ys is_last)
    by (Some p) is_last = rw is_last was

pub firsts_led_out : (firsts : List (Option ℕ)) (list other : ℕ) (from to : Option ℕ) → other ≢ list → slice_index_or (firsts_led firsts list from to) other None ≡ slice_index_or firsts other None
firsts_led_out firsts list other None to apart = get_or-set_other firsts list other to None apart
firsts_led_out firsts list other (Some p) to apart = refl

-- ---- by place

pub has_node-place : (xs : List ℕ) (place node : ℕ) → slice_get xs place ≡ Some node → has_node xs node ≡ true
has_node-place [] place node h = absurd (none_or_some node h)
has_node-place (x ∷ xs) zero node h = rw (eq-eqb node x (sym (same_Some x node h))) refl
has_node-place (x ∷ xs) (suc place) node h = or_right (nat_eq node x) (has_node xs node) (has_node-place xs place node h)

pub follower-place : (xs : List ℕ) (place node : ℕ) → IsDistinct nat_eq xs → slice_get xs place ≡ Some node → follower xs node ≡ slice_get xs (place + 1)
follower-place [] place node d h = absurd (none_or_some node h)
follower-place (x ∷ xs) zero node d h = rw (eq-eqb node x (sym (same_Some x node h))) refl
follower-place (x ∷ xs) (suc place) node d h =
    let later = has_node-place xs place node h
    in let on : suc place + 1 ≡ suc (place + 1) = omega arith
    in follower-cons_other node x xs (λ same. not_both (has_node xs x) (has_node-same xs node x same later) (distinct-head x xs d))
    ∙ follower-place xs place node (distinct-tail x xs d) h ∙ ap (λ k. slice_get (x ∷ xs) k) (sym on)

-- ---- what is left of a walk

pub rest_from-front : (xs : List ℕ) → rest_from xs (slice_get xs 0) ≡ xs
rest_from-front [] = refl
rest_from-front (x ∷ xs) = rw (eq-eqb x x refl) refl

rest_from-cons_other : (x : ℕ) (xs : List ℕ) (from : Option ℕ) → from ≢ Some x → rest_from (x ∷ xs) from ≡ rest_from xs from
rest_from-cons_other x xs None other = refl
rest_from-cons_other x xs (Some y) other = rw (ne_eqb y x (λ same. other (ap Some same))) refl

rest_from-second : (x : ℕ) (xs : List ℕ) → IsDistinct nat_eq (x ∷ xs) → rest_from (x ∷ xs) (slice_get xs 0) ≡ xs
rest_from-second x [] d = refl
rest_from-second x (y ∷ ys) d =
    rest_from-cons_other x (y ∷ ys) (Some y) (λ same. not_both (has_node (y ∷ ys) x) (has_node-same (y ∷ ys) y x (same_Some y x same) (first_is_member y ys)) (distinct-head x (y ∷ ys) d))
    ∙ rest_from-front (y ∷ ys)

pub follower_is_in : (xs : List ℕ) (node y : ℕ) → follower xs node ≡ Some y → has_node xs y ≡ true
follower_is_in [] node y h = absurd (none_or_some y h)
follower_is_in (x ∷ xs) node y h = elim (eqb_tells node x) [
  | inl same ↦ or_right (nat_eq y x) (has_node xs y) (has_node-place xs 0 y (rw same.0 at h))
  | inr other ↦ or_right (nat_eq y x) (has_node xs y) (follower_is_in xs node y (rw other.0 at h))
]

pub rest_from-node : (xs : List ℕ) (node : ℕ) → IsDistinct nat_eq xs → has_node xs node ≡ true → rest_from xs (Some node) ≡ node ∷ rest_from xs (follower xs node)
rest_from-node [] node d h = absurd (true≢false (sym h))
rest_from-node (x ∷ xs) node d h = elim (eqb_tells node x) [
  | inl same ↦ rw same.0 (ap (λ l. x ∷ l) (sym (rest_from-second x xs d)) ∙ ap (λ z. z ∷ rest_from (x ∷ xs) (slice_get xs 0)) (sym same.1))
  | inr other ↦
      let here : has_node xs node ≡ true = rw other.0 at h
      in let apart : follower xs node ≢ Some x = λ same. not_both (has_node xs x) (follower_is_in xs node x same) (distinct-head x xs d)
      in rw other.0 (rest_from-node xs node (distinct-tail x xs d) here ∙ ap (λ l. node ∷ l) (sym (rest_from-cons_other x xs (follower xs node) apart)))
]
