-- The nodes of one list: which they are, and that they differ.
use Rattle.std.proofs.Common.{◌≡◌, ◌≢◌, ℕ, Bool, true, false, ◌||◌, true≢false, List, [], ◌∷◌, ◌++◌, reverse, nat_eq, refl, sym, ◌∙◌, ap, inl, inr}
use Rattle.std.specs.List.{IsDistinct}
use Rattle.std.proofs.lemmas.List.{reverse-reverse, reverse-append}
use Rattle.std.proofs.lemmas.List.Folds.{list_any-append}
use Rattle.std.proofs.lemmas.List.Sorted.{list_any-IsPermutation, IsPermutation-reverse}
use Rattle.std.proofs.lemmas.Map.Keys.{IsDistinct-IsPermutation}
use Rattle.std.proofs.lemmas.Bool.{eq-eqb, ne_eqb, or_right}
use Rattle.std.proofs.lemmas.Bool.Decides.{eqb_tells}
use Rattle.link_list.specs.Linked.{has_node}
use Rattle.pei_types.specs.Recency.{without}
use Rattle.pei_types.proofs.Tests.{not_both}
use Rattle.pei_types.proofs.Members.{distinct-head, distinct-tail, distinct-cons, first_is_member}

pub same_nodes-reverse : (xs : List ℕ) (node : ℕ) → has_node (reverse xs) node ≡ has_node xs node
same_nodes-reverse xs node = sym (list_any-IsPermutation (nat_eq node) xs (reverse xs) (IsPermutation-reverse xs))

pub has_node-same : (xs : List ℕ) (x y : ℕ) → x ≡ y → has_node xs x ≡ true → has_node xs y ≡ true
has_node-same xs x y same here = ap (λ z. has_node xs z) (sym same) ∙ here

pub has_node-append : (ys zs : List ℕ) (node : ℕ) → has_node (ys ++ zs) node ≡ (has_node ys node || has_node zs node)
has_node-append ys zs node = list_any-append (nat_eq node) ys zs

flips : (x y : ℕ) → nat_eq x y ≡ nat_eq y x
flips x y = elim (eqb_tells x y) [
  | inl same ↦ same.0 ∙ sym (eq-eqb y x (sym same.1))
  | inr other ↦ other.0 ∙ sym (ne_eqb y x (λ e. other.1 (sym e)))
]

pub distinct-reverse : (xs : List ℕ) → IsDistinct nat_eq xs → IsDistinct nat_eq (reverse xs)
distinct-reverse xs h = IsDistinct-IsPermutation nat_eq flips xs (reverse xs) (IsPermutation-reverse xs) h

reverse-append_one : (xs : List ℕ) (x : ℕ) → reverse (x ∷ reverse xs) ≡ xs ++ x ∷ []
reverse-append_one xs x = reverse-append (x ∷ []) (reverse xs) ∙ ap (λ l. l ++ x ∷ []) (reverse-reverse xs)

pub distinct-push : (xs : List ℕ) (x : ℕ) → has_node xs x ≡ false → IsDistinct nat_eq xs → IsDistinct nat_eq (xs ++ x ∷ [])
distinct-push xs x free h = rw (sym (reverse-append_one xs x)) (distinct-reverse (x ∷ reverse xs) (distinct-cons x (reverse xs) (same_nodes-reverse xs x ∙ free) (distinct-reverse xs h)))

pub has_node-cons_other : (x y : ℕ) (xs : List ℕ) → x ≢ y → has_node (y ∷ xs) x ≡ has_node xs x
has_node-cons_other x y xs other = rw (ne_eqb x y other) refl

-- a node that is among others
pub has_node-split : (x : ℕ) (xs : List ℕ) → has_node xs x ≡ true → (ys : List ℕ) × (zs : List ℕ) × (xs ≡ ys ++ x ∷ zs) × (has_node ys x ≡ false)
has_node-split x [] h = absurd (true≢false (sym h))
has_node-split x (y ∷ xs) h = elim (eqb_tells x y) [
  | inl same ↦ ([], xs, ap (λ n. n ∷ xs) (sym same.1), refl)
  | inr other ↦
      let rest = has_node-split x xs (rw other.0 at h)
      in (y ∷ rest.0, rest.1, ap (λ l. y ∷ l) rest.2, rw other.0 rest.3)
]

-- nodes of two parts of a list differ
pub distinct-apart : (ys zs : List ℕ) (x : ℕ) → IsDistinct nat_eq (ys ++ zs) → has_node zs x ≡ true → has_node ys x ≡ false
distinct-apart [] zs x h later = refl
distinct-apart (y ∷ ys) zs x h later =
    let none = distinct-head y (ys ++ zs) h
    in let rest = distinct-apart ys zs x (distinct-tail y (ys ++ zs) h) later
    in elim (eqb_tells x y) [
      | inl same ↦ absurd (not_both (has_node (ys ++ zs) x) (has_node-append ys zs x ∙ or_right (has_node ys x) (has_node zs x) later) (rw same.1 none))
      | inr other ↦ rw other.0 rest
    ]

pub or_fails : (a b : Bool) → (a || b) ≡ false → a ≡ false
or_fails true b h = h
or_fails false b h = refl

pub distinct-front : (ys zs : List ℕ) → IsDistinct nat_eq (ys ++ zs) → IsDistinct nat_eq ys
unfolding IsDistinct
distinct-front [] zs h = tt
distinct-front (y ∷ ys) zs h =
    let none = distinct-head y (ys ++ zs) h
    in distinct-cons y ys (or_fails (has_node ys y) (has_node zs y) (sym (has_node-append ys zs y) ∙ none)) (distinct-front ys zs (distinct-tail y (ys ++ zs) h))

pub distinct-back : (ys zs : List ℕ) → IsDistinct nat_eq (ys ++ zs) → IsDistinct nat_eq zs
distinct-back [] zs h = h
distinct-back (y ∷ ys) zs h = distinct-back ys zs (distinct-tail y (ys ++ zs) h)

-- ---- without a node

pub has_node-without_other : (x node : ℕ) (xs : List ℕ) → x ≢ node → has_node (without (nat_eq node) xs) x ≡ has_node xs x
has_node-without_other x node [] other = refl
has_node-without_other x node (y ∷ ys) other = elim (eqb_tells node y) [
  | inl same ↦ rw same.0 (has_node-without_other x node ys other ∙ sym (has_node-cons_other x y ys (λ e. other (e ∙ sym same.1))))
  | inr rest ↦ rw rest.0 (ap (λ b. nat_eq x y || b) (has_node-without_other x node ys other))
]

pub without-absent : (node : ℕ) (xs : List ℕ) → has_node xs node ≡ false → without (nat_eq node) xs ≡ xs
without-absent node [] none = refl
without-absent node (y ∷ ys) none = elim (eqb_tells node y) [
  | inl same ↦ absurd (true≢false (rw same.0 at none))
  | inr rest ↦ rw rest.0 (ap (λ l. y ∷ l) (without-absent node ys (rw rest.0 at none)))
]

pub has_node-middle : (ys zs : List ℕ) (node : ℕ) → has_node (ys ++ node ∷ zs) node ≡ true
has_node-middle [] zs node = first_is_member node zs
has_node-middle (y ∷ ys) zs node = or_right (nat_eq node y) (has_node (ys ++ node ∷ zs) node) (has_node-middle ys zs node)

pub without-split : (node : ℕ) (ys zs : List ℕ) → IsDistinct nat_eq (ys ++ node ∷ zs) → without (nat_eq node) (ys ++ node ∷ zs) ≡ ys ++ zs
without-split node [] zs h = rw (eq-eqb node node refl) (without-absent node zs (distinct-head node zs h))
without-split node (y ∷ ys) zs h =
    let none : has_node (ys ++ node ∷ zs) y ≡ false = distinct-head y (ys ++ node ∷ zs) h
    in elim (eqb_tells node y) [
      | inl same ↦ absurd (not_both (has_node (ys ++ node ∷ zs) y) (ap (λ z. has_node (ys ++ node ∷ zs) z) (sym same.1) ∙ has_node-middle ys zs node) none)
      | inr other ↦ rw other.0 (ap (λ l. y ∷ l) (without-split node ys zs (distinct-tail y (ys ++ node ∷ zs) h)))
    ]
