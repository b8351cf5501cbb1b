-- Which slots a list has.
use Rattle.std.proofs.Common.{◌≡◌, ◌≢◌, ℕ, true, List, [], ◌∷◌, nat_eq, refl, sym, ◌∙◌, ap, inl, inr}
use Rattle.std.proofs.lemmas.Bool.{ne_eqb}
use Rattle.std.proofs.lemmas.Bool.Decides.{eqb_tells}
use Rattle.link_list.specs.Linked.{has_node}
use Rattle.pei_types.specs.Recency.{without}
use Rattle.pei_types.proofs.Tests.{not_both}
use Rattle.pei_types.proofs.Members.{absent-without}

pub later_is : (x y : ℕ) (xs : List ℕ) → has_node xs x ≡ true → has_node (y ∷ xs) x ≡ true
later_is x y xs here = elim (eqb_tells x y) [
  | inl same ↦ rw same.0 refl
  | inr other ↦ rw other.0 here
]

pub is_later : (x y : ℕ) (xs : List ℕ) → x ≢ y → has_node (y ∷ xs) x ≡ true → has_node xs x ≡ true
is_later x y xs other here = rw (ne_eqb x y other) at here

-- ---- a list without a slot

pub stays_without : (x y : ℕ) (xs : List ℕ) → x ≢ y → has_node xs x ≡ true → has_node (without (nat_eq y) xs) x ≡ true
stays_without x y [] other here = here
stays_without x y (z ∷ xs) other here = elim (eqb_tells y z) [
  | inl same ↦ rw same.0 (stays_without x y xs other (is_later x z xs (λ e. other (e ∙ sym same.1)) here))
  | inr apart ↦ rw apart.0 (elim (eqb_tells x z) [
    | inl at_z ↦ rw at_z.0 refl
    | inr later ↦ rw later.0 (stays_without x y xs other (rw later.0 at here))
  ])
]

pub other_without : (x y : ℕ) (xs : List ℕ) → has_node (without (nat_eq y) xs) x ≡ true → x ≢ y
other_without x y xs here same = not_both (has_node (without (nat_eq y) xs) y) (ap (λ z. has_node (without (nat_eq y) xs) z) (sym same) ∙ here) (absent-without y xs)
