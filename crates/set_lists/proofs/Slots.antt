-- A row of slots, and how many of them a list has.
use Rattle.std.proofs.Common.{◌≡◌, ℕ, zero, suc, ◌+◌, ◌*◌, ◌<◌, ◌≤◌, true, false, not, List, [], ◌∷◌, length, filter, nat_eq, refl, sym, inl, inr, arith, true≢false}
use Rattle.std.specs.List.{IsDistinct}
use Rattle.std.proofs.lemmas.List.Filters.{length-filter_both}
use Rattle.std.proofs.lemmas.Bool.{cases_order, cases_Bool}
use Rattle.std.proofs.lemmas.Bool.Decides.{eqb_tells}
use Rattle.std.proofs.Math.Nat.{mul-le-mul_right, suc-mul}
use Rattle.link_list.specs.Linked.{has_node}
use Rattle.pei_types.specs.Recency.{without}
use Rattle.set_lists.specs.Placed.{IsOfSet}
use Rattle.set_lists.proofs.Members.{is_later, stays_without, other_without}
use Rattle.pei_types.proofs.Members.{distinct-cons, first_is_member, filter-absent, filter-once, member_before-without, distinct-without}

-- the row of a set ends where the row of the next begins
pub row_end : (set sets ways : ℕ) → set < sets → set * ways + ways ≤ sets * ways
row_end set sets ways h = omega (arith, suc-mul set ways, mul-le-mul_right {m = suc set} {n = sets} ways h)

pub same_set : (ways s t slot : ℕ) → IsOfSet ways s slot → IsOfSet ways t slot → s ≡ t
same_set ways s t slot here there = elim (cases_order s t) [
  | inl same ↦ same
  | inr other ↦ elim other [
    | inl below ↦ absurd (omega (arith, here.first, here.last, there.first, there.last, row_end s t ways below))
    | inr above ↦ absurd (omega (arith, here.first, here.last, there.first, there.last, row_end t s ways above))
  ]
]

-- ---- how many

both : (y : ℕ) (xs : List ℕ) → length (filter (nat_eq y) xs) + length (without (nat_eq y) xs) ≡ length xs
both y xs = length-filter_both (nat_eq y) (λ x. not (nat_eq y x)) (λ x. refl) xs

some-only : (y : ℕ) (xs : List ℕ) → has_node xs y ≡ true → 1 ≤ length (filter (nat_eq y) xs)
some-only y [] here = absurd (true≢false (sym here))
some-only y (x ∷ xs) here = elim (eqb_tells y x) [
  | inl same ↦ rw same.0 (omega arith)
  | inr other ↦ rw other.0 (some-only y xs (rw other.0 at here))
]

-- a list without one of its slots is shorter
pub less_without : (y : ℕ) (xs : List ℕ) → has_node xs y ≡ true → length (without (nat_eq y) xs) < length xs
less_without y xs here = omega (arith, both y xs, some-only y xs here)

most-only : (y : ℕ) (xs : List ℕ) → IsDistinct nat_eq xs → length (filter (nat_eq y) xs) ≤ 1
most-only y xs d = elim (cases_Bool (has_node xs y)) [
  | inl here ↦ rw (filter-once y xs d here) (omega arith)
  | inr free ↦ rw (filter-absent y xs free) (omega arith)
]

-- a list that has each of w slots in a row has as many slots
pub fills : (w first : ℕ) (xs : List ℕ) → ((slot : ℕ) → first ≤ slot → slot < first + w → has_node xs slot ≡ true) → w ≤ length xs
fills zero first xs all = omega arith
fills (suc w) first xs all =
    let last : has_node xs (first + w) ≡ true = all (first + w) (omega arith) (omega arith)
    in let rest = fills w first (without (nat_eq (first + w)) xs) (λ slot from to. stays_without slot (first + w) xs (λ e. absurd (omega arith)) (all slot from (omega arith)))
    in omega (arith, rest, both (first + w) xs, some-only (first + w) xs last)

-- a list of some of w slots in a row has no more
pub fits : (w first : ℕ) (xs : List ℕ) → IsDistinct nat_eq xs → ((slot : ℕ) → has_node xs slot ≡ true → (first ≤ slot) × (slot < first + w)) → length xs ≤ w
fits zero first [] d own = omega arith
fits zero first (x ∷ xs) d own = let at_x = own x (first_is_member x xs) in absurd (omega (arith, at_x.0, at_x.1))
fits (suc w) first xs d own =
    let rest = fits w first (without (nat_eq (first + w)) xs) (distinct-without (first + w) xs d) (λ slot here.
    let was = own slot (member_before-without slot (first + w) xs here)
    in let apart = other_without slot (first + w) xs here
    in (was.0, omega (arith, was.1, apart)))
    in omega (arith, rest, both (first + w) xs, most-only (first + w) xs d)

-- nor as many, where one of them is free
pub fits_less : (w first free : ℕ) (xs : List ℕ) → IsDistinct nat_eq xs → ((slot : ℕ) → has_node xs slot ≡ true → (first ≤ slot) × (slot < first + w))
    → first ≤ free → free < first + w → has_node xs free ≡ false → length xs < w
fits_less w first free xs d own from to absent =
    fits w first (free ∷ xs) (distinct-cons free xs absent d) (λ slot here. elim (eqb_tells slot free) [
      | inl same ↦ (omega (arith, same.1, from), omega (arith, same.1, to))
      | inr other ↦ own slot (is_later slot free xs other.1 here)
    ])
