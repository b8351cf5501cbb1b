-- Numbers in a list: which it has, and that they differ.
use Rattle.std.proofs.Common.{◌≡◌, ◌⊎◌, ℕ, Bool, true, false, true≢false, not, List, [], ◌∷◌, map, filter, nat_eq, Some, None, IsTrue, refl, sym, ◌∙◌, ap, inl, inr}
use Rattle.std.specs.List.{IsDistinct, AllByRecursion, list_any, last_or}
use Rattle.std.proofs.lemmas.Map.Keys.{IsDistinct-head, IsDistinct-tail, IsDistinct-cons}
use Rattle.std.proofs.lemmas.Bool.{cases_Bool, eq-eqb, or_right}
use Rattle.std.proofs.lemmas.Bool.Decides.{eqb_tells}
use Rattle.std.proofs.lemmas.Option.{same_Some}
use Rattle.pei_types.specs.Recency.{without}
use Rattle.pei_types.proofs.Tests.{not_both}

-- the list has the number
abbrev has : List ℕ → ℕ → Bool
has xs x = list_any (nat_eq x) xs

-- ---- which numbers a list has

pub first_is_member : (x : ℕ) (xs : List ℕ) → list_any (nat_eq x) (x ∷ xs) ≡ true
first_is_member x xs = rw (eq-eqb x x refl) refl

pub last_is_member : (ys : List ℕ) (p : ℕ) → last_or None ys ≡ Some p → list_any (nat_eq p) ys ≡ true
last_is_member [] p h = absurd (cc h)
last_is_member (y ∷ []) p h = let same : p ≡ y = same_Some p y (sym h) in rw (eq-eqb p y same) refl
last_is_member (y ∷ z ∷ zs) p h = or_right (nat_eq p y) (has (z ∷ zs) p) (last_is_member (z ∷ zs) p h)

pub absent : (x : ℕ) (xs : List ℕ) → AllByRecursion (λ y. nat_eq x y ≡ false) xs → list_any (nat_eq x) xs ≡ false
absent x [] h = refl
absent x (y ∷ ys) h = rw h.0 (absent x ys h.1)

pub differ : (x : ℕ) (xs : List ℕ) → list_any (nat_eq x) xs ≡ false → AllByRecursion (λ y. nat_eq x y ≡ false) xs
differ x [] h = tt
differ x (y ∷ ys) h = elim (eqb_tells x y) [
  | inl same ↦ absurd (true≢false (rw same.0 at h))
  | inr other ↦ (other.0, differ x ys (rw other.0 at h))
]

-- ---- lists without one number

pub absent-without : (x : ℕ) (xs : List ℕ) → list_any (nat_eq x) (without (nat_eq x) xs) ≡ false
absent-without x [] = refl
absent-without x (y ∷ ys) = elim (eqb_tells x y) [
  | inl same ↦ rw same.0 (absent-without x ys)
  | inr other ↦ rw other.0 (rw other.0 (absent-without x ys))
]

pub member_before-without : (x y : ℕ) (xs : List ℕ) → list_any (nat_eq x) (without (nat_eq y) xs) ≡ true → list_any (nat_eq x) xs ≡ true
member_before-without x y [] here = here
member_before-without x y (z ∷ xs) here = elim (eqb_tells y z) [
  | inl same ↦ or_right (nat_eq x z) (has xs x) (member_before-without x y xs (rw same.0 at here))
  | inr apart ↦ elim (eqb_tells x z) [
    | inl at_z ↦ rw at_z.0 refl
    | inr later ↦ rw later.0 (member_before-without x y xs (rw later.0 at (rw apart.0 at here)))
  ]
]

-- ---- different numbers

pub distinct-head : (x : ℕ) (xs : List ℕ) → IsDistinct nat_eq (x ∷ xs) → list_any (nat_eq x) xs ≡ false
distinct-head x xs h = absent x xs (IsDistinct-head nat_eq x xs h)

pub distinct-tail : (x : ℕ) (xs : List ℕ) → IsDistinct nat_eq (x ∷ xs) → IsDistinct nat_eq xs
distinct-tail x xs h = IsDistinct-tail nat_eq x xs h

pub distinct-cons : (x : ℕ) (xs : List ℕ) → list_any (nat_eq x) xs ≡ false → IsDistinct nat_eq xs → IsDistinct nat_eq (x ∷ xs)
distinct-cons x xs free h = IsDistinct-cons nat_eq x xs (differ x xs free) h

pub distinct-without : (x : ℕ) (xs : List ℕ) → IsDistinct nat_eq xs → IsDistinct nat_eq (without (nat_eq x) xs)
distinct-without x [] h = h
distinct-without x (y ∷ ys) h =
    let rest = distinct-without x ys (distinct-tail y ys h)
    in elim (eqb_tells x y) [
      | inl same ↦ rw same.0 rest
      | inr other ↦ rw other.0 (distinct-cons y (without (nat_eq x) ys) (still_absent (cases_Bool (has (without (nat_eq x) ys) y))) rest)
    ]
  where
    still_absent : (has (without (nat_eq x) ys) y ≡ true) ⊎ (has (without (nat_eq x) ys) y ≡ false) → has (without (nat_eq x) ys) y ≡ false
    still_absent (inl here) = absurd (not_both (has ys y) (member_before-without y x ys here) (distinct-head y ys h))
    still_absent (inr none) = none

pub filter-absent : (x : ℕ) (xs : List ℕ) → list_any (nat_eq x) xs ≡ false → filter (nat_eq x) xs ≡ []
filter-absent x [] none = refl
filter-absent x (y ∷ ys) none = elim (eqb_tells x y) [
  | inl same ↦ absurd (true≢false (rw same.0 at none))
  | inr other ↦ rw other.0 (filter-absent x ys (rw other.0 at none))
]

pub filter-once : (x : ℕ) (xs : List ℕ) → IsDistinct nat_eq xs → list_any (nat_eq x) xs ≡ true → filter (nat_eq x) xs ≡ x ∷ []
filter-once x [] h here = absurd (true≢false (sym here))
filter-once x (y ∷ ys) h here = elim (eqb_tells x y) [
  | inl same ↦ rw same.0 (ap (λ zs. y ∷ zs) (filter-absent x ys (ap (λ z. has ys z) same.1 ∙ distinct-head y ys h)) ∙ ap (λ z. z ∷ []) (sym same.1))
  | inr other ↦ rw other.0 (filter-once x ys (distinct-tail y ys h) (rw other.0 at here))
]

-- ---- what the numbers of a list stand for

-- two readings that agree on the list
pub map-same : {A : Type 0} (f g : ℕ → A) (xs : List ℕ) → ((x : ℕ) → IsTrue (list_any (nat_eq x) xs) → f x ≡ g x) → map f xs ≡ map g xs
map-same f g [] same = refl
map-same f g (x ∷ xs) same =
    rw (same x (first_is_member x xs)) (ap (λ l. g x ∷ l) (map-same f g xs (λ y here. same y (or_right (nat_eq y x) (has xs y) here))))

-- a test of what they stand for, which answers as a test of the numbers
pub map-filter : {A : Type 0} (f : ℕ → A) (test : A → Bool) (p : ℕ → Bool) (xs : List ℕ) → ((x : ℕ) → list_any (nat_eq x) xs ≡ true → test (f x) ≡ p x) → map f (filter p xs) ≡ filter test (map f xs)
map-filter f test p [] agree = refl
map-filter f test p (x ∷ xs) agree =
    let rest = map-filter f test p xs (λ y here. agree y (or_right (nat_eq y x) (has xs y) here))
    in let at_x : test (f x) ≡ p x = agree x (first_is_member x xs)
    in elim (cases_Bool (p x)) [
      | inl passes ↦ rw (at_x, passes) (ap (λ l. f x ∷ l) rest)
      | inr fails ↦ rw (at_x, fails) rest
    ]

-- a test that finds what one number stands for
pub map-without : {A : Type 0} (f : ℕ → A) (test : A → Bool) (x : ℕ) (xs : List ℕ) → ((y : ℕ) → IsTrue (list_any (nat_eq y) xs) → test (f y) ≡ nat_eq x y) → map f (without (nat_eq x) xs) ≡ without test (map f xs)
map-without f test x xs agree = map-filter f (λ y. not (test y)) (λ y. not (nat_eq x y)) xs (λ y here. ap not (agree y here))
