-- Lists of lists of which one is changed, and the list that a node is in.
use Rattle.std.proofs.Common.{◌≡◌, ◌≢◌, ℕ, zero, suc, ◌+◌, ◌<◌, Bool, true, false, cond, List, [], ◌∷◌, map, length, Option, Some, None, refl, sym, ◌∙◌, ap, inl, inr, arith}
use Rattle.std.specs.List.{position_from}
use Rattle.pei_types.specs.Recency.{change_at, list_at}
use Rattle.link_list.specs.Linked.{Linked, IsWellFormed, has_node, list_of}
use Rattle.std.proofs.lemmas.Bool.{cases_Bool}
use Rattle.std.proofs.lemmas.Option.{same_Some}
use Rattle.pei_types.proofs.Tests.{not_both}

pub list_at-change_at_other : {A : Type 0} (lists : List (List A)) (i j : ℕ) (f : List A → List A) → j ≢ i → list_at (change_at lists i f) j ≡ list_at lists j
list_at-change_at_other [] i j f h = refl
list_at-change_at_other (x ∷ xs) zero zero f h = absurd (h refl)
list_at-change_at_other (x ∷ xs) zero (suc j) f h = refl
list_at-change_at_other (x ∷ xs) (suc i) zero f h = refl
list_at-change_at_other (x ∷ xs) (suc i) (suc j) f h = list_at-change_at_other xs i j f (λ e. h (ap suc e))

pub list_at-map : (f : List ℕ → List ℕ) → f [] ≡ [] → (lists : List (List ℕ)) (i : ℕ) → list_at (map f lists) i ≡ f (list_at lists i)
list_at-map f none [] i = sym none
list_at-map f none (x ∷ xs) zero = refl
list_at-map f none (x ∷ xs) (suc i) = list_at-map f none xs i

-- a change by two functions that agree on the list
pub change_at-same : (f g : List ℕ → List ℕ) (lists : List (List ℕ)) (i : ℕ) → f (list_at lists i) ≡ g (list_at lists i) → change_at lists i f ≡ change_at lists i g
change_at-same f g [] i same = refl
change_at-same f g (x ∷ xs) zero same = ap (λ y. y ∷ xs) same
change_at-same f g (x ∷ xs) (suc i) same = ap (λ ys. x ∷ ys) (change_at-same f g xs i same)

-- a map that changes no list
map-none : (f : List ℕ → List ℕ) (lists : List (List ℕ)) → ((j : ℕ) → f (list_at lists j) ≡ list_at lists j) → map f lists ≡ lists
map-none f [] same = refl
map-none f (x ∷ xs) same = rw (same zero) (ap (λ ys. x ∷ ys) (map-none f xs (λ j. same (suc j))))

-- a map that changes one list alone
pub map-one : (f : List ℕ → List ℕ) (lists : List (List ℕ)) (i : ℕ) → ((j : ℕ) → j ≢ i → f (list_at lists j) ≡ list_at lists j) → map f lists ≡ change_at lists i f
map-one f [] i others = refl
map-one f (x ∷ xs) zero others = ap (λ ys. f x ∷ ys) (map-none f xs (λ j. others (suc j) (λ e. absurd (omega arith))))
map-one f (x ∷ xs) (suc i) others = rw (others zero (λ e. absurd (omega arith))) (ap (λ ys. x ∷ ys) (map-one f xs i (λ j apart. others (suc j) (λ e. apart (omega arith)))))

-- ---- the list that a node is in

pub some_or_none : (k : ℕ) → Some k ≡ None → ⊥
some_or_none k e = cc e

position-none : (p : List ℕ → Bool) → p [] ≡ false → (lists : List (List ℕ)) (i : ℕ) → position_from p i lists ≡ None → (l : ℕ) → p (list_at lists l) ≡ false
position-none p none [] i h l = none
position-none p none (x ∷ xs) i h zero = elim (cases_Bool (p x)) [
  | inl passes ↦ absurd (some_or_none i (rw passes at h))
  | inr fails ↦ fails
]
position-none p none (x ∷ xs) i h (suc l) = elim (cases_Bool (p x)) [
  | inl passes ↦ absurd (some_or_none i (rw passes at h))
  | inr fails ↦ position-none p none xs (i + 1) (rw fails at h) l
]

position-some : (p : List ℕ → Bool) (lists : List (List ℕ)) (i k : ℕ) → position_from p i lists ≡ Some k → (l : ℕ) × (k ≡ i + l) × (l < length lists) × (p (list_at lists l) ≡ true)
position-some p [] i k h = absurd (some_or_none k (sym h))
position-some p (x ∷ xs) i k h = elim (cases_Bool (p x)) [
  | inl passes ↦ let same = same_Some i k (rw passes at h) in (0, omega arith, omega arith, passes)
  | inr fails ↦ let rest = position-some p xs (i + 1) k (rw fails at h) in (suc rest.0, omega (arith, rest.1), omega (arith, rest.2), rest.3)
]

-- a test that answers alike after a change
pub position-change_at : (p : List ℕ → Bool) (f : List ℕ → List ℕ) → ((xs : List ℕ) → p (f xs) ≡ p xs) → (lists : List (List ℕ)) (i start : ℕ) → position_from p start (change_at lists i f) ≡ position_from p start lists
position-change_at p f same [] i start = refl
position-change_at p f same (x ∷ xs) zero start = rw (same x) refl
position-change_at p f same (x ∷ xs) (suc i) start = ap (λ o. cond (p x) (Some start) o) (position-change_at p f same xs i (start + 1))

pub position-map : (p : List ℕ → Bool) (f : List ℕ → List ℕ) → ((xs : List ℕ) → p (f xs) ≡ p xs) → (lists : List (List ℕ)) (start : ℕ) → position_from p start (map f lists) ≡ position_from p start lists
position-map p f same [] start = refl
position-map p f same (x ∷ xs) start = rw (same x, position-map p f same xs (start + 1)) refl

-- ---- the list of a node

pub list_of-none : (v : Linked) (node : ℕ) → list_of v node ≡ None → (l : ℕ) → has_node (list_at v.lists l) node ≡ false
list_of-none v node h l = position-none (λ xs. has_node xs node) refl v.lists 0 h l

pub list_of-some : (v : Linked) (node k : ℕ) → list_of v node ≡ Some k → (k < length v.lists) × (has_node (list_at v.lists k) node ≡ true)
list_of-some v node k h =
    let found = position-some (λ xs. has_node xs node) v.lists 0 k h
    in let same : found.0 ≡ k = omega (arith, found.1)
    in (omega (arith, found.2), ap (λ l. has_node (list_at v.lists l) node) (sym same) ∙ found.3)

pub list_of-free : (v : Linked) (node : ℕ) → ((l : ℕ) → has_node (list_at v.lists l) node ≡ false) → list_of v node ≡ None
list_of-free v node free = by (list_of v node) refl
  where
    by : (o : Option ℕ) → list_of v node ≡ o → list_of v node ≡ None
    by None h = h
    by (Some k) h = absurd (not_both (has_node (list_at v.lists k) node) (list_of-some v node k h).1 (free k))

pub list_of-found : (v : Linked) → IsWellFormed v → (node l : ℕ) → has_node (list_at v.lists l) node ≡ true → list_of v node ≡ Some l
list_of-found v formed node l here = by (list_of v node) refl
  where
    by : (o : Option ℕ) → list_of v node ≡ o → list_of v node ≡ Some l
    by None h = absurd (not_both (has_node (list_at v.lists l) node) here (list_of-none v node h l))
    by (Some k) h = h ∙ ap Some (formed.apart k l node (list_of-some v node k h).1 here)

pub others_absent : (v : Linked) → IsWellFormed v → (node l : ℕ) → list_of v node ≡ Some l → (j : ℕ) → j ≢ l → has_node (list_at v.lists j) node ≡ false
others_absent v formed node l h j apart = elim (cases_Bool (has_node (list_at v.lists j) node)) [
  | inl here ↦ absurd (apart (formed.apart j l node here (list_of-some v node l h).1))
  | inr free ↦ free
]
