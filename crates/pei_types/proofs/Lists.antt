-- Facts on each item of a list, on searches in it, and on lists of which one item is changed.
use Rattle.std.proofs.Common.{◌≡◌, ℕ, zero, suc, ◌<◌, Bool, true, false, List, [], ◌∷◌, ◌++◌, length, map, filter, find, replicate, Some, None, refl, ap, subst, arith}
use Rattle.std.specs.Prelude.{◌&&◌, ◌||◌, if◌then◌else◌}
use Rattle.std.specs.List.{AllByRecursion, list_any, list_all}
use Rattle.pei_types.specs.Recency.{change_at, list_at}

-- ---- a fact of each item, and of the items of lists that are made of the list

pub each_weaker : {A : Type 0} (P Q : A → Type 0) → ((x : A) → P x → Q x) → (xs : List A) → AllByRecursion P xs → AllByRecursion Q xs
each_weaker P Q step [] h = tt
each_weaker P Q step (x ∷ xs) h = (step x h.0, each_weaker P Q step xs h.1)

pub each_map : {A B : Type 0} (P : A → Type 0) (Q : B → Type 0) (f : A → B) → ((x : A) → P x → Q (f x)) → (xs : List A) → AllByRecursion P xs → AllByRecursion Q (map f xs)
each_map P Q f step [] h = tt
each_map P Q f step (x ∷ xs) h = (step x h.0, each_map P Q f step xs h.1)

pub each_append : {A : Type 0} (P : A → Type 0) (xs ys : List A) → AllByRecursion P xs → AllByRecursion P ys → AllByRecursion P (xs ++ ys)
each_append P [] ys h k = k
each_append P (x ∷ xs) ys h k = (h.0, each_append P xs ys h.1 k)

pub each_filter : {A : Type 0} (P : A → Type 0) (test : A → Bool) (xs : List A) → AllByRecursion P xs → AllByRecursion P (filter test xs)
each_filter P test [] h = tt
each_filter P test (x ∷ xs) h = go (test x) (each_filter P test xs h.1)
  where
    go : (b : Bool) → AllByRecursion P (filter test xs) → AllByRecursion P (if b then x ∷ filter test xs else filter test xs)
    go true rest = (h.0, rest)
    go false rest = rest

pub each_both : {A : Type 0} (P Q : A → Type 0) (xs : List A) → AllByRecursion P xs → AllByRecursion Q xs → AllByRecursion (λ x. P x × Q x) xs
each_both P Q [] h k = tt
each_both P Q (x ∷ xs) h k = ((h.0, k.0), each_both P Q xs h.1 k.1)

pub each_passing : {A : Type 0} (test : A → Bool) (xs : List A) → AllByRecursion (λ x. test x ≡ true) (filter test xs)
each_passing test [] = tt
each_passing {A} test (x ∷ xs) = go (test x) refl (each_passing test xs)
  where
    go : (b : Bool) → test x ≡ b → AllByRecursion (λ y. test y ≡ true) (filter test xs) → AllByRecursion (λ y. test y ≡ true) (if b then x ∷ filter test xs else filter test xs)
    go true e rest = (e, rest)
    go false e rest = rest

-- ---- searches

-- the item that a search finds passes
pub found_passes : {A : Type 0} (test : A → Bool) (xs : List A) (x : A) → find test xs ≡ Some x → test x ≡ true
found_passes test [] x h = absurd (cc h)
found_passes test (y ∷ xs) x h = go (test y) refl h (λ k. found_passes test xs x k)
  where
    go : (b : Bool) → test y ≡ b → (if b then Some y else find test xs) ≡ Some x → (find test xs ≡ Some x → test x ≡ true) → test x ≡ true
    go true e k ih = let same : y ≡ x = cc in rw (← same) e
    go false e k ih = ih k

-- and what holds of each item holds of it
pub found_has : {A : Type 0} (P : A → Type 0) (test : A → Bool) (xs : List A) (x : A) → AllByRecursion P xs → find test xs ≡ Some x → P x
found_has P test [] x h k = absurd (cc k)
found_has P test (y ∷ xs) x h k = go (test y) k (λ e. found_has P test xs x h.1 e)
  where
    go : (b : Bool) → (if b then Some y else find test xs) ≡ Some x → (find test xs ≡ Some x → P x) → P x
    go true e ih = let same : y ≡ x = cc in subst P same h.0
    go false e ih = ih e

-- where a search finds nothing, no item passes
pub none_pass : {A : Type 0} (test : A → Bool) (xs : List A) → find test xs ≡ None → AllByRecursion (λ x. test x ≡ false) xs
none_pass test [] h = tt
none_pass {A} test (y ∷ xs) h = go (test y) refl h (λ k. none_pass test xs k)
  where
    go : (b : Bool) → test y ≡ b → (if b then Some y else find test xs) ≡ None → (find test xs ≡ None → AllByRecursion (λ x. test x ≡ false) xs) → AllByRecursion (λ x. test x ≡ false) (y ∷ xs)
    go true e k ih = absurd (cc k)
    go false e k ih = (e, ih k)

pub each_fails : {A : Type 0} (test : A → Bool) (xs : List A) → list_any test xs ≡ false → AllByRecursion (λ x. test x ≡ false) xs
each_fails test [] h = tt
each_fails {A} test (y ∷ xs) h = go (test y) refl h (λ k. each_fails test xs k)
  where
    go : (b : Bool) → test y ≡ b → (b || list_any test xs) ≡ false → (list_any test xs ≡ false → AllByRecursion (λ x. test x ≡ false) xs) → AllByRecursion (λ x. test x ≡ false) (y ∷ xs)
    go true e k ih = absurd (cc k)
    go false e k ih = (e, ih k)

pub all_true : {A : Type 0} (test : A → Bool) (xs : List A) → list_all test xs ≡ true → AllByRecursion (λ x. test x ≡ true) xs
all_true test [] h = tt
all_true {A} test (y ∷ xs) h = go (test y) refl h (λ k. all_true test xs k)
  where
    go : (b : Bool) → test y ≡ b → (b && list_all test xs) ≡ true → (list_all test xs ≡ true → AllByRecursion (λ x. test x ≡ true) xs) → AllByRecursion (λ x. test x ≡ true) (y ∷ xs)
    go true e k ih = (e, ih k)
    go false e k ih = absurd (cc k)

pub true_all : {A : Type 0} (test : A → Bool) (xs : List A) → AllByRecursion (λ x. test x ≡ true) xs → list_all test xs ≡ true
true_all test [] h = refl
true_all test (y ∷ xs) h = rw h.0 (true_all test xs h.1)

-- ---- one item changed

pub length-change_at : {A : Type 0} (xs : List A) (i : ℕ) (f : A → A) → length (change_at xs i f) ≡ length xs
length-change_at [] i f = refl
length-change_at (x ∷ xs) zero f = refl
length-change_at (x ∷ xs) (suc i) f = ap suc (length-change_at xs i f)

-- two changes of one item
pub change_at-change_at : {A : Type 0} (f g : A → A) (xs : List A) (i : ℕ) → change_at (change_at xs i f) i g ≡ change_at xs i (λ x. g (f x))
change_at-change_at f g [] i = refl
change_at-change_at f g (x ∷ xs) zero = refl
change_at-change_at f g (x ∷ xs) (suc i) = ap (λ ys. x ∷ ys) (change_at-change_at f g xs i)

-- a change, before and after each item is mapped
pub map-change_at : {A B : Type 0} (f : A → B) (g : A → A) (h : B → B) → ((x : A) → f (g x) ≡ h (f x)) → (xs : List A) (i : ℕ) → map f (change_at xs i g) ≡ change_at (map f xs) i h
map-change_at f g h same [] i = refl
map-change_at f g h same (x ∷ xs) zero = ap (λ y. y ∷ map f xs) (same x)
map-change_at f g h same (x ∷ xs) (suc i) = ap (λ ys. f x ∷ ys) (map-change_at f g h same xs i)

-- ---- lists of lists

pub list_at-change_at_same : {A : Type 0} (lists : List (List A)) (i : ℕ) (f : List A → List A) → i < length lists → list_at (change_at lists i f) i ≡ f (list_at lists i)
list_at-change_at_same [] i f h = absurd (omega (arith, h))
list_at-change_at_same (x ∷ xs) zero f h = refl
list_at-change_at_same (x ∷ xs) (suc i) f h = list_at-change_at_same xs i f (omega (arith, h))

pub list_at-none : (m l : ℕ) → list_at {A = ℕ} (replicate m []) l ≡ []
list_at-none zero l = refl
list_at-none (suc m) zero = refl
list_at-none (suc m) (suc l) = list_at-none m l
