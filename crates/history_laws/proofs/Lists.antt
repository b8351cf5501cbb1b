-- Facts on lists: tests, filters and searches.
use Rattle.std.proofs.Common.{◌≡◌, ◌⊎◌, inl, inr, ℕ, suc, ◌<◌, Bool, true, false, ◌&&◌, ◌||◌, cond, List, [], ◌∷◌, ◌++◌, map, length, filter, find, Option, Some, None, option_map, get_or, zero, refl, sym, ◌∙◌, ap, subst, arith}
use Rattle.std.specs.List.{list_any, list_all, AllByRecursion}
use Rattle.std.proofs.lemmas.List.Folds.{list_any-append}
use Rattle.history_laws.specs.Members.{In}
use Rattle.pei_types.specs.Recency.{change_at}
use Rattle.std.proofs.Math.Bool.{or-false}
use Rattle.pei_types.proofs.Lists.{each_both, each_fails, each_filter, each_passing, each_weaker, found_has, found_passes, none_pass, true_all}
use Rattle.std.proofs.lemmas.Option.{same_Some}

pub any_push : {A : Type 0} (p : A → Bool) (xs : List A) (x : A) → list_any p (xs ++ x ∷ []) ≡ (list_any p xs || p x)
any_push p xs x = list_any-append p xs (x ∷ []) ∙ ap (λ y. list_any p xs || y) (or-false (p x))

pub each_of : {A : Type 0} (P : A → Type 0) (xs : List A) (x : A) → AllByRecursion P xs → In x xs → P x
each_of P [] x h i = absurd i
each_of P (y ∷ ys) x h (inl e) = subst P (sym e) h.0
each_of P (y ∷ ys) x h (inr i) = each_of P ys x h.1 i

pub each_in : {A : Type 0} (P : A → Type 0) (xs : List A) → ((x : A) → In x xs → P x) → AllByRecursion P xs
each_in P [] h = tt
each_in P (y ∷ ys) h = (h y (inl refl), each_in P ys (λ x i. h x (inr i)))

-- what passes a filter passed its test
pub each_kept : {A : Type 0} (P Q : A → Type 0) (t : A → Bool) (xs : List A) → ((x : A) → t x ≡ true → P x → Q x) → AllByRecursion P xs → AllByRecursion Q (filter t xs)
each_kept P Q t xs step h =
    each_weaker (λ x. (t x ≡ true) × P x) Q (λ x k. step x k.0 k.1) (filter t xs) (each_both (λ x. t x ≡ true) P (filter t xs) (each_passing t xs) (each_filter P t xs h))

pub in_push : {A : Type 0} (xs : List A) (x y : A) → In y (xs ++ x ∷ []) → In y xs ⊎ (y ≡ x)
in_push [] x y (inl e) = inr e
in_push [] x y (inr i) = absurd i
in_push (z ∷ zs) x y (inl e) = inl (inl e)
in_push {A} (z ∷ zs) x y (inr i) = by (in_push zs x y i)
  where
    by : In y zs ⊎ (y ≡ x) → In y (z ∷ zs) ⊎ (y ≡ x)
    by (inl j) = inl (inr j)
    by (inr e) = inr e

pub in_map : {A B : Type 0} (f : A → B) (xs : List A) (y : B) → In y (map f xs) → (x : A) × In x xs × (y ≡ f x)
in_map f [] y i = absurd i
in_map f (x ∷ xs) y (inl e) = (x, inl refl, e)
in_map f (x ∷ xs) y (inr i) = let r = in_map f xs y i in (r.0, inr r.1, r.2)

pub map_in : {A B : Type 0} (f : A → B) (xs : List A) (x : A) → In x xs → In (f x) (map f xs)
map_in f [] x i = absurd i
map_in f (y ∷ xs) x (inl e) = inl (ap f e)
map_in f (y ∷ xs) x (inr i) = inr (map_in f xs x i)

pub in_filter : {A : Type 0} (t : A → Bool) (xs : List A) (y : A) → In y (filter t xs) → In y xs × (t y ≡ true)
in_filter t [] y i = absurd i
in_filter {A} t (x ∷ xs) y i = by (t x) refl i (in_filter t xs y)
  where
    by : (b : Bool) → t x ≡ b → In y (cond b (x ∷ filter t xs) (filter t xs)) → (In y (filter t xs) → In y xs × (t y ≡ true)) → In y (x ∷ xs) × (t y ≡ true)
    by true e (inl same) rest = (inl same, ap t same ∙ e)
    by true e (inr j) rest = (inr (rest j).0, (rest j).1)
    by false e j rest = (inr (rest j).0, (rest j).1)

pub filter_in : {A : Type 0} (t : A → Bool) (xs : List A) (y : A) → In y xs → t y ≡ true → In y (filter t xs)
filter_in t [] y i p = absurd i
filter_in {A} t (x ∷ xs) y (inl same) p = rw (sym (ap t same) ∙ p) (inl same)
filter_in {A} t (x ∷ xs) y (inr i) p = by (t x) (filter_in t xs y i p)
  where
    by : (b : Bool) → In y (filter t xs) → In y (cond b (x ∷ filter t xs) (filter t xs))
    by true j = inr j
    by false j = j

pub find-map : {A B : Type 0} (p : B → Bool) (f : A → B) (xs : List A) → find p (map f xs) ≡ option_map f (find (λ x. p (f x)) xs)
find-map p f [] = refl
find-map {A} {B} p f (x ∷ xs) = by (p (f x)) (find-map p f xs)
  where
    by : (b : Bool) → find p (map f xs) ≡ option_map f (find (λ y. p (f y)) xs) → cond b (Some (f x)) (find p (map f xs)) ≡ option_map f (cond b (Some x) (find (λ y. p (f y)) xs))
    by true h = refl
    by false h = h

pub find_agree : {A : Type 0} (p q : A → Bool) (xs : List A) → AllByRecursion (λ x. p x ≡ q x) xs → find p xs ≡ find q xs
find_agree p q [] h = refl
find_agree p q (x ∷ xs) h = rw (h.0, find_agree p q xs h.1) refl

pub filter_agree_each : {A : Type 0} (p q : A → Bool) (xs : List A) → AllByRecursion (λ x. p x ≡ q x) xs → filter p xs ≡ filter q xs
filter_agree_each p q [] h = refl
filter_agree_each p q (x ∷ xs) h = rw (h.0, filter_agree_each p q xs h.1) refl

pub filter-map : {A B : Type 0} (p : B → Bool) (f : A → B) (xs : List A) → filter p (map f xs) ≡ map f (filter (λ x. p (f x)) xs)
filter-map p f [] = refl
filter-map {A} {B} p f (x ∷ xs) = by (p (f x)) (filter-map p f xs)
  where
    by : (b : Bool) → filter p (map f xs) ≡ map f (filter (λ y. p (f y)) xs) → cond b (f x ∷ filter p (map f xs)) (filter p (map f xs)) ≡ map f (cond b (x ∷ filter (λ y. p (f y)) xs) (filter (λ y. p (f y)) xs))
    by true h = ap (λ ys. f x ∷ ys) h
    by false h = h

pub filter-filter : {A : Type 0} (p q : A → Bool) (xs : List A) → filter p (filter q xs) ≡ filter (λ x. q x && p x) xs
filter-filter p q [] = refl
filter-filter {A} p q (x ∷ xs) = by (q x) (p x) refl (filter-filter p q xs)
  where
    by : (b c : Bool) → p x ≡ c → filter p (filter q xs) ≡ filter (λ y. q y && p y) xs → filter p (cond b (x ∷ filter q xs) (filter q xs)) ≡ cond (b && p x) (x ∷ filter (λ y. q y && p y) xs) (filter (λ y. q y && p y) xs)
    by true true e h = rw e (ap (λ ys. x ∷ ys) h)
    by true false e h = rw e h
    by false c e h = h

pub map-map : {A B C : Type 0} (g : B → C) (f : A → B) (xs : List A) → map g (map f xs) ≡ map (λ x. g (f x)) xs
map-map g f [] = refl
map-map g f (x ∷ xs) = ap (λ ys. g (f x) ∷ ys) (map-map g f xs)

pub find_Some : {A : Type 0} (p : A → Bool) (xs : List A) (x : A) → find p xs ≡ Some x → In x xs × (p x ≡ true)
find_Some p xs x h = (found_has (λ y. In y xs) p xs x (each_in (λ y. In y xs) xs (λ y i. i)) h, found_passes p xs x h)

pub find_None : {A : Type 0} (p : A → Bool) (xs : List A) (x : A) → find p xs ≡ None → In x xs → p x ≡ false
find_None p xs x h i = each_of (λ y. p y ≡ false) xs x (none_pass p xs h) i

pub find_first : {A : Type 0} (p : A → Bool) (xs : List A) (x : A) → In x xs → p x ≡ true → (y : A) × (find p xs ≡ Some y)
find_first {A} p xs x i t = by (find p xs) refl
  where
    by : (o : Option A) → find p xs ≡ o → (y : A) × (find p xs ≡ Some y)
    by None e = absurd (cc (sym t ∙ find_None p xs x e i))
    by (Some y) e = (y, e)

pub any_false : {A : Type 0} (p : A → Bool) (xs : List A) (x : A) → list_any p xs ≡ false → In x xs → p x ≡ false
any_false p xs x h i = each_of (λ y. p y ≡ false) xs x (each_fails p xs h) i

pub all_in : {A : Type 0} (p : A → Bool) (xs : List A) → ((x : A) → In x xs → p x ≡ true) → list_all p xs ≡ true
all_in p xs h = true_all p xs (each_in (λ x. p x ≡ true) xs h)

pub any_none : {A : Type 0} (p q : A → Bool) (xs : List A) → ((x : A) → q x ≡ false → p x ≡ false) → list_any q xs ≡ false → list_any p xs ≡ false
any_none p q [] step h = refl
any_none {A} p q (x ∷ xs) step h = by (q x) refl h (any_none p q xs step)
  where
    by : (c : Bool) → q x ≡ c → (c || list_any q xs) ≡ false → (list_any q xs ≡ false → list_any p xs ≡ false) → (p x || list_any p xs) ≡ false
    by true f g rest = absurd (cc g)
    by false f g rest = rw (step x f) (rest g)

pub get_or_in : {A : Type 0} (xs : List A) (k : ℕ) (d : A) → k < length xs → In (get_or xs k d) xs
get_or_in [] k d h = absurd (omega (arith, h))
get_or_in (x ∷ xs) zero d h = inl refl
get_or_in (x ∷ xs) (suc k) d h = inr (get_or_in xs k d (omega (arith, h)))

pub get_or-map_default : {A B : Type 0} (f : A → B) (xs : List A) (i : ℕ) (d : A) → get_or (map f xs) i (f d) ≡ f (get_or xs i d)
get_or-map_default f [] i d = refl
get_or-map_default f (x ∷ xs) zero d = refl
get_or-map_default f (x ∷ xs) (suc i) d = get_or-map_default f xs i d

pub get_or-change_at_same : {A : Type 0} (xs : List A) (i : ℕ) (f : A → A) (d : A) → i < length xs → get_or (change_at xs i f) i d ≡ f (get_or xs i d)
get_or-change_at_same [] i f d h = absurd (omega (arith, h))
get_or-change_at_same (x ∷ xs) zero f d h = refl
get_or-change_at_same (x ∷ xs) (suc i) f d h = get_or-change_at_same xs i f d (omega (arith, h))

pub get_or-change_at_other : {A : Type 0} (xs : List A) (i j : ℕ) (f : A → A) (d : A) → (i ≡ j → ⊥) → get_or (change_at xs i f) j d ≡ get_or xs j d
get_or-change_at_other [] i j f d h = refl
get_or-change_at_other (x ∷ xs) zero zero f d h = absurd (h refl)
get_or-change_at_other (x ∷ xs) zero (suc j) f d h = refl
get_or-change_at_other (x ∷ xs) (suc i) zero f d h = refl
get_or-change_at_other (x ∷ xs) (suc i) (suc j) f d h = get_or-change_at_other xs i j f d (λ e. h (ap suc e))

pub or_parts_cases : (x y : Bool) → (x || y) ≡ true → (x ≡ true) ⊎ (y ≡ true)
or_parts_cases true y h = inl refl
or_parts_cases false y h = inr h

-- what a filter keeps is found as before
pub find_filter : {A : Type 0} (t u : A → Bool) (xs : List A) (x : A) → find t xs ≡ Some x → u x ≡ true → find t (filter u xs) ≡ Some x
find_filter t u [] x h k = h
find_filter {A} t u (y ∷ xs) x h k = by (u y) (t y) refl refl h (λ g. find_filter t u xs x g k)
  where
    by : (b c : Bool) → u y ≡ b → t y ≡ c → cond c (Some y) (find t xs) ≡ Some x → (find t xs ≡ Some x → find t (filter u xs) ≡ Some x) → find t (cond b (y ∷ filter u xs) (filter u xs)) ≡ Some x
    by true true e f g rest = rw f g
    by true false e f g rest = rw f (rest g)
    by false true e f g rest = absurd (cc (sym k ∙ ap u (sym (same_Some y x g)) ∙ e))
    by false false e f g rest = rest g

pub change_at_same : {A : Type 0} (xs : List A) (i : ℕ) (f : A → A) → ((x : A) → f x ≡ x) → change_at xs i f ≡ xs
change_at_same [] i f h = refl
change_at_same (x ∷ xs) zero f h = ap (λ y. y ∷ xs) (h x)
change_at_same (x ∷ xs) (suc i) f h = ap (λ ys. x ∷ ys) (change_at_same xs i f h)
