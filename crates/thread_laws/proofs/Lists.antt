-- Facts on lists: members, tests, filters and searches.
use Rattle.std.proofs.Common.{◌≡◌, inl, inr, Bool, true, false, ◌||◌, List, [], ◌∷◌, refl, sym, ◌∙◌, ap}
use Rattle.std.specs.List.{list_any}
use Rattle.history_laws.specs.Members.{In}

-- what passes a filter passed its test
-- a test passes on some item
pub any_in : {A : Type 0} (p : A → Bool) (xs : List A) (x : A) → In x xs → p x ≡ true → list_any p xs ≡ true
any_in p [] x i h = absurd i
any_in p (y ∷ ys) x (inl e) h = ap (λ b. b || list_any p ys) (sym (ap p e) ∙ h)
any_in {A} p (y ∷ ys) x (inr i) h = by (p y) (any_in p ys x i h)
  where
    by : (b : Bool) → list_any p ys ≡ true → (b || list_any p ys) ≡ true
    by true q = refl
    by false q = q

pub some_in : {A : Type 0} (p : A → Bool) (xs : List A) → list_any p xs ≡ true → (x : A) × In x xs × (p x ≡ true)
some_in p [] h = absurd (cc h)
some_in {A} p (y ∷ ys) h = by (p y) refl h (some_in p ys)
  where
    by : (b : Bool) → p y ≡ b → (b || list_any p ys) ≡ true → (list_any p ys ≡ true → (x : A) × In x ys × (p x ≡ true)) → (x : A) × In x (y ∷ ys) × (p x ≡ true)
    by true e q rest = (y, inl refl, e)
    by false e q rest = let r = rest q in (r.0, inr r.1, r.2)

-- two tests pass alike where each passes as soon as the other does
pub alike : (x y : Bool) → (x ≡ true → y ≡ true) → (y ≡ true → x ≡ true) → x ≡ y
alike true y f g = sym (f refl)
alike false true f g = absurd (cc (g refl))
alike false false f g = refl
