-- Names that are declared once.
use Rattle.std.proofs.Common.{◌≡◌, ℕ, List, [], ◌∷◌, ◌++◌, Bool, true, false, not, ◌||◌, if◌then◌else◌, IsTrue, Option, Some, None, map, refl, sym, ◌∙◌}
use Rattle.std.specs.List.{list_any}
use Rattle.std.specs.Map.{lookup}
use Rattle.std.specs.Str.{bytes_eq}
use Rattle.std.proofs.lemmas.Slice.Eq.{bytes_eq-Decides}
use Rattle.kernel_text.specs.Sound.{AreDistinctNames, Missing, is_among}
use Rattle.kernel_lang.specs.declared.homes.Home.{Home}

-- a name that is not among others is none of them
apart : (y x : List ℕ) (before rest : List (List ℕ)) → Missing (before ++ x ∷ rest) y → bytes_eq x y ≡ false
apart y x [] rest missing = by (bytes_eq y x) (bytes_eq x y) (is_among rest y) refl refl missing
  where
    by : (b c d : Bool) → bytes_eq y x ≡ b → bytes_eq x y ≡ c → IsTrue (not (b || d)) → c ≡ false
    by b false d e f m = refl
    by true true d e f m = absurd (cc m)
    by false true d e f m = absurd (cc ((bytes_eq-Decides y x).1 (sym ((bytes_eq-Decides x y).0 f)), e))
apart y x (z ∷ before) rest missing = apart y x before rest (tail (bytes_eq y z) (is_among (before ++ x ∷ rest) y) missing)
  where
    tail : (b c : Bool) → IsTrue (not (b || c)) → IsTrue (not c)
    tail false c m = m
    tail true c m = absurd (cc m)

-- what is declared behind other names was not declared before
pub undeclared : (homes : List (List ℕ × Home)) (x : List ℕ) (rest : List (List ℕ)) → AreDistinctNames (map (λ e. e.0) homes ++ x ∷ rest) → lookup (bytes_eq x) homes ≡ None
undeclared [] x rest distinct = refl
undeclared (e ∷ homes) x rest distinct = by (bytes_eq x e.0) (apart e.0 x (map (λ d. d.0) homes) rest distinct.0) (undeclared homes x rest distinct.1)
  where
    by : (b : Bool) → b ≡ false → lookup (bytes_eq x) homes ≡ None → (if b then Some e.1 else lookup (bytes_eq x) homes) ≡ None
    by false same none = none
    by true same none = absurd (cc same)
