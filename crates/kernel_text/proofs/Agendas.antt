-- What is wanted, and in which order.
use Rattle.std.proofs.Common.{◌≡◌, Bool, true, false, ◌&&◌, List, [], ◌∷◌, ◌++◌, Option, Some, None, refl, sym, ap, ◌∙◌, reverse, append_assoc}
use Rattle.std.specs.List.{list_all}
use Rattle.std.proofs.lemmas.List.{reverse-append}
use Rattle.std.proofs.lemmas.List.Folds.{list_all-append}
use Rattle.kernel_text.specs.declared.senses.Wanted.{Wanted}
use Rattle.kernel_text.specs.Readings.{Reading, before, may_end, is_optional}

pub ends_reversed : (xs : List Wanted) → may_end (reverse xs) ≡ may_end xs
ends_reversed [] = refl
ends_reversed (x ∷ xs) =
    ap (list_all is_optional) (reverse-append (x ∷ []) xs) ∙ list_all-append is_optional (reverse xs) (x ∷ []) ∙ ap (λ b. b && (is_optional x && true)) (ends_reversed xs)
    ∙ swapped (list_all is_optional xs) (is_optional x)
  where
    swapped : (a b : Bool) → (a && (b && true)) ≡ (b && a)
    swapped true true = refl
    swapped true false = refl
    swapped false true = refl
    swapped false false = refl

-- phrases are wanted one behind the other
pub before_before : (r : Option Reading) (x y : List Wanted) → before r (x ++ y) ≡ before (before r x) y
before_before None x y = refl
before_before (Some r) x y = ap (λ w. Some (record r { wanted = w })) (sym (append_assoc r.wanted x y))
