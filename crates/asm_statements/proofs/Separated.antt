-- Operands with commas, one after another.
use Rattle.std.proofs.Common.{◌≡◌, if◌then◌else◌, Bool, true, false, List, [], ◌∷◌, ◌++◌, Option, Some, None, refl, sym, ap, ◌∙◌, append_assoc}
use Rattle.std.specs.Prelude.{option_map}
use Rattle.asm_statements.specs.Tokens.{Placed}
use Rattle.asm_statements.specs.Statements.{is_comma, separated}

-- commas, each with an operand behind it
abbrev pub more_operands : List Placed → Option (List Placed)
more_operands [] = Some []
more_operands (between ∷ []) = None
more_operands (between ∷ t ∷ rest) = if is_comma between.token then option_map (λ operands. t ∷ operands) (more_operands rest) else None

pub separated_more : (t : Placed) (rest : List Placed) → separated (t ∷ rest) ≡ option_map (λ operands. t ∷ operands) (more_operands rest)
separated_more t [] = refl
separated_more t (between ∷ []) = refl
separated_more t (between ∷ u ∷ rest) =
    ap (λ o. if is_comma between.token then option_map (λ operands. t ∷ operands) o else None) (separated_more u rest) ∙ moved (is_comma between.token) _
  where
    moved : (b : Bool) (o : Option (List Placed)) → (if b then option_map (λ operands. t ∷ operands) o else None) ≡ option_map (λ operands. t ∷ operands) (if b then o else None)
    moved true o = refl
    moved false o = refl

-- one operand more
pub more_step : (so_far : List Placed) (between u : Placed) (rest : List Placed) → is_comma between.token ≡ true
    → option_map (λ more. so_far ++ more) (more_operands (between ∷ u ∷ rest)) ≡ option_map (λ more. (so_far ++ u ∷ []) ++ more) (more_operands rest)
more_step so_far between u rest h = ap (λ b. option_map (λ more. so_far ++ more) (if b then option_map (λ operands. u ∷ operands) (more_operands rest) else None)) h ∙ joined (more_operands rest)
  where
    joined : (o : Option (List Placed)) → option_map (λ more. so_far ++ more) (option_map (λ operands. u ∷ operands) o) ≡ option_map (λ more. (so_far ++ u ∷ []) ++ more) o
    joined None = refl
    joined (Some more) = ap Some (sym (append_assoc so_far (u ∷ []) more))
