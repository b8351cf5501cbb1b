-- The first use of a label that no line defines, line by line.
use Rattle.std.proofs.Common.{◌≡◌, ℕ, ◌+◌, List, [], ◌∷◌, Bool, true, false, not, ◌&&◌, if◌then◌else◌, Option, Some, None, refl, ap, ◌∙◌}
use Rattle.std.specs.Prelude.{find, filter, option_map}
use Rattle.std.specs.Option.{option_or}
use Rattle.pei_asm.specs.declared.faults.AsmKind.TheVariants as kind
use Rattle.asm_statements.specs.Tokens.{Placed}
use Rattle.asm_statements.specs.Statements.{Line}
use Rattle.pei_asm.specs.Meaning.{is_defined, labels_used, names_label}
use Rattle.pei_asm.specs.Faults.{unknown_label}
use Rattle.pei_asm.specs.Unknown.{is_undefined}

-- one test in place of two
pub find_filtered : (all : List Line) (operands : List Placed) → find (λ t. not (is_defined all t)) (filter names_label operands) ≡ find (is_undefined all) operands
find_filtered all [] = refl
find_filtered all (t ∷ ts) = by_label (names_label t) ∙ ap (λ o. if is_undefined all t then Some t else o) (find_filtered all ts)
  where
    by_label : (b : Bool) → find (λ u. not (is_defined all u)) (if b then t ∷ filter names_label ts else filter names_label ts)
        ≡ (if b && not (is_defined all t) then Some t else find (λ u. not (is_defined all u)) (filter names_label ts))
    by_label true = refl
    by_label false = refl

-- the line has such a use
pub unknown_here : (all : List Line) (n : ℕ) (l : Line) (ls : List Line) (column : ℕ) → option_map (λ t. t.column) (find (λ t. not (is_defined all t)) (labels_used l)) ≡ Some column
    → unknown_label all n (l ∷ ls) ≡ Some (record { line = n; column = column; kind = kind.UnknownLabel })
unknown_here all n l ls column h = by_use (find (λ t. not (is_defined all t)) (labels_used l)) h
  where
    by_use : (o : Option Placed) → option_map (λ t. t.column) o ≡ Some column
        → option_or (option_map (λ t. record { line = n; column = t.column; kind = kind.UnknownLabel }) o) (unknown_label all (n + 1) ls) ≡ Some (record { line = n; column = column; kind = kind.UnknownLabel })
    by_use None k = absurd (cc k)
    by_use (Some t) k = let same : t.column ≡ column = cc k in ap (λ c. Some (record { line = n; column = c; kind = kind.UnknownLabel })) same

-- the line has none
pub unknown_later : (all : List Line) (n : ℕ) (l : Line) (ls : List Line) → option_map (λ t. t.column) (find (λ t. not (is_defined all t)) (labels_used l)) ≡ None
    → unknown_label all n (l ∷ ls) ≡ unknown_label all (n + 1) ls
unknown_later all n l ls h = by_use (find (λ t. not (is_defined all t)) (labels_used l)) h
  where
    by_use : (o : Option Placed) → option_map (λ t. t.column) o ≡ None
        → option_or (option_map (λ t. record { line = n; column = t.column; kind = kind.UnknownLabel }) o) (unknown_label all (n + 1) ls) ≡ unknown_label all (n + 1) ls
    by_use None k = refl
    by_use (Some t) k = absurd (cc k)
