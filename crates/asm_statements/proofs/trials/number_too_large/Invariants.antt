use Rattle.std.proofs.Common.{◌≡◌, drop, map, not}
use Rattle.asm_statements.specs.Lexemes.{placed_of}
use Rattle.asm_statements.specs.Mnemonics.{is_number_in_range}
use Rattle.asm_statements.specs.LineFaults.{column_where}
use Rattle.asm_statements.proofs.trials.number_too_large.Given as goal

abbrev pub invariant-loop-operand : goal.invariant-loop-operand
invariant-loop-operand l =
    column_where (λ t. not (is_number_in_range t)) (map placed_of (drop l.operand-index l.operands))
    ≡ column_where (λ t. not (is_number_in_range t)) (map placed_of l.operands)
