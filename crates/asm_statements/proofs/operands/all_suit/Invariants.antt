use Rattle.std.proofs.Common.{◌≡◌, drop, map}
use Rattle.std.specs.List.{list_all}
use Rattle.asm_statements.specs.Lexemes.{placed_of}
use Rattle.asm_statements.specs.Mnemonics.{suits}
use Rattle.asm_statements.specs.Rows.{shape_of}
use Rattle.asm_statements.specs.Statements.{tokens_alone}
use Rattle.asm_statements.proofs.operands.all_suit.Given as goal

abbrev pub invariant-loop-operand : goal.invariant-loop-operand
invariant-loop-operand l =
    list_all (suits (shape_of l.shape)) (tokens_alone (map placed_of (drop l.operand-index l.operands)))
    ≡ list_all (suits (shape_of l.shape)) (tokens_alone (map placed_of l.operands))
