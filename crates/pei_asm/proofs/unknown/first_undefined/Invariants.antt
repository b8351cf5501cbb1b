use Rattle.std.proofs.Common.{◌≡◌, drop, map}
use Rattle.std.specs.Prelude.{find, option_map}
use Rattle.asm_statements.specs.Lexemes.{placed_of}
use Rattle.pei_asm.specs.Stored.{stored}
use Rattle.pei_asm.specs.Unknown.{is_undefined}
use Rattle.pei_asm.proofs.unknown.first_undefined.Given as goal

abbrev pub invariant-loop-operand : goal.invariant-loop-operand
invariant-loop-operand l =
    option_map (λ t. t.column) (find (is_undefined (stored l.lines)) (map placed_of (drop l.operand-index l.operands)))
    ≡ option_map (λ t. t.column) (find (is_undefined (stored l.lines)) (map placed_of l.operands))
