use Rattle.std.proofs.Common.{◌≡◌, ◌++◌, map, length}
use Rattle.std.specs.Prelude.{option_map}
use Rattle.asm_statements.specs.Lexemes.{placed_of}
use Rattle.asm_statements.specs.Statements.{separated}
use Rattle.asm_statements.proofs.Separated.{more_operands}
use Rattle.asm_statements.proofs.operands.separated.Given as goal

abbrev pub invariant-loop-between : goal.invariant-loop-between
invariant-loop-between l = option_map (λ more. map placed_of l.operands.items ++ more) (more_operands (map placed_of l.rest)) ≡ separated (map placed_of l.tokens)

abbrev pub decreases-loop-between : goal.decreases-loop-between
decreases-loop-between l = length l.rest
