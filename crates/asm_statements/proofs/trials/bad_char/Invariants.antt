use Rattle.std.proofs.Common.{◌≡◌, drop, map}
use Rattle.asm_statements.specs.Lexemes.{placed_of}
use Rattle.asm_statements.specs.LineFaults.{bad_char}
use Rattle.asm_statements.proofs.trials.bad_char.Given as goal

abbrev pub invariant-loop-token : goal.invariant-loop-token
invariant-loop-token l = bad_char (map placed_of (drop l.token-index l.tokens)) ≡ bad_char (map placed_of l.tokens)
