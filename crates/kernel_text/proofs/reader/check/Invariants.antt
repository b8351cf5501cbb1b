use Rattle.std.proofs.Common.{◌≡◌, map, drop}
use Rattle.kernel_text.specs.Lexemes.{placed_of}
use Rattle.kernel_text.specs.Known.{at_start}
use Rattle.kernel_text.specs.Faults.{first_token_fault}
use Rattle.kernel_text.proofs.reader.check.Given as goal

abbrev pub invariant-loop-i : goal.invariant-loop-i
invariant-loop-i l = first_token_fault l.tokens.end (map placed_of (drop l.i l.items)) l.reader ≡ first_token_fault l.tokens.end (map placed_of l.items) at_start
