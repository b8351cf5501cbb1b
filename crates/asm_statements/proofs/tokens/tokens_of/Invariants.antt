use Rattle.std.proofs.Common.{◌+◌, ◌≡◌, ◌++◌, length, map}
use Rattle.asm_statements.specs.Tokens.{tokens_from, tokens_of}
use Rattle.asm_statements.specs.Lexemes.{placed_of}
use Rattle.asm_statements.proofs.tokens.tokens_of.Given as goal

abbrev pub invariant-loop-rest : goal.invariant-loop-rest
invariant-loop-rest l =
    record {
      whole : map placed_of l.out.items ++ tokens_from 0 l.column l.rest ≡ tokens_of l.line;
      columns : l.column + length l.rest ≡ 1 + length l.line;
    }

abbrev pub decreases-loop-rest : goal.decreases-loop-rest
decreases-loop-rest l = length l.rest
