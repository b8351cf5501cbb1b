use Rattle.std.proofs.Common.{◌+◌, ◌≤◌, ◌≡◌, ◌++◌, length, map, fold, None}
use Rattle.kernel_text.specs.Tokens.{tokens_from, tokens_of, end_of, behind}
use Rattle.kernel_text.specs.Characters.{first_character_fault}
use Rattle.kernel_text.specs.Lexemes.{placed_of}
use Rattle.kernel_text.proofs.tokens.read_tokens.Given as goal

abbrev pub invariant-loop-rest : goal.invariant-loop-rest
invariant-loop-rest l =
    record {
      whole : map placed_of l.items.items ++ tokens_from 0 l.place l.rest ≡ tokens_of l.text;
      sound : first_character_fault (map placed_of l.items.items) ≡ None;
      end : fold behind l.place l.rest ≡ end_of l.text;
      columns : l.place.column + length l.rest ≤ 1 + length l.text;
      lines : l.place.line + length l.rest ≤ 1 + length l.text;
      from : 1 ≤ l.place.line;
    }

abbrev pub decreases-loop-rest : goal.decreases-loop-rest
decreases-loop-rest l = length l.rest
