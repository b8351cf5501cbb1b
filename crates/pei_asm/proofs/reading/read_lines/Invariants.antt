use Rattle.std.proofs.Common.{◌≡◌, ◌+◌, ◌≤◌, ◌++◌, [], length}
use Rattle.std.specs.Prelude.{option_map, filter_map}
use Rattle.std.specs.Option.{option_map_or}
use Rattle.pei_asm.specs.Faults.{first_line_fault}
use Rattle.pei_asm.specs.Meaning.{lines_read, lines_of}
use Rattle.asm_statements.specs.Statements.{meaning_of}
use Rattle.pei_asm.specs.Stored.{IsStored, lines_left, stored}
use Rattle.pei_asm.proofs.reading.read_lines.Given as goal

abbrev pub invariant-loop-rest : goal.invariant-loop-rest
invariant-loop-rest l =
    record {
      kept : IsStored l.lines;
      counted : length l.lines.lines.items ≡ l.number;
      faults : first_line_fault (stored l.lines) (l.number + 1) (lines_left (option_map (λ b. b.now) l.rest)) ≡ first_line_fault [] 1 (lines_of l.text);
      meant : stored l.lines ++ filter_map meaning_of (lines_left (option_map (λ b. b.now) l.rest)) ≡ lines_read l.text;
      short : option_map_or (λ b. l.number + length b.now) l.rest 0 ≤ length l.text;
    }

abbrev pub decreases-loop-rest : goal.decreases-loop-rest
decreases-loop-rest l = option_map_or (λ b. 1 + length b.now) l.rest 0
