use Rattle.std.proofs.Common.{◌≡◌, ◌+◌, drop, map}
use Rattle.pei_asm.specs.Faults.{unknown_label}
use Rattle.pei_asm.specs.Sources.{line_of}
use Rattle.pei_asm.specs.Stored.{stored}
use Rattle.pei_asm.proofs.unknown.unknown_label.Given as goal

abbrev pub invariant-loop-line : goal.invariant-loop-line
invariant-loop-line l =
    record {
      counted : l.number ≡ l.line-index;
      left : unknown_label (stored l.lines) (l.number + 1) (map line_of (drop l.line-index l.line-items)) ≡ unknown_label (stored l.lines) 1 (stored l.lines);
    }
