use Rattle.std.proofs.Common.{◌≡◌, ◌++◌, drop, flat_map, string_bytes}
use Rattle.pei_asm.specs.Canonical.{words_line}
use Rattle.pei_asm.specs.MachineNumbers.{IsLineOfNumbers}
use Rattle.pei_asm.proofs.AddingOn.{AllBelow}
use Rattle.pei_asm.proofs.printing.add_lines.Given as goal

abbrev pub invariant-loop-i : goal.invariant-loop-i
invariant-loop-i l =
    record {
      text : string_bytes l.text ++ flat_map words_line (drop l.i l.program.lines) ≡ string_bytes l.fn.text ++ flat_map words_line l.program.lines;
      numbers : AllBelow IsLineOfNumbers l.i l.program.lines;
    }
