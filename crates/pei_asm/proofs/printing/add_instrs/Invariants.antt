use Rattle.std.proofs.Common.{◌≡◌, ◌++◌, drop, string_bytes}
use Rattle.pei_types.specs.Program.{HasRegisters}
use Rattle.pei_asm.specs.Canonical.{instr_lines}
use Rattle.pei_asm.specs.MachineNumbers.{HasNumber}
use Rattle.pei_asm.proofs.AddingOn.{AllBelow}
use Rattle.pei_asm.proofs.printing.add_instrs.Given as goal

abbrev pub invariant-loop-pc : goal.invariant-loop-pc
invariant-loop-pc l =
    record {
      text : string_bytes l.text ++ instr_lines l.program l.pc (drop l.pc l.program.instrs) ≡ string_bytes l.fn.text ++ instr_lines l.program 0 l.program.instrs;
      registers : AllBelow HasRegisters l.pc l.program.instrs;
      numbers : AllBelow HasNumber l.pc l.program.instrs;
    }
