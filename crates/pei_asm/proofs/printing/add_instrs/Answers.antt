use Rattle.std.proofs.Common.{false, get_or}
use Rattle.pei_types.specs.Program.{HasRegisters}
use Rattle.pei_asm.specs.MachineNumbers.{HasNumber}
use Rattle.pei_asm.proofs.AddingOn.{all_on, instr_added_on}
use Rattle.pei_asm.proofs.printing.add_instrs.Goals as goal

pub loop-pc-preserved : goal.loop-pc-preserved
loop-pc-preserved c =
    record {
      text = instr_added_on c.args.program.now c.args.program.now.instrs c.loop-pc.pc c.instr.result (get_or c.args.places.now c.loop-pc.pc false) _ _ _ c.instr.ensures.found (c.requires.each c.loop-pc.pc) c.in_ok-add_instr_line.ensures.text c.loop-pc.invariant.text;
      registers = all_on HasRegisters c.args.program.now.instrs c.loop-pc.pc c.instr.result c.instr.ensures.found c.instr.ensures.registers c.loop-pc.invariant.registers;
      numbers = all_on HasNumber c.args.program.now.instrs c.loop-pc.pc c.instr.result c.instr.ensures.found c.in_ok-add_instr_line.ensures.number c.loop-pc.invariant.numbers;
    }
