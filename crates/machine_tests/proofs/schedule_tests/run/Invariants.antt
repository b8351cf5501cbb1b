use Rattle.std.proofs.Common.{◌≤◌, length}
use Rattle.machine_tests.proofs.schedule_tests.run.Given as goal

abbrev pub invariant-loop-instr : goal.invariant-loop-instr
invariant-loop-instr l = length l.program.instrs ≤ l.instr-index
