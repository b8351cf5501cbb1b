use Rattle.std.proofs.Common.{length}
use Rattle.asm_statements.proofs.trials.+first_register_out_of_range.Given as goal

abbrev pub decreases-first_register_out_of_range : goal.decreases-first_register_out_of_range
decreases-first_register_out_of_range l = length l.shapes.now
