use Rattle.std.proofs.Common.{length}
use Rattle.asm_statements.proofs.operands.+fits.Given as goal

abbrev pub decreases-fits : goal.decreases-fits
decreases-fits l = length l.shapes.now
