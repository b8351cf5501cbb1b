use Rattle.pei_loader.specs.Entries.{Enters}
use Rattle.pei_loader.proofs.entries.set_entries.Given as goal

abbrev pub invariant-loop-core : goal.invariant-loop-core
invariant-loop-core l = Enters l.program l.core l.fn.image.words l.image
