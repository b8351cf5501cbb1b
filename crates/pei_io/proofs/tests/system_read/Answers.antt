use Rattle.pei_io.specs.declared.files.Which.TheVariants as which
use Rattle.pei_io.proofs.tests.system_read.Goals as goal

pub read_limited-requires : goal.read_limited-requires
read_limited-requires c = c.make-files.ensures.unopened which.Trace
