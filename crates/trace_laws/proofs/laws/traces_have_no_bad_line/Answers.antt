use Rattle.trace_laws.proofs.BadLines.{never_both, one_line}
use Rattle.trace_laws.proofs.laws.traces_have_no_bad_line.Goals as goal

pub returns : goal.returns
returns c = record { never_both = never_both c.traces_are_apart.ensures; one_line = one_line c.traces_are_apart.ensures }
