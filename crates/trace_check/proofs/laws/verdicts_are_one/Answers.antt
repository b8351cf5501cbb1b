use Rattle.trace_check.proofs.OneVerdict.{one_verdict}
use Rattle.trace_check.proofs.laws.verdicts_are_one.Goals as goal

pub returns : goal.returns
returns c p m image journal one other f g = one_verdict p m image journal one other f g
