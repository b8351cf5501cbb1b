use Rattle.pei_types.proofs.CoreCalls.{asks_what_fits}
use Rattle.pei_types.proofs.evidence.calls_fit.Goals as goal

pub returns : goal.returns
returns c = asks_what_fits
