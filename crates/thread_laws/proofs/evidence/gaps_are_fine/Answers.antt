use Rattle.thread_laws.proofs.Examples.{gaps_are_fine}
use Rattle.thread_laws.proofs.evidence.gaps_are_fine.Goals as goal

pub returns : goal.returns
returns c = gaps_are_fine
