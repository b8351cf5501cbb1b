use Rattle.history_laws.proofs.Fenced.{fences_need_their_core}
use Rattle.history_laws.proofs.laws.fences_need_their_core.Goals as goal

pub returns : goal.returns
returns c = fences_need_their_core
