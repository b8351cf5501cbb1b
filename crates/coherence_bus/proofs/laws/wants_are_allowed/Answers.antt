use Rattle.coherence_bus.proofs.WantsMade.{want_made}
use Rattle.coherence_bus.proofs.laws.wants_are_allowed.Goals as goal

pub returns : goal.returns
returns c = want_made c.rows_are_allowed.ensures
