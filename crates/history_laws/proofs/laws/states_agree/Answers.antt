use Rattle.history_laws.proofs.Steps.{agrees_at_start, agrees_next, agrees_after, machine_trackable}
use Rattle.history_laws.proofs.laws.states_agree.Goals as goal

pub returns : goal.returns
returns c = record { start = agrees_at_start; next = agrees_next; after = agrees_after; alone = machine_trackable }
