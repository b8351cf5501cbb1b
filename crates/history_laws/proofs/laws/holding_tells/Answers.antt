use Rattle.history_laws.proofs.Holding.{held_counts, waiting_counts, few_hold, few_wait}
use Rattle.history_laws.proofs.laws.holding_tells.Goals as goal

pub returns : goal.returns
returns c = record { held = held_counts; waits = waiting_counts; few = few_hold; few_wait = few_wait }
