use Rattle.locality_monitor.proofs.States.{start_is, place_is, access_follows, placed_follows}
use Rattle.locality_monitor.proofs.laws.state_follows.Goals as goal

pub returns : goal.returns
returns c = record { start = start_is; place = place_is; access = access_follows; placed = placed_follows }
