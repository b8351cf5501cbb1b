use Rattle.link_list.proofs.Orders.{map-to_front, map-changed}
use Rattle.link_list.proofs.laws.held_follow.Goals as goal
use Rattle.pei_types.proofs.Members.{map-same, map-without}

pub returns : goal.returns
returns g c = record { unlinked_held = map-without; moved_held = map-to_front; changed_held = map-changed; same_held = map-same }
