use Rattle.host_run.proofs.Sent.{slot_crosses}
use Rattle.host_run.proofs.chores.is_released.Goals as goal

pub claim-requires-send-S : goal.claim-requires-send-S
claim-requires-send-S g c κs within = slot_crosses _ _ g.L.Run c.type_bounds.send-L
