use Rattle.host_run.proofs.Sent.{slot_crosses}
use Rattle.host_run.proofs.runs.take_all.Goals as goal

pub take-requires-send-S : goal.take-requires-send-S
take-requires-send-S g c κs within = slot_crosses _ _ g.L.Run c.type_bounds.send-L
