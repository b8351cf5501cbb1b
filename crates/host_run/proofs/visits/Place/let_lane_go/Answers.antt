use Rattle.std.proofs.Common.{ap}
use Rattle.shared_table.specs.Parts.{core_number}
use Rattle.host_run.proofs.ClaimSteps.{let_go}
use Rattle.host_run.proofs.Sent.{slot_crosses}
use Rattle.host_run.proofs.visits.Place.let_lane_go.Goals as goal

pub claim-requires-send-S : goal.claim-requires-send-S
claim-requires-send-S g c κs within = slot_crosses _ _ g.L.Run c.type_bounds.send-L

pub withdraw-requires-send-S : goal.withdraw-requires-send-S
withdraw-requires-send-S g c κs within = slot_crosses _ _ g.L.Run c.type_bounds.send-L

pub release-requires-send-S : goal.release-requires-send-S
release-requires-send-S g c κs within = slot_crosses _ _ g.L.Run c.type_bounds.send-L

pub returns-in-Announced-clause-kept : goal.returns-in-Announced-clause-kept
returns-in-Announced-clause-kept g c = let_go c.laws.ensures g.L.Run.program g.L.Run.machine g.L.Run.image c.args.self.now.table.now.table c.args.seat.now c.withdraw.new.seat c.args.lane.0 c.args.run.now c.withdraw.ensures c.requires.kept

pub returns-in-Held-clause-kept : goal.returns-in-Held-clause-kept
returns-in-Held-clause-kept g c = let_go c.laws.ensures g.L.Run.program g.L.Run.machine g.L.Run.image c.args.self.now.table.now.table c.args.seat.now c.release.new.seat c.args.lane.0 c.args.run.now c.release.ensures c.requires.kept

pub returns-in-Announced-clause-core : goal.returns-in-Announced-clause-core
returns-in-Announced-clause-core g c = ap core_number c.withdraw.ensures

pub returns-in-Held-clause-core : goal.returns-in-Held-clause-core
returns-in-Held-clause-core g c = ap core_number c.release.ensures
