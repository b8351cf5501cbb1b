use Rattle.host_run.proofs.Sent.{slot_crosses}
use Rattle.std.proofs.Common.{refl}
use Rattle.host_run.proofs.ClaimSteps.{freed_turn, spent_is_held, spent_is_idle}
use Rattle.host_run.proofs.visits.Place.release.Goals as goal

pub release-requires-clause-lane : goal.release-requires-clause-lane
release-requires-clause-lane g c κs within =
    spent_is_held c.laws.ensures g.L.Run.program g.L.Run.machine g.L.Run.image c.args.self.now.table.now.table c.args.seat.now c.args.seat.now c.args.run.now.own c.args.lane.0 c.requires.lane.0 c.requires.lane.1 c.requires.spent c.requires.turn.keeps.lanes

pub release-requires-clause-idle : goal.release-requires-clause-idle
release-requires-clause-idle g c κs within =
    spent_is_idle c.laws.ensures g.L.Run.program g.L.Run.machine g.L.Run.image c.args.self.now.table.now.table c.args.seat.now c.args.seat.now c.args.run.now.own c.args.lane.0 c.requires.lane.0 c.requires.lane.1 c.requires.spent c.requires.turn.keeps.lanes c.requires.turn.keeps.actives

pub returns-clause-turn : goal.returns-clause-turn
returns-clause-turn g c =
    freed_turn c.laws.ensures g.L.Run.program g.L.Run.machine g.L.Run.image c.args.self.now.table.now.table c.args.seat.now c.release.new.seat c.args.run.now.own c.args.lane.0 c.requires.lane.0 c.requires.lane.1 c.requires.spent
    c.release.ensures c.args.run.now _ refl refl refl refl c.requires.turn

pub release-requires-send-S : goal.release-requires-send-S
release-requires-send-S g c κs within = slot_crosses _ _ g.L.Run c.type_bounds.send-L
