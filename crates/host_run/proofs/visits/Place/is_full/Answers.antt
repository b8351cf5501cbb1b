use Rattle.std.proofs.Common.{sym, ◌∙◌}
use Rattle.host_run.proofs.Sent.{slot_crosses}
use Rattle.host_run.proofs.TurnSteps.{found_full, found_goes}
use Rattle.host_run.proofs.visits.Place.is_full.Goals as goal

pub returns-clause-goes : goal.returns-clause-goes
returns-clause-goes g c = λ off.
    found_goes c.laws.ensures g.L.Run.program g.L.Run.machine g.L.Run.image c.args.self.now.table.now.table c.args.seat.now c.full.new.seat c.args.self.now.table.now.events c.full.ensures.0 c.full.ensures.2 c.args.run.now c.requires.turn

pub returns-clause-full : goal.returns-clause-full
returns-clause-full g c = λ on.
    found_full c.laws.ensures g.L.Run.program g.L.Run.machine g.L.Run.image c.args.self.now.table.now.table c.args.seat.now c.full.new.seat c.args.self.now.table.now.events c.full.ensures.0 c.full.ensures.2 (sym c.full.ensures.1 ∙ on) c.args.run.now c.requires.turn

pub full-requires-send-S : goal.full-requires-send-S
full-requires-send-S g c κs within = slot_crosses _ _ g.L.Run c.type_bounds.send-L
