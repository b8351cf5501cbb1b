use Rattle.host_run.proofs.Sent.{slot_crosses}
use Rattle.shared_table.specs.Parts.{seen}
use Rattle.host_run.proofs.TurnSteps.{answer_claims, answer_keeps, answer_none, answer_some}
use Rattle.host_run.proofs.visits.Place.draw.Goals as goal

pub returns-clause-some : goal.returns-clause-some
returns-clause-some g c =
    answer_some c.laws.ensures g.L.Run.program g.L.Run.machine g.L.Run.image c.args.self.now.table.now.table c.args.seat.now c.draw.new.seat c.args.self.now.table.now.events c.args.bank c.draw.result c.draw.ensures.some c.draw.ensures.none c.args.self.now.events_are (seen c.args.bank c.args.seat.now) c.requires.slot c.requires.missed

pub returns-clause-none : goal.returns-clause-none
returns-clause-none g c =
    answer_none c.laws.ensures g.L.Run.program g.L.Run.machine g.L.Run.image c.args.self.now.table.now.table c.args.seat.now c.draw.new.seat c.args.self.now.table.now.events c.args.bank c.draw.result c.draw.ensures.some c.draw.ensures.none c.args.self.now.events_are (seen c.args.bank c.args.seat.now) c.requires.slot c.requires.missed

pub returns-clause-keeps : goal.returns-clause-keeps
returns-clause-keeps g c =
    answer_keeps c.laws.ensures g.L.Run.program g.L.Run.machine g.L.Run.image c.args.self.now.table.now.table c.args.seat.now c.draw.new.seat c.args.self.now.table.now.events c.args.bank c.draw.result c.draw.ensures.some c.draw.ensures.none c.args.self.now.events_are (seen c.args.bank c.args.seat.now) c.requires.slot c.requires.missed
    c.args.run.now.core c.args.run.now.own c.args.run.now.end c.requires.keeps

pub draw-requires-send-S : goal.draw-requires-send-S
draw-requires-send-S g c κs within = slot_crosses _ _ g.L.Run c.type_bounds.send-L

pub returns-clause-claims : goal.returns-clause-claims
returns-clause-claims g c =
    answer_claims c.laws.ensures g.L.Run.program g.L.Run.machine g.L.Run.image c.args.self.now.table.now.table c.args.seat.now c.draw.new.seat c.args.self.now.table.now.events c.args.bank c.draw.result c.draw.ensures.some c.draw.ensures.none c.args.self.now.events_are (seen c.args.bank c.args.seat.now) c.requires.slot c.requires.missed
