use Rattle.std.proofs.Common.{◌≡◌, ◌∙◌, ap, sym, subst}
use Rattle.host_run.proofs.ClaimSteps.{busy_answer, held_answer}
use Rattle.host_run.proofs.Sent.{slot_crosses}
use Rattle.host_run.proofs.visits.Place.try_claim.Goals as goal

pub try_grant-requires-send-S : goal.try_grant-requires-send-S
try_grant-requires-send-S g c κs within = slot_crosses _ _ g.L.Run c.type_bounds.send-L

pub returns-in-Held-clause-turn : goal.returns-in-Held-clause-turn
returns-in-Held-clause-turn g c =
    held_answer c.laws.ensures g.L.Run.program g.L.Run.machine g.L.Run.image c.args.self.now.table.now.table c.args.seat.now c.try_grant.new.seat c.args.run.now c.args.lane.0 c.args.entry c.args.pei c.requires.lane.0 c.requires.lane.1 c.requires.pei.0 c.requires.pei.1 c.requires.entry.0
    c.try_grant.result c.in-Held.is c.try_grant.ensures.answer c.requires.turn

pub returns-in-Busy-clause-turn : goal.returns-in-Busy-clause-turn
returns-in-Busy-clause-turn g c =
    busy_answer c.laws.ensures g.L.Run.program g.L.Run.machine g.L.Run.image c.args.self.now.table.now.table c.args.seat.now c.try_grant.new.seat c.args.run.now c.args.lane.0 c.args.entry _ _ c.args.pei.mode c.try_grant.result c.in-Busy.is c.try_grant.ensures.answer c.requires.turn
