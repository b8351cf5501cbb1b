use Rattle.std.proofs.Common.{◌≤◌, ◌∙◌, sym, subst, arith}
use Rattle.shared_table.specs.Own.{Has}
use Rattle.shared_table.specs.Parts.{claims}
use Rattle.host_run.proofs.ClaimSteps.{held_entry}
use Rattle.host_run.proofs.Sent.{slot_crosses}
use Rattle.host_run.proofs.visits.Place.lane_turn.Goals as goal

pub claim-requires-send-S : goal.claim-requires-send-S
claim-requires-send-S g c κs within = slot_crosses _ _ g.L.Run c.type_bounds.send-L

pub enter-requires-clause-held : goal.enter-requires-clause-held
enter-requires-clause-held g c κs within =
    let four : c.args.lane.0 ≤ 4 = let high = c.requires.lane.1 in let most = g.L.Run.machine.buffer_in_limits.1 in omega (arith, high, most)
    in held_entry g.L.Run.machine c.args.seat.now c.args.run.now.own c.args.lane.0 _ _ c.in-Some.pei c.requires.lane.0 four c.requires.turn.keeps.lanes c.if-run-lane.false (sym c.pei.ensures ∙ c.in-Some.is) (subst (Has (claims c.args.seat.now) c.args.lane.0) c.in-Held.is c.claim.ensures)
