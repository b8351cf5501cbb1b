use Rattle.std.proofs.Common.{◌≡◌, ◌<◌, refl, sym, ◌∙◌, ap, subst}
use Rattle.pei_types.specs.Blocks.{entry_of}
use Rattle.shared_table.specs.Own.{Has}
use Rattle.shared_table.specs.Claims.{before_grant}
use Rattle.shared_table.specs.Parts.{claims, lane_changed}
use Rattle.shared_table.specs.declared.claims.Claim.TheVariants.{Free, Announced}
use Rattle.host_run.proofs.ClaimSteps.{announced_turn, announced_try}
use Rattle.host_run.proofs.Sent.{slot_crosses}
use Rattle.host_run.proofs.visits.Place.claim.Goals as goal

pub claim-requires-send-S : goal.claim-requires-send-S
claim-requires-send-S g c κs within = slot_crosses _ _ g.L.Run c.type_bounds.send-L

pub announce-requires-send-S : goal.announce-requires-send-S
announce-requires-send-S g c κs within = slot_crosses _ _ g.L.Run c.type_bounds.send-L

pub returns-in-Free-Writer-clause-turn : goal.returns-in-Free-Writer-clause-turn
returns-in-Free-Writer-clause-turn g c =
    announced_turn c.laws.ensures g.L.Run.program g.L.Run.machine g.L.Run.image c.args.self.now.table.now.table c.args.seat.now c.announce.new.seat c.args.run.now c.args.lane.0 c.args.pei c.requires.lane.0 c.requires.lane.1 c.requires.pei.0 c.requires.pei.1 c.requires.pei.2 c.in-Free-Writer.is-1
    (c.announce.ensures ∙ ap (λ e. lane_changed c.args.seat.now c.args.lane.0 (Announced e)) (c.entry_of-entry.ensures.entry ∙ ap (λ m. entry_of m c.args.pei.block) c.args.self.now.machine_is)) c.requires.turn

pub try_claim-requires-in-Announced-default-clause-claim : goal.try_claim-requires-in-Announced-default-clause-claim
try_claim-requires-in-Announced-default-clause-claim g c κs within =
    subst (λ e. Has (claims c.args.seat.now) c.args.lane.0 (before_grant e c.args.pei.mode)) (sym (c.entry_of-entry.ensures.entry ∙ ap (λ m. entry_of m c.args.pei.block) c.args.self.now.machine_is))
    (announced_try g.L.Run.machine c.args.seat.now c.args.run.now.own c.args.lane.0 _ c.args.pei c.requires.lane.0 c.requires.lane.1 c.requires.turn.keeps.lanes c.requires.pei.0 c.requires.pei.1
    (subst (Has (claims c.args.seat.now) c.args.lane.0) c.in-Announced-default.is-0 c.claim.ensures))
