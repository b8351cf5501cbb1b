use Rattle.std.proofs.Common.{◌≡◌, ◌<◌, false, length, sym, ap, subst, ◌∙◌}
use Rattle.pei_types.specs.Next.{Stalls}
use Rattle.pei_types.specs.declared.inflight_looks.StallCause.TheVariants as stall
use Rattle.fabric.specs.History.{History, lane_of, lane_row_of}
use Rattle.fabric.specs.Turns.{after_turn}
use Rattle.inflight.specs.OnTheWay.{IsLaneOf}
use Rattle.sched_run.specs.LaneClaims.{claim_in}
use Rattle.sched_run.specs.Steps.{GoesOn, IsReadyFor}
use Rattle.sched_run.proofs.Granting.{did_row, grant_is, grant_not, never_full, stall_row, unspent_by}
use Rattle.sched_run.proofs.Stepped.{event_goes, spent_goes, stall_goes}
use Rattle.sched_run.proofs.turns.lane_turn.Goals as goal

pub returns-in-Spent : goal.returns-in-Spent
returns-in-Spent c turns stalls =
    spent_goes c.args.fabric.now c.args.desk.now c.args.actor turns stalls c.requires.lane c.in-Spent.entry c.in-Spent.mode c.release.new.self (sym c.claim.ensures ∙ c.in-Spent.is) c.release.ensures

pub toward_enter-requires : goal.toward_enter-requires
toward_enter-requires c =
    let h = c.args.fabric.now
    in let a = c.args.actor
    in let same = c.lane.ensures.journal ∙ ap (after_turn h) c.in-Stalled.is
    in let kept = unspent_by (claim_in c.args.desk.now a) (λ e k is. c.in_default.not-Spent e k (c.claim.ensures ∙ is))
    in let row = stall_row h (lane_of a.core a.lane) (lane_row_of h false a.core a.lane) c.lane.result c.in-Stalled.cause c.requires.room c.lane.ensures.turn c.in-Stalled.is ∙ ap Stalls (grant_is c.in-Stalled.cause (sym c.waits_for_grant.ensures ∙ c.if-waits_for_grant.true))
    in record {
      lane = subst (λ (x : History). IsLaneOf x.machine a.core a.lane) (sym same) c.requires.lane;
      room = subst (λ (x : History). length x.journal < x.machine.events) (sym same) c.requires.room;
      ready = subst (λ (x : History). IsReadyFor x c.args.desk.now a) (sym same) c.requires.ready;
      kept = kept;
      grant = subst (λ (x : History). lane_row_of x false a.core a.lane ≡ Stalls stall.NeedsGrant) (sym same) row;
    }

pub returns-in-Did : goal.returns-in-Did
returns-in-Did c turns stalls =
    let h = c.args.fabric.now
    in let a = c.args.actor
    in let kept = unspent_by (claim_in c.args.desk.now a) (λ e k is. c.in_default.not-Spent e k (c.claim.ensures ∙ is))
    in let row = did_row h (lane_of a.core a.lane) (lane_row_of h false a.core a.lane) c.lane.result c.in-Did.event c.requires.room c.lane.ensures.turn c.in-Did.is
    in event_goes h c.args.desk.now a turns stalls c.requires.lane kept c.in-Did.event c.lane.new.self c.note.new.self row.0 row.1 (c.lane.ensures.journal ∙ ap (after_turn h) c.in-Did.is) c.note.ensures

pub returns-then-waits_for_grant : goal.returns-then-waits_for_grant
returns-then-waits_for_grant c turns stalls =
    let h = c.args.fabric.now
    in let same = c.lane.ensures.journal ∙ ap (after_turn h) c.in-Stalled.is
    in subst (λ (x : History). GoesOn x c.args.desk.now c.args.actor turns stalls c.toward_enter.result c.toward_enter.new.fabric c.toward_enter.new.desk) same (c.toward_enter.ensures turns stalls)

pub returns-else-waits_for_grant : goal.returns-else-waits_for_grant
returns-else-waits_for_grant c turns stalls =
    let h = c.args.fabric.now
    in let a = c.args.actor
    in let same = c.lane.ensures.journal ∙ ap (after_turn h) c.in-Stalled.is
    in let kept = unspent_by (claim_in c.args.desk.now a) (λ e k is. c.in_default.not-Spent e k (c.claim.ensures ∙ is))
    in let row = stall_row h (lane_of a.core a.lane) (lane_row_of h false a.core a.lane) c.lane.result c.in-Stalled.cause c.requires.room c.lane.ensures.turn c.in-Stalled.is
    in stall_goes h c.args.desk.now a turns stalls c.requires.lane kept c.in-Stalled.cause c.lane.new.self row (grant_not c.in-Stalled.cause (sym c.waits_for_grant.ensures ∙ c.if-waits_for_grant.false)) same

pub returns-in-Full : goal.returns-in-Full
returns-in-Full c turns stalls =
    let h = c.args.fabric.now
    in let a = c.args.actor
    in absurd (never_full h (lane_of a.core a.lane) (lane_row_of h false a.core a.lane) c.lane.result c.requires.room c.lane.ensures.turn c.in-Full.is)
