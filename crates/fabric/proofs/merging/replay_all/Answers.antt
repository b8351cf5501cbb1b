use Rattle.std.proofs.Common.{◌≡◌, ℕ, suc, ◌+◌, ◌<◌, List, [], ◌∷◌, ◌++◌, length, None, sym, ◌∙◌, ap, subst, arith}
use Rattle.pei_types.specs.declared.events.Event.{Event}
use Rattle.pei_types.specs.declared.machines.MachineSpec.{MachineSpec}
use Rattle.pei_types.specs.MachineState.{state_after}
use Rattle.pei_types.specs.Legal.{MeetsAll}
use Rattle.history_laws.specs.Fits.{EntersFree}
use Rattle.machine_laws.specs.InOrder.{MachineInOrder}
use Rattle.bank_laws.specs.Logs.{event_with, merged}
use Rattle.journal.specs.Recorded.{Recorded}
use Rattle.fabric.specs.Kept.{Keeps}
use Rattle.fabric.specs.Merge.{CanMerge, logs_of}
use Rattle.fabric.specs.Moves.{after_event}
use Rattle.fabric.specs.Whole.{Whole}
use Rattle.fabric.proofs.Going.{IsRowOf, keeps_event}
use Rattle.fabric.proofs.Uniting.{Stepped, again, all_made, few_events, found_none, found_some, step_at}
use Rattle.fabric.proofs.merging.replay_all.Goals as goal

pub returns-in_default-clause-events : goal.returns-in_default-clause-events
returns-in_default-clause-events c n h =
    let logs = logs_of c.args.banks.now
    in let i = c.loop-stamp.stamp
    in let none : event_with i logs ≡ None = found_none (event_with i logs) (sym c.in_default.is ∙ c.next_event.ensures)
    in let low = c.loop-stamp.invariant.below n h
    in let high = all_made c.laws.ensures n i logs h none
    in let same : i ≡ n = omega (arith, low, high)
    in c.loop-stamp.invariant.events ∙ ap (λ (j : ℕ). merged j logs) same

pub replay-requires : goal.replay-requires
replay-requires c =
    let logs = logs_of c.args.banks.now
    in let v = c.loop-stamp.parts
    in let j = c.loop-stamp.journal
    in let image = c.args.image.now.value
    in let i = c.loop-stamp.stamp
    in let can : CanMerge v.machine image c.requires.merge.0 c.args.banks.now = subst (λ (m : MachineSpec). CanMerge m image c.requires.merge.0 c.args.banks.now) (sym c.loop-stamp.invariant.machine) c.requires.merge.1
    in let found = found_some (event_with i logs) c.in-Some.event (sym c.in-Some.is ∙ c.next_event.ensures)
    in let step : Stepped v.machine image i logs c.in-Some.event = subst (Stepped v.machine image i logs) found.2 (step_at c.laws.ensures v.machine image c.requires.merge.0 c.args.banks.now can c.vouch.ensures i found.0 found.1)
    in again v j image c.in-Some.event step.call c.loop-stamp.invariant.keeps
    (subst (λ (es : List Event). MeetsAll step.call v.machine image es c.in-Some.event) (sym c.loop-stamp.invariant.events) step.meets)
    (subst (λ (es : List Event). EntersFree v.machine (state_after v.machine es) c.in-Some.event.actor c.in-Some.event.kind) (sym c.loop-stamp.invariant.events) step.free) step.fits

pub push-requires : goal.push-requires
push-requires c =
    let logs = logs_of c.args.banks.now
    in let v = c.loop-stamp.parts
    in let image = c.args.image.now.value
    in let i = c.loop-stamp.stamp
    in let can : CanMerge v.machine image c.requires.merge.0 c.args.banks.now = subst (λ (m : MachineSpec). CanMerge m image c.requires.merge.0 c.args.banks.now) (sym c.loop-stamp.invariant.machine) c.requires.merge.1
    in let found = found_some (event_with i logs) c.in-Some.event (sym c.in-Some.is ∙ c.next_event.ensures)
    in let step = step_at c.laws.ensures v.machine image c.requires.merge.0 c.args.banks.now can c.vouch.ensures i found.0 found.1
    in let room : length (merged i logs) < v.machine.events = step.meets.next.0
    in let same = ap length c.loop-stamp.invariant.events
    in let whole = c.loop-stamp.invariant.keeps.room
    in omega (arith, room, same, whole)

pub loop-stamp-preserved : goal.loop-stamp-preserved
loop-stamp-preserved c =
    let logs = logs_of c.args.banks.now
    in let v = c.loop-stamp.parts
    in let j = c.loop-stamp.journal
    in let image = c.args.image.now.value
    in let i = c.loop-stamp.stamp
    in let e = c.in-Some.event
    in let can : CanMerge v.machine image c.requires.merge.0 c.args.banks.now = subst (λ (m : MachineSpec). CanMerge m image c.requires.merge.0 c.args.banks.now) (sym c.loop-stamp.invariant.machine) c.requires.merge.1
    in let found = found_some (event_with i logs) e (sym c.in-Some.is ∙ c.next_event.ensures)
    in let step : Stepped v.machine image i logs e = subst (Stepped v.machine image i logs) found.2 (step_at c.laws.ensures v.machine image c.requires.merge.0 c.args.banks.now can c.vouch.ensures i found.0 found.1)
    in let so_far = c.loop-stamp.invariant.events
    in let meets : MeetsAll step.call v.machine image j.events e = subst (λ (es : List Event). MeetsAll step.call v.machine image es e) (sym so_far) step.meets
    in let row : IsRowOf v.machine image j.events e.actor e.kind =
    record {
      actor = meets.flat.calls.0;
      free = subst (λ (es : List Event). EntersFree v.machine (state_after v.machine es) e.actor e.kind) (sym so_far) step.free;
      call = step.call;
      next = meets.next;
      order = subst (λ (es : List Event). MachineInOrder v.machine (es ++ e ∷ [])) (sym so_far) step.order;
    }
    in let kept = keeps_event c.laws.ensures.run v j image e.actor e.kind c.loop-stamp.invariant.keeps row
    in record {
      machine = ap (λ (w : Whole). w.machine) c.replay.ensures ∙ c.loop-stamp.invariant.machine;
      keeps = subst (λ (w : Whole). Keeps w c.push.new.self image) (sym c.replay.ensures) (subst (λ (r : Recorded). Keeps (after_event v e.actor e.kind) r image) (sym c.push.ensures) kept);
      events = ap (λ (r : Recorded). r.events) c.push.ensures ∙ ap (λ (es : List Event). es ++ e ∷ []) so_far ∙ sym step.more ∙ ap (λ (k : ℕ). merged k logs) (let same : suc i ≡ i + 1 = omega arith in same);
      below = λ n h. let less : i < n = c.laws.ensures.logs.found n i logs found.0 h found.1 in omega (arith, less);
    }

pub returns-clause-events : goal.returns-clause-events
returns-clause-events c n h =
    let logs = logs_of c.args.banks.now
    in let i = c.loop-stamp.stamp
    in let most = few_events c.laws.ensures c.args.parts.now.machine c.args.image.now.value c.requires.merge.0 c.args.banks.now c.requires.merge.1 c.vouch.ensures n h
    in let low = c.loop-stamp.invariant.below n h
    in let room = c.requires.keeps.room
    in let none = ap length c.requires.empty
    in let spare = c.spare-stamp-end.ensures.spare
    in let done = c.loop-stamp-test.false
    in let same : i ≡ n = omega (arith, most, low, room, none, spare, done)
    in c.loop-stamp.invariant.events ∙ ap (λ (k : ℕ). merged k logs) same
