-- A run goes on by a turn of a lane.
use Rattle.std.proofs.Common.{◌≡◌, ℕ, zero, suc, ◌+◌, ◌<◌, false, IsTrue, [], ◌∷◌, ◌++◌, length, Some, None, refl, sym, ◌∙◌, ap, subst, arith}
use Rattle.pei_types.specs.declared.identifiers.Actor.{Actor}
use Rattle.pei_types.specs.declared.events.Event.{Event}
use Rattle.pei_types.specs.declared.events.EventKind.{EventKind}
use Rattle.pei_types.specs.declared.events.EventKind.TheVariants as event
use Rattle.pei_types.specs.declared.machines.MachineSpec.{MachineSpec}
use Rattle.pei_types.specs.Calls.{BelongsTo, Programs, Side, is_actor_of, side_of}
use Rattle.pei_types.specs.MachineState.{look_in}
use Rattle.pei_types.specs.Core.{next_of_core}
use Rattle.pei_types.specs.Ends.{end_in, ends_of}
use Rattle.pei_types.specs.Legal.{Legal, Meets}
use Rattle.pei_types.specs.Program.{Listing, Contents}
use Rattle.pei_types.specs.Schedule.{Run, peis_step, step_of_lane, turn, whole_table}
use Rattle.core_exec.specs.CoreView.{retires}
use Rattle.fabric.specs.History.{History, state_of}
use Rattle.sched_run.specs.EndsAfter.{with_end}
use Rattle.sched_run.specs.DefinedRun.{IsRunning, run_in}
use Rattle.sched_run.specs.Steps.{GoesOn, IsOwn, made_in, run_at, waited, with_made}
use Rattle.sched_run.specs.declared.turns.Step.{Step}
use Rattle.sched_run.specs.declared.turns.Step.TheVariants as step
use Rattle.sched_run.specs.declared.claims.Desk.{Desk}
use Rattle.sched_run.specs.declared.running.Running.{Running}
use Rattle.sched_run.proofs.ActorTurns.{LawsUsed, ends_event}
use Rattle.pei_types.proofs.Histories.{each_last}

lane_step_of : (l : ℕ) (p : Listing) (m : MachineSpec) (image : Contents) (r : Run) (a : Actor) (h : History) → 0 < l → h ≡ record { machine = m; image = image; journal = r.journal } → step_of_lane l (whole_table m image) p m image r a ≡ peis_step (whole_table m image) m r a (look_in (state_of h) a.core a.lane)
lane_step_of zero p m image r a h first is = absurd (omega (arith, first))
lane_step_of (suc l) p m image r a h first is = ap (λ (g : History). peis_step (whole_table m image) m r a (look_in (state_of g) a.core a.lane)) (sym is)

-- ---- kinds of events

not_program : (kind : EventKind) → (side_of kind ≡ Programs → ⊥) → (retires kind ≡ false) × (end_in kind ≡ None)
not_program (event.Load addr value) n = absurd (n refl)
not_program (event.Store addr value) n = absurd (n refl)
not_program (event.Issue seq lane o block operands) n = absurd (n refl)
not_program event.FenceBegin n = absurd (n refl)
not_program event.FenceEnd n = absurd (n refl)
not_program (event.Out value) n = absurd (n refl)
not_program (event.Race pc block by) n = absurd (n refl)
not_program (event.End kind) n = absurd (n refl)
not_program _ n = (refl, refl)

module _ (laws : LawsUsed) (p : Listing) (v : Running) (a : Actor) (on : IsRunning p v) (actor : IsTrue (is_actor_of v.fabric.machine a)) (room : length v.fabric.journal < v.fabric.machine.events) (first : 0 < a.lane.0) where
  abbrev pub m : MachineSpec
  m = v.fabric.machine

  pub lane_turn_is : (turns : ℕ) → turn (whole_table m v.fabric.image) p m v.fabric.image (run_in v turns) a ≡ peis_step (whole_table m v.fabric.image) m (run_in v turns) a (look_in (state_of v.fabric) a.core a.lane)
  lane_turn_is turns = lane_step_of a.lane.0 p m v.fabric.image (run_in v turns) a v.fabric first refl

  module _ (g : History) (f : Desk) (taken : Step) (goes : (turns stalls : ℕ) → GoesOn v.fabric v.desk a turns stalls taken g f) where
    -- the run after, with so many stalls
    pub lane_turn_to : (w : Running) → w.fabric ≡ g → w.desk ≡ f → w.stalls ≡ v.stalls + waited taken → (turns : ℕ) → run_in w (turns + 1) ≡ turn (whole_table m v.fabric.image) p m v.fabric.image (run_in v turns) a
    lane_turn_to w fabric desk stalls turns =
        (λ j. run_at (fabric j) (desk j) (turns + 1) (stalls j)) ∙ (goes turns v.stalls).step ∙ sym (lane_turn_is turns)

    module _ (e : Event) (is : taken ≡ step.Made e) where
      pub own : e.actor ≡ a
      own = subst (IsOwn a) is (goes 0 0).own

      pub grown : g ≡ with_made v.fabric (Some e)
      grown = (goes 0 0).made ∙ ap (λ s. with_made v.fabric (made_in s)) is

      -- the journal after it is legal, and so the event is none of a program
      legal : Legal p m v.fabric.image (v.fabric.journal ++ e ∷ [])
      legal =
          let whole = laws.whole.turn p m v.fabric.image (run_in v 0) a actor room on.whole
          in let after : (turn (whole_table m v.fabric.image) p m v.fabric.image (run_in v 0) a).journal ≡ v.fabric.journal ++ e ∷ [] =
          sym (ap (λ (r : Run). r.journal) ((goes 0 v.stalls).step ∙ sym (lane_turn_is 0))) ∙ ap (λ (h : History). h.journal) grown
          in subst (Legal p m v.fabric.image) after (laws.whole.so_far p m v.fabric.image (turn (whole_table m v.fabric.image) p m v.fabric.image (run_in v 0) a) whole).0

      no_program : side_of e.kind ≡ Programs → ⊥
      no_program program =
          let meets = each_last (Meets p m v.fabric.image) v.fabric.journal e legal
          in let belongs = subst (λ (s : Side). BelongsTo s (next_of_core p m v.fabric.image v.fabric.journal e.actor.core) v.fabric.journal e.actor e.kind) program meets.flat.calls.1
          in let none : a.lane.0 ≡ 0 = ap (λ (b : Actor). b.lane.0) (sym own) ∙ belongs.0
          in omega (arith, first, none)

      pub keeps_waiting : retires e.kind ≡ false
      keeps_waiting = (not_program e.kind no_program).0

      pub no_end : v.ends ≡ ends_of (v.fabric.journal ++ e ∷ [])
      no_end = ends_event laws p v a on actor e v.ends own (sym (ap (with_end v.ends e) (not_program e.kind no_program).1))
