-- A run goes on by a turn of a core's program.
use Rattle.std.proofs.Common.{◌≡◌, ℕ, zero, suc, ◌+◌, ◌<◌, ◌==◌, Bool, true, false, IsTrue, List, [], ◌∷◌, ◌++◌, length, slice_set, slice_get, Option, Some, None, refl, sym, ◌∙◌, ap, subst, arith}
use Rattle.std.proofs.lemmas.Bool.Decides.{nat_tests}
use Rattle.pei_types.specs.declared.identifiers.Actor.{Actor}
use Rattle.pei_types.specs.declared.identifiers.CoreId.{CoreId}
use Rattle.pei_types.specs.declared.calls.EndKind.{EndKind}
use Rattle.pei_types.specs.declared.events.Event.{Event}
use Rattle.pei_types.specs.declared.inflight_looks.StallCause.{StallCause}
use Rattle.pei_types.specs.declared.machines.MachineSpec.{MachineSpec}
use Rattle.pei_types.specs.Calls.{is_actor_of}
use Rattle.pei_types.specs.Core.{core_config, CoreNext, Calls, Busy, Ended, next_of, next_of_core}
use Rattle.pei_types.specs.Ends.{ends_of}
use Rattle.pei_types.specs.Laws.{FoldsGrow, StopsOnce}
use Rattle.pei_types.specs.Next.{Turn as Row, Makes, Stalls}
use Rattle.pei_types.specs.Program.{Listing}
use Rattle.pei_types.specs.Schedule.{Run, by_row, program_step, step_of_lane, turn, whole_table}
use Rattle.core_exec.specs.CoreView.{Standing}
use Rattle.fabric.specs.History.{History}
use Rattle.history_laws.specs.Fits.{AsksForFence}
use Rattle.history_laws.specs.Runs.{WholeRun}
use Rattle.machine_laws.specs.Laws.{WholeRunsAreLegal}
use Rattle.sched_run.specs.EndsAfter.{ends_after}
use Rattle.sched_run.specs.DefinedRun.{IsAt, IsRunning, run_in}
use Rattle.sched_run.specs.Steps.{TookIn, event_of, program_row}
use Rattle.sched_run.specs.declared.running.Running.{Running}
use Rattle.sched_run.proofs.CoreTracking.{next_same, own_next, other_next}
use Rattle.sched_run.proofs.EndsTracking.{ends_next}
use Rattle.inflight.specs.OnTheWay.{IsLaneOf}
use Rattle.std.specs.Prelude.{nat_lt, nat_le}
use Rattle.std.proofs.lemmas.Bool.{and_parts, leb-true}
use Rattle.pei_types.proofs.Tests.{same_self}
use Rattle.pei_types.proofs.Identities.{core_within}

-- ---- elements of a list

some_is : (s t : Standing) → Some s ≡ Some t → s ≡ t
some_is s t e = cc

get_set_same : (xs : List Standing) (i : ℕ) (t u : Standing) → slice_get (slice_set xs i t) i ≡ Some u → u ≡ t
get_set_same [] i t u e = absurd (cc e)
get_set_same (x ∷ xs) zero t u e = sym (some_is t u e)
get_set_same (x ∷ xs) (suc i) t u e = get_set_same xs i t u e

step_apart : (i j : ℕ) → (suc i == suc j) ≡ false → (i == j) ≡ false
step_apart i j h = grind (arith, nat_tests)

get_set_other : (xs : List Standing) (i j : ℕ) (t : Standing) → (i == j) ≡ false → slice_get (slice_set xs i t) j ≡ slice_get xs j
get_set_other [] i j t h = refl
get_set_other (x ∷ xs) zero zero t h = absurd (cc h)
get_set_other (x ∷ xs) zero (suc j) t h = refl
get_set_other (x ∷ xs) (suc i) zero t h = refl
get_set_other (x ∷ xs) (suc i) (suc j) t h = get_set_other xs i j t (step_apart i j h)

-- ---- rows and events

pub event_made : (a : Actor) (row : Row) (e : Event) → event_of a row ≡ Some e → (row ≡ Makes e.kind) × (e.actor ≡ a)
event_made a (Makes kind) e h =
    let same = events (record { actor = a; kind = kind }) e h
    in (ap (λ (x : Event). Makes x.kind) same, ap (λ (x : Event). x.actor) (sym same))
  where
    events : (x y : Event) → Some x ≡ Some y → x ≡ y
    events x y k = cc
event_made a (Stalls cause) e h = absurd (cc h)

pub event_none : (a : Actor) (row : Row) → event_of a row ≡ None → (cause : StallCause) × (row ≡ Stalls cause)
event_none a (Makes kind) h = absurd (cc h)
event_none a (Stalls cause) h = (cause, refl)

pub record LawsUsed : Type 0 where
  pub grow : FoldsGrow
  pub once : StopsOnce
  pub whole : WholeRunsAreLegal

program_is : (h : History) (r : Run) (a : Actor) (x : CoreNext) → r.journal ≡ h.journal → program_step (whole_table h.machine h.image) r a x ≡ by_row r a (program_row x h a.core)
program_is h r a (Calls y) same = ap (λ js. by_row r a (program_row (Calls y) (record h { journal = js }) a.core)) same
program_is h r a (Busy register pei) same = refl
program_is h r a (Ended kind) same = refl

module _ (laws : LawsUsed) (p : Listing) (v : Running) (a : Actor) (on : IsRunning p v) (actor : IsTrue (is_actor_of v.fabric.machine a)) where
  abbrev pub m : MachineSpec
  m = v.fabric.machine

  abbrev pub stepped_run : ℕ → Run
  stepped_run turns = turn (whole_table m v.fabric.image) p m v.fabric.image (run_in v turns) a

  within : a.core.0 < m.cores
  within = core_within m a actor

  -- what the core does next
  module _ (s : Standing) (own : slice_get v.cores a.core.0 ≡ Some s) where
    at : IsAt p m v.fabric.image v.fabric.journal a.core s.state
    at = on.cores a.core s within own

    abbrev pub x : CoreNext
    x = next_of p (core_config m) s.state

    same : x ≡ next_of_core p m v.fabric.image v.fabric.journal a.core
    same = next_same laws.once p m v.fabric.image v.fabric.journal a.core s.state at

    pub asks : AsksForFence x v.fabric.journal a.core
    asks = subst (λ y. AsksForFence y v.fabric.journal a.core) (sym same) (on.whole.run.asks a.core)

    pub program_turn_is : a.lane.0 ≡ 0 → (turns : ℕ) → stepped_run turns ≡ by_row (run_in v turns) a (program_row x v.fabric a.core)
    program_turn_is none turns =
        ap (λ l. step_of_lane l (whole_table m v.fabric.image) p m v.fabric.image (run_in v turns) a) none
        ∙ ap (program_step (whole_table m v.fabric.image) (run_in v turns) a) (sym same)
        ∙ program_is v.fabric (run_in v turns) a x refl

    -- cores after an event of this one, and after none
    pub cores_event : (e : Event) (t : Standing) → e.actor ≡ a → TookIn p (core_config m) s.state t.state (Some e) → (c : CoreId) (u : Standing) → c.0 < m.cores → slice_get (slice_set v.cores a.core.0 t) c.0 ≡ Some u → IsAt p m v.fabric.image (v.fabric.journal ++ e ∷ []) c u.state
    cores_event e t is took c u inside found = by (a.core.0 == c.0) refl
      where
        core_is : e.actor.core ≡ a.core
        core_is = ap (λ (b : Actor). b.core) is

        by : (b : Bool) → (a.core.0 == c.0) ≡ b → IsAt p m v.fabric.image (v.fabric.journal ++ e ∷ []) c u.state
        by true h =
            let equal : c.0 ≡ a.core.0 = grind (arith, nat_tests)
            in let is_t = get_set_same v.cores a.core.0 t u (ap (slice_get (slice_set v.cores a.core.0 t)) (sym equal) ∙ found)
            in let next = own_next laws.grow p m v.fabric.image v.fabric.journal e a.core s.state t.state (ap (λ (d : CoreId). d.0 == a.core.0) core_is ∙ same_self a.core.0) took at
            in subst (λ (d : CoreId). IsAt p m v.fabric.image (v.fabric.journal ++ e ∷ []) d u.state) (ap (λ n. record { 0 = n }) (sym equal))
            (subst (λ (y : Standing). IsAt p m v.fabric.image (v.fabric.journal ++ e ∷ []) a.core y.state) (sym is_t) next)
        by false h =
            other_next laws.grow p m v.fabric.image v.fabric.journal e c u.state (ap (λ (d : CoreId). d.0 == c.0) core_is ∙ h) (on.cores c u inside (sym (get_set_other v.cores a.core.0 c.0 t h) ∙ found))

    pub cores_stall : (t : Standing) → TookIn p (core_config m) s.state t.state None → (c : CoreId) (u : Standing) → c.0 < m.cores → slice_get (slice_set v.cores a.core.0 t) c.0 ≡ Some u → IsAt p m v.fabric.image v.fabric.journal c u.state
    cores_stall t took c u inside found = by (a.core.0 == c.0) refl
      where
        by : (b : Bool) → (a.core.0 == c.0) ≡ b → IsAt p m v.fabric.image v.fabric.journal c u.state
        by true h =
            let equal : c.0 ≡ a.core.0 = grind (arith, nat_tests)
            in let is_t = get_set_same v.cores a.core.0 t u (ap (slice_get (slice_set v.cores a.core.0 t)) (sym equal) ∙ found)
            in subst (λ (d : CoreId). IsAt p m v.fabric.image v.fabric.journal d u.state) (ap (λ n. record { 0 = n }) (sym equal))
            (subst (λ (y : Standing). IsAt p m v.fabric.image v.fabric.journal a.core y.state) (sym is_t) (took ∙ at))
        by false h = on.cores c u inside (sym (get_set_other v.cores a.core.0 c.0 t h) ∙ found)

  -- ends after an event
  pub ends_event : (e : Event) (ends : List (Option EndKind)) → e.actor ≡ a → ends ≡ ends_after v.ends e → ends ≡ ends_of (v.fabric.journal ++ e ∷ [])
  ends_event e ends is told = told ∙ ap (λ xs. ends_after xs e) on.ends ∙ ends_next v.fabric.journal e (eight e.actor.core.0 (ap (λ (b : Actor). b.core.0) is))
    where
      eight : (n : ℕ) → n ≡ a.core.0 → n < 8
      eight n h = let inside = within in omega (arith, h, inside, m.cores_in_limits.1)

  -- the run goes on
  pub goes_on : (w : Running) → length v.fabric.journal < m.events → w.fabric.machine ≡ m → w.fabric.image ≡ v.fabric.image → ((turns : ℕ) → run_in w (turns + 1) ≡ stepped_run turns)
      → ((c : CoreId) (s : Standing) → c.0 < w.fabric.machine.cores → slice_get w.cores c.0 ≡ Some s → IsAt p w.fabric.machine w.fabric.image w.fabric.journal c s.state) → w.ends ≡ ends_of w.fabric.journal → IsRunning p w
  goes_on w room machine image step cores ends =
      let whole : WholeRun p m v.fabric.image (run_in w 1) = subst (λ (r : Run). WholeRun p m v.fabric.image r) (sym (step 0)) (laws.whole.turn p m v.fabric.image (run_in v 0) a actor room on.whole)
      in let told : WholeRun p w.fabric.machine w.fabric.image (run_in w 1) = subst (λ k. WholeRun p k w.fabric.image (run_in w 1)) (sym machine) (subst (λ i. WholeRun p m i (run_in w 1)) (sym image) whole)
      in record {
        whole = record { run = told.run; holding = told.holding; rows = told.rows; within = told.within };
        cores = cores;
        ends = ends;
      }

-- ---- lanes

pub none_more : (n : ℕ) → n + 0 ≡ n
none_more n = omega arith

pub lane_of_actor : (k : MachineSpec) (a : Actor) → IsTrue (is_actor_of k a) → 0 < a.lane.0 → IsLaneOf k a.core a.lane
lane_of_actor k a actor first = record { core = core_within k a actor; first = first; last = leb-true a.lane.0 k.buffer (and_parts (nat_lt a.core.0 k.cores) (nat_le a.lane.0 k.buffer) actor).1 }
