-- The only core, event by event.
use Rattle.std.proofs.Common.{◌≡◌, ℕ, zero, suc, ◌-◌, ◌<◌, ◌≤◌, Bool, true, false, nat_lt, if◌then◌else◌, List, [], ◌∷◌, ◌++◌, Option, Some, None, refl, ◌∙◌, ap, subst, arith}
use Rattle.std.specs.Prelude.{filter_map, slice_get, is_some, ◌&&◌, ◌==◌}
use Rattle.std.specs.List.{cons_option, list_all, list_any, range_with_len}
use Rattle.std.proofs.lemmas.Bool.{ltb-true, and_parts}
use Rattle.pei_types.specs.declared.machines.CoreConfig.{CoreConfig}
use Rattle.pei_types.specs.declared.calls.EndKind.{EndKind}
use Rattle.pei_types.specs.declared.calls.EndKind.TheVariants as ends
use Rattle.pei_types.specs.declared.calls.Call.{Call}
use Rattle.pei_types.specs.declared.calls.Call.TheVariants as call
use Rattle.pei_types.specs.declared.instructions.Instr.{Instr}
use Rattle.pei_types.specs.declared.events.Event.{Event}
use Rattle.pei_types.specs.declared.events.EventKind.{EventKind}
use Rattle.pei_types.specs.declared.events.EventKind.TheVariants as event
use Rattle.pei_types.specs.declared.machines.MachineSpec.{MachineSpec}
use Rattle.pei_types.specs.Ends.{end_in, end_of, all_ended}
use Rattle.pei_types.specs.Core.{CoreState, CoreStep, Retires, Stops, CoreNext, Calls, Busy, Ended, Effect, Goes, Asks, core_step, step_unless_over, step_at, step_unless_busy, step_of_effect, after_steps, at_stop, effect_of, busy_register, registers_of, Wait, wait_at, core_after, core_at_start, after_answer, events_of, next_of_core, next_of_step, core_config}
use Rattle.pei_types.specs.Program.{Listing, Contents, instr_at}
use Rattle.pei_types.proofs.CoreStops.{retires_once, at_stop-at_stop}
use Rattle.pei_types.proofs.Lists.{found_passes}
use Rattle.pei_types.specs.declared.identifiers.PeiId.{PeiId}
use Rattle.pei_types.proofs.Pushes.{core_after-push, events_of-push}
use Rattle.progress_laws.proofs.Lists.{only_core}
use Rattle.progress_laws.specs.Measure.{core_0, core_now}

-- ---- an instruction that is retired

-- what stays
pub record Stays (s t : CoreState) : Type 0 where
  pub ended : t.ended ≡ s.ended
  pub raced : t.raced ≡ s.raced
  pub waits : t.waits ≡ s.waits

stays_same : (s : CoreState) → Stays s s
stays_same s = record { ended = refl; raced = refl; waits = refl }

abbrev state_or : CoreState → CoreStep → CoreState
state_or s (Retires t) = t
state_or s (Stops x) = s

by_effect : (s t : CoreState) (e : Effect) → step_of_effect s e ≡ Retires t → Stays s t
by_effect s t (Goes pc registers) h = subst (Stays s) (ap (state_or s) h) (record { ended = refl; raced = refl; waits = refl })
by_effect s t (Asks x) h = absurd (cc h)

by_busy : (config : CoreConfig) (s t : CoreState) (i : Instr) (w : Option ℕ) → step_unless_busy config s i w ≡ Retires t → Stays s t
by_busy config s t i None h = by_effect s t (effect_of config s.pc s.registers i) h
by_busy config s t i (Some w) h = absurd (cc h)

by_instr : (config : CoreConfig) (s t : CoreState) (o : Option Instr) → step_at config s o ≡ Retires t → Stays s t
by_instr config s t None h = absurd (cc h)
by_instr config s t (Some i) h = by_busy config s t i (busy_register s.waits i) h

by_fuel : (p : Listing) (config : CoreConfig) (s t : CoreState) (b : Bool) → (if b then step_at config s (instr_at p s.pc) else Stops (Calls (call.End ends.Fuel))) ≡ Retires t → Stays s t
by_fuel p config s t true h = by_instr config s t (instr_at p s.pc) h
by_fuel p config s t false h = absurd (cc h)

by_end : (p : Listing) (config : CoreConfig) (s t : CoreState) (ended raced : Option EndKind) → step_unless_over p config s ended raced ≡ Retires t → Stays s t
by_end p config s t (Some kind) raced h = absurd (cc h)
by_end p config s t None (Some race) h = absurd (cc h)
by_end p config s t None None h = by_fuel p config s t (nat_lt s.retired config.fuel) h

-- what stays until the core stops
pub record Runs (s t : CoreState) : Type 0 where
  pub stays : Stays s t
  pub more : s.retired ≤ t.retired

runs : (p : Listing) (config : CoreConfig) (n : ℕ) (s : CoreState) → Runs s (after_steps p config n s)
runs p config zero s = record { stays = stays_same s; more = omega arith }
runs p config (suc n) s = go (core_step p config s) refl (λ t. runs p config n t)
  where
    go : (st : CoreStep) → core_step p config s ≡ st → ((t : CoreState) → Runs t (after_steps p config n t)) → Runs s (elim st as (λ _. CoreState) [ Retires t ↦ after_steps p config n t | Stops x ↦ s ])
    go (Retires t) e rest =
        let now = by_end p config s t s.ended s.raced e
        in let once = (retires_once p config s t e).0
        in let later = rest t
        in let more = later.more
        in record {
          stays = record { ended = later.stays.ended ∙ now.ended; raced = later.stays.raced ∙ now.raced; waits = later.stays.waits ∙ now.waits };
          more = omega (arith, once, more);
        }
    go (Stops x) e rest = record { stays = stays_same s; more = omega arith }

pub to_stop : (p : Listing) (config : CoreConfig) (s : CoreState) → Runs s (at_stop p config s)
to_stop p config s = runs p config (suc (config.fuel - s.retired)) s

-- ---- one more event

pub core_push : (p : Listing) (m : MachineSpec) (image : Contents) (journal : List Event) (e : Event) → e.actor.core.0 ≡ 0 → core_now p m image (journal ++ e ∷ []) ≡ at_stop p (core_config m) (after_answer p (core_now p m image journal) e.kind)
core_push p m image journal e h =
    ap (λ events. at_stop p (core_config m) (core_after p (core_config m) (core_at_start image core_0) events)) (events_of-push core_0 journal e ∙ ap (λ n. events_of core_0 journal ++ (if n == 0 then e ∷ [] else [])) h)
    ∙ ap (at_stop p (core_config m)) (core_after-push p (core_config m) (core_at_start image core_0) (events_of core_0 journal) e)

-- an event that answers nothing
pub core_same : (p : Listing) (m : MachineSpec) (image : Contents) (journal : List Event) (e : Event) → e.actor.core.0 ≡ 0 → after_answer p (core_now p m image journal) e.kind ≡ core_now p m image journal → core_now p m image (journal ++ e ∷ []) ≡ core_now p m image journal
core_same p m image journal e h same =
    core_push p m image journal e h ∙ ap (at_stop p (core_config m)) same
    ∙ at_stop-at_stop p (core_config m) (core_after p (core_config m) (core_at_start image core_0) (events_of core_0 journal))

-- ---- what a call tells of the core

abbrev pub is_end : Call → Bool
is_end (call.End kind) = true
is_end _ = false

-- a core that calls has not ended; where it does not call for its end, it has not raced and has fuel
pub record CanCall (m : MachineSpec) (s : CoreState) : Type 0 where
  pub ended : s.ended ≡ None
  pub raced : s.raced ≡ None
  pub fuel : s.retired < m.fuel

abbrev call_in : CoreNext → Call
call_in (Calls x) = x
call_in _ = call.Fence

pub call_lives : (p : Listing) (config : CoreConfig) (s : CoreState) (x : Call) → next_of_step (core_step p config s) ≡ Calls x → s.ended ≡ None
call_lives p config s x h = go s.ended s.raced h
  where
    go : (o q : Option EndKind) → next_of_step (step_unless_over p config s o q) ≡ Calls x → o ≡ None
    go (Some kind) q k = absurd (cc k)
    go None q k = refl

pub call_has_fuel : (p : Listing) (m : MachineSpec) (s : CoreState) (x : Call) → next_of_step (core_step p (core_config m) s) ≡ Calls x → is_end x ≡ false → CanCall m s
call_has_fuel p m s x h other = go s.ended s.raced refl refl h
  where
    by_test : (t : Bool) → nat_lt s.retired m.fuel ≡ t → next_of_step (if t then step_at (core_config m) s (instr_at p s.pc) else Stops (Calls (call.End ends.Fuel))) ≡ Calls x → s.retired < m.fuel
    by_test true e k = ltb-true s.retired m.fuel e
    by_test false e k = absurd (let same = ap (λ n. is_end (call_in n)) k in cc (same, other))

    go : (o q : Option EndKind) → s.ended ≡ o → s.raced ≡ q → next_of_step (step_unless_over p (core_config m) s o q) ≡ Calls x → CanCall m s
    go (Some kind) q e f k = absurd (cc k)
    go None (Some race) e f k = absurd (let same = ap (λ n. is_end (call_in n)) k in cc (same, other))
    go None None e f k = record { ended = e; raced = f; fuel = by_test (nat_lt s.retired m.fuel) refl k }

-- ---- the end

abbrev is_over_next : CoreNext → Bool
is_over_next (Ended kind) = true
is_over_next _ = false

-- no end is in these events, so the core goes on
goes_on : (p : Listing) (config : CoreConfig) (s : CoreState) (events : List Event) → s.ended ≡ None → filter_map (λ e. end_in e.kind) events ≡ [] → (core_after p config s events).ended ≡ None
goes_on p config s [] h none = h
goes_on p config s (e ∷ events) h none =
    let stop = to_stop p config s
    in goes_on p config (after_answer p (at_stop p config s) e.kind) events (kept e.kind (at_stop p config s) (stop.stays.ended ∙ h) (one e.kind none)) (rest (end_in e.kind) none)
  where
    rest : (o : Option EndKind) → cons_option o (filter_map (λ x. end_in x.kind) events) ≡ [] → filter_map (λ x. end_in x.kind) events ≡ []
    rest None k = k
    rest (Some x) k = absurd (cc k)

    one : (kind : EventKind) → cons_option (end_in kind) (filter_map (λ x. end_in x.kind) events) ≡ [] → end_in kind ≡ None
    one kind k = by (end_in kind) k
      where
        by : (o : Option EndKind) → cons_option o (filter_map (λ x. end_in x.kind) events) ≡ [] → o ≡ None
        by None q = refl
        by (Some x) q = absurd (cc q)

    kept : (kind : EventKind) (t : CoreState) → t.ended ≡ None → end_in kind ≡ None → (after_answer p t kind).ended ≡ None
    kept (event.End k) t e f = absurd (cc f)
    kept (event.Load addr value) t e f = e
    kept (event.Store addr value) t e f = e
    kept (event.Issue seq lane o b operands) t e f = e
    kept event.FenceEnd t e f = e
    kept (event.Out value) t e f = e
    kept (event.Race pc b by) t e f = e
    kept (event.Act seq reply) t e f = e
    kept _ t e f = e

step_not_over : (config : CoreConfig) (s : CoreState) (o : Option Instr) → is_over_next (next_of_step (step_at config s o)) ≡ false
step_not_over config s None = refl
step_not_over config s (Some i) = by (busy_register s.waits i)
  where
    by_effect' : (e : Effect) → is_over_next (next_of_step (step_of_effect s e)) ≡ false
    by_effect' (Goes pc registers) = refl
    by_effect' (Asks x) = refl

    by : (w : Option ℕ) → is_over_next (next_of_step (step_unless_busy config s i w)) ≡ false
    by None = by_effect' (effect_of config s.pc s.registers i)
    by (Some r) = refl

-- a core that is busy has a register that waits
pub busy_waits : (p : Listing) (config : CoreConfig) (s : CoreState) (register : ℕ) (pei : PeiId) → next_of_step (core_step p config s) ≡ Busy register pei → (r : ℕ) × (w : Wait) × (wait_at s.waits r ≡ Some w)
unfolding busy_register
busy_waits p config s register pei h = by_ends s.ended s.raced h
  where
    some_of : (r : ℕ) (o : Option Wait) → wait_at s.waits r ≡ o → is_some o ≡ true → (q : ℕ) × (w : Wait) × (wait_at s.waits q ≡ Some w)
    some_of r None e k = absurd (cc k)
    some_of r (Some w) e k = (r, w, e)

    by_effect' : (e : Effect) → next_of_step (step_of_effect s e) ≡ Busy register pei → ⊥
    by_effect' (Goes pc registers) k = cc k
    by_effect' (Asks x) k = cc k

    by_wait : (i : Instr) (o : Option ℕ) → busy_register s.waits i ≡ o → next_of_step (step_unless_busy config s i o) ≡ Busy register pei → (r : ℕ) × (w : Wait) × (wait_at s.waits r ≡ Some w)
    by_wait i None e k = absurd (by_effect' (effect_of config s.pc s.registers i) k)
    by_wait i (Some r) e k = some_of r (wait_at s.waits r) refl (and_parts (is_some (wait_at s.waits r)) _ (found_passes (λ r'. is_some (wait_at s.waits r') && list_any (λ q. q == r') (registers_of i)) (range_with_len 0 16) r e)).0

    by_instr' : (o : Option Instr) → next_of_step (step_at config s o) ≡ Busy register pei → (r : ℕ) × (w : Wait) × (wait_at s.waits r ≡ Some w)
    by_instr' None k = absurd (cc k)
    by_instr' (Some i) k = by_wait i (busy_register s.waits i) refl k

    by_test : (t : Bool) → next_of_step (if t then step_at config s (instr_at p s.pc) else Stops (Calls (call.End ends.Fuel))) ≡ Busy register pei → (r : ℕ) × (w : Wait) × (wait_at s.waits r ≡ Some w)
    by_test true k = by_instr' (instr_at p s.pc) k
    by_test false k = absurd (cc k)

    by_ends : (o q : Option EndKind) → next_of_step (step_unless_over p config s o q) ≡ Busy register pei → (r : ℕ) × (w : Wait) × (wait_at s.waits r ≡ Some w)
    by_ends (Some x) q k = absurd (cc k)
    by_ends None (Some race) k = absurd (cc k)
    by_ends None None k = by_test (nat_lt s.retired config.fuel) k

-- a core that has ended has told it, and so on a machine of one core every core has ended
pub ended_all : (p : Listing) (m : MachineSpec) (image : Contents) (journal : List Event) (kind : EndKind) → m.cores ≡ 1 → next_of_core p m image journal core_0 ≡ Ended kind → all_ended m journal ≡ true
ended_all p m image journal kind one h = ap (list_all (λ c. is_some (end_of journal c))) (only_core m one) ∙ go (filter_map (λ e. end_in e.kind) (events_of core_0 journal)) refl
  where
    absurd_end : (core_now p m image journal).ended ≡ None → ⊥
    absurd_end e = by (core_now p m image journal).ended (core_now p m image journal).raced h e
      where
        by_test : (t : Bool) → next_of_step (if t then step_at (core_config m) (core_now p m image journal) (instr_at p (core_now p m image journal).pc) else Stops (Calls (call.End ends.Fuel))) ≡ Ended kind → ⊥
        by_test true k = let never = step_not_over (core_config m) (core_now p m image journal) (instr_at p (core_now p m image journal).pc) in cc (k, never)
        by_test false k = cc k

        by : (o q : Option EndKind) → next_of_step (step_unless_over p (core_config m) (core_now p m image journal) o q) ≡ Ended kind → o ≡ None → ⊥
        by (Some x) q k n = absurd (cc n)
        by None (Some race) k n = absurd (cc k)
        by None None k n = by_test (nat_lt (core_now p m image journal).retired m.fuel) k

    go : (ends' : List EndKind) → filter_map (λ e. end_in e.kind) (events_of core_0 journal) ≡ ends' → (is_some (slice_get ends' 0) && true) ≡ true
    go [] e = absurd (absurd_end ((to_stop p (core_config m) (core_after p (core_config m) (core_at_start image core_0) (events_of core_0 journal))).stays.ended ∙ goes_on p (core_config m) (core_at_start image core_0) (events_of core_0 journal) refl e))
    go (x ∷ xs) e = refl
