-- A core whose fence is on goes on asking for it, whatever its lanes do.
use Rattle.std.proofs.Common.{◌≡◌, ℕ, suc, ◌-◌, ◌<◌, Bool, true, false, ◌&&◌, if◌then◌else◌, List, [], ◌∷◌, ◌++◌, find, Option, Some, None, is_some, nat_lt, refl, sym, ◌∙◌, ap, subst, arith}
use Rattle.std.specs.List.{range_with_len}
use Rattle.std.proofs.lemmas.List.{append-nil}
use Rattle.pei_types.specs.declared.identifiers.Actor.{Actor}
use Rattle.pei_types.specs.declared.identifiers.CoreId.{CoreId}
use Rattle.pei_types.specs.declared.instructions.Instr.{Instr}
use Rattle.pei_types.specs.declared.instructions.Instr.TheVariants as instr
use Rattle.pei_types.specs.declared.calls.Call.{Call}
use Rattle.pei_types.specs.declared.calls.Call.TheVariants as call
use Rattle.pei_types.specs.declared.calls.EndKind.{EndKind}
use Rattle.pei_types.specs.declared.calls.EndKind.TheVariants as ends
use Rattle.pei_types.specs.declared.calls.TrapCause.{TrapCause}
use Rattle.pei_types.specs.declared.events.Event.{Event}
use Rattle.pei_types.specs.declared.events.EventKind.{EventKind}
use Rattle.pei_types.specs.declared.events.EventKind.TheVariants as event
use Rattle.pei_types.specs.declared.machines.CoreConfig.{CoreConfig}
use Rattle.pei_types.specs.declared.machines.MachineSpec.{MachineSpec}
use Rattle.pei_types.specs.Blocks.{same_core}
use Rattle.pei_types.specs.Calls.{AnswersCall, AnswersNext}
use Rattle.pei_types.specs.Core.{CoreState, Stops, CoreNext, Calls, Busy, Ended, Wait, core_at_start, core_step, step_unless_over, step_at, step_unless_busy, step_of_effect, asks_unless, branch, at_stop, next_of, next_of_step, effect_of, busy_register, wait_at, core_config, core_after, after_answer, events_of, next_of_core}
use Rattle.pei_types.specs.History.{begins_fence}
use Rattle.pei_types.specs.Program.{Listing, Contents, instr_at}
use Rattle.pei_types.proofs.CoreStops.{steps_stop, stays}
use Rattle.pei_types.proofs.Pushes.{core_after-push, events_of-push}
use Rattle.history_laws.specs.Fits.{AsksForFence}
use Rattle.history_laws.proofs.Agree.{fence_off_here}
use Rattle.history_laws.proofs.Fences.{on_before}
use Rattle.std.proofs.Math.Bool.{and-false}
use Rattle.pei_types.proofs.Identities.{same_core_is}
use Rattle.pei_types.proofs.Tests.{same_self}

-- ---- a core at a fence

stops_is : (x y : CoreNext) → Stops x ≡ Stops y → x ≡ y
stops_is x y h = search

-- the core stands at a fence
pub record AtFence (p : Listing) (fuel : ℕ) (s : CoreState) : Type 0 where
  pub open_end : s.ended ≡ None
  pub no_race : s.raced ≡ None
  pub below : nat_lt s.retired fuel ≡ true
  pub here : instr_at p s.pc ≡ Some instr.Pfence

no_ask : (o : Option TrapCause) (pc : ℕ) (x : Call) (s : CoreState) → (x ≡ call.Fence → ⊥) → step_of_effect s (asks_unless o pc x) ≡ Stops (Calls call.Fence) → ⊥
no_ask None pc x s other h = other (calls_is (stops_is (Calls x) (Calls call.Fence) h))
  where
    calls_is : Calls x ≡ Calls call.Fence → x ≡ call.Fence
    calls_is e = search
no_ask (Some trap) pc x s other h = cc h

no_branch : (b : Bool) (pc to : ℕ) (r : List ℕ) (s : CoreState) → step_of_effect s (branch b pc to r) ≡ Stops (Calls call.Fence) → ⊥
no_branch true pc to r s h = cc h
no_branch false pc to r s h = cc h

-- only a fence asks for one
asks_fence : (config : CoreConfig) (s : CoreState) (i : Instr) → step_of_effect s (effect_of config s.pc s.registers i) ≡ Stops (Calls call.Fence) → i ≡ instr.Pfence
asks_fence config s instr.Pfence h = refl
asks_fence config s (instr.Ld rd ra n) h = absurd (no_ask _ s.pc _ s (λ e. cc e) h)
asks_fence config s (instr.St rv ra n) h = absurd (no_ask _ s.pc _ s (λ e. cc e) h)
asks_fence config s (instr.Pinc ra n) h = absurd (no_ask _ s.pc _ s (λ e. cc e) h)
asks_fence config s (instr.Pmin ra n rv) h = absurd (no_ask _ s.pc _ s (λ e. cc e) h)
asks_fence config s (instr.Pprobe rd ra n rk) h = absurd (no_ask _ s.pc _ s (λ e. cc e) h)
asks_fence config s (instr.Phist rd ra n rs) h = absurd (no_ask _ s.pc _ s (λ e. cc e) h)
asks_fence config s (instr.Pdot rd ra n rw') h = absurd (no_ask _ s.pc _ s (λ e. cc e) h)
asks_fence config s (instr.Beq ra rb to) h = absurd (no_branch _ s.pc to s.registers s h)
asks_fence config s (instr.Bne ra rb to) h = absurd (no_branch _ s.pc to s.registers s h)
asks_fence config s (instr.Bltu ra rb to) h = absurd (no_branch _ s.pc to s.registers s h)
asks_fence config s (instr.Bgeu ra rb to) h = absurd (no_branch _ s.pc to s.registers s h)
asks_fence config s _ h = absurd (cc h)

at_fence_instr : (p : Listing) (config : CoreConfig) (s : CoreState) (o : Option Instr) → step_at config s o ≡ Stops (Calls call.Fence) → o ≡ Some instr.Pfence
at_fence_instr p config s None h = absurd (cc h)
at_fence_instr p config s (Some i) h = by (busy_register s.waits i) h
  where
    by : (w : Option ℕ) → step_unless_busy config s i w ≡ Stops (Calls call.Fence) → Some i ≡ Some instr.Pfence
    by None k = ap Some (asks_fence config s i k)
    by (Some w) k = absurd (cc k)

pub at_fence : (p : Listing) (config : CoreConfig) (s : CoreState) → core_step p config s ≡ Stops (Calls call.Fence) → AtFence p config.fuel s
at_fence p config s h = by s.ended s.raced refl refl h
  where
    running : (b : Bool) → s.ended ≡ None → s.raced ≡ None → nat_lt s.retired config.fuel ≡ b → (if b then step_at config s (instr_at p s.pc) else Stops (Calls (call.End ends.Fuel))) ≡ Stops (Calls call.Fence) → AtFence p config.fuel s
    running true e r q k = record { open_end = e; no_race = r; below = q; here = at_fence_instr p config s (instr_at p s.pc) k }
    running false e r q k = absurd (cc k)

    by : (ended raced : Option EndKind) → s.ended ≡ ended → s.raced ≡ raced → step_unless_over p config s ended raced ≡ Stops (Calls call.Fence) → AtFence p config.fuel s
    by (Some kind) raced e r k = absurd (cc k)
    by None (Some race) e r k = absurd (cc k)
    by None None e r k = running (nat_lt s.retired config.fuel) e r refl k

no_register : (f : ℕ → Bool) (rs : List ℕ) → find (λ r. f r && false) rs ≡ None
no_register f [] = refl
no_register f (r ∷ rs) = rw (and-false (f r)) (no_register f rs)

-- a fence waits for no register
fence_free : (waits : List (Option Wait)) → busy_register waits instr.Pfence ≡ None
unfolding busy_register
fence_free waits = rw (no_register (λ r. is_some (wait_at waits r)) (range_with_len 0 16)) refl

pub fence_stops : (p : Listing) (config : CoreConfig) (s : CoreState) → AtFence p config.fuel s → core_step p config s ≡ Stops (Calls call.Fence)
fence_stops p config s a = rw (a.open_end, a.no_race, a.below, a.here, fence_free s.waits) refl

-- what a core does next that stands where it stops
pub next_of_stopped : (p : Listing) (config : CoreConfig) (s : CoreState) (x : CoreNext) → core_step p config s ≡ Stops x → next_of p config s ≡ x
next_of_stopped p config s x h =
    ap (λ t. next_of_step (core_step p config t)) (stays p config (suc (config.fuel - s.retired)) s x h) ∙ ap next_of_step h

-- where a core stops, it stops at what it does next
pub stopped_at : (p : Listing) (config : CoreConfig) (s : CoreState) → core_step p config (at_stop p config s) ≡ Stops (next_of p config s)
stopped_at p config s =
    let r = steps_stop p config (suc (config.fuel - s.retired)) s (enough (config.fuel - s.retired))
    in r.1 ∙ ap Stops (sym (ap next_of_step r.1))
  where
    enough : (n : ℕ) → n < suc n
    enough n = omega arith

-- a core that has run to its stop does next what it did
pub next_kept : (p : Listing) (config : CoreConfig) (s : CoreState) → next_of p config (at_stop p config s) ≡ next_of p config s
next_kept p config s = next_of_stopped p config (at_stop p config s) (next_of p config s) (stopped_at p config s)

-- a core at a fence stays there when one of its PEIs acts
pub next_after_act : (p : Listing) (config : CoreConfig) (s t : CoreState) → next_of p config s ≡ Calls call.Fence → t.ended ≡ (at_stop p config s).ended → t.raced ≡ (at_stop p config s).raced → t.retired ≡ (at_stop p config s).retired → t.pc ≡ (at_stop p config s).pc → next_of p config t ≡ Calls call.Fence
next_after_act p config s t h ended raced retired pc =
    let a = at_fence p config (at_stop p config s) (stopped_at p config s ∙ ap Stops h)
    in next_of_stopped p config t (Calls call.Fence)
    (fence_stops p config t (record { open_end = ended ∙ a.open_end; no_race = raced ∙ a.no_race; below = ap (λ n. nat_lt n config.fuel) retired ∙ a.below; here = ap (instr_at p) pc ∙ a.here }))

-- ---- one more event

answers_begin : (x : CoreNext) → AnswersNext x event.FenceBegin → x ≡ Calls call.Fence
answers_begin (Calls call.Fence) h = refl
answers_begin (Calls _) h = absurd h
answers_begin (Busy register pei) h = absurd h
answers_begin (Ended how) h = absurd h

-- where the core asks for a fence, its program makes no other event
no_other : (x : CoreNext) (kind : EventKind) → x ≡ Calls call.Fence → AnswersNext x kind → AnswersNext (Calls call.Fence) kind
no_other x kind h answer = subst (λ y. AnswersNext y kind) h answer

-- a core of which this is an event
core_grown : (p : Listing) (m : MachineSpec) (image : Contents) (journal : List Event) (a : Actor) (kind : EventKind) → next_of_core p m image (journal ++ record { actor = a; kind = kind } ∷ []) a.core ≡ next_of p (core_config m) (after_answer p (at_stop p (core_config m) (core_after p (core_config m) (core_at_start image a.core) (events_of a.core journal))) kind)
core_grown p m image journal a kind =
    let own : events_of a.core (journal ++ record { actor = a; kind = kind } ∷ []) ≡ events_of a.core journal ++ record { actor = a; kind = kind } ∷ [] = events_of-push a.core journal (record { actor = a; kind = kind }) ∙ rw (same_self a.core.0) refl
    in ap (λ es. next_of p (core_config m) (core_after p (core_config m) (core_at_start image a.core) es)) own
    ∙ ap (next_of p (core_config m)) (core_after-push p (core_config m) (core_at_start image a.core) (events_of a.core journal) (record { actor = a; kind = kind }))

core_kept : (p : Listing) (m : MachineSpec) (image : Contents) (journal : List Event) (a : Actor) (kind : EventKind) (c : CoreId) → same_core a.core c ≡ false → next_of_core p m image (journal ++ record { actor = a; kind = kind } ∷ []) c ≡ next_of_core p m image journal c
core_kept p m image journal a kind c h =
    let own : events_of c (journal ++ record { actor = a; kind = kind } ∷ []) ≡ events_of c journal = events_of-push c journal (record { actor = a; kind = kind }) ∙ rw h (append-nil (events_of c journal))
    in ap (λ es. next_of p (core_config m) (core_after p (core_config m) (core_at_start image c) es)) own

-- The own core of an event goes on asking for its fence.
own_asks : (p : Listing) (m : MachineSpec) (image : Contents) (journal : List Event) (a : Actor) (kind : EventKind) → AnswersCall (next_of_core p m image journal a.core) m journal a kind → AsksForFence (next_of_core p m image journal a.core) journal a.core → AsksForFence (next_of_core p m image (journal ++ record { actor = a; kind = kind } ∷ []) a.core) (journal ++ record { actor = a; kind = kind } ∷ []) a.core
own_asks p m image journal a event.FenceBegin answers asks on =
    core_grown p m image journal a event.FenceBegin
    ∙ next_kept p (core_config m) (core_after p (core_config m) (core_at_start image a.core) (events_of a.core journal))
    ∙ answers_begin (next_of_core p m image journal a.core) answers.1.1
own_asks p m image journal a event.FenceEnd answers asks on = absurd (cc (sym on ∙ fence_off_here journal a))
own_asks p m image journal a (event.Load addr value) answers asks on = absurd (no_other (next_of_core p m image journal a.core) (event.Load addr value) (asks (on_before a.core journal (record { actor = a; kind = event.Load addr value }) (and-false (same_core a.core a.core)) on)) answers.1.1)
own_asks p m image journal a (event.Store addr value) answers asks on = absurd (no_other (next_of_core p m image journal a.core) (event.Store addr value) (asks (on_before a.core journal (record { actor = a; kind = event.Store addr value }) (and-false (same_core a.core a.core)) on)) answers.1.1)
own_asks p m image journal a (event.Issue seq lane o b operands) answers asks on = absurd (no_other (next_of_core p m image journal a.core) (event.Issue seq lane o b operands) (asks (on_before a.core journal (record { actor = a; kind = event.Issue seq lane o b operands }) (and-false (same_core a.core a.core)) on)) answers.1.1)
own_asks p m image journal a (event.Out value) answers asks on = absurd (no_other (next_of_core p m image journal a.core) (event.Out value) (asks (on_before a.core journal (record { actor = a; kind = event.Out value }) (and-false (same_core a.core a.core)) on)) answers.1.1)
own_asks p m image journal a (event.Race pc b by) answers asks on = absurd (no_other (next_of_core p m image journal a.core) (event.Race pc b by) (asks (on_before a.core journal (record { actor = a; kind = event.Race pc b by }) (and-false (same_core a.core a.core)) on)) answers.1.1)
own_asks p m image journal a (event.End kind) answers asks on = absurd (no_other (next_of_core p m image journal a.core) (event.End kind) (asks (on_before a.core journal (record { actor = a; kind = event.End kind }) (and-false (same_core a.core a.core)) on)) answers.1.1)
own_asks p m image journal a (event.Act seq reply) answers asks on =
    core_grown p m image journal a (event.Act seq reply)
    ∙ next_after_act p (core_config m) (core_after p (core_config m) (core_at_start image a.core) (events_of a.core journal))
    (after_answer p (at_stop p (core_config m) (core_after p (core_config m) (core_at_start image a.core) (events_of a.core journal))) (event.Act seq reply))
    (asks (on_before a.core journal (record { actor = a; kind = event.Act seq reply }) (and-false (same_core a.core a.core)) on)) refl refl refl refl
own_asks p m image journal a _ answers asks on =
    core_grown p m image journal a _
    ∙ next_kept p (core_config m) (core_after p (core_config m) (core_at_start image a.core) (events_of a.core journal))
    ∙ asks (on_before a.core journal (record { actor = a; kind = _ }) (and-false (same_core a.core a.core)) on)

-- Each core whose fence is on goes on asking for it after one more event that answers its core's call.
pub asks_next : (p : Listing) (m : MachineSpec) (image : Contents) (journal : List Event) (a : Actor) (kind : EventKind) → AnswersCall (next_of_core p m image journal a.core) m journal a kind → ((c : CoreId) → AsksForFence (next_of_core p m image journal c) journal c) → (c : CoreId) → AsksForFence (next_of_core p m image (journal ++ record { actor = a; kind = kind } ∷ []) c) (journal ++ record { actor = a; kind = kind } ∷ []) c
asks_next p m image journal a kind answers asks c = by (same_core a.core c) refl
  where
    e : Event
    e = record { actor = a; kind = kind }

    by : (b : Bool) → same_core a.core c ≡ b → AsksForFence (next_of_core p m image (journal ++ e ∷ []) c) (journal ++ e ∷ []) c
    by true h =
        subst (λ d. AsksForFence (next_of_core p m image (journal ++ e ∷ []) d) (journal ++ e ∷ []) d) (same_core_is a.core c h) (own_asks p m image journal a kind answers (asks a.core))
    by false h = λ on. core_kept p m image journal a kind c h ∙ asks c (on_before c journal e (begins h) on)
      where
        begins : same_core a.core c ≡ false → begins_fence c e ≡ false
        begins k = rw k refl
