-- A core that has run to its stop is there.
use Rattle.std.proofs.Common.{◌≡◌, ℕ, zero, suc, ◌+◌, ◌-◌, ◌<◌, Bool, true, false, nat_lt, if◌then◌else◌, Option, Some, None, refl, sym, ◌∙◌, ap, arith}
use Rattle.pei_types.specs.declared.machines.CoreConfig.{CoreConfig}
use Rattle.pei_types.specs.declared.calls.EndKind.{EndKind}
use Rattle.pei_types.specs.declared.calls.EndKind.TheVariants as ends
use Rattle.pei_types.specs.declared.calls.Call.TheVariants as call
use Rattle.pei_types.specs.declared.instructions.Instr.{Instr}
use Rattle.pei_types.specs.Core.{CoreState, CoreStep, Retires, Stops, CoreNext, Calls, Effect, Goes, Asks, core_step, step_unless_over, step_at, step_unless_busy, step_of_effect, after_steps, at_stop, effect_of, busy_register}
use Rattle.pei_types.specs.Program.{Listing, instr_at}
use Rattle.std.proofs.lemmas.Bool.{ltb-true}

retired_or : ℕ → CoreStep → ℕ
retired_or n (Retires s) = s.retired
retired_or n (Stops x) = n

by_effect : (s t : CoreState) (e : Effect) → step_of_effect s e ≡ Retires t → t.retired ≡ s.retired + 1
unfolding retired_or
by_effect s t (Goes pc registers) h = sym (ap (retired_or 0) h)
by_effect s t (Asks x) h = absurd (cc h)

by_busy : (config : CoreConfig) (s t : CoreState) (i : Instr) (w : Option ℕ) → step_unless_busy config s i w ≡ Retires t → t.retired ≡ s.retired + 1
by_busy config s t i None h = by_effect s t (effect_of config s.pc s.registers i) h
by_busy config s t i (Some w) h = absurd (cc h)

by_instr : (config : CoreConfig) (s t : CoreState) (o : Option Instr) → step_at config s o ≡ Retires t → t.retired ≡ s.retired + 1
by_instr config s t None h = absurd (cc h)
by_instr config s t (Some i) h = by_busy config s t i (busy_register s.waits i) h

by_fuel : (p : Listing) (config : CoreConfig) (s t : CoreState) (b : Bool) → nat_lt s.retired config.fuel ≡ b → (if b then step_at config s (instr_at p s.pc) else Stops (Calls (call.End ends.Fuel))) ≡ Retires t → (t.retired ≡ s.retired + 1) × (s.retired < config.fuel)
by_fuel p config s t true q h = (by_instr config s t (instr_at p s.pc) h, ltb-true s.retired config.fuel q)
by_fuel p config s t false q h = absurd (cc h)

by_end : (p : Listing) (config : CoreConfig) (s t : CoreState) (ended raced : Option EndKind) → step_unless_over p config s ended raced ≡ Retires t → (t.retired ≡ s.retired + 1) × (s.retired < config.fuel)
by_end p config s t (Some kind) raced h = absurd (cc h)
by_end p config s t None (Some race) h = absurd (cc h)
by_end p config s t None None h = by_fuel p config s t (nat_lt s.retired config.fuel) refl h

-- an instruction that is retired counts once, and is not past the fuel
pub retires_once : (p : Listing) (config : CoreConfig) (s t : CoreState) → core_step p config s ≡ Retires t → (t.retired ≡ s.retired + 1) × (s.retired < config.fuel)
retires_once p config s t h = by_end p config s t s.ended s.raced h

-- with enough steps the core stands where its next step stops
pub steps_stop : (p : Listing) (config : CoreConfig) (n : ℕ) (s : CoreState) → config.fuel - s.retired < n → (x : CoreNext) × (core_step p config (after_steps p config n s) ≡ Stops x)
steps_stop p config zero s h = absurd (omega (arith, h))
steps_stop p config (suc n) s h = go (core_step p config s) refl (λ t more. steps_stop p config n t more)
  where
    go : (st : CoreStep) → core_step p config s ≡ st → ((t : CoreState) → config.fuel - t.retired < n → (x : CoreNext) × (core_step p config (after_steps p config n t) ≡ Stops x)) → (x : CoreNext) × (core_step p config (after_steps p config (suc n) s) ≡ Stops x)
    go (Retires t) e rest =
        let once = retires_once p config s t e
        in let r = rest t (omega (arith, h, once.0, once.1))
        in (r.0, ap (λ st. core_step p config (elim st as (λ _. CoreState) [ Retires u ↦ after_steps p config n u | Stops x ↦ s ])) e ∙ r.1)
    go (Stops x) e rest = (x, ap (λ st. core_step p config (elim st as (λ _. CoreState) [ Retires u ↦ after_steps p config n u | Stops y ↦ s ])) e ∙ e)

-- a core that stands where its next step stops stays there
pub stays : (p : Listing) (config : CoreConfig) (n : ℕ) (s : CoreState) (x : CoreNext) → core_step p config s ≡ Stops x → after_steps p config n s ≡ s
stays p config zero s x h = refl
stays p config (suc n) s x h = ap (λ st. elim st as (λ _. CoreState) [ Retires u ↦ after_steps p config n u | Stops y ↦ s ]) h

-- where a core stops, it stops
pub at_stop-at_stop : (p : Listing) (config : CoreConfig) (s : CoreState) → at_stop p config (at_stop p config s) ≡ at_stop p config s
at_stop-at_stop p config s =
    let r = steps_stop p config (suc (config.fuel - s.retired)) s (omega arith)
    in stays p config (suc (config.fuel - (at_stop p config s).retired)) (at_stop p config s) r.0 r.1
