-- A core runs on by one instruction.
use Rattle.std.proofs.Common.{◌≡◌, suc, ◌+◌, ◌-◌, ◌<◌, ◌∙◌, ap, arith}
use Rattle.pei_types.specs.declared.machines.CoreConfig.{CoreConfig}
use Rattle.pei_types.specs.Core.{CoreState, Retires, Stops, core_step, after_steps, at_stop}
use Rattle.pei_types.specs.Program.{Listing}

-- where a core stops, it stops after its next instruction too
pub at_stop-retires : (p : Listing) (config : CoreConfig) (s t : CoreState) → core_step p config s ≡ Retires t → s.retired < config.fuel → t.retired ≡ s.retired + 1 → at_stop p config s ≡ at_stop p config t
at_stop-retires p config s t step below more =
    let rest : config.fuel - s.retired ≡ suc (config.fuel - t.retired) = omega (arith, more, below)
    in ap (λ x. elim x as (λ _. CoreState) [ Retires u ↦ after_steps p config (config.fuel - s.retired) u | Stops n ↦ s ]) step
    ∙ ap (λ n. after_steps p config n t) rest
