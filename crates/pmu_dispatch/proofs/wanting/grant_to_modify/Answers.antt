use Rattle.std.proofs.Common.{◌≡◌, Some, None, refl, sym, ◌∙◌, ap, not}
use Rattle.pei_types.specs.MachineState.{is_i}
use Rattle.pei_types.specs.Next.{other_holder}
use Rattle.pmu_dispatch.specs.Shown.{first_core}
use Rattle.pmu_dispatch.proofs.Cores.{blocks_other_holder}
use Rattle.pmu_dispatch.proofs.wanting.grant_to_modify.Goals as goal

pub returns-in-Some : goal.returns-in-Some
returns-in-Some c m s taken =
    let found : other_holder m s c.args.looks.now.own c.args.looks.now.block ≡ Some c.in-Some.core
    = sym (blocks_other_holder m s c.args.looks.now taken) ∙ ap (first_core (λ l. not (is_i l))) (sym c.other_letters.ensures) ∙ sym c.holder.ensures ∙ c.in-Some.is
    in rw found refl

pub returns-in-None : goal.returns-in-None
returns-in-None c m s taken =
    let found : other_holder m s c.args.looks.now.own c.args.looks.now.block ≡ None
    = sym (blocks_other_holder m s c.args.looks.now taken) ∙ ap (first_core (λ l. not (is_i l))) (sym c.other_letters.ensures) ∙ sym c.holder.ensures ∙ c.in-None.is
    in rw found refl
