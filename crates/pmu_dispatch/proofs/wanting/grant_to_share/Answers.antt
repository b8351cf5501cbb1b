use Rattle.std.proofs.Common.{◌≡◌, Some, None, refl, sym, ◌∙◌, ap, not, is_none, ◌||◌, true, false}
use Rattle.pei_types.specs.MachineState.{is_i, is_owned, is_sealed, no_other_has}
use Rattle.pei_types.specs.Next.{other_owner}
use Rattle.pmu_dispatch.specs.Shown.{first_core}
use Rattle.pmu_dispatch.proofs.Cores.{blocks_other_holder, blocks_other_owner, blocks_sealed, no_other_shown}
use Rattle.pmu_dispatch.proofs.wanting.grant_to_share.Goals as goal
use Rattle.std.proofs.Math.Bool.{or-true}

pub returns-in-Some : goal.returns-in-Some
returns-in-Some c m s taken =
    let found : other_owner m s c.args.looks.now.own c.args.looks.now.block ≡ Some c.in-Some.core
    = sym (blocks_other_owner m s c.args.looks.now taken) ∙ ap (first_core is_owned) (sym c.other_letters-others.ensures) ∙ sym c.owner.ensures ∙ c.in-Some.is
    in rw found refl

pub returns-then-looks : goal.returns-then-looks
returns-then-looks c m s taken =
    let owns : other_owner m s c.args.looks.now.own c.args.looks.now.block ≡ None
    = sym (blocks_other_owner m s c.args.looks.now taken) ∙ ap (first_core is_owned) (sym c.other_letters-others.ensures) ∙ sym c.owner.ensures ∙ c.in_default.is
    in let sealed : is_sealed s c.args.looks.now.block ≡ true = sym (blocks_sealed m s c.args.looks.now taken) ∙ c.if-looks.true
    in let shared : (not (no_other_has m s c.args.looks.now.own c.args.looks.now.block) || is_sealed s c.args.looks.now.block) ≡ true
    = rw sealed (or-true (not (no_other_has m s c.args.looks.now.own c.args.looks.now.block)))
    in rw (owns, shared) refl

pub returns-in-Some-holder : goal.returns-in-Some-holder
returns-in-Some-holder c m s taken =
    let owns : other_owner m s c.args.looks.now.own c.args.looks.now.block ≡ None
    = sym (blocks_other_owner m s c.args.looks.now taken) ∙ ap (first_core is_owned) (sym c.other_letters-others.ensures) ∙ sym c.owner.ensures ∙ c.in_default.is
    in let some : no_other_has m s c.args.looks.now.own c.args.looks.now.block ≡ false
    = no_other_shown m s c.args.looks.now.own c.args.looks.now.block ∙ ap is_none (sym (blocks_other_holder m s c.args.looks.now taken) ∙ ap (first_core (λ l. not (is_i l))) (sym c.other_letters-others.ensures) ∙ sym c.holder.ensures ∙ c.in-Some-holder.is)
    in rw (owns, some) refl

pub returns-in-None : goal.returns-in-None
returns-in-None c m s taken =
    let owns : other_owner m s c.args.looks.now.own c.args.looks.now.block ≡ None
    = sym (blocks_other_owner m s c.args.looks.now taken) ∙ ap (first_core is_owned) (sym c.other_letters-others.ensures) ∙ sym c.owner.ensures ∙ c.in_default.is
    in let sealed : is_sealed s c.args.looks.now.block ≡ false = sym (blocks_sealed m s c.args.looks.now taken) ∙ c.if-looks.false
    in let none : no_other_has m s c.args.looks.now.own c.args.looks.now.block ≡ true
    = no_other_shown m s c.args.looks.now.own c.args.looks.now.block ∙ ap is_none (sym (blocks_other_holder m s c.args.looks.now taken) ∙ ap (first_core (λ l. not (is_i l))) (sym c.other_letters-others.ensures) ∙ sym c.holder.ensures ∙ c.in-None.is)
    in rw (owns, sealed, none) refl
