use Rattle.std.proofs.Common.{◌≡◌, Some, None, refl, sym, ap, ◌∙◌, true, false}
use Rattle.pei_types.specs.MachineState.{is_dirty, mark_of}
use Rattle.pei_types.specs.Next.{holder}
use Rattle.pmu_dispatch.specs.declared.looks.Victim.{Victim}
use Rattle.pmu_dispatch.proofs.Cores.{victims_holder}
use Rattle.pmu_dispatch.proofs.wanting.evict.Goals as goal

pub returns-in-Some : goal.returns-in-Some
returns-in-Some c m s line shown =
    let found : holder m s line.block ≡ Some c.in-Some.core
    = sym (victims_holder m s line c.args.victim.now shown) ∙ sym c.holder.ensures ∙ c.in-Some.is
    in rw (shown, found) refl

pub returns-in-None : goal.returns-in-None
returns-in-None c m s line shown =
    let found : holder m s line.block ≡ None = sym (victims_holder m s line c.args.victim.now shown) ∙ sym c.holder.ensures ∙ c.in-None.is
    in let dirty : is_dirty (mark_of m s line.block) ≡ true
    = ap (λ (v : Victim). is_dirty v.mark) (sym shown) ∙ sym c.is_dirty.ensures ∙ c.if-is_dirty.true
    in rw (shown, found, dirty) refl

pub returns-in-None-2 : goal.returns-in-None-2
returns-in-None-2 c m s line shown =
    let found : holder m s line.block ≡ None = sym (victims_holder m s line c.args.victim.now shown) ∙ sym c.holder.ensures ∙ c.in-None.is
    in let clean : is_dirty (mark_of m s line.block) ≡ false
    = ap (λ (v : Victim). is_dirty v.mark) (sym shown) ∙ sym c.is_dirty.ensures ∙ c.if-is_dirty.false
    in rw (shown, found, clean) refl
