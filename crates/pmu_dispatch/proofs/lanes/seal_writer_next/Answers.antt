use Rattle.std.proofs.Common.{◌≡◌, Some, None, refl, sym, ◌∙◌}
use Rattle.pei_types.specs.Next.{holder}
use Rattle.pmu_dispatch.proofs.LaneLooks.{peis_holder, peis_mark}
use Rattle.pmu_dispatch.proofs.lanes.seal_writer_next.Goals as goal

pub returns-in-Some : goal.returns-in-Some
returns-in-Some c m s content p taken =
    let found : holder m s p.block ≡ Some c.in-Some.core = sym (peis_holder m s c.args.looks.now p taken) ∙ sym c.holder.ensures ∙ c.in-Some.is
    in rw (found, taken.block) refl

pub returns-in-Dirty : goal.returns-in-Dirty
returns-in-Dirty c m s content p taken =
    let found : holder m s p.block ≡ None = sym (peis_holder m s c.args.looks.now p taken) ∙ sym c.holder.ensures ∙ c.in_default.is
    in let mark = sym (peis_mark m s c.args.looks.now p taken) ∙ c.in-Dirty.is
    in rw (found, mark, taken.block) refl

pub returns-in-Clean : goal.returns-in-Clean
returns-in-Clean c m s content p taken =
    let found : holder m s p.block ≡ None = sym (peis_holder m s c.args.looks.now p taken) ∙ sym c.holder.ensures ∙ c.in_default.is
    in let mark = sym (peis_mark m s c.args.looks.now p taken) ∙ c.in-Clean.is
    in rw (found, mark, taken.block) refl

pub returns-in-Absent : goal.returns-in-Absent
returns-in-Absent c m s content p taken =
    let found : holder m s p.block ≡ None = sym (peis_holder m s c.args.looks.now p taken) ∙ sym c.holder.ensures ∙ c.in_default.is
    in let mark = sym (peis_mark m s c.args.looks.now p taken) ∙ c.in-Absent.is
    in rw (found, mark) refl
