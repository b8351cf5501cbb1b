use Rattle.std.proofs.Common.{◌≡◌, true, false, Some, None, refl, sym, ◌∙◌, ap}
use Rattle.pei_types.specs.MachineState.{mark_of, is_dirty}
use Rattle.pei_types.specs.Next.{owner}
use Rattle.pmu_dispatch.proofs.LaneLooks.{peis_owner, peis_mark}
use Rattle.pmu_dispatch.proofs.lanes.seal_reader_next.Goals as goal

pub returns-in-Some : goal.returns-in-Some
returns-in-Some c m s content p taken =
    let found : owner m s p.block ≡ Some c.in-Some.core = sym (peis_owner m s c.args.looks.now p taken) ∙ sym c.owner.ensures ∙ c.in-Some.is
    in rw (found, taken.block) refl

pub returns-then-is_dirty : goal.returns-then-is_dirty
returns-then-is_dirty c m s content p taken =
    let found : owner m s p.block ≡ None = sym (peis_owner m s c.args.looks.now p taken) ∙ sym c.owner.ensures ∙ c.in_default.is
    in let dirty : is_dirty (mark_of m s p.block) ≡ true
    = ap is_dirty (sym (peis_mark m s c.args.looks.now p taken)) ∙ sym c.is_dirty.ensures ∙ c.if-is_dirty.true
    in rw (found, dirty, taken.block) refl

pub returns-else-is_dirty : goal.returns-else-is_dirty
returns-else-is_dirty c m s content p taken =
    let found : owner m s p.block ≡ None = sym (peis_owner m s c.args.looks.now p taken) ∙ sym c.owner.ensures ∙ c.in_default.is
    in let clean : is_dirty (mark_of m s p.block) ≡ false
    = ap is_dirty (sym (peis_mark m s c.args.looks.now p taken)) ∙ sym c.is_dirty.ensures ∙ c.if-is_dirty.false
    in rw (found, clean) refl
