use Rattle.std.proofs.Common.{◌≡◌, sym, ◌∙◌, ap, true, false}
use Rattle.pei_types.specs.declared.identifiers.BlockNo.{BlockNo}
use Rattle.pei_types.specs.declared.events.EventKind.TheVariants as event
use Rattle.pei_types.specs.MachineState.{Line, is_absent, mark_of}
use Rattle.pei_types.specs.Next.{l1_victim}
use Rattle.pmu_dispatch.proofs.Cores.{blocks_mark, blocks_l1_victim}
use Rattle.pmu_dispatch.proofs.Mapped.{some_mapped}
use Rattle.pmu_dispatch.proofs.wanting.want_next.Goals as goal
use Rattle.pei_types.proofs.Tests.{none_of_map}

pub returns-then-is_absent : goal.returns-then-is_absent
returns-then-is_absent c m s taken =
    let absent : is_absent (mark_of m s c.args.looks.now.block) ≡ true
    = ap is_absent (sym (blocks_mark m s c.args.looks.now taken)) ∙ sym c.is_absent.ensures ∙ c.if-is_absent.true
    in rw absent (c.bring_in.ensures m s taken absent)

pub returns-in-Some : goal.returns-in-Some
returns-in-Some c m s taken =
    let there : is_absent (mark_of m s c.args.looks.now.block) ≡ false
    = ap is_absent (sym (blocks_mark m s c.args.looks.now taken)) ∙ sym c.is_absent.ensures ∙ c.if-is_absent.false
    in let line = some_mapped (λ (line : Line). line.block) (l1_victim m s c.args.looks.now.own c.args.looks.now.block) c.in-Some.block (sym (blocks_l1_victim m s c.args.looks.now taken) ∙ c.in-Some.is)
    in rw (there, line.1) (ap (λ (b : BlockNo). event.EvictL1 c.args.looks.now.own b) line.2)

pub returns-then-modify : goal.returns-then-modify
returns-then-modify c m s taken =
    let there : is_absent (mark_of m s c.args.looks.now.block) ≡ false
    = ap is_absent (sym (blocks_mark m s c.args.looks.now taken)) ∙ sym c.is_absent.ensures ∙ c.if-is_absent.false
    in let none = none_of_map (λ (line : Line). line.block) (l1_victim m s c.args.looks.now.own c.args.looks.now.block) (sym (blocks_l1_victim m s c.args.looks.now taken) ∙ c.in_default.is)
    in rw (there, none, c.if-modify.true) (c.grant_to_modify.ensures m s taken)

pub returns-else-modify : goal.returns-else-modify
returns-else-modify c m s taken =
    let there : is_absent (mark_of m s c.args.looks.now.block) ≡ false
    = ap is_absent (sym (blocks_mark m s c.args.looks.now taken)) ∙ sym c.is_absent.ensures ∙ c.if-is_absent.false
    in let none = none_of_map (λ (line : Line). line.block) (l1_victim m s c.args.looks.now.own c.args.looks.now.block) (sym (blocks_l1_victim m s c.args.looks.now taken) ∙ c.in_default.is)
    in rw (there, none, c.if-modify.false) (c.grant_to_share.ensures m s taken)
