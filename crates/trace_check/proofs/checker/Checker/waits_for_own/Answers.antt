use Rattle.std.proofs.Common.{◌+◌, refl, sym, ◌∙◌, arith}
use Rattle.pei_types.specs.declared.identifiers.Lane.{Lane}
use Rattle.pei_types.specs.MachineState.{look_in}
use Rattle.trace_check.specs.InState.{waits_in}
use Rattle.trace_check.specs.CheckerParts.{state_of}
use Rattle.trace_check.proofs.Waiting.{waited_for, none_waited_for, one_lane_more}
use Rattle.trace_check.proofs.checker.Checker.waits_for_own.Goals as goal

pub returns-then-comes_first : goal.returns-then-comes_first
returns-then-comes_first c =
    let s = state_of c.args.self.now
    in sym (waited_for c.args.core (record { 0 = c.loop-place.place + 1 }) c.args.block c.args.store s.peis (look_in s c.args.core (record { 0 = c.loop-place.place + 1 })) refl (sym c.comes_first.ensures ∙ c.if-comes_first.true))

pub loop-place-init : goal.loop-place-init
loop-place-init c k low high = absurd (omega (arith, low, high))

pub loop-place-preserved : goal.loop-place-preserved
loop-place-preserved c =
    let s = state_of c.args.self.now
    in one_lane_more (λ (l : Lane). waits_in c.args.block c.args.store (look_in s c.args.core l)) (c.loop-place.place + 1) c.loop-place.invariant (sym c.comes_first.ensures ∙ c.if-comes_first.false)

pub returns : goal.returns
returns c =
    let s = state_of c.args.self.now
    in sym (none_waited_for c.args.self.now.machine s c.args.core c.args.block c.args.store s.peis c.requires.invariants.together c.requires.invariants.on_the_way (λ l low high. c.loop-place.invariant l low (omega (arith, low, high, c.loop-place-test.false))))
