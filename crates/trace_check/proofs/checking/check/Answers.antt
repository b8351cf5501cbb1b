use Rattle.std.proofs.Common.{◌≤◌, take, subst, arith}
use Rattle.pei_types.specs.declared.machines.MachineSpec.{MachineSpec}
use Rattle.pei_types.specs.Legal.{FailsFirst}
use Rattle.trace_check.proofs.Passing.{fails_there, all_followed}
use Rattle.trace_check.proofs.checking.check.Goals as goal

pub loop-i-init : goal.loop-i-init
loop-i-init c = let start = c.in_ok-checker.ensures c.args.program.now in record { machine = start.machine; short = omega arith; follows = start }

pub overflow_add-result : goal.overflow_add-result
overflow_add-result c =
    let limit : c.args.spec.now.events ≤ 1048576 = c.args.spec.now.events_in_limits.1
    in omega (arith, limit, c.loop-i.invariant.short)

pub returns-in-Some : goal.returns-in-Some
returns-in-Some c =
    fails_there c.args.program.now c.args.spec.now c.args.image.now c.args.journal.now.events c.loop-i.i c.get-event.result c.in-Some.clause c.get-event.ensures
    (subst (λ (m : MachineSpec). FailsFirst c.in-Some.clause c.args.program.now m c.args.image.now (take c.loop-i.i c.args.journal.now.events) c.get-event.result) c.loop-i.invariant.machine c.in-Some.ensures.fails)

pub returns : goal.returns
returns c =
    all_followed c.args.program.now c.args.spec.now c.args.image.now c.args.journal.now.events c.loop-i.i c.loop-i.checker c.is_complete.result
    (omega (arith, c.loop-i-test.false, c.len-i-end.ensures.len)) c.loop-i.invariant.follows c.is_complete.ensures
