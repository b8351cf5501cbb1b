use Rattle.std.proofs.Common.{sym, ◌∙◌}
use Rattle.pei_types.specs.MachineState.{fence_of}
use Rattle.trace_check.specs.CheckerParts.{state_of}
use Rattle.trace_check.proofs.Rows.{fence_done, fence_off, told_none}
use Rattle.trace_check.proofs.checker.Checker.fence_is_done.Goals as goal

pub returns-then-fence_on : goal.returns-then-fence_on
returns-then-fence_on c =
    fence_done (fence_of (state_of c.args.self.now) c.args.core) c.fence_waits.result c.is_none.result (sym c.fence_on.ensures ∙ c.if-fence_on.true) c.fence_waits.ensures.first (told_none c.fence_waits.result c.is_none.result c.is_none.ensures)

pub returns-else-fence_on : goal.returns-else-fence_on
returns-else-fence_on c = fence_off (fence_of (state_of c.args.self.now) c.args.core) (sym c.fence_on.ensures ∙ c.if-fence_on.false)
