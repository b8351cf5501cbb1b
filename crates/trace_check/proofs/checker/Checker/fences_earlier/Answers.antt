use Rattle.std.proofs.Common.{◌≡◌, is_none, IsTrue, sym, ◌∙◌, subst}
use Rattle.pei_types.specs.declared.events.EventKind.{EventKind}
use Rattle.trace_check.specs.InState.{EndsFence}
use Rattle.trace_check.specs.CheckerParts.{state_of}
use Rattle.trace_check.proofs.Rows.{told_none, fence_is_done}
use Rattle.trace_check.proofs.checker.Checker.fences_earlier.Goals as goal

pub returns-in-FenceEnd : goal.returns-in-FenceEnd
returns-in-FenceEnd c =
    let told : c.is_none.result ≡ is_none c.fence_waits.result = told_none c.fence_waits.result c.is_none.result c.is_none.ensures
    in let s = state_of c.args.self.now
    in let done = fence_is_done _ c.fence_waits.result (sym c.fence_on.ensures ∙ c.if-fence_on.true) c.fence_waits.ensures.first
    in subst (λ (k : EventKind). (IsTrue c.is_none.result → EndsFence s c.args.actor k) × (EndsFence s c.args.actor k → IsTrue c.is_none.result)) (sym c.in-FenceEnd.is)
    (λ none. done.0 (sym told ∙ none), λ ends. told ∙ done.1 ends)
