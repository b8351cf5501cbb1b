use Rattle.std.proofs.Common.{ap, ◌∙◌, sym}
use Rattle.pei_types.specs.Core.{CoreState}
use Rattle.core_exec.proofs.Busy.{busy_register-replicate}
use Rattle.core_exec.proofs.states.State.busy.Goals as goal

pub returns-then-not-self : goal.returns-then-not-self
returns-then-not-self c =
    busy_register-replicate c.args.self.now.waits c.args.instr (sym (ap (λ (s : CoreState). s.waits) c.self.view_is) ∙ c.self.invariant c.if-not-self.true)
