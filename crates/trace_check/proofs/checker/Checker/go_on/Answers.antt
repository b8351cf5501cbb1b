use Rattle.std.proofs.Common.{List, slice_get, sym, ◌∙◌, ap, subst}
use Rattle.core_exec.specs.CoreView.{Standing}
use Rattle.trace_check.specs.Cores.{CoresGoOn}
use Rattle.trace_check.proofs.checker.Checker.go_on.Goals as goal

pub take_in-requires-clause-ready : goal.take_in-requires-clause-ready
take_in-requires-clause-ready c s found = c.requires.ready s (sym (ap (λ (cs : List Standing). slice_get cs c.args.event.now.actor.core.0) c.apply.ensures.cores) ∙ found)

pub returns-clause-cores : goal.returns-clause-cores
returns-clause-cores c p = subst (λ (cs : List Standing). CoresGoOn p cs c.take_in.new.cores c.args.event.now) c.apply.ensures.cores (c.take_in.ensures p)
