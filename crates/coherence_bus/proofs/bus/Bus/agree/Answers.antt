use Rattle.coherence_bus.proofs.bus.Bus.agree.Goals as goal

pub returns : goal.returns
returns c = rw (← c.self.view_is) c.self.invariant.coheres.invariants
