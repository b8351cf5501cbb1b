use Rattle.pei_types.proofs.Logarithms.{log_within}
use Rattle.inflight.proofs.Inflight.directory_entry.Goals as goal

pub fold-requires-clause-some : goal.fold-requires-clause-some
fold-requires-clause-some c =
    rw c.self.invariant.bits (log_within c.self.inside.machine.directory c.self.inside.machine.directory_in_limits.1 c.self.inside.machine.directory_in_limits.0.0 c.self.inside.machine.directory_in_limits.0.1).0

pub fold-requires-clause-most : goal.fold-requires-clause-most
fold-requires-clause-most c =
    rw c.self.invariant.bits (log_within c.self.inside.machine.directory c.self.inside.machine.directory_in_limits.1 c.self.inside.machine.directory_in_limits.0.0 c.self.inside.machine.directory_in_limits.0.1).1
