use Rattle.std.proofs.Common.{◌≡◌}
use Rattle.host_run.specs.ThreadInvariant.{IsInTurn}
use Rattle.host_run.specs.Own.{core_of}
use Rattle.host_run.proofs.visits.Place.round.Given as goal

abbrev pub invariant-loop-lane : goal.invariant-loop-lane
invariant-loop-lane g l = IsInTurn g.L.Run.program g.L.Run.machine g.L.Run.image l.self.table.now.table l.seat l.run × (core_of l.seat ≡ core_of l.fn.seat)
