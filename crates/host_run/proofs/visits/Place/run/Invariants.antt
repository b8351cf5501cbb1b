use Rattle.std.proofs.Common.{◌≡◌}
use Rattle.host_run.specs.ThreadInvariant.{IsInTurn}
use Rattle.host_run.specs.Own.{core_of}
use Rattle.host_run.proofs.visits.Place.run.Given as goal

-- the thread is in turn, and its seat is the same core's
abbrev pub invariant-loop : goal.invariant-loop
invariant-loop g l =
    (goal.iterator-loop g).can_next l.iterator'
    × IsInTurn g.L.Run.program g.L.Run.machine g.L.Run.image l.self.table.now.table l.seat l.run × (core_of l.seat ≡ core_of l.fn.seat)
