use Rattle.std.proofs.Common.{◌≡◌, ◌≤◌}
use Rattle.shared_table.specs.Parts.{core_number}
use Rattle.host_run.specs.ThreadInvariant.{IsLetGo}
use Rattle.host_run.proofs.visits.Place.let_go.Given as goal

abbrev pub invariant-loop-lane : goal.invariant-loop-lane
invariant-loop-lane g l = IsLetGo g.L.Run.program g.L.Run.machine g.L.Run.image l.self.table.now.table l.seat l.run × (1 ≤ l.lane) × (core_number l.seat ≡ core_number l.fn.seat)
