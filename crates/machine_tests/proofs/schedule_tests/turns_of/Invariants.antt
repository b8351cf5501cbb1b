use Rattle.std.proofs.Common.{IsTrue}
use Rattle.std.specs.List.{All}
use Rattle.pei_types.specs.Calls.{is_actor_of}
use Rattle.machine_tests.proofs.schedule_tests.turns_of.Given as goal

abbrev pub invariant-loop-core : goal.invariant-loop-core
invariant-loop-core l = All (λ a. IsTrue (is_actor_of l.spec a)) l.actors
