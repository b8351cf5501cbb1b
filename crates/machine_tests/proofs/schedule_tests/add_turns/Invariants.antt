use Rattle.std.proofs.Common.{IsTrue}
use Rattle.std.specs.List.{All}
use Rattle.pei_types.specs.Calls.{is_actor_of}
use Rattle.machine_tests.proofs.schedule_tests.add_turns.Given as goal

abbrev pub invariant-loop : goal.invariant-loop
invariant-loop l = All (λ a. IsTrue (is_actor_of l.spec a)) l.actors
