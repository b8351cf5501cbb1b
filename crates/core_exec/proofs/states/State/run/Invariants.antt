use Rattle.std.proofs.Common.{◌≡◌, ◌-◌, None}
use Rattle.pei_types.specs.Core.{at_stop}
use Rattle.core_exec.proofs.states.State.run.Given as goal

abbrev pub invariant-loop-next : goal.invariant-loop-next
invariant-loop-next l =
    record {
      same_stop : at_stop l.program l.config l.initial.self ≡ at_stop l.program l.config l.self;
      not_ended : l.self.ended ≡ None;
      not_raced : l.self.raced ≡ None;
    }

abbrev pub decreases-loop-next : goal.decreases-loop-next
decreases-loop-next l = l.config.fuel - l.self.retired
