use Rattle.trace_check.specs.Laws.{Rests}
use Rattle.trace_check.proofs.Failing.{actor_fails, fails_first, replies_fail}
use Rattle.trace_check.proofs.Judging.{meets_all}
use Rattle.trace_check.proofs.laws.state_tells.Goals as goal

pub returns : goal.returns
returns c =
    let laws : Rests = record {
      agreement = c.agreement_tells.ensures;
      exclusion = c.exclusion_tells.ensures;
      fitting = c.fitting_events_meet.ensures;
      lanes = c.lanes_hold_peis.ensures;
      rows = c.rows_meet_all.ensures;
    }
    in record {
      meets = meets_all laws.rows;
      replies = replies_fail laws;
      actor = actor_fails laws;
      fails = fails_first laws;
    }
