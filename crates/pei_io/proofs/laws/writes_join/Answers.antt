use Rattle.pei_io.proofs.Progress.{nothing_added}
use Rattle.pei_io.proofs.Joining.{writes_joined, first_stops, first_fails}
use Rattle.std.proofs.Common.{arith}
use Rattle.pei_io.proofs.laws.writes_join.Goals as goal

pub returns : goal.returns
returns c =
    record {
      joins = writes_joined;
      stops = first_stops;
      fails = first_fails;
      nothing = λ before faults done. (nothing_added before, omega arith);
      added = λ text before now faults faults_now done h. h.0;
    }
