use Rattle.std.proofs.Common.{◌≡◌, ◌≤◌, ℕ, List, ◌++◌, length}
use Rattle.pei_io.specs.Outside.{Added}
use Rattle.pei_io.proofs.sink.write_all.Given as goal

abbrev pub invariant-loop-rest : goal.invariant-loop-rest
invariant-loop-rest g l = record {
  done : List ℕ;
  whole : done ++ l.rest ≡ l.piece;
  added : Added done (g.K.Sink.written l.initial.sink) (g.K.Sink.written l.sink);
  rising : g.K.Sink.faults l.initial.sink ≤ g.K.Sink.faults l.sink;
}

abbrev pub decreases-loop-rest : goal.decreases-loop-rest
decreases-loop-rest g l = length l.rest
