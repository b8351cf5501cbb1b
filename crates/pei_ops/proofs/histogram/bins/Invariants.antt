use Rattle.std.proofs.Common.{◌≡◌, ◌+◌, ◌-◌}
use Rattle.pei_types.specs.Operation.{bins}
use Rattle.pei_ops.proofs.histogram.bins.Given as goal

-- the bins from k on are there
abbrev pub invariant-loop-k : goal.invariant-loop-k
invariant-loop-k l = l.bytes ≡ bins l.shift l.words (l.first + l.k) (8 - l.k)
