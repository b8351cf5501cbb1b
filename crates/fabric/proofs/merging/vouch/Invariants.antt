use Rattle.std.specs.Prelude.{take}
use Rattle.std.specs.List.{AllByRecursion}
use Rattle.fabric.specs.Merge.{IsVouched}
use Rattle.fabric.proofs.merging.vouch.Given as goal

-- each bank so far vouches
abbrev pub invariant-loop-place : goal.invariant-loop-place
invariant-loop-place l = AllByRecursion IsVouched (take l.place l.banks)
