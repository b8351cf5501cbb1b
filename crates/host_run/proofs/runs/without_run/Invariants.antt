use Rattle.std.specs.Prelude.{◌≡◌, ◌++◌, length, map}
use Rattle.host_run.proofs.runs.without_run.Given as goal

-- the banks so far, and those that are left behind slots
abbrev pub invariant-loop-slot : goal.invariant-loop-slot
invariant-loop-slot g l = l.banks ++ map (λ s. s.bank.value) l.slots ≡ map (λ s. s.bank.value) l.fn.slots

abbrev pub decreases-loop-slot : goal.decreases-loop-slot
decreases-loop-slot g l = length l.slots
