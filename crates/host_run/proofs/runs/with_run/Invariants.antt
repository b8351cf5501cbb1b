use Rattle.std.specs.Prelude.{◌≡◌, ◌++◌, length, map}
use Rattle.fabric.specs.Banks.{banks_at_start}
use Rattle.host_run.proofs.runs.with_run.Given as goal

-- the banks so far, and those that are left
abbrev pub invariant-loop-bank : goal.invariant-loop-bank
invariant-loop-bank g l = map (λ s. s.bank.value) l.slots ++ l.banks ≡ banks_at_start g.L.Run.machine g.L.Run.image

abbrev pub decreases-loop-bank : goal.decreases-loop-bank
decreases-loop-bank g l = length l.banks
