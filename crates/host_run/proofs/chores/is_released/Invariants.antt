use Rattle.std.proofs.Common.{ℕ, ◌<◌, ◌≤◌}
use Rattle.shared_table.specs.Own.{Has}
use Rattle.shared_table.specs.Parts.{claims}
use Rattle.shared_table.specs.declared.claims.Claim.TheVariants.{Free}
use Rattle.host_run.proofs.chores.is_released.Given as goal

-- the lanes below this one have nothing
abbrev pub invariant-loop-lane : goal.invariant-loop-lane
invariant-loop-lane g l = (1 ≤ l.lane) × ((n : ℕ) → 1 ≤ n → n < l.lane → Has (claims l.seat) n Free)
