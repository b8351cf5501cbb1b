use Rattle.std.proofs.Common.{◌≢◌, ℕ, ◌<◌, ◌≤◌}
use Rattle.set_lists.specs.Placed.{key_at}
use Rattle.set_lists.proofs.scan.Given as goal

-- none of the slots before this one has it
abbrev pub invariant-loop-slot : goal.invariant-loop-slot
invariant-loop-slot l = (l.first ≤ l.slot) × ((before : ℕ) → l.first ≤ before → before < l.slot → key_at l.keys before ≢ l.wanted)
