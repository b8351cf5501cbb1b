use Rattle.std.specs.Prelude.{◌≡◌, ◌+◌, ◌≤◌, ◌++◌, length}
use Rattle.std.specs.List.{AllByRecursion}
use Rattle.fabric.proofs.splitting.follow.Given as goal

-- those that followed stand before those that are left
abbrev pub invariant-loop : goal.invariant-loop
invariant-loop l = record {
  whole : l.banks ++ l.sections ≡ l.fn.banks ++ l.fn.sections;
  left : length l.sections + l.counter ≡ length l.fn.sections;
  later : AllByRecursion (λ h. 1 ≤ h.bank) l.sections;
}
