use Rattle.std.specs.Prelude.{◌≡◌, ◌+◌, ◌++◌, length, vec_capacity}
use Rattle.fabric.proofs.splitting.take_all.Given as goal

-- those that were taken stand before those that are left
abbrev pub invariant-loop : goal.invariant-loop
invariant-loop l = record {
  whole : l.taken ++ l.sections.items ≡ l.fn.sections.items;
  left : length l.sections.items + l.counter ≡ l.count;
  room : vec_capacity l.sections ≡ vec_capacity l.fn.sections;
}
