use Rattle.std.specs.Prelude.{◌≡◌, ◌+◌, ◌++◌, length, vec_capacity}
use Rattle.fabric.proofs.splitting.gather.Given as goal

-- those that were gathered stand before those that are left
abbrev pub invariant-loop : goal.invariant-loop
invariant-loop l = record {
  whole : l.sections.items ++ l.banks ≡ l.fn.sections.items ++ l.fn.banks;
  left : length l.banks + l.counter ≡ length l.fn.banks;
  room : vec_capacity l.sections ≡ vec_capacity l.fn.sections;
}
