use Rattle.std.proofs.Common.{◌*◌, ◌^◌, ◌≤ℤ◌, pos, neg_ℤ}
use Rattle.pei_types.specs.Operation.{product_at}
use Rattle.pei_ops.proofs.Products.{IsSumBelow}
use Rattle.pei_ops.proofs.dot_product.dot.Given as goal

-- each product so far is at most 2^46 in size
abbrev pub invariant-loop-i : goal.invariant-loop-i
invariant-loop-i l = record {
  whole : IsSumBelow (product_at l.words l.operands) l.i l.sum;
  at_least : neg_ℤ (pos (l.i * 2 ^ 46)) ≤ℤ l.sum;
  at_most : l.sum ≤ℤ pos (l.i * 2 ^ 46);
}
