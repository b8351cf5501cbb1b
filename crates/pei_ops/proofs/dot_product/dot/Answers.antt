use Rattle.std.proofs.Common.{arith, ap, ◌∙◌, to_z, of_z, w64}
use Rattle.std.proofs.lemmas.Int.{ints}
use Rattle.pei_types.specs.Operation.{dot, one_word, product_at}
use Rattle.pei_ops.proofs.Products.{IsSumBelow-more, IsSumBelow_all}
use Rattle.pei_ops.proofs.dot_product.dot.Goals as goal

pub overflow_add-sum : goal.overflow_add-sum
overflow_add-sum c = omega (arith, ints)

pub loop-i-preserved : goal.loop-i-preserved
loop-i-preserved c = record {
  whole =
      IsSumBelow-more (product_at c.args.words.now c.args.operands.now) c.loop-i.i (to_z w64 c.loop-i.sum-bits) c.product_at-sum.result _
      c.loop-i.invariant.whole c.product_at-sum.ensures.value (omega (arith, ints));
  at_least = omega (arith, ints);
  at_most = omega (arith, ints);
}

pub returns : goal.returns
unfolding dot
returns c =
    let all = IsSumBelow_all (product_at c.args.words.now c.args.operands.now) c.loop-i.i (to_z w64 c.loop-i.sum-bits) (omega arith) c.loop-i.invariant.whole in
    c.one_word.ensures ∙ ap one_word (c.cast_unsigned.ensures ∙ ap (of_z w64) all)
