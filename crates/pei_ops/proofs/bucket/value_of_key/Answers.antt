use Rattle.std.proofs.Common.{arith, ◌+◌, ◌-◌}
use Rattle.pei_ops.proofs.Buckets.{value_of_key-more}
use Rattle.std.proofs.lemmas.Bool.Decides.{nat_tests}
use Rattle.pei_ops.proofs.bucket.value_of_key.Goals as goal

pub returns-then-words-pair : goal.returns-then-words-pair
returns-then-words-pair c =
    let more = value_of_key-more c.args.key (c.args.count - c.loop-pair.pair) (c.args.count - (c.loop-pair.pair + 1)) c.loop-pair.pair c.args.words.now (omega arith) (omega arith) in
    grind (arith, nat_tests)

pub loop-pair-preserved : goal.loop-pair-preserved
loop-pair-preserved c =
    let more = value_of_key-more c.args.key (c.args.count - c.loop-pair.pair) (c.args.count - (c.loop-pair.pair + 1)) c.loop-pair.pair c.args.words.now (omega arith) (omega arith) in
    grind (arith, nat_tests)
