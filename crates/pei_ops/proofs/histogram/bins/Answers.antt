use Rattle.std.proofs.Common.{◌≡◌, ◌+◌, ◌-◌, arith}
use Rattle.pei_ops.proofs.Bytes.{bins-more, bins_all}
use Rattle.pei_ops.proofs.histogram.bins.Goals as goal

pub loop-k-preserved : goal.loop-k-preserved
loop-k-preserved c =
    let place : c.args.first + c.loop-k.k ≡ c.args.first + (c.loop-k.k - 1) + 1 = omega arith in
    let behind = rw place at c.loop-k.invariant in
    rw (c.from-bin.ensures, c.half_word.ensures)
    (bins-more c.args.shift c.args.words.now (c.args.first + (c.loop-k.k - 1)) (8 - (c.loop-k.k - 1)) (8 - c.loop-k.k) c.loop-k.bytes (omega arith) (omega arith) behind)

pub returns : goal.returns
returns c = bins_all c.args.shift c.args.words.now c.args.first c.loop-k.k c.loop-k.bytes (omega arith) c.loop-k.invariant
