use Rattle.std.proofs.Common.{length, sym, ◌∙◌, ap, arith, length-append}
use Rattle.fabric.proofs.splitting.follow.Goals as goal

pub push-requires : goal.push-requires
push-requires c =
    let i = c.loop.invariant
    in let sizes = sym (length-append c.loop.banks c.loop.sections) ∙ ap length i.whole ∙ length-append c.args.banks.now c.args.sections.now
    in omega (arith, sizes, i.left, c.requires.few, c.len-end.ensures.number, c.loop-test.true)
