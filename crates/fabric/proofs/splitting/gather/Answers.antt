use Rattle.std.proofs.Common.{length, sym, ◌∙◌, ap, arith, length-append}
use Rattle.fabric.proofs.splitting.gather.Goals as goal

pub push_reserved-requires : goal.push_reserved-requires
push_reserved-requires c =
    let i = c.loop.invariant
    in let sizes = sym (length-append c.loop.sections.items c.loop.banks) ∙ ap length i.whole ∙ length-append c.args.sections.now.items c.args.banks.now
    in omega (arith, c.loop.sections.ok.0, sizes, i.left, i.room, c.requires.room, c.len-end.ensures.number, c.loop-test.true)
