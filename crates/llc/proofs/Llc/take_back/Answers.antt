use Rattle.std.proofs.Common.{◌%◌, length, refl, ap}
use Rattle.pei_types.specs.declared.operations.Mark.TheVariants as mark
use Rattle.pei_types.specs.declared.lines.HeldLine.{HeldLine}
use Rattle.llc.proofs.Looking.{line_read}
use Rattle.llc.proofs.Changing.{dirty_is}
use Rattle.llc.proofs.Llc.take_back.Goals as goal

pub returns : goal.returns
returns c =
    let old = c.index_mut-line.result.now
    in rw (← c.self.view_is) (dirty_is c.sets_follow.ensures c.self.inside.tags c.self.inside.lines.items c.self.invariant c.args.b (c.args.b.0 % length c.self.inside.tags.lists) c.place-slot.result c.args.block.now (record { block = old.block; mark = mark.Dirty; content = c.args.block.now }) refl c.place-slot.ensures.within c.place-slot.ensures.range c.place-slot.ensures.at
    (ap (λ (y : HeldLine). record { block = y.block; mark = mark.Dirty; content = c.args.block.now }) (line_read c.self.inside.tags c.self.inside.lines.items c.self.invariant c.place-slot.result old c.place-slot.ensures.range c.index_mut-line.ensures.value)))
