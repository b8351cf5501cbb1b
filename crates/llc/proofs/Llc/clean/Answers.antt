use Rattle.std.proofs.Common.{◌%◌, length, refl, ap}
use Rattle.pei_types.specs.declared.operations.Mark.TheVariants as mark
use Rattle.pei_types.specs.declared.lines.HeldLine.{HeldLine}
use Rattle.llc.proofs.Looking.{line_read, content_read}
use Rattle.llc.proofs.Changing.{clean_is}
use Rattle.llc.proofs.Llc.clean.Goals as goal

pub returns-clause-content : goal.returns-clause-content
returns-clause-content c = rw (← c.self.view_is) (content_read c.sets_follow.ensures c.self.inside.tags c.self.inside.lines.items c.self.invariant c.args.b (c.args.b.0 % length c.self.inside.tags.lists) c.place-slot.result c.index_mut-line.result.now refl c.place-slot.ensures.within c.place-slot.ensures.range c.place-slot.ensures.at c.index_mut-line.ensures.value)

pub returns-clause-cleaned : goal.returns-clause-cleaned
returns-clause-cleaned c =
    let old = c.index_mut-line.result.now
    in rw (← c.self.view_is) (clean_is c.sets_follow.ensures c.self.inside.tags c.self.inside.lines.items c.self.invariant c.args.b (c.args.b.0 % length c.self.inside.tags.lists) c.place-slot.result (record { block = old.block; mark = mark.Clean; content = old.content }) refl c.place-slot.ensures.within c.place-slot.ensures.range c.place-slot.ensures.at
    (ap (λ (y : HeldLine). record { block = y.block; mark = mark.Clean; content = y.content }) (line_read c.self.inside.tags c.self.inside.lines.items c.self.invariant c.place-slot.result old c.place-slot.ensures.range c.index_mut-line.ensures.value)))
