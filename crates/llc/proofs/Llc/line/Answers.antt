use Rattle.std.proofs.Common.{◌%◌, length, refl}
use Rattle.llc.proofs.Looking.{content_read}
use Rattle.llc.proofs.Llc.line.Goals as goal

pub returns : goal.returns
returns c = rw (← c.self.view_is) (content_read c.sets_follow.ensures c.self.inside.tags c.self.inside.lines.items c.self.invariant c.args.b (c.args.b.0 % length c.self.inside.tags.lists) c.place-slot.result c.index.result.now refl c.place-slot.ensures.within c.place-slot.ensures.range c.place-slot.ensures.at c.index.ensures)
