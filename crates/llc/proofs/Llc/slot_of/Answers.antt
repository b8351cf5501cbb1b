use Rattle.std.proofs.Common.{◌%◌, length, refl}
use Rattle.llc.proofs.Looking.{only_slot}
use Rattle.llc.proofs.Llc.slot_of.Goals as goal

pub returns-clause-only : goal.returns-clause-only
returns-clause-only c = rw (← c.self.view_is) (only_slot c.self.inside.tags c.self.inside.lines.items c.self.invariant c.args.b (c.args.b.0 % length c.self.inside.tags.lists) c.place.result refl c.place.ensures.at)
