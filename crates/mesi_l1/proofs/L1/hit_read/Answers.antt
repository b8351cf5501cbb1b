use Rattle.std.proofs.Common.{◌%◌, length, ap, ◌∙◌, refl}
use Rattle.mesi_l1.specs.Inside.{cache_of}
use Rattle.mesi_l1.proofs.Looking.{content_read}
use Rattle.mesi_l1.proofs.Changing.{touch_is}
use Rattle.mesi_l1.proofs.L1.hit_read.Goals as goal

pub returns-clause-content : goal.returns-clause-content
returns-clause-content c =
    rw (← c.self.view_is) (content_read c.sets_follow.ensures c.self.inside.tags c.self.inside.lines.items c.self.invariant c.args.b (c.args.b.0 % length c.self.inside.tags.lists) c.bring_front-slot.result c.index.result.now refl c.bring_front-slot.ensures.within c.bring_front-slot.ensures.range c.bring_front-slot.ensures.at c.index.ensures)

pub returns-clause-touched : goal.returns-clause-touched
returns-clause-touched c =
    rw (← c.self.view_is) (ap (λ v. cache_of v c.self.inside.lines.items) c.bring_front-slot.ensures.touched
    ∙ touch_is c.sets_follow.ensures c.self.inside.tags c.self.inside.lines.items c.self.invariant c.args.b (c.args.b.0 % length c.self.inside.tags.lists) c.bring_front-slot.result refl c.bring_front-slot.ensures.within c.bring_front-slot.ensures.at)
