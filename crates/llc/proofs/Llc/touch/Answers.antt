use Rattle.std.proofs.Common.{◌%◌, length, ap, ◌∙◌, refl}
use Rattle.llc.specs.Inside.{cache_of}
use Rattle.llc.proofs.Changing.{touch_is}
use Rattle.llc.proofs.Llc.touch.Goals as goal

pub returns : goal.returns
returns c =
    rw (← c.self.view_is) (ap (λ v. cache_of v c.self.inside.lines.items) c.bring_front.ensures.touched
    ∙ touch_is c.sets_follow.ensures c.self.inside.tags c.self.inside.lines.items c.self.invariant c.args.b (c.args.b.0 % length c.self.inside.tags.lists) c.bring_front.result refl c.bring_front.ensures.within c.bring_front.ensures.at)
