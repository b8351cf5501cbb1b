use Rattle.llc.proofs.Looking.{mark_read}
use Rattle.llc.proofs.Llc.mark.Goals as goal

pub returns-in-Some : goal.returns-in-Some
returns-in-Some c =
    rw (← c.self.view_is) (mark_read c.sets_follow.ensures c.self.inside.tags c.self.inside.lines.items c.self.invariant c.args.b c.home.result c.in-Some.slot c.index.result.now c.home.ensures.home c.home.ensures.within c.in-Some.ensures.range c.in-Some.ensures.at c.index.ensures)
