use Rattle.std.proofs.Common.{sym, ◌∙◌}
use Rattle.llc.proofs.Looking.{found_room}
use Rattle.llc.proofs.Llc.room_for.Goals as goal

pub returns-then-is_some : goal.returns-then-is_some
returns-then-is_some c =
    rw (← c.self.view_is) (found_room c.sets_follow.ensures c.self.inside.tags c.self.inside.lines.items c.self.invariant c.args.b c.home-set.result c.home-set.ensures.home c.home-set.ensures.within c.find.result c.find.ensures.at (sym c.is_some.ensures ∙ c.if-is_some.true))
