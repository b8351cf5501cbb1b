use Rattle.std.proofs.Common.{true, false, sym, ◌∙◌}
use Rattle.locality_monitor.proofs.Looking.{place_at, place_absent, flag_read}
use Rattle.locality_monitor.proofs.Monitor.placement.Goals as goal

pub returns-then-entry : goal.returns-then-entry
returns-then-entry c =
    let set = flag_read c.self.inside.tags c.self.inside.entries.items c.self.invariant c.in-Some.slot c.index-entry.result.now (record { tag = c.entry.inside.tag; flag = c.entry.inside.flag }) c.in-Some.ensures.range c.index-entry.ensures c.entry.view_is ∙ c.if-entry.true
    in rw (← c.self.view_is) (sym (place_at c.sets_follow.ensures c.self.inside.tags c.self.inside.entries.items c.self.invariant c.args.b c.home-set.result c.partial_tag-tag.result c.in-Some.slot true c.home-set.ensures.home c.partial_tag-tag.ensures c.home-set.ensures.within c.in-Some.ensures.at set))

pub returns : goal.returns
returns c =
    let clear = flag_read c.self.inside.tags c.self.inside.entries.items c.self.invariant c.in-Some.slot c.index-entry.result.now (record { tag = c.entry.inside.tag; flag = c.entry.inside.flag }) c.in-Some.ensures.range c.index-entry.ensures c.entry.view_is ∙ c.if-entry.false
    in rw (← c.self.view_is) (sym (place_at c.sets_follow.ensures c.self.inside.tags c.self.inside.entries.items c.self.invariant c.args.b c.home-set.result c.partial_tag-tag.result c.in-Some.slot false c.home-set.ensures.home c.partial_tag-tag.ensures c.home-set.ensures.within c.in-Some.ensures.at clear))

pub returns-in_default : goal.returns-in_default
returns-in_default c =
    rw (← c.self.view_is) (sym (place_absent c.sets_follow.ensures c.self.inside.tags c.self.inside.entries.items c.self.invariant c.args.b c.home-set.result c.partial_tag-tag.result c.home-set.ensures.home c.partial_tag-tag.ensures (sym c.find.ensures.found ∙ c.in_default.is)))
