use Rattle.std.proofs.Common.{true, false, ap, sym, ◌∙◌, arith, refl}
use Rattle.std.specs.Prelude.{slice_set}
use Rattle.pei_types.specs.Monitor.{MonitorEntry, after_placement}
use Rattle.set_lists.specs.Placed.{touched, inserted, room_made}
use Rattle.set_lists.specs.Laws.{held}
use Rattle.locality_monitor.specs.Inside.{entry_at, table_of}
use Rattle.locality_monitor.proofs.Looking.{place_at, place_absent, flag_read, tag_at}
use Rattle.locality_monitor.proofs.Changing.{table_changes, ways_made, added, placed_clear, placed_set, placed_new}
use Rattle.locality_monitor.proofs.Keeping.{kept_changed, kept_touched, kept_new}
use Rattle.locality_monitor.proofs.Monitor.place.Goals as goal

pub returns-then-not-entry-clause-place : goal.returns-then-not-entry-clause-place
returns-then-not-entry-clause-place c =
    let clear = flag_read c.self.inside.tags c.self.inside.entries.items c.self.invariant c.in-Some.slot c.index-entry.result.now (record { tag = c.entry.inside.tag; flag = c.entry.inside.flag }) c.in-Some.ensures.range c.index-entry.ensures c.entry.view_is ∙ c.if-not-entry.true
    in rw (← c.self.view_is) (sym (place_at c.sets_follow.ensures c.self.inside.tags c.self.inside.entries.items c.self.invariant c.args.b c.home-set.result c.partial_tag-tag.result c.in-Some.slot false c.home-set.ensures.home c.partial_tag-tag.ensures c.home-set.ensures.within c.in-Some.ensures.at clear))

pub returns-then-not-entry-clause-placed : goal.returns-then-not-entry-clause-placed
returns-then-not-entry-clause-placed c =
    let v = c.self.inside.tags
    in let entries = c.self.inside.entries.items
    in let clear = flag_read c.self.inside.tags c.self.inside.entries.items c.self.invariant c.in-Some.slot c.index-entry.result.now (record { tag = c.entry.inside.tag; flag = c.entry.inside.flag }) c.in-Some.ensures.range c.index-entry.ensures c.entry.view_is ∙ c.if-not-entry.true
    in rw (← c.self.view_is) (table_changes c.sets_follow.ensures v entries c.args.b c.home-set.result c.partial_tag-tag.result (held (entry_at entries) v.lists) (after_placement v.ways) c.home-set.ensures.home c.partial_tag-tag.ensures
    (placed_clear c.sets_follow.ensures v entries c.self.invariant c.home-set.result c.partial_tag-tag.result c.in-Some.slot c.home-set.ensures.within c.in-Some.ensures.at clear))

pub returns-else-not-entry-clause-place : goal.returns-else-not-entry-clause-place
returns-else-not-entry-clause-place c =
    let set = flag_read c.self.inside.tags c.self.inside.entries.items c.self.invariant c.in-Some.slot c.index-entry.result.now (record { tag = c.entry.inside.tag; flag = c.entry.inside.flag }) c.in-Some.ensures.range c.index-entry.ensures c.entry.view_is ∙ c.if-not-entry.false
    in rw (← c.self.view_is) (sym (place_at c.sets_follow.ensures c.self.inside.tags c.self.inside.entries.items c.self.invariant c.args.b c.home-set.result c.partial_tag-tag.result c.in-Some.slot true c.home-set.ensures.home c.partial_tag-tag.ensures c.home-set.ensures.within c.in-Some.ensures.at set))

pub returns-else-not-entry-clause-placed : goal.returns-else-not-entry-clause-placed
returns-else-not-entry-clause-placed c =
    let v = c.self.inside.tags
    in let entries = c.self.inside.entries.items
    in let x : MonitorEntry = record { tag = c.partial_tag-tag.result; flag = false }
    in let set = flag_read c.self.inside.tags c.self.inside.entries.items c.self.invariant c.in-Some.slot c.index-entry.result.now (record { tag = c.entry.inside.tag; flag = c.entry.inside.flag }) c.in-Some.ensures.range c.index-entry.ensures c.entry.view_is ∙ c.if-not-entry.false
    in rw (← c.self.view_is) (ap (λ t. table_of t (slice_set entries c.in-Some.slot x)) c.touch.ensures.touched
    ∙ table_changes c.sets_follow.ensures v entries c.args.b c.home-set.result c.partial_tag-tag.result (held (entry_at (slice_set entries c.in-Some.slot x)) (touched v c.home-set.result c.in-Some.slot).lists) (after_placement v.ways) c.home-set.ensures.home c.partial_tag-tag.ensures
    (placed_set c.sets_follow.ensures v entries c.self.invariant c.home-set.result c.partial_tag-tag.result c.in-Some.slot x c.home-set.ensures.within c.in-Some.ensures.range c.in-Some.ensures.at set refl))

pub invariant_of-self : goal.invariant_of-self
invariant_of-self c =
    let v = c.self.inside.tags
    in let entries = c.self.inside.entries.items
    in let x : MonitorEntry = record { tag = c.partial_tag-tag.result; flag = false }
    in rw c.touch.ensures.touched (kept_touched c.sets_follow.ensures.slots v (slice_set entries c.in-Some.slot x) c.home-set.result c.in-Some.slot c.in-Some.ensures.at.listed (rw c.touch.ensures.touched at c.touch.ensures.placed)
    (kept_changed v entries c.in-Some.slot x (omega (arith, c.in-Some.ensures.range, c.self.invariant.room)) (sym (tag_at v entries c.self.invariant c.home-set.result c.partial_tag-tag.result c.in-Some.slot c.in-Some.ensures.at)) c.self.invariant))

pub invariant_of-self-in-None : goal.invariant_of-self-in-None
invariant_of-self-in-None c =
    rw c.renew-slot.ensures.renewed (kept_new c.sets_follow.ensures.slots c.self.inside.tags c.self.inside.entries.items c.home-set.result c.renew-slot.result (record { tag = c.partial_tag-tag.result; flag = true }) c.renew-slot.ensures.range c.renew-slot.ensures.free c.renew-slot.ensures.made
    (rw c.renew-slot.ensures.renewed at c.renew-slot.ensures.placed) c.self.invariant)

pub returns-in-None-clause-place : goal.returns-in-None-clause-place
returns-in-None-clause-place c =
    rw (← c.self.view_is) (sym (place_absent c.sets_follow.ensures c.self.inside.tags c.self.inside.entries.items c.self.invariant c.args.b c.home-set.result c.partial_tag-tag.result c.home-set.ensures.home c.partial_tag-tag.ensures (sym c.find.ensures.found ∙ c.in-None.is)))

pub returns-in-None-clause-placed : goal.returns-in-None-clause-placed
returns-in-None-clause-placed c =
    let v = c.self.inside.tags
    in let entries = c.self.inside.entries.items
    in let x : MonitorEntry = record { tag = c.partial_tag-tag.result; flag = true }
    in let sets = held (entry_at (slice_set entries c.renew-slot.result x)) (inserted (room_made v c.home-set.result) c.home-set.result c.renew-slot.result c.partial_tag-tag.result).lists
    in rw (← c.self.view_is) (ap (λ t. table_of t (slice_set entries c.renew-slot.result x)) c.renew-slot.ensures.renewed
    ∙ ap (λ w. record (table_of v entries) { ways = w; sets = sets }) (ways_made c.home-set.result v)
    ∙ table_changes c.sets_follow.ensures v entries c.args.b c.home-set.result c.partial_tag-tag.result sets (after_placement v.ways) c.home-set.ensures.home c.partial_tag-tag.ensures
    (placed_new c.sets_follow.ensures v entries c.self.invariant c.home-set.result c.partial_tag-tag.result sets (sym c.find.ensures.found ∙ c.in-None.is) (added c.sets_follow.ensures v entries c.self.invariant c.home-set.result c.partial_tag-tag.result c.renew-slot.result true c.renew-slot.ensures.made c.renew-slot.ensures.free c.renew-slot.ensures.range)))
