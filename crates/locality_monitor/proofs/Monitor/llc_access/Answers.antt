use Rattle.std.proofs.Common.{false, ap, sym, ◌∙◌}
use Rattle.std.specs.Prelude.{slice_set}
use Rattle.pei_types.specs.Monitor.{MonitorEntry, after_access}
use Rattle.set_lists.specs.Placed.{touched, inserted, room_made}
use Rattle.set_lists.specs.Laws.{held}
use Rattle.locality_monitor.specs.Inside.{entry_at, table_of}
use Rattle.locality_monitor.proofs.Changing.{table_changes, ways_made, added, access_hits, access_misses}
use Rattle.locality_monitor.proofs.Keeping.{kept_new}
use Rattle.locality_monitor.proofs.Monitor.llc_access.Goals as goal

pub returns-in-Some : goal.returns-in-Some
returns-in-Some c =
    let v = c.self.inside.tags
    in let entries = c.self.inside.entries.items
    in rw (← c.self.view_is) (ap (λ t. table_of t entries) c.touch.ensures.touched
    ∙ table_changes c.sets_follow.ensures v entries c.args.b c.home-set.result c.partial_tag-tag.result (held (entry_at entries) (touched v c.home-set.result c.in-Some.slot).lists) (after_access v.ways) c.home-set.ensures.home c.partial_tag-tag.ensures
    (access_hits c.sets_follow.ensures v entries c.self.invariant c.home-set.result c.partial_tag-tag.result c.in-Some.slot c.home-set.ensures.within c.in-Some.ensures.at))

pub invariant_of-self-in-None : goal.invariant_of-self-in-None
invariant_of-self-in-None c =
    rw c.renew-slot.ensures.renewed (kept_new c.sets_follow.ensures.slots c.self.inside.tags c.self.inside.entries.items c.home-set.result c.renew-slot.result (record { tag = c.partial_tag-tag.result; flag = false }) c.renew-slot.ensures.range c.renew-slot.ensures.free c.renew-slot.ensures.made
    (rw c.renew-slot.ensures.renewed at c.renew-slot.ensures.placed) c.self.invariant)

pub returns-in-None : goal.returns-in-None
returns-in-None c =
    let v = c.self.inside.tags
    in let entries = c.self.inside.entries.items
    in let x : MonitorEntry = record { tag = c.partial_tag-tag.result; flag = false }
    in let sets = held (entry_at (slice_set entries c.renew-slot.result x)) (inserted (room_made v c.home-set.result) c.home-set.result c.renew-slot.result c.partial_tag-tag.result).lists
    in rw (← c.self.view_is) (ap (λ t. table_of t (slice_set entries c.renew-slot.result x)) c.renew-slot.ensures.renewed
    ∙ ap (λ w. record (table_of v entries) { ways = w; sets = sets }) (ways_made c.home-set.result v)
    ∙ table_changes c.sets_follow.ensures v entries c.args.b c.home-set.result c.partial_tag-tag.result sets (after_access v.ways) c.home-set.ensures.home c.partial_tag-tag.ensures
    (access_misses c.sets_follow.ensures v entries c.self.invariant c.home-set.result c.partial_tag-tag.result sets (sym c.find.ensures.found ∙ c.in-None.is) (added c.sets_follow.ensures v entries c.self.invariant c.home-set.result c.partial_tag-tag.result c.renew-slot.result false c.renew-slot.ensures.made c.renew-slot.ensures.free c.renew-slot.ensures.range)))
