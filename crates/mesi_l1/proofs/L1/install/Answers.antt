use Rattle.std.proofs.Common.{ap, ◌∙◌, sym}
use Rattle.std.specs.Prelude.{slice_set}
use Rattle.set_lists.specs.Placed.{Placed}
use Rattle.mesi_l1.specs.Cache.{with_front}
use Rattle.mesi_l1.specs.Inside.{shown, cache_of}
use Rattle.mesi_l1.proofs.Looking.{lacks_block, has_room}
use Rattle.mesi_l1.proofs.Changing.{put_is}
use Rattle.mesi_l1.proofs.Keeping.{kept_inserted}
use Rattle.mesi_l1.proofs.L1.install.Goals as goal

pub insert-slot-requires-clause-absent : goal.insert-slot-requires-clause-absent
insert-slot-requires-clause-absent c =
    lacks_block c.sets_follow.ensures c.self.inside.tags c.self.inside.lines.items c.self.invariant c.args.b c.home-set.result c.home-set.ensures.home c.home-set.ensures.within (rw (← c.self.view_is) at c.requires.absent)

pub insert-slot-requires-clause-room : goal.insert-slot-requires-clause-room
insert-slot-requires-clause-room c =
    has_room c.sets_follow.ensures c.self.inside.tags c.self.inside.lines.items c.self.invariant c.args.b c.home-set.result c.home-set.ensures.home c.home-set.ensures.within (rw (← c.self.view_is) at c.requires.absent) (rw (← c.self.view_is) at c.requires.room)

pub invariant_of-self : goal.invariant_of-self
invariant_of-self c =
    rw c.insert-slot.ensures.inserted (kept_inserted c.sets_follow.ensures.slots c.self.inside.tags c.self.inside.lines.items c.home-set.result c.insert-slot.result (record { block = c.args.b; letter = c.args.letter; content = c.args.block.now })
    c.insert-slot.ensures.range c.insert-slot.ensures.free c.home-set.ensures.home c.requires.letter (rw c.insert-slot.ensures.inserted at c.insert-slot.ensures.placed) c.self.invariant)

pub returns-clause-lines : goal.returns-clause-lines
returns-clause-lines c =
    rw (← c.self.view_is) (ap (λ v. cache_of v (slice_set c.self.inside.lines.items c.insert-slot.result (record { block = c.args.b; letter = c.args.letter; content = c.args.block.now }))) c.insert-slot.ensures.inserted
    ∙ put_is c.sets_follow.ensures c.self.inside.tags c.self.inside.lines.items c.self.invariant c.args.b c.home-set.result c.insert-slot.result c.args.letter c.args.block.now c.home-set.ensures.home c.insert-slot.ensures.range (lacks_block c.sets_follow.ensures c.self.inside.tags c.self.inside.lines.items c.self.invariant c.args.b c.home-set.result c.home-set.ensures.home c.home-set.ensures.within (rw (← c.self.view_is) at c.requires.absent)) c.insert-slot.ensures.free
    ∙ ap (λ k. record (with_front (shown c.self.inside) c.args.b c.args.letter c.args.block.now) { slots = k }) (ap (λ (v : Placed). v.keys) (sym c.insert-slot.ensures.inserted)))
