use Rattle.std.proofs.Common.{ap, sym, ◌∙◌}
use Rattle.set_lists.specs.Placed.{without_victim}
use Rattle.set_lists.proofs.Room.{room_is_made, still_lacks}
use Rattle.set_lists.proofs.SetLists.make_room.Goals as goal

pub returns-in-Some-clause-room : goal.returns-in-Some-clause-room
returns-in-Some-clause-room c =
    rw (c.remove.ensures.removed ∙ ap (without_victim c.args.self.now c.args.set) (sym c.in-Some.is ∙ c.victim.ensures.last)) (room_is_made c.args.self.now c.victim.ensures.placed c.args.set c.requires)

pub returns-in-Some-clause-lacks : goal.returns-in-Some-clause-lacks
returns-in-Some-clause-lacks c =
    rw (c.remove.ensures.removed ∙ ap (without_victim c.args.self.now c.args.set) (sym c.in-Some.is ∙ c.victim.ensures.last)) (λ key. still_lacks c.args.self.now c.victim.ensures.placed c.args.set key)

pub returns-in-None-clause-room : goal.returns-in-None-clause-room
returns-in-None-clause-room c =
    rw (ap (without_victim c.args.self.now c.args.set) (sym c.in-None.is ∙ c.victim.ensures.last)) (room_is_made c.args.self.now c.victim.ensures.placed c.args.set c.requires)
