use Rattle.set_lists.proofs.Room.{count_room}
use Rattle.set_lists.proofs.SetLists.renew.Goals as goal

pub insert-requires-clause-set : goal.insert-requires-clause-set
insert-requires-clause-set c = rw (c.make_room.ensures.made, count_room c.args.self.now c.args.set) c.requires.set
