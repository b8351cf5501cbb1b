use Rattle.std.proofs.Common.{◌∷◌, nat_eq}
use Rattle.std.proofs.lemmas.List.{length-map}
use Rattle.pei_types.specs.Recency.{without}
use Rattle.set_lists.specs.Laws.{SlotsFollow}
use Rattle.set_lists.proofs.Finding.{known}
use Rattle.set_lists.proofs.Listing.{touching, inserting, removing}
use Rattle.set_lists.proofs.Holding.{follows, absent_held, lacks_held, put_held, empty_held, same_change, stays_held, list_held, victim_held, room_left}
use Rattle.set_lists.proofs.Room.{making_room, keys_room, count_room, renewed_held}
use Rattle.set_lists.proofs.laws.sets_follow.Goals as goal
use Rattle.pei_types.proofs.Lists.{length-change_at}

slots_follow : SlotsFollow
slots_follow = record {
  touching = touching;
  inserting = inserting;
  removing = removing;
  making_room = making_room;
  keys_room = keys_room;
  count_room = count_room;
  count_touched = λ v set slot. length-change_at v.lists set (λ xs. slot ∷ without (nat_eq slot) xs);
  count_inserted = λ v set slot key. length-change_at v.lists set (λ xs. slot ∷ xs);
  count_removed = λ v set slot. length-change_at v.lists set (without (nat_eq slot));
}

pub returns : goal.returns
returns g c = record {
  follows = follows c.held_follow.ensures;
  slots = slots_follow;
  known = known;
  absent = absent_held;
  lacks = lacks_held;
  put = put_held c.held_follow.ensures;
  renewed = renewed_held c.held_follow.ensures;
  empty = empty_held;
  agree = same_change;
  stays = stays_held;
  at_set = list_held;
  count = λ hold lists. length-map lists _;
  as_many = λ hold xs. length-map xs hold;
  last = victim_held;
  room = room_left;
}
