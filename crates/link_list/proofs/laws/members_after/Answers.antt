use Rattle.link_list.proofs.Formed.{list_of-pushed_front_same, list_of-pushed_front_other, list_of-pushed_back_same, list_of-pushed_back_other, list_of-unlinked_same, list_of-unlinked_other}
use Rattle.link_list.proofs.Orders.{list_of-moved_front}
use Rattle.link_list.proofs.laws.members_after.Goals as goal

pub returns : goal.returns
returns c = record {
  pushed_front_node = list_of-pushed_front_same;
  pushed_front_other = list_of-pushed_front_other;
  pushed_back_node = list_of-pushed_back_same;
  pushed_back_other = list_of-pushed_back_other;
  unlinked_node = list_of-unlinked_same;
  unlinked_other = list_of-unlinked_other;
  moved_front_each = list_of-moved_front;
}
