use Rattle.link_list.proofs.Orders.{length-within, length-pushed_front, length-pushed_back, length-unlinked, length-moved_front}
use Rattle.link_list.proofs.laws.lengths_after.Goals as goal

pub returns : goal.returns
returns c = record {
  within = length-within;
  pushed_front_more = length-pushed_front;
  pushed_back_more = length-pushed_back;
  unlinked_less = length-unlinked;
  moved_same = length-moved_front;
}
