use Rattle.link_list.proofs.Orders.{unlinked_rest, moved_rest, unlinked_back, filter-without, filter-to_front}
use Rattle.link_list.proofs.laws.order_stays.Goals as goal

pub returns : goal.returns
returns c = record {
  unlinked_rest = unlinked_rest;
  moved_rest = moved_rest;
  unlinked_back = unlinked_back;
  unlinked_filtered = filter-without;
  moved_filtered = filter-to_front;
}
