use Rattle.link_list.proofs.Formed.{pushed_front-well_formed, pushed_back-well_formed, unlinked-well_formed}
use Rattle.link_list.proofs.Orders.{moved_front-well_formed}
use Rattle.link_list.proofs.laws.form_stays.Goals as goal

pub returns : goal.returns
returns c = record {
  pushed_front_formed = pushed_front-well_formed;
  pushed_back_formed = pushed_back-well_formed;
  unlinked_formed = unlinked-well_formed;
  moved_front_formed = moved_front-well_formed;
}
