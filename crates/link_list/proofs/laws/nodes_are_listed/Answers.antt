use Rattle.std.specs.Cmp.{nat_eq_equiv}
use Rattle.std.proofs.lemmas.Bool.{eqb-true}
use Rattle.std.proofs.lemmas.Map.Views.{list_any-from_Contains, Contains-from_any}
use Rattle.link_list.proofs.Followers.{has_node-place}
use Rattle.link_list.proofs.Changing.{list_of-none, list_of-some, list_of-free, list_of-found}
use Rattle.link_list.proofs.Orders.{place_of, once}
use Rattle.link_list.proofs.laws.nodes_are_listed.Goals as goal

pub returns : goal.returns
returns c = record {
  contains = λ xs node. (λ here. Contains-from_any eqb-true node xs here, λ here. list_any-from_Contains nat_eq_equiv node xs here);
  place = place_of;
  at_place = has_node-place;
  found = list_of-some;
  listed = list_of-found;
  absent = list_of-none;
  free = list_of-free;
  once = once;
}
