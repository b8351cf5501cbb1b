use Rattle.std.proofs.Common.{nat_eq, ◌++◌, ◌∷◌, []}
use Rattle.std.proofs.lemmas.List.{length-map}
use Rattle.pei_types.specs.Recency.{without, to_front}
use Rattle.link_list.proofs.Changing.{list_at-change_at_other}
use Rattle.link_list.proofs.Formed.{list_at-unlinked, list_at-moved_front}
use Rattle.link_list.proofs.Orders.{unlinked_other, moved_other, moved_one}
use Rattle.link_list.proofs.laws.lists_change.Goals as goal
use Rattle.pei_types.proofs.Lists.{length-change_at, list_at-change_at_same, change_at-change_at}

pub returns : goal.returns
returns c = record {
  front_same = λ v list node on. list_at-change_at_same v.lists list (λ xs. node ∷ xs) on;
  front_other = λ v list node other apart. list_at-change_at_other v.lists list other (λ xs. node ∷ xs) apart;
  back_same = λ v list node on. list_at-change_at_same v.lists list (λ xs. xs ++ node ∷ []) on;
  back_other = λ v list node other apart. list_at-change_at_other v.lists list other (λ xs. xs ++ node ∷ []) apart;
  unlinked_each = list_at-unlinked;
  unlinked_other = unlinked_other;
  moved_each = list_at-moved_front;
  moved_other = moved_other;
  moved_one = moved_one;
  twice = change_at-change_at;
  count_front = λ v list node. length-change_at v.lists list (λ xs. node ∷ xs);
  count_back = λ v list node. length-change_at v.lists list (λ xs. xs ++ node ∷ []);
  count_unlinked = λ v node. length-map v.lists (without (nat_eq node));
  count_moved = λ v node. length-map v.lists (to_front (nat_eq node));
}
