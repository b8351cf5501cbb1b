use Rattle.history_laws.proofs.Derived.{look_found, look_lost, look_follows, conflict_agrees, unfinished_agrees, unentered_agrees, active_agrees, all_left_agrees, look_tracked, look_same, ids_distinct, fence_agrees}
use Rattle.history_laws.proofs.laws.agreement_tells.Goals as goal

pub returns : goal.returns
returns c = record {
  races = conflict_agrees;
  unfinished = unfinished_agrees;
  unentered = unentered_agrees;
  active = active_agrees;
  drained = all_left_agrees;
  looks = look_tracked;
  one = look_same;
  distinct = ids_distinct;
  found = look_found;
  lost = look_lost;
  follows = look_follows;
  fence = fence_agrees;
}
