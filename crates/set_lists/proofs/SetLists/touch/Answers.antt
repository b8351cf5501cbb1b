use Rattle.std.proofs.Common.{ap, ◌∙◌}
use Rattle.link_list.specs.Linked.{Linked}
use Rattle.set_lists.proofs.Keeping.{placed-touched}
use Rattle.set_lists.proofs.SetLists.touch.Goals as goal

pub returns-clause-placed : goal.returns-clause-placed
returns-clause-placed c =
    placed-touched c.nodes_are_listed.ensures c.self.inside.ways c.self.inside.keys.items c.self.inside.order c.move_front.new.self c.self.invariant.formed c.move_front.ensures.well_formed c.move_front.ensures.count c.move_front.ensures.same c.self.invariant.placed

pub invariant_of-self : goal.invariant_of-self
invariant_of-self c = record {
  count = c.move_front.ensures.count ∙ c.self.invariant.count;
  few_sets = c.self.invariant.few_sets;
  few_ways = c.self.invariant.few_ways;
  nodes = ap (λ (v : Linked). v.nodes) c.move_front.ensures.moved ∙ c.self.invariant.nodes;
  formed = c.move_front.ensures.well_formed;
  placed = returns-clause-placed c;
}
