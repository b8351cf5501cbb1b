use Rattle.std.proofs.Common.{ap, ◌∙◌}
use Rattle.link_list.specs.Linked.{Linked}
use Rattle.set_lists.specs.Inside.{shown}
use Rattle.set_lists.proofs.Finding.{in_range}
use Rattle.set_lists.proofs.Keeping.{placed-removed}
use Rattle.set_lists.proofs.SetLists.remove.Goals as goal

pub returns-clause-placed : goal.returns-clause-placed
returns-clause-placed c =
    placed-removed c.nodes_are_listed.ensures c.self.inside.ways c.self.inside.keys.items c.self.inside.order c.unlink.new.self c.args.slot (in_range (shown c.self.inside) c.self.invariant.placed c.args.set c.args.slot (rw (← c.self.view_is) at c.requires.set) (c.self.invariant.placed.own c.args.set c.args.slot (rw (← c.self.view_is) at c.requires.listed))) c.self.invariant.formed c.unlink.ensures.well_formed c.unlink.ensures.count c.unlink.ensures.free c.unlink.ensures.others c.self.invariant.placed

pub invariant_of-self : goal.invariant_of-self
invariant_of-self c = record {
  count = c.unlink.ensures.count ∙ c.self.invariant.count;
  few_sets = c.self.invariant.few_sets;
  few_ways = c.self.invariant.few_ways;
  nodes = ap (λ (v : Linked). v.nodes) c.unlink.ensures.unlinked ∙ c.self.invariant.nodes;
  formed = c.unlink.ensures.well_formed;
  placed = returns-clause-placed c;
}
