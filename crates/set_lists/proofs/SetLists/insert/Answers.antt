use Rattle.std.proofs.Common.{ap, ◌∙◌, arith}
use Rattle.link_list.specs.Linked.{Linked}
use Rattle.set_lists.specs.Inside.{shown}
use Rattle.set_lists.proofs.Keeping.{placed-inserted}
use Rattle.set_lists.proofs.Finding.{in_range, not_listed, full, lacks_key}
use Rattle.set_lists.proofs.SetLists.insert.Goals as goal

pub push_front-requires-clause-free : goal.push_front-requires-clause-free
push_front-requires-clause-free c =
    c.nodes_are_listed.ensures.free c.self.inside.order c.in-Some.slot (λ set. not_listed (shown c.self.inside) c.self.invariant.placed set c.in-Some.slot (rw c.deref.ensures.value at c.in-Some.ensures.found.2))

pub unreachable-requires : goal.unreachable-requires
unreachable-requires c =
    let all_taken = full (shown c.self.inside) c.self.invariant.placed c.args.set (rw c.deref.ensures.value at c.in-None.ensures.none)
    in let room = rw (← c.self.view_is) at c.requires.room
    in omega (arith, all_taken, room)

pub returns-clause-placed : goal.returns-clause-placed
returns-clause-placed c =
    placed-inserted c.nodes_are_listed.ensures c.self.inside.ways c.self.inside.keys.items c.self.inside.order c.push_front.new.self c.args.set c.in-Some.slot c.args.key (in_range (shown c.self.inside) c.self.invariant.placed c.args.set c.in-Some.slot (rw (← c.self.view_is) at c.requires.set) (record { first = c.in-Some.ensures.found.0; last = c.in-Some.ensures.found.1 })) c.self.invariant.formed c.push_front.ensures.well_formed c.push_front.ensures.count c.push_front.ensures.on.1 c.push_front.ensures.others
    (record { first = c.in-Some.ensures.found.0; last = c.in-Some.ensures.found.1 })
    (lacks_key c.self.inside.keys.items c.args.key _ (rw (← c.self.view_is) at c.requires.absent))
    c.self.invariant.placed

pub invariant_of-self : goal.invariant_of-self
invariant_of-self c = record {
  count = c.push_front.ensures.count ∙ c.self.invariant.count;
  few_sets = c.self.invariant.few_sets;
  few_ways = c.self.invariant.few_ways;
  nodes = ap (λ (v : Linked). v.nodes) c.push_front.ensures.pushed ∙ c.self.invariant.nodes;
  formed = c.push_front.ensures.well_formed;
  placed = returns-clause-placed c;
}
