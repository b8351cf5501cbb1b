use Rattle.link_list.proofs.Steps.{has_none}
use Rattle.link_list.proofs.chains.Chains.make.Goals as goal

pub invariant_of-result : goal.invariant_of-result
invariant_of-result c = (has_none c.in_ok-behind.behind.items c.in_ok-firsts.firsts.items c.args.nodes c.args.lists c.in_ok-behind.ensures c.in_ok-firsts.ensures).in_order

pub returns : goal.returns
returns c = (has_none c.in_ok-behind.behind.items c.in_ok-firsts.firsts.items c.args.nodes c.args.lists c.in_ok-behind.ensures c.in_ok-firsts.ensures).is
