use Rattle.link_list.proofs.Steps.{has_front}
use Rattle.link_list.proofs.chains.Chains.add_first.Goals as goal

pub invariant_of-self : goal.invariant_of-self
invariant_of-self c = (has_front c.self.inside.behind.items c.self.inside.firsts.items c.args.self.now c.self.invariant c.self.view_is c.args.list c.args.node c.requires.list c.requires.node c.requires.free c.index.result.now c.index.ensures).in_order

pub returns-clause-added : goal.returns-clause-added
returns-clause-added c = (has_front c.self.inside.behind.items c.self.inside.firsts.items c.args.self.now c.self.invariant c.self.view_is c.args.list c.args.node c.requires.list c.requires.node c.requires.free c.index.result.now c.index.ensures).is

pub returns-clause-well_formed : goal.returns-clause-well_formed
returns-clause-well_formed c = (has_front c.self.inside.behind.items c.self.inside.firsts.items c.args.self.now c.self.invariant c.self.view_is c.args.list c.args.node c.requires.list c.requires.node c.requires.free c.index.result.now c.index.ensures).formed
