use Rattle.link_list.proofs.Steps.{follower_read}
use Rattle.link_list.proofs.chains.Chains.follower.Goals as goal

pub returns-clause-behind : goal.returns-clause-behind
returns-clause-behind c = λ list listed. follower_read c.self.inside.behind.items c.self.inside.firsts.items c.args.self.now c.self.invariant c.self.view_is list c.args.node listed c.index.result.now c.index.ensures
