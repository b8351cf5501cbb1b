use Rattle.link_list.proofs.Ties.{front_on, front_rest}
use Rattle.link_list.proofs.Lists.front.Goals as goal

pub returns-clause-rest : goal.returns-clause-rest
returns-clause-rest c = front_rest c.args.self.now c.args.list c.first.result (rw c.self.view_is at c.first.ensures.first)

pub returns-clause-on : goal.returns-clause-on
returns-clause-on c = front_on c.args.self.now (rw c.self.view_is at c.first.ensures.well_formed) c.args.list c.first.result (rw c.self.view_is at c.first.ensures.first)
