use Rattle.link_list.proofs.Ties.{next_read, next_on, next_rest}
use Rattle.link_list.proofs.Lists.next.Goals as goal

pub returns-clause-next : goal.returns-clause-next
returns-clause-next c =
    next_read c.args.self.now (rw c.self.view_is at c.self.invariant.well_formed) c.args.node c.follower.result (rw c.self.view_is at c.follower.ensures.behind)

pub returns-clause-rest : goal.returns-clause-rest
returns-clause-rest c = λ list listed.
    next_rest c.args.self.now (rw c.self.view_is at c.self.invariant.well_formed) c.args.node list listed c.follower.result ((rw c.self.view_is at c.follower.ensures.behind) list listed)

pub returns-clause-on : goal.returns-clause-on
returns-clause-on c = λ list listed.
    next_on c.args.self.now (rw c.self.view_is at c.self.invariant.well_formed) c.args.node list c.follower.result ((rw c.self.view_is at c.follower.ensures.behind) list listed)
