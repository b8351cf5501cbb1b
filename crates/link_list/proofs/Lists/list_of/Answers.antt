use Rattle.std.proofs.Common.{sym}
use Rattle.link_list.proofs.Ties.{owner_read, list_within}
use Rattle.link_list.proofs.Lists.list_of.Goals as goal

pub returns-clause-within : goal.returns-clause-within
returns-clause-within c =
    list_within c.args.self.now c.args.node c.index.result.now
    (sym (rw c.self.view_is at (owner_read c.self.inside.forward c.self.inside.backward c.self.inside.owners.items c.self.invariant c.args.node (rw (sym c.self.view_is) at c.requires) c.index.result.now c.index.ensures)))
