use Rattle.link_list.proofs.Ties.{tied_none}
use Rattle.link_list.proofs.Lists.make.Goals as goal

pub invariant_of-result : goal.invariant_of-result
invariant_of-result c =
    rw c.in_ok-forward.ensures (rw c.in_ok-backward.ensures (rw c.in_ok-owners.ensures (tied_none c.args.nodes c.args.lists)))
