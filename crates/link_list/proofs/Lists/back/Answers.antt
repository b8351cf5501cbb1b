use Rattle.std.proofs.Common.{None, ap, ◌∙◌}
use Rattle.std.specs.List.{last_or}
use Rattle.pei_types.specs.Recency.{list_at}
use Rattle.link_list.proofs.Ties.{back_read, back_on}
use Rattle.link_list.proofs.Lists.back.Goals as goal

pub returns-clause-back : goal.returns-clause-back
returns-clause-back c =
    back_read c.self.inside.forward c.self.inside.backward c.self.inside.owners.items c.self.invariant c.args.list c.first.result c.first.ensures.first ∙ ap (λ v. last_or None (list_at v.lists c.args.list)) c.self.view_is

pub returns-clause-on : goal.returns-clause-on
returns-clause-on c =
    back_on c.args.self.now (rw c.self.view_is at c.self.invariant.well_formed) c.args.list c.first.result
    (back_read c.self.inside.forward c.self.inside.backward c.self.inside.owners.items c.self.invariant c.args.list c.first.result c.first.ensures.first ∙ ap (λ v. last_or None (list_at v.lists c.args.list)) c.self.view_is)
