use Rattle.std.proofs.Common.{sym, ap, ◌∙◌}
use Rattle.link_list.specs.Linked.{list_of, pushed_front}
use Rattle.link_list.proofs.Ties.{owner_read, moved-steps, listed_within}
use Rattle.link_list.proofs.Formed.{list_of-unlinked_same, moved_front-one}
use Rattle.link_list.proofs.Lists.move_front.Goals as goal

pub push_front-requires-clause-list : goal.push_front-requires-clause-list
push_front-requires-clause-list c =
    rw c.unlink.ensures.unlinked (listed_within c.args.self.now c.args.node c.in-Some.list (rw c.self.view_is at (owner_read c.self.inside.forward c.self.inside.backward c.self.inside.owners.items c.self.invariant c.args.node (rw (sym c.self.view_is) at c.requires.node) c.index.result.now c.index.ensures ∙ c.in-Some.is)))

pub push_front-requires-clause-free : goal.push_front-requires-clause-free
push_front-requires-clause-free c =
    ap (λ v. list_of v c.args.node) c.unlink.ensures.unlinked ∙ list_of-unlinked_same c.args.self.now c.args.node

pub returns-in-Some-clause-moved : goal.returns-in-Some-clause-moved
returns-in-Some-clause-moved c =
    c.push_front.ensures.pushed ∙ ap (λ v. pushed_front v c.in-Some.list c.args.node) c.unlink.ensures.unlinked ∙ moved-steps c.args.self.now (rw c.self.view_is at c.self.invariant.well_formed) c.args.node c.in-Some.list (rw c.self.view_is at (owner_read c.self.inside.forward c.self.inside.backward c.self.inside.owners.items c.self.invariant c.args.node (rw (sym c.self.view_is) at c.requires.node) c.index.result.now c.index.ensures ∙ c.in-Some.is))

pub returns-in-Some-clause-of_its_list : goal.returns-in-Some-clause-of_its_list
returns-in-Some-clause-of_its_list c =
    λ list listed. c.push_front.ensures.pushed ∙ ap (λ v. pushed_front v c.in-Some.list c.args.node) c.unlink.ensures.unlinked ∙ moved-steps c.args.self.now (rw c.self.view_is at c.self.invariant.well_formed) c.args.node c.in-Some.list (rw c.self.view_is at (owner_read c.self.inside.forward c.self.inside.backward c.self.inside.owners.items c.self.invariant c.args.node (rw (sym c.self.view_is) at c.requires.node) c.index.result.now c.index.ensures ∙ c.in-Some.is)) ∙ moved_front-one c.args.self.now (rw c.self.view_is at c.self.invariant.well_formed) c.args.node list listed
