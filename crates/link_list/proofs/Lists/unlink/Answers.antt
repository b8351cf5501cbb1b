use Rattle.std.proofs.Common.{ap, sym, ◌∙◌}
use Rattle.link_list.proofs.Ties.{before_read, after_read, owner_read, list_of-tied, tied_out}
use Rattle.link_list.proofs.Formed.{unlinked-one}
use Rattle.link_list.specs.Linked.{list_of}
use Rattle.link_list.proofs.Formed.{list_of-unlinked_same, list_of-unlinked_other}
use Rattle.link_list.proofs.Lists.unlink.Goals as goal

pub skip-requires-clause-before : goal.skip-requires-clause-before
skip-requires-clause-before c =
    before_read c.self.inside.forward c.self.inside.backward c.self.inside.owners.items c.self.invariant c.in-Some.list c.args.node c.follower-before.result (c.follower-before.ensures.behind c.in-Some.list (list_of-tied c.self.inside.forward c.self.inside.backward c.self.inside.owners.items c.self.invariant c.args.node ∙ owner_read c.self.inside.forward c.self.inside.backward c.self.inside.owners.items c.self.invariant c.args.node (rw (sym c.self.view_is) at c.requires.node) c.index.result.now c.index.ensures ∙ c.in-Some.is))

pub skip-requires-in-Some-clause-list : goal.skip-requires-in-Some-clause-list
skip-requires-in-Some-clause-list c =
    list_of-tied c.self.inside.forward c.self.inside.backward c.self.inside.owners.items c.self.invariant c.args.node ∙ owner_read c.self.inside.forward c.self.inside.backward c.self.inside.owners.items c.self.invariant c.args.node (rw (sym c.self.view_is) at c.requires.node) c.index.result.now c.index.ensures ∙ c.in-Some.is

pub skip-requires-in-Some-clause-before : goal.skip-requires-in-Some-clause-before
skip-requires-in-Some-clause-before c =
    after_read c.self.inside.forward c.self.inside.backward c.self.inside.owners.items c.self.invariant c.in-Some.list c.args.node c.follower-after.result (c.follower-after.ensures.behind c.in-Some.list (owner_read c.self.inside.forward c.self.inside.backward c.self.inside.owners.items c.self.invariant c.args.node (rw (sym c.self.view_is) at c.requires.node) c.index.result.now c.index.ensures ∙ c.in-Some.is))

pub invariant_of-self : goal.invariant_of-self
invariant_of-self c =
    tied_out c.self.inside.forward c.self.inside.backward c.self.inside.owners.items c.self.invariant c.args.node (rw (sym c.self.view_is) at c.requires.node) c.skip.new.self c.skip-in-Some.new.self c.skip.ensures.unlinked c.skip-in-Some.ensures.unlinked c.skip.ensures.well_formed

pub returns-in-Some-clause-of_its_list : goal.returns-in-Some-clause-of_its_list
returns-in-Some-clause-of_its_list c =
    λ list listed. rw c.self.view_is at c.skip.ensures.unlinked ∙ unlinked-one c.args.self.now (rw c.self.view_is at c.self.invariant.well_formed) c.args.node list listed

pub returns-in-Some-clause-free : goal.returns-in-Some-clause-free
returns-in-Some-clause-free c =
    ap (λ v. list_of v c.args.node) (rw c.self.view_is at c.skip.ensures.unlinked) ∙ list_of-unlinked_same c.args.self.now c.args.node

pub returns-in-Some-clause-others : goal.returns-in-Some-clause-others
returns-in-Some-clause-others c =
    λ other apart. ap (λ v. list_of v other) (rw c.self.view_is at c.skip.ensures.unlinked) ∙ list_of-unlinked_other c.args.self.now c.args.node other apart
