use Rattle.std.proofs.Common.{sym, ap, ◌∙◌}
use Rattle.link_list.specs.Linked.{list_of}
use Rattle.link_list.proofs.Ties.{back_read, list_of-tied, tied_back}
use Rattle.link_list.proofs.Formed.{list_of-pushed_back_same, list_of-pushed_back_other}
use Rattle.std.proofs.Common.{◌∷◌, ◌++◌, [], length}
use Rattle.link_list.specs.Linked.{pushed_back}
use Rattle.link_list.proofs.Lists.push_back.Goals as goal
use Rattle.pei_types.proofs.Lists.{length-change_at}

pub add_last-requires-clause-last : goal.add_last-requires-clause-last
add_last-requires-clause-last c =
    back_read c.self.inside.forward c.self.inside.backward c.self.inside.owners.items c.self.invariant c.args.list c.first-back.result c.first-back.ensures.first

pub add_first-requires-clause-free : goal.add_first-requires-clause-free
add_first-requires-clause-free c =
    list_of-tied c.self.inside.forward c.self.inside.backward c.self.inside.owners.items c.self.invariant c.args.node ∙ ap (λ v. list_of v c.args.node) c.self.view_is ∙ c.requires.free

pub invariant_of-self : goal.invariant_of-self
invariant_of-self c =
    tied_back c.self.inside.forward c.self.inside.backward c.self.inside.owners.items c.self.invariant c.args.list c.args.node (rw (sym c.self.view_is) at c.requires.list) (rw (sym c.self.view_is) at c.requires.node) (rw (sym c.self.view_is) at c.requires.free) c.add_last.new.self c.add_first.new.self c.add_last.ensures.added c.add_first.ensures.added c.add_last.ensures.well_formed

pub returns-clause-on : goal.returns-clause-on
returns-clause-on c =
    (rw (c.add_last.ensures.added ∙ ap (λ v. pushed_back v c.args.list c.args.node) c.self.view_is) c.requires.node, ap (λ v. list_of v c.args.node) (c.add_last.ensures.added ∙ ap (λ v. pushed_back v c.args.list c.args.node) c.self.view_is) ∙ list_of-pushed_back_same c.args.self.now (rw c.self.view_is at c.self.invariant.well_formed) c.args.list c.args.node c.requires.list c.requires.node c.requires.free)

pub returns-clause-others : goal.returns-clause-others
returns-clause-others c =
    λ other apart. ap (λ v. list_of v other) (c.add_last.ensures.added ∙ ap (λ v. pushed_back v c.args.list c.args.node) c.self.view_is) ∙ list_of-pushed_back_other c.args.self.now c.args.list c.args.node other apart

pub returns-clause-count : goal.returns-clause-count
returns-clause-count c =
    ap (λ v. length v.lists) (c.add_last.ensures.added ∙ ap (λ v. pushed_back v c.args.list c.args.node) c.self.view_is) ∙ length-change_at c.args.self.now.lists c.args.list (λ xs. xs ++ c.args.node ∷ [])
