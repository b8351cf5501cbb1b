use Rattle.std.proofs.Common.{length, ◌∙◌, ap, arith}
use Rattle.std.proofs.lemmas.List.{with_items_is}
use Rattle.link_list.specs.Walks.{behind_led, firsts_led}
use Rattle.link_list.proofs.Steps.{has_out, before_within, list_within}
use Rattle.link_list.proofs.chains.Chains.skip.Goals as goal

pub lead-requires-clause-list : goal.lead-requires-clause-list
lead-requires-clause-list c =
    omega (arith, list_within c.self.inside.behind.items c.self.inside.firsts.items c.args.self.now c.self.invariant c.self.view_is c.args.list c.args.node c.requires.list, ap length c.deref_mut-2.ensures.value)

pub lead-requires-clause-from : goal.lead-requires-clause-from
lead-requires-clause-from c =
    λ x some. omega (arith, before_within c.self.inside.behind.items c.self.inside.firsts.items c.args.self.now c.self.invariant c.self.view_is c.args.list c.args.node c.requires.list c.args.before c.requires.before x some, ap length c.deref_mut.ensures.value)

pub invariant_of-self : goal.invariant_of-self
invariant_of-self c =
    let led = with_items_is c.self.inside.behind c.lead.new.behind (c.lead.auto.behind ∙ c.deref_mut.ensures.len) ∙ c.lead.ensures.behind ∙ ap (λ b. behind_led b c.args.before c.index-after.result.now) c.deref_mut.ensures.value
    in let led_firsts = with_items_is c.self.inside.firsts c.lead.new.firsts (c.lead.auto.firsts ∙ c.deref_mut-2.ensures.len) ∙ c.lead.ensures.firsts ∙ ap (λ f. firsts_led f c.args.list c.args.before c.index-after.result.now) c.deref_mut-2.ensures.value
    in (has_out c.self.inside.behind.items c.self.inside.firsts.items c.args.self.now c.self.invariant c.self.view_is c.args.list c.args.node c.requires.list c.args.before c.requires.before c.index-after.result.now c.index-after.ensures c.requires.node _ _ led led_firsts).in_order

pub returns-clause-unlinked : goal.returns-clause-unlinked
returns-clause-unlinked c =
    let led = with_items_is c.self.inside.behind c.lead.new.behind (c.lead.auto.behind ∙ c.deref_mut.ensures.len) ∙ c.lead.ensures.behind ∙ ap (λ b. behind_led b c.args.before c.index-after.result.now) c.deref_mut.ensures.value
    in let led_firsts = with_items_is c.self.inside.firsts c.lead.new.firsts (c.lead.auto.firsts ∙ c.deref_mut-2.ensures.len) ∙ c.lead.ensures.firsts ∙ ap (λ f. firsts_led f c.args.list c.args.before c.index-after.result.now) c.deref_mut-2.ensures.value
    in (has_out c.self.inside.behind.items c.self.inside.firsts.items c.args.self.now c.self.invariant c.self.view_is c.args.list c.args.node c.requires.list c.args.before c.requires.before c.index-after.result.now c.index-after.ensures c.requires.node _ _ led led_firsts).is

pub returns-clause-well_formed : goal.returns-clause-well_formed
returns-clause-well_formed c =
    let led = with_items_is c.self.inside.behind c.lead.new.behind (c.lead.auto.behind ∙ c.deref_mut.ensures.len) ∙ c.lead.ensures.behind ∙ ap (λ b. behind_led b c.args.before c.index-after.result.now) c.deref_mut.ensures.value
    in let led_firsts = with_items_is c.self.inside.firsts c.lead.new.firsts (c.lead.auto.firsts ∙ c.deref_mut-2.ensures.len) ∙ c.lead.ensures.firsts ∙ ap (λ f. firsts_led f c.args.list c.args.before c.index-after.result.now) c.deref_mut-2.ensures.value
    in (has_out c.self.inside.behind.items c.self.inside.firsts.items c.args.self.now c.self.invariant c.self.view_is c.args.list c.args.node c.requires.list c.args.before c.requires.before c.index-after.result.now c.index-after.ensures c.requires.node _ _ led led_firsts).formed
