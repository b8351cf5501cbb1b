use Rattle.std.proofs.Common.{Some, length, ◌∙◌, ap, arith}
use Rattle.std.proofs.lemmas.List.{with_items_is}
use Rattle.link_list.specs.Walks.{behind_led, firsts_led}
use Rattle.link_list.proofs.Steps.{has_back, last_within}
use Rattle.link_list.proofs.chains.Chains.add_last.Goals as goal

pub lead-requires-clause-from : goal.lead-requires-clause-from
lead-requires-clause-from c =
    λ x some. omega (arith, last_within c.self.inside.behind.items c.self.inside.firsts.items c.args.self.now c.self.invariant c.self.view_is c.args.list c.args.last c.requires.last x some, ap length c.deref_mut.ensures.value)

pub invariant_of-self : goal.invariant_of-self
invariant_of-self c =
    let led = with_items_is c.self.inside.behind c.lead.new.behind (c.lead.auto.behind ∙ c.deref_mut.ensures.len) ∙ c.lead.ensures.behind ∙ ap (λ b. behind_led b c.args.last (Some c.args.node)) c.deref_mut.ensures.value
    in let led_firsts = with_items_is c.self.inside.firsts c.lead.new.firsts (c.lead.auto.firsts ∙ c.deref_mut-2.ensures.len) ∙ c.lead.ensures.firsts ∙ ap (λ f. firsts_led f c.args.list c.args.last (Some c.args.node)) c.deref_mut-2.ensures.value
    in (has_back c.self.inside.behind.items c.self.inside.firsts.items c.args.self.now c.self.invariant c.self.view_is c.args.list c.args.node c.requires.list c.requires.node c.requires.free c.args.last c.requires.last _ _ led led_firsts).in_order

pub returns-clause-added : goal.returns-clause-added
returns-clause-added c =
    let led = with_items_is c.self.inside.behind c.lead.new.behind (c.lead.auto.behind ∙ c.deref_mut.ensures.len) ∙ c.lead.ensures.behind ∙ ap (λ b. behind_led b c.args.last (Some c.args.node)) c.deref_mut.ensures.value
    in let led_firsts = with_items_is c.self.inside.firsts c.lead.new.firsts (c.lead.auto.firsts ∙ c.deref_mut-2.ensures.len) ∙ c.lead.ensures.firsts ∙ ap (λ f. firsts_led f c.args.list c.args.last (Some c.args.node)) c.deref_mut-2.ensures.value
    in (has_back c.self.inside.behind.items c.self.inside.firsts.items c.args.self.now c.self.invariant c.self.view_is c.args.list c.args.node c.requires.list c.requires.node c.requires.free c.args.last c.requires.last _ _ led led_firsts).is

pub returns-clause-well_formed : goal.returns-clause-well_formed
returns-clause-well_formed c =
    let led = with_items_is c.self.inside.behind c.lead.new.behind (c.lead.auto.behind ∙ c.deref_mut.ensures.len) ∙ c.lead.ensures.behind ∙ ap (λ b. behind_led b c.args.last (Some c.args.node)) c.deref_mut.ensures.value
    in let led_firsts = with_items_is c.self.inside.firsts c.lead.new.firsts (c.lead.auto.firsts ∙ c.deref_mut-2.ensures.len) ∙ c.lead.ensures.firsts ∙ ap (λ f. firsts_led f c.args.list c.args.last (Some c.args.node)) c.deref_mut-2.ensures.value
    in (has_back c.self.inside.behind.items c.self.inside.firsts.items c.args.self.now c.self.invariant c.self.view_is c.args.list c.args.node c.requires.list c.requires.node c.requires.free c.args.last c.requires.last _ _ led led_firsts).formed
