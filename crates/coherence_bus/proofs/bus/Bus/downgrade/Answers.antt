use Rattle.std.proofs.Common.{arith, true, false, refl, sym, ap, ◌∙◌}
use Rattle.pei_types.specs.MachineState.{is_ahead, is_owned}
use Rattle.llc.specs.Cache.{with_dirty}
use Rattle.coherence_bus.proofs.MessageEffects.{has_core, letter_is, core_at, included, lowered, owned_has}
use Rattle.coherence_bus.proofs.bus.Bus.downgrade.Goals as goal

pub index_mut-requires : goal.index_mut-requires
index_mut-requires c = omega (arith, core_at c.laws.ensures c.self.inside c.self.invariant c.args.core (has_core c.laws.ensures c.self.inside c.self.invariant c.args.core c.args.b (owned_has _ (rw (← c.self.view_is) at c.requires))), c.self.inside.caches.ok.0)

pub downgrade-letter-requires : goal.downgrade-letter-requires
downgrade-letter-requires c =
    ap is_owned (sym (letter_is c.laws.ensures c.self.inside c.self.invariant c.args.core c.index_mut.result.now _ c.args.b (has_core c.laws.ensures c.self.inside c.self.invariant c.args.core c.args.b (owned_has _ (rw (← c.self.view_is) at c.requires))) c.index_mut.ensures.value)) ∙ (rw (← c.self.view_is) at c.requires)

pub take_back-requires : goal.take_back-requires
take_back-requires c = included c.laws.ensures c.self.inside c.self.invariant c.args.core c.args.b (owned_has _ (rw (← c.self.view_is) at c.requires))

pub invariant_of-self : goal.invariant_of-self
invariant_of-self c =
    let letter = letter_is c.laws.ensures c.self.inside c.self.invariant c.args.core c.index_mut.result.now _ c.args.b (has_core c.laws.ensures c.self.inside c.self.invariant c.args.core c.args.b (owned_has _ (rw (← c.self.view_is) at c.requires))) c.index_mut.ensures.value
    in let t = lowered c.laws.ensures c.self.inside c.self.invariant c.args.core c.index_mut.result.now c.downgrade-letter.new.self _ c.args.b c.take_back.new.self true (has_core c.laws.ensures c.self.inside c.self.invariant c.args.core c.args.b (owned_has _ (rw (← c.self.view_is) at c.requires))) c.index_mut.ensures.value (rw (← c.self.view_is) at c.requires)
    (ap is_ahead (letter ∙ sym (ap (λ p. p.0) c.downgrade-letter.ensures.had)) ∙ sym c.is_modified.ensures ∙ c.if-is_modified.true) c.downgrade-letter.ensures.shared (c.take_back.ensures ∙ ap (λ p. with_dirty c.self.inside.llc c.args.b p.1) c.downgrade-letter.ensures.had)
    in record { sizes = t.sizes; coheres = t.coheres }

pub invariant_of-self-else-is_modified : goal.invariant_of-self-else-is_modified
invariant_of-self-else-is_modified c =
    let letter = letter_is c.laws.ensures c.self.inside c.self.invariant c.args.core c.index_mut.result.now _ c.args.b (has_core c.laws.ensures c.self.inside c.self.invariant c.args.core c.args.b (owned_has _ (rw (← c.self.view_is) at c.requires))) c.index_mut.ensures.value
    in let t = lowered c.laws.ensures c.self.inside c.self.invariant c.args.core c.index_mut.result.now c.downgrade-letter.new.self _ c.args.b c.self.inside.llc false (has_core c.laws.ensures c.self.inside c.self.invariant c.args.core c.args.b (owned_has _ (rw (← c.self.view_is) at c.requires))) c.index_mut.ensures.value (rw (← c.self.view_is) at c.requires)
    (ap is_ahead (letter ∙ sym (ap (λ p. p.0) c.downgrade-letter.ensures.had)) ∙ sym c.is_modified.ensures ∙ c.if-is_modified.false) c.downgrade-letter.ensures.shared refl
    in record { sizes = t.sizes; coheres = t.coheres }

pub returns-then-is_modified : goal.returns-then-is_modified
returns-then-is_modified c =
    let letter = letter_is c.laws.ensures c.self.inside c.self.invariant c.args.core c.index_mut.result.now _ c.args.b (has_core c.laws.ensures c.self.inside c.self.invariant c.args.core c.args.b (owned_has _ (rw (← c.self.view_is) at c.requires))) c.index_mut.ensures.value
    in let t = lowered c.laws.ensures c.self.inside c.self.invariant c.args.core c.index_mut.result.now c.downgrade-letter.new.self _ c.args.b c.take_back.new.self true (has_core c.laws.ensures c.self.inside c.self.invariant c.args.core c.args.b (owned_has _ (rw (← c.self.view_is) at c.requires))) c.index_mut.ensures.value (rw (← c.self.view_is) at c.requires)
    (ap is_ahead (letter ∙ sym (ap (λ p. p.0) c.downgrade-letter.ensures.had)) ∙ sym c.is_modified.ensures ∙ c.if-is_modified.true) c.downgrade-letter.ensures.shared (c.take_back.ensures ∙ ap (λ p. with_dirty c.self.inside.llc c.args.b p.1) c.downgrade-letter.ensures.had)
    in rw (← c.self.view_is) t.shows

pub returns-else-is_modified : goal.returns-else-is_modified
returns-else-is_modified c =
    let letter = letter_is c.laws.ensures c.self.inside c.self.invariant c.args.core c.index_mut.result.now _ c.args.b (has_core c.laws.ensures c.self.inside c.self.invariant c.args.core c.args.b (owned_has _ (rw (← c.self.view_is) at c.requires))) c.index_mut.ensures.value
    in let t = lowered c.laws.ensures c.self.inside c.self.invariant c.args.core c.index_mut.result.now c.downgrade-letter.new.self _ c.args.b c.self.inside.llc false (has_core c.laws.ensures c.self.inside c.self.invariant c.args.core c.args.b (owned_has _ (rw (← c.self.view_is) at c.requires))) c.index_mut.ensures.value (rw (← c.self.view_is) at c.requires)
    (ap is_ahead (letter ∙ sym (ap (λ p. p.0) c.downgrade-letter.ensures.had)) ∙ sym c.is_modified.ensures ∙ c.if-is_modified.false) c.downgrade-letter.ensures.shared refl
    in rw (← c.self.view_is) t.shows
