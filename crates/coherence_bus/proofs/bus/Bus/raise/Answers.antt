use Rattle.std.proofs.Common.{refl, sym, ap, ◌∙◌}
use Rattle.pei_types.specs.declared.identifiers.Block.{Block}
use Rattle.pei_types.specs.declared.operations.Letter.TheVariants as letter
use Rattle.mesi_l1.specs.Cache.{Cache, with_front}
use Rattle.coherence_bus.proofs.MessageEffects.{letter_is, granted, raises, shared_content}
use Rattle.coherence_bus.proofs.bus.Bus.raise.Goals as goal

pub raise-requires : goal.raise-requires
raise-requires c =
    sym (letter_is c.laws.ensures c.self.inside c.self.invariant c.args.own c.index_mut.result.now _ c.args.b (rw (← c.self.view_is) at c.requires.own) c.index_mut.ensures.value)
    ∙ (raises c.laws.ensures c.self.inside c.self.invariant c.args.own c.args.b (rw (← c.self.view_is) at c.requires.has) (rw (← c.self.view_is) at c.requires.guard)).0

pub touch-requires : goal.touch-requires
touch-requires c = (raises c.laws.ensures c.self.inside c.self.invariant c.args.own c.args.b (rw (← c.self.view_is) at c.requires.has) (rw (← c.self.view_is) at c.requires.guard)).1

pub invariant_of-self : goal.invariant_of-self
invariant_of-self c =
    let is = raises c.laws.ensures c.self.inside c.self.invariant c.args.own c.args.b (rw (← c.self.view_is) at c.requires.has) (rw (← c.self.view_is) at c.requires.guard)
    in let t = granted c.laws.ensures c.self.inside c.self.invariant c.args.own c.index_mut.result.now c.raise.new.self _ c.args.b letter.M c.touch.new.self (rw (← c.self.view_is) at c.requires.own) refl c.index_mut.ensures.value (rw (← c.self.view_is) at c.requires.guard)
    (ap (λ (x : Cache). x.ways) c.raise.ensures) (ap (λ (x : Cache). x.sets) c.raise.ensures ∙ ap (λ (x : Block). (with_front c.index_mut.result.now c.args.b letter.M x).sets) (shared_content c.laws.ensures c.self.inside c.self.invariant c.args.own c.index_mut.result.now _ c.args.b (rw (← c.self.view_is) at c.requires.own) c.index_mut.ensures.value is.0 (rw (← c.self.view_is) at c.requires.guard))) c.touch.ensures
    in record { sizes = t.sizes; coheres = t.coheres }

pub returns : goal.returns
returns c =
    let is = raises c.laws.ensures c.self.inside c.self.invariant c.args.own c.args.b (rw (← c.self.view_is) at c.requires.has) (rw (← c.self.view_is) at c.requires.guard)
    in let t = granted c.laws.ensures c.self.inside c.self.invariant c.args.own c.index_mut.result.now c.raise.new.self _ c.args.b letter.M c.touch.new.self (rw (← c.self.view_is) at c.requires.own) refl c.index_mut.ensures.value (rw (← c.self.view_is) at c.requires.guard)
    (ap (λ (x : Cache). x.ways) c.raise.ensures) (ap (λ (x : Cache). x.sets) c.raise.ensures ∙ ap (λ (x : Block). (with_front c.index_mut.result.now c.args.b letter.M x).sets) (shared_content c.laws.ensures c.self.inside c.self.invariant c.args.own c.index_mut.result.now _ c.args.b (rw (← c.self.view_is) at c.requires.own) c.index_mut.ensures.value is.0 (rw (← c.self.view_is) at c.requires.guard))) c.touch.ensures
    in rw (← c.self.view_is) t.shows
