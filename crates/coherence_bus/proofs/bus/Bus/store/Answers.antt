use Rattle.std.proofs.Common.{sym, ap, ◌∙◌}
use Rattle.pei_types.specs.declared.identifiers.Block.{Block}
use Rattle.pei_types.specs.declared.identifiers.BlockNo.{BlockNo}
use Rattle.pei_types.specs.declared.operations.Letter.TheVariants as letter
use Rattle.pei_types.specs.Blocks.{block_of, word_of}
use Rattle.pei_types.specs.MachineState.{is_owned}
use Rattle.pei_types.specs.FlatMemory.{with_word}
use Rattle.mesi_l1.specs.Cache as private
use Rattle.coherence_bus.specs.Hierarchy.{content_of}
use Rattle.coherence_bus.specs.Inside.{shown}
use Rattle.coherence_bus.proofs.AccessEffects.{copy_seen, written}
use Rattle.coherence_bus.proofs.MessageEffects.{letter_is, owned_has}
use Rattle.coherence_bus.proofs.bus.Bus.store.Goals as goal

pub hit_store-requires-clause-owned : goal.hit_store-requires-clause-owned
hit_store-requires-clause-owned c =
    ap (λ (b : BlockNo). is_owned (private.letter_of c.index_mut.result.now b)) c.block_of.ensures
    ∙ ap is_owned (sym (letter_is c.laws.ensures c.self.inside c.self.invariant c.args.own c.index_mut.result.now _ (block_of c.args.addr) (rw (← c.self.view_is) at c.requires.own) c.index_mut.ensures.value)) ∙ (rw (← c.self.view_is) at c.requires.owned)

pub invariant_of-self : goal.invariant_of-self
invariant_of-self c =
    let there = owned_has _ (rw (← c.self.view_is) at c.requires.owned)
    in let content : Block = with_word (content_of (shown c.self.inside) (block_of c.args.addr)) (word_of c.args.addr) c.args.value
    in let t = written c.laws.ensures c.self.inside c.self.invariant c.args.own c.index_mut.result.now c.hit_store.new.self _ (block_of c.args.addr) content (rw (← c.self.view_is) at c.requires.own) c.index_mut.ensures.value (rw (← c.self.view_is) at c.requires.owned)
    (c.hit_store.ensures ∙ ap (λ (b : BlockNo). private.with_front c.index_mut.result.now b letter.M (with_word (private.content_of c.index_mut.result.now b) c.word_of.result c.args.value)) c.block_of.ensures
    ∙ ap (λ n. private.with_front c.index_mut.result.now (block_of c.args.addr) letter.M (with_word (private.content_of c.index_mut.result.now (block_of c.args.addr)) n c.args.value)) c.word_of.ensures
    ∙ ap (λ x. private.with_front c.index_mut.result.now (block_of c.args.addr) letter.M (with_word x (word_of c.args.addr) c.args.value)) (copy_seen c.laws.ensures c.self.inside c.self.invariant c.args.own c.index_mut.result.now _ (block_of c.args.addr) (rw (← c.self.view_is) at c.requires.own) c.index_mut.ensures.value there))
    in record { sizes = t.sizes; coheres = t.coheres }

pub returns : goal.returns
returns c =
    let there = owned_has _ (rw (← c.self.view_is) at c.requires.owned)
    in let content : Block = with_word (content_of (shown c.self.inside) (block_of c.args.addr)) (word_of c.args.addr) c.args.value
    in let t = written c.laws.ensures c.self.inside c.self.invariant c.args.own c.index_mut.result.now c.hit_store.new.self _ (block_of c.args.addr) content (rw (← c.self.view_is) at c.requires.own) c.index_mut.ensures.value (rw (← c.self.view_is) at c.requires.owned)
    (c.hit_store.ensures ∙ ap (λ (b : BlockNo). private.with_front c.index_mut.result.now b letter.M (with_word (private.content_of c.index_mut.result.now b) c.word_of.result c.args.value)) c.block_of.ensures
    ∙ ap (λ n. private.with_front c.index_mut.result.now (block_of c.args.addr) letter.M (with_word (private.content_of c.index_mut.result.now (block_of c.args.addr)) n c.args.value)) c.word_of.ensures
    ∙ ap (λ x. private.with_front c.index_mut.result.now (block_of c.args.addr) letter.M (with_word x (word_of c.args.addr) c.args.value)) (copy_seen c.laws.ensures c.self.inside c.self.invariant c.args.own c.index_mut.result.now _ (block_of c.args.addr) (rw (← c.self.view_is) at c.requires.own) c.index_mut.ensures.value there))
    in rw (← c.self.view_is) t.shows
