use Rattle.std.proofs.Common.{sym, ap, ◌∙◌}
use Rattle.std.specs.Prelude.{slice_index}
use Rattle.pei_types.specs.declared.identifiers.Block.{Block}
use Rattle.pei_types.specs.declared.identifiers.BlockNo.{BlockNo}
use Rattle.pei_types.specs.Blocks.{block_of, word_of}
use Rattle.pei_types.specs.MachineState.{is_i}
use Rattle.mesi_l1.specs.Cache as private
use Rattle.mesi_l1.specs.Cache.{with_touch}
use Rattle.coherence_bus.proofs.AccessEffects.{copy_seen, touched}
use Rattle.coherence_bus.proofs.MessageEffects.{letter_is}
use Rattle.coherence_bus.proofs.bus.Bus.load.Goals as goal

pub hit_load-requires-clause-present : goal.hit_load-requires-clause-present
hit_load-requires-clause-present c =
    ap (λ (b : BlockNo). is_i (private.letter_of c.index_mut.result.now b)) c.block_of.ensures
    ∙ ap is_i (sym (letter_is c.laws.ensures c.self.inside c.self.invariant c.args.own c.index_mut.result.now _ (block_of c.args.addr) (rw (← c.self.view_is) at c.requires.own) c.index_mut.ensures.value)) ∙ (rw (← c.self.view_is) at c.requires.present)

pub invariant_of-self : goal.invariant_of-self
invariant_of-self c =
    let t = touched c.laws.ensures c.self.inside c.self.invariant c.args.own c.index_mut.result.now c.hit_load.new.self _ (block_of c.args.addr) (rw (← c.self.view_is) at c.requires.own) c.index_mut.ensures.value (rw (← c.self.view_is) at c.requires.present) (c.hit_load.ensures.touched ∙ ap (with_touch c.index_mut.result.now) c.block_of.ensures)
    in record { sizes = t.sizes; coheres = t.coheres }

pub returns-clause-value : goal.returns-clause-value
returns-clause-value c =
    rw (← c.self.view_is) (c.hit_load.ensures.value ∙ ap (λ (b : BlockNo). slice_index (private.content_of c.index_mut.result.now b).0 c.word_of.result) c.block_of.ensures ∙ ap (slice_index (private.content_of c.index_mut.result.now (block_of c.args.addr)).0) c.word_of.ensures
    ∙ ap (λ (x : Block). slice_index x.0 (word_of c.args.addr)) (copy_seen c.laws.ensures c.self.inside c.self.invariant c.args.own c.index_mut.result.now _ (block_of c.args.addr) (rw (← c.self.view_is) at c.requires.own) c.index_mut.ensures.value (rw (← c.self.view_is) at c.requires.present)))

pub returns-clause-touched : goal.returns-clause-touched
returns-clause-touched c =
    let t = touched c.laws.ensures c.self.inside c.self.invariant c.args.own c.index_mut.result.now c.hit_load.new.self _ (block_of c.args.addr) (rw (← c.self.view_is) at c.requires.own) c.index_mut.ensures.value (rw (← c.self.view_is) at c.requires.present) (c.hit_load.ensures.touched ∙ ap (with_touch c.index_mut.result.now) c.block_of.ensures)
    in rw (← c.self.view_is) t.shows
