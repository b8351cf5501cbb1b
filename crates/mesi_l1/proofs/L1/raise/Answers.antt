use Rattle.std.proofs.Common.{◌%◌, length, ap, ◌∙◌, refl}
use Rattle.std.specs.Prelude.{slice_set}
use Rattle.pei_types.specs.declared.identifiers.Block.{Block}
use Rattle.pei_types.specs.declared.identifiers.BlockNo.{BlockNo}
use Rattle.pei_types.specs.declared.operations.Letter.TheVariants as letter
use Rattle.pei_types.specs.declared.lines.CopyLine.{CopyLine}
use Rattle.mesi_l1.specs.Cache.{content_of}
use Rattle.mesi_l1.specs.Inside.{cache_of, shown}
use Rattle.mesi_l1.proofs.Looking.{line_read, block_at, content_read}
use Rattle.mesi_l1.proofs.Changing.{front_is}
use Rattle.mesi_l1.proofs.L1.raise.Goals as goal

pub returns : goal.returns
returns c =
    let x : CopyLine = record { block = c.index_mut.result.now.block; letter = letter.M; content = c.index_mut.result.now.content }
    in let old = c.index_mut.result.now
    in let block = ap (λ (y : CopyLine). y.block) (line_read c.self.inside.tags c.self.inside.lines.items c.self.invariant c.bring_front-slot.result old c.bring_front-slot.ensures.range c.index_mut.ensures.value) ∙ block_at c.self.inside.tags c.self.inside.lines.items c.self.invariant c.args.b (c.args.b.0 % length c.self.inside.tags.lists) c.bring_front-slot.result c.bring_front-slot.ensures.at
    in let content = content_read c.sets_follow.ensures c.self.inside.tags c.self.inside.lines.items c.self.invariant c.args.b (c.args.b.0 % length c.self.inside.tags.lists) c.bring_front-slot.result old refl c.bring_front-slot.ensures.within c.bring_front-slot.ensures.range c.bring_front-slot.ensures.at c.index_mut.ensures.value
    in rw (← c.self.view_is) (ap (λ v. cache_of v (slice_set c.self.inside.lines.items c.bring_front-slot.result x)) c.bring_front-slot.ensures.touched
    ∙ front_is c.sets_follow.ensures c.self.inside.tags c.self.inside.lines.items c.self.invariant c.args.b (c.args.b.0 % length c.self.inside.tags.lists) c.bring_front-slot.result letter.M (content_of (shown c.self.inside) c.args.b) x refl c.bring_front-slot.ensures.within c.bring_front-slot.ensures.range c.bring_front-slot.ensures.at (ap (λ (k : BlockNo). record { block = k; letter = letter.M; content = old.content }) block ∙ ap (λ (k : Block). record { block = c.args.b; letter = letter.M; content = k }) content))
