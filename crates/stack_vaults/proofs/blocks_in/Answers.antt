use Rattle.std.proofs.Common.{ℕ, [], ◌∷◌, ◌++◌, map, length, ap, sym, ◌∙◌, arith}
use Rattle.std.specs.List.{range_with_len}
use Rattle.std.proofs.lemmas.List.FromFn.{map-range_with_len_more, length-map-range_with_len}
use Rattle.pei_types.specs.declared.identifiers.Block.{Block}
use Rattle.pei_types.specs.Program.{block_at}
use Rattle.stack_vaults.proofs.blocks_in.Goals as goal

pub push_reserved-requires : goal.push_reserved-requires
push_reserved-requires c =
    let content = λ (n : ℕ). block_at c.args.image.now (record { 0 = n })
    in omega (arith, ap length c.loop-number.invariant.0, length-map-range_with_len content 0 c.loop-number.number, c.loop-number.blocks.ok.0, c.loop-number.invariant.1)

pub loop-number-preserved : goal.loop-number-preserved
loop-number-preserved c =
    let content = λ (n : ℕ). block_at c.args.image.now (record { 0 = n })
    in let number = c.loop-number.number
    in (
      c.push_reserved.ensures.items
          ∙ ap (λ xs. xs ++ c.block_in.result ∷ []) c.loop-number.invariant.0
          ∙ ap (λ (b : Block). map content (range_with_len 0 number) ++ b ∷ []) c.block_in.ensures
          ∙ sym (map-range_with_len_more content 0 number number (omega arith)),
      omega (arith, c.push_reserved.ensures.capacity, c.loop-number.invariant.1),
    )
