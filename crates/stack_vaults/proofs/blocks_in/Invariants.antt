use Rattle.std.proofs.Common.{◌≡◌, ◌≤◌, map}
use Rattle.std.specs.List.{range_with_len}
use Rattle.std.specs.Prelude.{vec_capacity}
use Rattle.pei_types.specs.Program.{block_at}
use Rattle.stack_vaults.proofs.blocks_in.Given as goal

-- the blocks up to this number, and room for all
abbrev pub invariant-loop-number : goal.invariant-loop-number
invariant-loop-number l = (l.blocks.items ≡ map (λ n. block_at l.image (record { 0 = n })) (range_with_len 0 l.number)) × (l.count ≤ vec_capacity l.blocks)
