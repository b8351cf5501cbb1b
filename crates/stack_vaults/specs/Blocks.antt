-- What the vaults are seen as, and what each call makes of them.
use Rattle.std.specs.Prelude.{ℕ, ◌/◌, List, [], length, map, slice_index_or, slice_set}
use Rattle.std.specs.List.{range_with_len}
use Rattle.pei_types.specs.declared.identifiers.Block.{Block}
use Rattle.pei_types.specs.declared.identifiers.BlockNo.{BlockNo}
use Rattle.pei_types.specs.Program.{Contents, block_at}

-- how many vaults there are, and the blocks of memory in the order of their numbers
pub record Stack : Type 0 where
  pub vaults : ℕ
  pub blocks : List Block

-- the blocks of an image
abbrev pub blocks_of : Contents → List Block
blocks_of image = map (λ n. block_at image (record { 0 = n })) (range_with_len 0 (length image.words / 8))

-- the content of a block, and the vaults with another content for it
abbrev pub content_of : Stack → BlockNo → Block
content_of v b = slice_index_or v.blocks b.0 (record { 0 = [] })

abbrev pub with_block : Stack → BlockNo → Block → Stack
with_block v b content = record v { blocks = slice_set v.blocks b.0 content }
