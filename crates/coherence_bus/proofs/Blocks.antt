-- The contents of all blocks of a memory.
use Rattle.std.proofs.Common.{◌≡◌, ℕ, ◌<◌, Bool, true, false, length, refl, sym, ◌∙◌, arith, get_or}
use Rattle.std.specs.Prelude.{◌==◌, slice_set}
use Rattle.std.proofs.lemmas.List.{ext_get_or, length-set, get_or-set_other}
use Rattle.std.proofs.lemmas.Grind.{get_or-set_at}
use Rattle.std.proofs.lemmas.Bool.{eqb-true, eqb-false}
use Rattle.std.proofs.lemmas.List.FromFn.{length-map-range_with_len, get_or-map-range_with_len}
use Rattle.pei_types.specs.declared.identifiers.Block.{Block}
use Rattle.pei_types.specs.declared.identifiers.BlockNo.{BlockNo}
use Rattle.pei_types.specs.declared.machines.MachineSpec.{MachineSpec}
use Rattle.pei_types.proofs.Tests.{if-true, if-false}
use Rattle.coherence_laws.specs.Data.{at_block}
use Rattle.coherence_bus.specs.Hierarchy.{all_blocks}

-- the content of a block of a memory
pub content_in : (m : MachineSpec) (memory : BlockNo → Block) (b : BlockNo) (d : Block) → b.0 < m.blocks → get_or (all_blocks m memory) b.0 d ≡ memory b
content_in m memory b d within = get_or-map-range_with_len (λ n. memory (record { 0 = n })) 0 m.blocks b.0 b.0 d within (omega arith)

pub count_of : (m : MachineSpec) (memory : BlockNo → Block) → length (all_blocks m memory) ≡ m.blocks
count_of m memory = length-map-range_with_len (λ n. memory (record { 0 = n })) 0 m.blocks

-- memory with another content for a block
pub content_set : (m : MachineSpec) (memory : BlockNo → Block) (b : BlockNo) (content : Block) → b.0 < m.blocks → all_blocks m (at_block memory b content) ≡ slice_set (all_blocks m memory) b.0 content
content_set m memory b content within =
    ext_get_or content (all_blocks m (at_block memory b content)) (slice_set (all_blocks m memory) b.0 content)
    (count_of m (at_block memory b content) ∙ sym (length-set (all_blocks m memory) b.0 content ∙ count_of m memory))
    (λ i inside. at_place i (i == b.0) refl (omega (arith, inside, count_of m (at_block memory b content))))
  where
    at_place : (i : ℕ) (t : Bool) → (i == b.0) ≡ t → i < m.blocks → get_or (all_blocks m (at_block memory b content)) i content ≡ get_or (slice_set (all_blocks m memory) b.0 content) i content
    at_place i true here inside =
        content_in m (at_block memory b content) (record { 0 = i }) content inside
        ∙ if-true (i == b.0) content (memory (record { 0 = i })) here
        ∙ sym (get_or-set_at (all_blocks m memory) b.0 i content content (eqb-true i b.0 here) (omega (arith, within, count_of m memory)))
    at_place i false other inside =
        content_in m (at_block memory b content) (record { 0 = i }) content inside
        ∙ if-false (i == b.0) content (memory (record { 0 = i })) other
        ∙ sym (get_or-set_other (all_blocks m memory) b.0 i content content (eqb-false i b.0 other) ∙ content_in m memory (record { 0 = i }) content inside)
