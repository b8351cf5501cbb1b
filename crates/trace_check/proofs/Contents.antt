-- The contents of blocks after one was written.
use Rattle.std.proofs.Common.{◌≡◌, ℕ, zero, suc, ◌==◌, Bool, true, false, if◌then◌else◌, List, [], ◌∷◌, get_or, set, refl, sym, ◌∙◌, ap}
use Rattle.std.proofs.lemmas.Bool.{eqb-false, eqb-true}
use Rattle.pei_types.specs.declared.identifiers.Block.{Block}
use Rattle.pei_types.specs.declared.identifiers.BlockNo.{BlockNo}
use Rattle.pei_types.specs.declared.inflight_looks.PeiLook.{PeiLook}
use Rattle.pei_types.specs.declared.operations.Op.{Op}
use Rattle.pei_types.specs.declared.operations.Op.TheVariants as op
use Rattle.pei_types.specs.declared.operations.Operands.{Operands}
use Rattle.pei_types.specs.Blocks.{same_block}
use Rattle.pei_types.specs.Operation.{block_after, is_writer}
use Rattle.coherence_bus.specs.Hierarchy.{Hierarchy, content_of, with_content}

-- what stands in the place of a block that memory lacks
abbrev no_block : Block
no_block = record { 0 = [] }

changed_here : (xs : List Block) (i : ℕ) (change : Block → Block) → change no_block ≡ no_block → get_or (set xs i (change (get_or xs i no_block))) i no_block ≡ change (get_or xs i no_block)
changed_here [] i change h = sym h
changed_here (x ∷ xs) zero change h = refl
changed_here (x ∷ xs) (suc i) change h = changed_here xs i change h

changed_there : (xs : List Block) (i b : ℕ) (y : Block) → (i ≡ b → ⊥) → get_or (set xs i y) b no_block ≡ get_or xs b no_block
changed_there [] i b y h = refl
changed_there (x ∷ xs) zero zero y h = absurd (h refl)
changed_there (x ∷ xs) zero (suc b) y h = refl
changed_there (x ∷ xs) (suc i) zero y h = refl
changed_there (x ∷ xs) (suc i) (suc b) y h = changed_there xs i b y (λ e. h (ap suc e))

set_content : (xs : List Block) (i b : ℕ) (change : Block → Block) → change no_block ≡ no_block → get_or (set xs i (change (get_or xs i no_block))) b no_block ≡ (if i == b then change (get_or xs b no_block) else get_or xs b no_block)
set_content xs i b change h = by (i == b) refl
  where
    by : (t : Bool) → (i == b) ≡ t → get_or (set xs i (change (get_or xs i no_block))) b no_block ≡ (if t then change (get_or xs b no_block) else get_or xs b no_block)
    by true e =
        let same : i ≡ b = eqb-true i b e
        in ap (λ k. get_or (set xs i (change (get_or xs i no_block))) k no_block) (sym same) ∙ changed_here xs i change h ∙ ap (λ k. change (get_or xs k no_block)) same
    by false e = changed_there xs i b (change (get_or xs i no_block)) (eqb-false i b e)

-- The content of a block after another one, or the same, was changed.
pub content_changed : (h : Hierarchy) (c b : BlockNo) (change : Block → Block) → change no_block ≡ no_block → content_of (with_content h c (change (content_of h c))) b ≡ (if same_block c b then change (content_of h b) else content_of h b)
content_changed h c b change none = set_content h.memory c.0 b.0 change none

-- a block that is not there has no words to change
pub acts_on_none : (o : Op) (operands : Operands) → block_after o operands no_block ≡ no_block
acts_on_none (op.Inc word) operands = refl
acts_on_none (op.Min word) operands = refl
acts_on_none op.Probe operands = refl
acts_on_none op.Hist operands = refl
acts_on_none op.Dot operands = refl

-- a reader changes no block
pub reader_keeps : (p : PeiLook) (x : Block) → is_writer p.op ≡ false → block_after p.op p.operands x ≡ x
reader_keeps p x h = by p.op h
  where
    by : (o : Op) → is_writer o ≡ false → block_after o p.operands x ≡ x
    by (op.Inc word) k = absurd (cc k)
    by (op.Min word) k = absurd (cc k)
    by op.Probe k = refl
    by op.Hist k = refl
    by op.Dot k = refl
