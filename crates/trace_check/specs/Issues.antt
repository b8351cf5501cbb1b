-- PEIs as their issues name them, and the replies that they owe.
use Rattle.std.specs.Prelude.{◌≡◌, ⊤, ℕ, ◌<◌, true, List, Some, IfSome, option_map, slice_index}
use Rattle.pei_types.specs.declared.identifiers.Actor.{Actor}
use Rattle.pei_types.specs.declared.identifiers.Block.{Block}
use Rattle.pei_types.specs.declared.identifiers.BlockNo.{BlockNo}
use Rattle.pei_types.specs.declared.identifiers.PeiId.{PeiId}
use Rattle.pei_types.specs.declared.inflight_looks.PeiLook.{PeiLook}
use Rattle.pei_types.specs.declared.events.Event.{Event}
use Rattle.pei_types.specs.declared.events.EventKind.{EventKind}
use Rattle.pei_types.specs.declared.events.EventKind.TheVariants as event
use Rattle.pei_types.specs.Blocks.{block_of, is_word_of_memory, word_of}
use Rattle.pei_types.specs.MachineState.{State, look_of}
use Rattle.pei_types.specs.History.{Pei, pei_of}
use Rattle.pei_types.specs.Operation.{CanApply, reply_of}
use Rattle.trace_check.specs.declared.histories.Issued.{Issued}

abbrev pub issued_as : Pei → Issued
issued_as p = record { op = p.op; block = p.block; operands = p.operands }

-- a PEI that can be applied to a block of memory
pub record FitsBlocks (blocks : ℕ) (p : Issued) : Type 0 where
  pub applies : CanApply p.op p.operands
  pub inside : p.block.0 < blocks

-- each PEI that was issued can
abbrev pub AllFit : ℕ → List Event → Type 0
AllFit blocks past = (id : PeiId) (p : Pei) → pei_of past id ≡ Some p → FitsBlocks blocks (issued_as p)

-- a PEI on its way is as its issue names it
abbrev pub AreAsIssued : State → List Event → Type 0
AreAsIssued s past = (l : PeiLook) → look_of s l.id ≡ Some l → option_map issued_as (pei_of past l.id) ≡ Some (record { op = l.op; block = l.block; operands = l.operands })

-- a load or an act has the reply of this memory
abbrev pub RepliesBy : ℕ → (BlockNo → Block) → List Event → Actor → EventKind → Type 0
RepliesBy blocks content past a (event.Load addr value) = is_word_of_memory blocks addr ≡ true → value ≡ slice_index (content (block_of addr)).0 (word_of addr)
RepliesBy blocks content past a (event.Act seq reply) =
    IfSome (pei_of past (record { core = a.core; seq = seq })) (λ p. reply ≡ reply_of p.op p.operands (content p.block))
RepliesBy blocks content past a _ = ⊤
