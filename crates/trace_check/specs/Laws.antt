-- What the state after a legal journal tells of the next event.
use Rattle.std.specs.Prelude.{◌≡◌, ℕ, ◌<◌, true, false, List, length}
use Rattle.pei_types.specs.declared.identifiers.Actor.{Actor}
use Rattle.pei_types.specs.declared.clauses.Clause.{Clause}
use Rattle.pei_types.specs.declared.clauses.Clause.TheVariants as clause
use Rattle.pei_types.specs.declared.identifiers.Block.{Block}
use Rattle.pei_types.specs.declared.identifiers.BlockNo.{BlockNo}
use Rattle.pei_types.specs.declared.events.Event.{Event}
use Rattle.pei_types.specs.declared.events.EventKind.{EventKind}
use Rattle.pei_types.specs.declared.machines.MachineSpec.{MachineSpec}
use Rattle.pei_types.specs.Calls.{is_actor_of}
use Rattle.pei_types.specs.MachineState.{state_after}
use Rattle.pei_types.specs.Core.{next_of_core}
use Rattle.pei_types.specs.FlatMemory.{flat_block}
use Rattle.pei_types.specs.Legal.{FailsFirst, Legal, Meets}
use Rattle.pei_types.specs.Program.{Listing, Contents}
use Rattle.coherence_laws.specs.Laws.{FlatMemoryGoesOn, LanesHoldPeis}
use Rattle.history_laws.specs.Laws.{AgreementTells, ExclusionTells, FittingMeets}
use Rattle.machine_laws.specs.Laws.{RowsMakeLegal, RowsMeetAll}
use Rattle.pei_types.specs.Laws.{AsksWhatFits, FoldsGrow, LegalGrows, StopsOnce}
use Rattle.machine_laws.specs.InOrder.{RunInOrder}
use Rattle.trace_check.specs.InState.{FailsIn, FitsMemory, LooksFit, MeetsIn}
use Rattle.trace_check.specs.Issues.{AllFit, RepliesBy}

-- The laws that the checker rests on.
pub record Rests : Type 0 where
  pub agreement : AgreementTells
  pub exclusion : ExclusionTells
  pub fitting : FittingMeets
  pub lanes : LanesHoldPeis
  pub rows : RowsMeetAll

-- After a legal journal an event of one of the machine's actors meets every clause where the state tells that it is its
-- actor's next row and enters on a free entry, memory holds flat memory, and there is room. Else the first clause that it
-- fails is the first that the state, and the replies of this memory, tell it to fail: replies; then calls, also where
-- the machine has no such actor; then the others in their order.
pub record StateTells : Type 0 where
  pub meets : (p : Listing) (m : MachineSpec) (image : Contents) (past : List Event) (content : BlockNo → Block) (e : Event) → RunInOrder p m image past → ((b : BlockNo) → b.0 < m.blocks → content b ≡ flat_block image past b) → LooksFit m.blocks (state_after m past) → FitsMemory m.blocks (next_of_core p m image past e.actor.core) → is_actor_of m e.actor ≡ true → length past < m.events → MeetsIn (next_of_core p m image past e.actor.core) m (state_after m past) content e.actor e.kind → Meets p m image past e
  pub replies : (p : Listing) (m : MachineSpec) (image : Contents) (past : List Event) (content : BlockNo → Block) (a : Actor) (kind : EventKind) → Legal p m image past → RunInOrder p m image past → ((b : BlockNo) → b.0 < m.blocks → content b ≡ flat_block image past b) → LooksFit m.blocks (state_after m past) → AllFit m.blocks past → ¬ (RepliesBy m.blocks content past a kind) → FailsFirst clause.Replies p m image past (record { actor = a; kind = kind })
  pub actor : (p : Listing) (m : MachineSpec) (image : Contents) (past : List Event) (content : BlockNo → Block) (a : Actor) (kind : EventKind) → Legal p m image past → RunInOrder p m image past → ((b : BlockNo) → b.0 < m.blocks → content b ≡ flat_block image past b) → LooksFit m.blocks (state_after m past) → AllFit m.blocks past → RepliesBy m.blocks content past a kind → is_actor_of m a ≡ false → FailsFirst clause.Calls p m image past (record { actor = a; kind = kind })
  pub fails : (p : Listing) (m : MachineSpec) (image : Contents) (past : List Event) (content : BlockNo → Block) (a : Actor) (kind : EventKind) → Legal p m image past → RunInOrder p m image past → ((b : BlockNo) → b.0 < m.blocks → content b ≡ flat_block image past b) → LooksFit m.blocks (state_after m past) → AllFit m.blocks past → RepliesBy m.blocks content past a kind → is_actor_of m a ≡ true → FitsMemory m.blocks (next_of_core p m image past a.core) → (c : Clause) (i : ℕ) → i ≡ length past → FailsIn c (next_of_core p m image past a.core) m (state_after m past) content i a kind → FailsFirst c p m image past (record { actor = a; kind = kind })

-- The laws that the pass through a journal rests on.
pub record Laws : Type 0 where
  pub tells : StateTells
  pub legal : RowsMakeLegal
  pub asks : AsksWhatFits
  pub stops : StopsOnce
  pub folds : FoldsGrow
  pub grows : LegalGrows
  pub flat : FlatMemoryGoesOn
