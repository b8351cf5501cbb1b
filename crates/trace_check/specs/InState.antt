-- The clauses, as a state tells them.
use Rattle.std.specs.Prelude.{◌^◌, ◌-◌, ◌≡◌, ⊤, ℕ, zero, suc, ◌<◌, Bool, true, false, not, ◌&&◌, ◌||◌, List, [], Option, Some, None, MatchOption, slice_index}
use Rattle.std.specs.List.{list_any}
use Rattle.pei_types.specs.declared.identifiers.Actor.{Actor}
use Rattle.pei_types.specs.declared.identifiers.Block.{Block}
use Rattle.pei_types.specs.declared.identifiers.BlockNo.{BlockNo}
use Rattle.pei_types.specs.declared.identifiers.CoreId.{CoreId}
use Rattle.pei_types.specs.declared.identifiers.PeiId.{PeiId}
use Rattle.pei_types.specs.declared.inflight_looks.PeiLook.{PeiLook}
use Rattle.pei_types.specs.declared.inflight_looks.Phase.TheVariants as phase
use Rattle.pei_types.specs.declared.clauses.Clause.{Clause}
use Rattle.pei_types.specs.declared.clauses.Clause.TheVariants as clause
use Rattle.pei_types.specs.declared.events.EventKind.{EventKind}
use Rattle.pei_types.specs.declared.events.EventKind.TheVariants as event
use Rattle.pei_types.specs.declared.machines.MachineSpec.{MachineSpec}
use Rattle.pei_types.specs.declared.identifiers.Lane.{Lane}
use Rattle.pei_types.specs.Blocks.{block_of, is_word_of_memory, same_block, same_core}
use Rattle.pei_types.specs.Calls.{AnswersNext, CallFits, Messages, Peis, Programs, Side, follows_phase, side_of}
use Rattle.pei_types.specs.MachineState.{State, conflict, entry_is_taken, fence_of, first_unfinished, is_absent, is_i, is_phase, letter_of, look_in, mark_of}
use Rattle.pei_types.specs.Core.{CoreNext, Calls}
use Rattle.coherence_bus.specs.Hierarchy.{FillsFrom}
use Rattle.pei_types.specs.Guard.{guard, l1_has_room}
use Rattle.pei_types.specs.Next.{Makes, Turn, lane_row}
use Rattle.pei_types.specs.Operation.{CanApply, is_writer}
use Rattle.pei_types.specs.Race.{access_of}
use Rattle.pei_types.specs.StateClauses.{EvictsLast, PlacesByMonitor}
use Rattle.pei_types.specs.Turns.{is_entering, program_turn}

-- ---- calls

abbrev pub EndsDrained : State → Actor → EventKind → Type 0
EndsDrained s a (event.End kind) = first_unfinished s a.core ≡ None
EndsDrained s a _ = ⊤

-- the PEI of this number is in the actor's lane, and the event is its next
abbrev pub FollowsLook : State → Actor → EventKind → ℕ → Type 0
FollowsLook s a kind seq = (l : PeiLook) × (look_in s a.core a.lane ≡ Some l) × (l.id.seq ≡ seq) × (follows_phase l.phase kind ≡ true)

abbrev pub AnswersSide : Side → CoreNext → State → Actor → EventKind → Type 0
AnswersSide Programs x s a kind = (a.lane.0 ≡ 0) × AnswersNext x kind × EndsDrained s a kind
AnswersSide (Peis seq) x s a kind = (0 < a.lane.0) × FollowsLook s a kind seq
AnswersSide Messages x s a kind = ⊤

-- The event answers what its core does next, x, or is the next of its PEI.
abbrev pub AnswersIn : CoreNext → State → Actor → EventKind → Type 0
AnswersIn x s a kind = AnswersSide (side_of kind) x s a kind

-- what an event of a PEI has of it: the PEI is in the actor's lane, and the event is its next
abbrev pub IsOwnSide : Side → State → Actor → EventKind → Type 0
IsOwnSide (Peis seq) s a kind = (0 < a.lane.0) × FollowsLook s a kind seq
IsOwnSide _ s a kind = ⊤

-- the event is a PEI's
abbrev pub IsPeisSide : Side → Type 0
IsPeisSide (Peis seq) = ⊤
IsPeisSide _ = ⊥

abbrev pub IsPeis : EventKind → Type 0
IsPeis kind = IsPeisSide (side_of kind)

abbrev pub IsOwn : State → Actor → EventKind → Type 0
IsOwn s a kind = IsOwnSide (side_of kind) s a kind

-- what the core asks for can be served by a memory of so many blocks
abbrev pub FitsMemory : ℕ → CoreNext → Type 0
FitsMemory blocks (Calls call) = CallFits blocks call
FitsMemory blocks _ = ⊤

-- an access is of a word of memory
abbrev pub AccessesMemory : ℕ → EventKind → Type 0
AccessesMemory blocks (event.Load addr value) = is_word_of_memory blocks addr ≡ true
AccessesMemory blocks (event.Store addr value) = is_word_of_memory blocks addr ≡ true
AccessesMemory blocks _ = ⊤

-- each PEI on its way can be applied to a block of memory
abbrev pub LooksFit : ℕ → State → Type 0
LooksFit blocks s = (c : CoreId) (l : Lane) (p : PeiLook) → look_in s c l ≡ Some p → CanApply p.op p.operands × (p.block.0 < blocks)

-- ---- order, exclusion, fences, races

-- whether the PEI in a lane has not acted and comes before an access of a block by its core
abbrev pub waits_in : BlockNo → Bool → Option PeiLook → Bool
waits_in b store None = false
waits_in b store (Some p) = same_block p.block b && (store || is_writer p.op) && not (is_phase p.phase phase.Acted)

-- whether a PEI of the core that has not acted comes before its access of a block
abbrev pub waits_for_own : State → CoreId → BlockNo → Bool → Bool
waits_for_own s c b store =
    list_any (λ p. same_core p.id.core c && (same_block p.block b && (store || is_writer p.op)) && not (is_phase p.phase phase.Acted)) s.peis

abbrev pub is_ordered : State → Actor → EventKind → Bool
is_ordered s a (event.Load addr value) = not (waits_for_own s a.core (block_of addr) false)
is_ordered s a (event.Store addr value) = not (waits_for_own s a.core (block_of addr) true)
is_ordered s a _ = true

abbrev pub finds_free : MachineSpec → State → Option PeiLook → Bool
finds_free m s None = true
finds_free m s (Some l) = not (entry_is_taken m s l)

abbrev pub enters_free : MachineSpec → State → Actor → EventKind → Bool
enters_free m s a (event.Enter seq) = finds_free m s (look_in s a.core a.lane)
enters_free m s a _ = true

-- a fence that is on and ends waits for no writer
abbrev pub EndsFence : State → Actor → EventKind → Type 0
EndsFence s a event.FenceEnd = (waits : List PeiId) → fence_of s a.core ≡ Some waits → waits ≡ []
EndsFence s a _ = ⊤

abbrev pub RacesIn : CoreNext → State → EventKind → Type 0
RacesIn x s (event.Load addr value) = conflict s (block_of addr) false ≡ None
RacesIn x s (event.Store addr value) = conflict s (block_of addr) true ≡ None
RacesIn x s (event.Race pc b by) = MatchOption (access_of x) ⊥ (λ access. conflict s access.0 access.1 ≡ Some by)
RacesIn x s _ = ⊤

-- ---- the next step

-- the turn of an actor in a state, where memory has this content and x is what its core does next
abbrev pub turn_at_lane : ℕ → CoreNext → MachineSpec → State → (BlockNo → Block) → Actor → Bool → Option Turn
turn_at_lane zero x m s content a granted = program_turn m s content a.core x
turn_at_lane (suc l) x m s content a granted = Some (lane_row m s content granted (look_in s a.core a.lane))

abbrev pub turn_in : CoreNext → MachineSpec → State → (BlockNo → Block) → Actor → Bool → Option Turn
turn_in x m s content a granted = turn_at_lane a.lane.0 x m s content a granted

-- the event of a turn, if it makes one
abbrev pub made : Option Turn → Option EventKind
made (Some (Makes kind)) = Some kind
made _ = None

-- ---- guards and evictions

-- whether a block is the one of a line that was found
abbrev pub is_found : Option BlockNo → BlockNo → Bool
is_found None b = false
is_found (Some x) b = same_block x b

-- whether a copy may come to a core that has none
abbrev pub may_come : MachineSpec → State → CoreId → BlockNo → Bool
may_come m s c b = is_i (letter_of m s c b) && not (is_absent (mark_of m s b)) && l1_has_room m s c b

-- ---- all clauses on an event

-- What an event needs for its effect: it is its PEI's next, its guard holds, it is on blocks of memory, and the core has
-- issued fewer PEIs than there are numbers.
pub record MayApply (m : MachineSpec) (s : State) (a : Actor) (kind : EventKind) : Type 0 where
  pub own : IsOwn s a kind
  pub guarded : guard m s a kind ≡ true
  pub access : AccessesMemory m.blocks kind
  pub fills : FillsFrom m.blocks kind
  pub few : slice_index s.issues a.core.0 < 2 ^ 32 - 1

-- What the state tells of an event that meets every clause beside replies, where x is what its core does next: it may be
-- applied, and it is its actor's next row.
pub record MeetsIn (x : CoreNext) (m : MachineSpec) (s : State) (content : BlockNo → Block) (a : Actor) (kind : EventKind) : Type 0 where
  pub answers : AnswersIn x s a kind
  pub ordered : is_ordered s a kind ≡ true
  pub free : enters_free m s a kind ≡ true
  pub fence : EndsFence s a kind
  pub races : RacesIn x s kind
  pub guarded : guard m s a kind ≡ true
  pub recency : EvictsLast m s a kind
  pub placed : PlacesByMonitor m s a kind
  pub turn : turn_in x m s content a (is_entering kind) ≡ Some (Makes kind)

-- A clause behind replies fails, and those before it hold.
abbrev pub FailsIn : Clause → CoreNext → MachineSpec → State → (BlockNo → Block) → ℕ → Actor → EventKind → Type 0
FailsIn clause.Replies x m s content i a kind = ⊥
FailsIn clause.Calls x m s content i a kind = ¬ (AnswersIn x s a kind)
FailsIn clause.Order x m s content i a kind = AnswersIn x s a kind × (is_ordered s a kind ≡ false)
FailsIn clause.Directory x m s content i a kind = AnswersIn x s a kind × (is_ordered s a kind ≡ true) × (enters_free m s a kind ≡ false)
FailsIn clause.Fence x m s content i a kind = AnswersIn x s a kind × (is_ordered s a kind ≡ true) × (enters_free m s a kind ≡ true) × ¬ (EndsFence s a kind)
FailsIn clause.Race x m s content i a kind =
    AnswersIn x s a kind × (is_ordered s a kind ≡ true) × (enters_free m s a kind ≡ true) × EndsFence s a kind × ¬ (RacesIn x s kind)
FailsIn clause.Guard x m s content i a kind =
    AnswersIn x s a kind × (is_ordered s a kind ≡ true) × (enters_free m s a kind ≡ true) × EndsFence s a kind × RacesIn x s kind × (guard m s a kind ≡ false)
FailsIn clause.Recency x m s content i a kind =
    AnswersIn x s a kind × (is_ordered s a kind ≡ true) × (enters_free m s a kind ≡ true) × EndsFence s a kind × RacesIn x s kind × (guard m s a kind ≡ true)
    × ¬ (EvictsLast m s a kind)
FailsIn clause.Monitor x m s content i a kind =
    AnswersIn x s a kind × (is_ordered s a kind ≡ true) × (enters_free m s a kind ≡ true) × EndsFence s a kind × RacesIn x s kind × (guard m s a kind ≡ true)
    × EvictsLast m s a kind × ¬ (PlacesByMonitor m s a kind)
FailsIn clause.Next x m s content i a kind =
    AnswersIn x s a kind × (is_ordered s a kind ≡ true) × (enters_free m s a kind ≡ true) × EndsFence s a kind × RacesIn x s kind × (guard m s a kind ≡ true)
    × EvictsLast m s a kind × PlacesByMonitor m s a kind
    × ¬ ((i < m.events) × (turn_in x m s content a (is_entering kind) ≡ Some (Makes kind)))
FailsIn clause.Seal x m s content i a kind = ⊥
