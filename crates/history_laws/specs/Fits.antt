-- What an event has of its actor's row, as far as the flat machine sees it.
use Rattle.std.specs.Prelude.{◌≡◌, ◌⊎◌, ℕ, ◌<◌, true, false, ⊤, IsTrue, List, [], Some, None, slice_index}
use Rattle.pei_types.specs.declared.identifiers.Actor.{Actor}
use Rattle.pei_types.specs.declared.identifiers.CoreId.{CoreId}
use Rattle.pei_types.specs.declared.calls.Call.TheVariants as call
use Rattle.pei_types.specs.declared.inflight_looks.PeiLook.{PeiLook}
use Rattle.pei_types.specs.declared.events.Event.{Event}
use Rattle.pei_types.specs.declared.events.EventKind.{EventKind}
use Rattle.pei_types.specs.declared.events.EventKind.TheVariants as event
use Rattle.pei_types.specs.declared.machines.MachineSpec.{MachineSpec}
use Rattle.pei_types.specs.Blocks.{block_of}
use Rattle.pei_types.specs.Calls.{Side, Programs, Peis, Messages, side_of, is_actor_of, follows_phase}
use Rattle.pei_types.specs.MachineState.{State, conflict, first_unentered, first_unfinished, entry_is_taken, look_in, fence_of, free_lane}
use Rattle.pei_types.specs.Core.{CoreNext, Calls}
use Rattle.pei_types.specs.FlatMemory.{flat_block, flat_word}
use Rattle.pei_types.specs.Operation.{reply_of}
use Rattle.pei_types.specs.Program.{Contents}
use Rattle.history_laws.specs.TrackedPeis.{fence_is_on}

-- an event of a core's program, where x is what the core does next
abbrev pub FitsProgram : CoreNext → MachineSpec → Contents → List Event → State → Actor → EventKind → Type 0
FitsProgram x m image before s a (event.Load addr value) =
    (pc : ℕ) × (x ≡ Calls (call.Load pc addr)) × (conflict s (block_of addr) false ≡ None) × (value ≡ flat_word image before addr)
FitsProgram x m image before s a (event.Store addr value) =
    (pc : ℕ) × (x ≡ Calls (call.Store pc addr value)) × (conflict s (block_of addr) true ≡ None)
FitsProgram x m image before s a (event.Race pc b by) =
    ((addr : ℕ) × (b ≡ block_of addr) × (x ≡ Calls (call.Load pc addr)) × (conflict s (block_of addr) false ≡ Some by))
    ⊎ ((addr : ℕ) × (value : ℕ) × (b ≡ block_of addr) × (x ≡ Calls (call.Store pc addr value)) × (conflict s (block_of addr) true ≡ Some by))
FitsProgram x m image before s a (event.Issue seq lane o b operands) = (x ≡ Calls (call.Pei o b operands)) × (seq ≡ slice_index s.issues a.core.0) × (free_lane m s a.core ≡ Some lane)
FitsProgram x m image before s a event.FenceBegin = (x ≡ Calls call.Fence) × (fence_of s a.core ≡ None)
FitsProgram x m image before s a event.FenceEnd = (x ≡ Calls call.Fence) × (fence_of s a.core ≡ Some [])
FitsProgram x m image before s a (event.Out value) = x ≡ Calls (call.Out value)
FitsProgram x m image before s a (event.End kind) = (x ≡ Calls (call.End kind)) × (first_unfinished s a.core ≡ None)
FitsProgram x m image before s a _ = ⊤

-- what an event of a PEI has beside its phase
abbrev pub FitsLook : MachineSpec → Contents → List Event → State → EventKind → PeiLook → Type 0
FitsLook m image before s (event.Enter seq) l = (first_unentered s l.id.core ≡ Some l.id) × (entry_is_taken m s l ≡ false)
FitsLook m image before s (event.Act seq reply) l = reply ≡ reply_of l.op l.operands (flat_block image before l.block)
FitsLook m image before s _ l = ⊤

-- an event of the PEI in the actor's lane, which is its next
abbrev pub FitsPei : MachineSpec → Contents → List Event → State → Actor → EventKind → ℕ → Type 0
FitsPei m image before s a kind seq =
    (l : PeiLook) × (look_in s a.core a.lane ≡ Some l) × (l.id.seq ≡ seq) × (follows_phase l.phase kind ≡ true) × FitsLook m image before s kind l

abbrev pub FitsSide : Side → CoreNext → MachineSpec → Contents → List Event → State → Actor → EventKind → Type 0
FitsSide Programs x m image before s a kind = (a.lane.0 ≡ 0) × FitsProgram x m image before s a kind
FitsSide (Peis seq) x m image before s a kind = (0 < a.lane.0) × FitsPei m image before s a kind seq
FitsSide Messages x m image before s a kind = ⊤

-- the event fits its actor in state s, where x is what its core does next
abbrev pub Fits : CoreNext → MachineSpec → Contents → List Event → State → Actor → EventKind → Type 0
Fits x m image before s a kind = IsTrue (is_actor_of m a) × FitsSide (side_of kind) x m image before s a kind

-- a core whose fence is on goes on asking for it
abbrev pub AsksForFence : CoreNext → List Event → CoreId → Type 0
AsksForFence x before c = fence_is_on c before ≡ true → x ≡ Calls call.Fence

-- a PEI that enters finds its entry free
abbrev pub EntersFree : MachineSpec → State → Actor → EventKind → Type 0
EntersFree m s a (event.Enter seq) = (l : PeiLook) → look_in s a.core a.lane ≡ Some l → entry_is_taken m s l ≡ false
EntersFree m s a _ = ⊤
