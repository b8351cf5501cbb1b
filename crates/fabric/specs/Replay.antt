-- Events that parts make again.
use Rattle.std.specs.Prelude.{◌≡◌, ℕ, zero, suc, ◌^◌, ◌-◌, ◌<◌, true, false, ⊤, IsTrue, slice_index, Some}
use Rattle.pei_types.specs.declared.identifiers.Actor.{Actor}
use Rattle.pei_types.specs.declared.identifiers.CoreId.{CoreId}
use Rattle.pei_types.specs.declared.identifiers.Lane.{Lane}
use Rattle.pei_types.specs.declared.calls.Call.{Call}
use Rattle.pei_types.specs.declared.calls.Call.TheVariants as call
use Rattle.pei_types.specs.declared.inflight_looks.PeiLook.{PeiLook}
use Rattle.pei_types.specs.declared.events.EventKind.{EventKind}
use Rattle.pei_types.specs.declared.events.EventKind.TheVariants as event
use Rattle.pei_types.specs.Calls.{CallFits}
use Rattle.pei_types.specs.MachineState.{entry_is_taken, look_in}
use Rattle.pei_types.specs.Guard.{guard}
use Rattle.pei_types.specs.Next.{Makes, call_row, lane_row}
use Rattle.pei_types.specs.Turns.{is_entering}
use Rattle.coherence_bus.specs.Hierarchy.{FillsFrom}
use Rattle.inflight.specs.OnTheWay.{IsLaneOf}
use Rattle.pmu_dispatch.specs.Steps.{is_message}
use Rattle.fabric.specs.History.{program_of}
use Rattle.fabric.specs.Whole.{Whole, content_in}

-- the event is the row of a call that the machine serves
pub record IsRowOfCall (v : Whole) (c : CoreId) (x : Call) (kind : EventKind) : Type 0 where
  pub fits : CallFits v.machine.blocks x
  pub row : call_row v.machine v.state (content_in v) c x ≡ Makes kind

-- the event is a message that meets its guard, and fills a block of memory
pub record IsMessage (v : Whole) (c : CoreId) (kind : EventKind) : Type 0 where
  pub message : is_message kind ≡ true
  pub guarded : IsTrue (guard v.machine v.state (program_of c) kind)
  pub memory : FillsFrom v.machine.blocks kind

-- The event of a core's program, as it is made again: by a call that is read off it, whatever the number of the instruction
-- was, or as a message. A race, an output and an end change no part.
abbrev pub IsProgramsAgain : Whole → CoreId → EventKind → Type 0
IsProgramsAgain v c (event.Load addr value) = IsRowOfCall v c (call.Load 0 addr) (event.Load addr value)
IsProgramsAgain v c (event.Store addr value) = IsRowOfCall v c (call.Store 0 addr value) (event.Store addr value)
IsProgramsAgain v c (event.Issue seq lane o b operands) =
    (slice_index v.state.issues c.0 < 2 ^ 32 - 1) × IsRowOfCall v c (call.Pei o b operands) (event.Issue seq lane o b operands)
IsProgramsAgain v c event.FenceBegin = IsRowOfCall v c call.Fence event.FenceBegin
IsProgramsAgain v c event.FenceEnd = IsRowOfCall v c call.Fence event.FenceEnd
IsProgramsAgain v c (event.Out value) = ⊤
IsProgramsAgain v c (event.Race pc b by) = ⊤
IsProgramsAgain v c (event.End kind) = ⊤
IsProgramsAgain v c kind = IsMessage v c kind

-- the event is the row of a lane with its PEI, which enters where its entry is free
pub record IsLanesAgain (v : Whole) (c : CoreId) (l : Lane) (kind : EventKind) : Type 0 where
  pub lane : IsLaneOf v.machine c l
  pub row : lane_row v.machine v.state (content_in v) (is_entering kind) (look_in v.state c l) ≡ Makes kind
  pub free : is_entering kind ≡ true → (p : PeiLook) → look_in v.state c l ≡ Some p → entry_is_taken v.machine v.state p ≡ false

-- an event that the parts make again, of an actor whose lane has this number
abbrev pub IsAgain : ℕ → Whole → Actor → EventKind → Type 0
IsAgain zero v a kind = (a.core.0 < v.machine.cores) × IsProgramsAgain v a.core kind
IsAgain (suc l) v a kind = IsLanesAgain v a.core a.lane kind
