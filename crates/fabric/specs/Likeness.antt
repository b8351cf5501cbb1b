-- The parts of one bank, whose table of PEIs on their way counts other issues than the bank's and knows no fence.
use Rattle.std.specs.Prelude.{◌≡◌, ◌<◌, ◌^◌, ◌-◌, ⊤, Option, Some, None}
use Rattle.pei_types.specs.declared.identifiers.Actor.{Actor}
use Rattle.pei_types.specs.declared.identifiers.CoreId.{CoreId}
use Rattle.pei_types.specs.declared.identifiers.Lane.{Lane}
use Rattle.pei_types.specs.declared.calls.Call.{Call}
use Rattle.pei_types.specs.declared.calls.Call.TheVariants as call
use Rattle.pei_types.specs.declared.events.EventKind.{EventKind}
use Rattle.pei_types.specs.MachineState.{State, look_in, look_of, next_state}
use Rattle.pei_types.specs.Next.{Turn as Row, Makes}
use Rattle.inflight.specs.OnTheWay.{IsLaneOf}
use Rattle.fabric.specs.Moves.{memory_after}
use Rattle.fabric.specs.Whole.{Whole}
use Rattle.fabric.specs.declared.looks.CoreLook.{CoreLook}

-- Two states have the same caches, monitor, PEIs and queues.
pub record AreAlike (s t : State) : Type 0 where
  pub l1 : s.l1 ≡ t.l1
  pub llc : s.llc ≡ t.llc
  pub monitor : s.monitor ≡ t.monitor
  pub peis : s.peis ≡ t.peis
  pub queues : s.queues ≡ t.queues

-- `w` is what an event leaves of `v`, but for counts and fences.
pub record IsAfter (v : Whole) (a : Actor) (kind : EventKind) (w : Whole) : Type 0 where
  pub machine : w.machine ≡ v.machine
  pub memory : w.memory ≡ memory_after v.state v.memory a kind
  pub state : AreAlike w.state (next_state v.machine v.state a kind)

-- a row that is an event
abbrev pub IsEvent : Row → Type 0
IsEvent row = (kind : EventKind) × (row ≡ Makes kind)

-- A PEI of a core may be issued into a lane, under a number.
pub record MayIssue (v : Whole) (c : CoreId) (l : Lane) (look : CoreLook) : Type 0 where
  pub lane : IsLaneOf v.machine c l
  pub free : look_in v.state c l ≡ None
  pub few : look.issues < 2 ^ 32 - 1
  pub fresh : look_of v.state (record { core = c; seq = look.issues }) ≡ None

abbrev pub MayIssueIn : Whole → CoreId → Option Lane → CoreLook → Type 0
MayIssueIn v c None look = ⊤
MayIssueIn v c (Some lane) look = MayIssue v c lane look

abbrev pub MayIssueBy : Whole → CoreId → CoreLook → Call → Type 0
MayIssueBy v c look (call.Pei o b operands) = MayIssueIn v c look.free look
MayIssueBy v c look _ = ⊤
