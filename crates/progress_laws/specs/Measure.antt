-- How many turns a run of one core has left at most, where one actor goes on until it stalls.
use Rattle.std.specs.Prelude.{ℕ, zero, suc, ◌+◌, ◌-◌, ◌*◌, ◌%◌, nat_le, true, false, if◌then◌else◌, List, [], ◌∷◌, length, Option, Some, None}
use Rattle.pei_types.specs.declared.identifiers.CoreId.{CoreId}
use Rattle.pei_types.specs.declared.calls.Call.{Call}
use Rattle.pei_types.specs.declared.calls.Call.TheVariants as call
use Rattle.pei_types.specs.declared.calls.EndKind.{EndKind}
use Rattle.pei_types.specs.declared.identifiers.PeiId.{PeiId}
use Rattle.pei_types.specs.declared.inflight_looks.PeiLook.{PeiLook}
use Rattle.pei_types.specs.declared.inflight_looks.Phase.{Phase}
use Rattle.pei_types.specs.declared.inflight_looks.Phase.TheVariants as phase
use Rattle.pei_types.specs.declared.events.Event.{Event}
use Rattle.pei_types.specs.declared.machines.MachineSpec.{MachineSpec}
use Rattle.pei_types.specs.Blocks.{block_of}
use Rattle.pei_types.specs.MachineState.{State, state_after, conflict, fence_of}
use Rattle.pei_types.specs.Core.{CoreState, CoreNext, Calls, core_after, core_at_start, at_stop, events_of, next_of_core, core_config}
use Rattle.pei_types.specs.Operation.{is_writer}
use Rattle.pei_types.specs.Program.{Listing, Contents}
use Rattle.pei_types.specs.Schedule.{Run, LaneClaim, Announced, Held, Spent, actors}
use Rattle.history_laws.specs.Holders.{claim_at}
use Rattle.progress_laws.specs.Distance.{want_left, seal_left}

-- the only core
abbrev pub core_0 : CoreId
core_0 = record { 0 = 0 }

-- ---- a PEI

-- A PEI that has not entered: an announcement and a grant come first.
abbrev pub enter_left : LaneClaim → ℕ
enter_left (Held entry mode) = 12
enter_left (Announced entry) = 13
enter_left _ = 14

-- the turns that a PEI has left until its claim is released, where its lane has this of the directory
abbrev pub phase_left : MachineSpec → State → LaneClaim → PeiLook → Phase → ℕ
phase_left m s claim p phase.Issued = enter_left claim
phase_left m s claim p phase.Entered = 11
phase_left m s claim p phase.HostPlaced = 4 + want_left m s p.id.core p.block (is_writer p.op)
phase_left m s claim p phase.MemoryPlaced = 4 + seal_left m s p
phase_left m s claim p phase.Read = 3
phase_left m s claim p phase.Sealed = 3
phase_left m s claim p phase.Acted = 2

abbrev pub life_left : MachineSpec → State → List (List LaneClaim) → PeiLook → ℕ
life_left m s claims p = phase_left m s (claim_at claims p.id.core.0 p.lane.0) p p.phase

abbrev pub lives_left : MachineSpec → State → List (List LaneClaim) → List PeiLook → ℕ
lives_left m s claims [] = 0
lives_left m s claims (p ∷ ps) = life_left m s claims p + lives_left m s claims ps

-- a claim whose PEI has left is to be released
abbrev pub release_left : LaneClaim → ℕ
release_left (Spent entry mode) = 1
release_left _ = 0

-- ---- stalls

-- whose turn it is: a lane
abbrev pub lane_at : MachineSpec → Run → ℕ
lane_at m r = r.stalls % actors m

-- the lane that goes on: that of the oldest PEI, or else the program's
abbrev pub lane_ahead : List PeiLook → ℕ
lane_ahead [] = 0
lane_ahead (p ∷ ps) = p.lane.0

-- how many stalls there are before a lane has the turn, of so many lanes
abbrev pub stalls_until : ℕ → ℕ → ℕ → ℕ
stalls_until lanes from to = if nat_le from to then to - from else lanes + to - from

-- ---- the core

-- the core as it stopped after these events
abbrev pub core_now : Listing → MachineSpec → Contents → List Event → CoreState
core_now p m image journal =
    at_stop p (core_config m) (core_after p (core_config m) (core_at_start image core_0) (events_of core_0 journal))

-- a core ends once, and a race that it tells comes before
abbrev pub end_left : Option EndKind → Option EndKind → ℕ
end_left (Some end) raced = 0
end_left None (Some race) = 1
end_left None None = 2

-- what the core may still cost: 23 turns for each instruction that it may retire, which pay its answer, and of a PEI the
-- issue, the 14 turns of its life and eight stalls; and its end
abbrev pub core_left : MachineSpec → CoreState → ℕ
core_left m core = 23 * (m.fuel - core.retired) + end_left core.ended core.raced

-- a fence that has not begun
abbrev pub fence_left : Option (List PeiId) → ℕ
fence_left None = 1
fence_left (Some waits) = 0

-- an access that does not race has its block's messages left; six are kept for the next access
abbrev pub access_left : Option PeiId → ℕ → ℕ
access_left None left = left
access_left (Some by) left = 6

abbrev pub call_left : MachineSpec → State → Call → ℕ
call_left m s (call.Load pc addr) = access_left (conflict s (block_of addr) false) (want_left m s core_0 (block_of addr) false)
call_left m s (call.Store pc addr value) = access_left (conflict s (block_of addr) true) (want_left m s core_0 (block_of addr) true)
call_left m s _ = 6

abbrev pub calls_left : MachineSpec → State → CoreNext → ℕ
calls_left m s (Calls x) = call_left m s x
calls_left m s _ = 6

-- an access is made while the program has the turn
abbrev pub next_left : MachineSpec → State → ℕ → CoreNext → ℕ
next_left m s zero x = calls_left m s x
next_left m s (suc lane) x = 6

-- ---- the run

-- The turns left: what the core may still cost; a fence; the messages of its access; what each PEI has left, with the
-- stalls that its leaving makes; and the stalls until the lane that goes on has the turn.
abbrev pub turns_left : Listing → MachineSpec → Contents → Run → ℕ
turns_left p m image r =
    let s : State = state_after m r.journal
    in core_left m (core_now p m image r.journal) + fence_left (fence_of s core_0) + next_left m s (lane_at m r) (next_of_core p m image r.journal core_0)
    + lives_left m s r.claims s.peis + release_left (claim_at r.claims 0 (lane_at m r))
    + m.buffer * length s.peis + stalls_until (actors m) (lane_at m r) (lane_ahead s.peis)

-- enough turns for a program
abbrev pub enough_turns : MachineSpec → ℕ
enough_turns m = 23 * (m.fuel + 1)
