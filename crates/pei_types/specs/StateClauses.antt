-- The clauses of a journal that speak of the state before an event: which line an eviction takes, where a PEI is placed, and
-- that while a PEI is sealed no core may write its block.
use Rattle.std.specs.Prelude.{◌≡◌, Bool, false, not, ◌&&◌, ◌||◌, ⊤, IsTrue, Option, Some, None, MatchOption, ◌⊎◌}
use Rattle.std.specs.List.{list_all}
use Rattle.pei_types.specs.declared.identifiers.Actor.{Actor}
use Rattle.pei_types.specs.declared.identifiers.BlockNo.{BlockNo}
use Rattle.pei_types.specs.declared.inflight_looks.PeiLook.{PeiLook}
use Rattle.pei_types.specs.declared.inflight_looks.Phase.TheVariants as phase
use Rattle.pei_types.specs.declared.events.EventKind.{EventKind}
use Rattle.pei_types.specs.declared.events.EventKind.TheVariants as event
use Rattle.pei_types.specs.declared.machines.MachineSpec.{MachineSpec}
use Rattle.pei_types.specs.Blocks.{same_block, tag_of, llc_set_of}
use Rattle.pei_types.specs.MachineState.{State, mark_of, is_absent, none_has, none_owns, look_of, look_in, is_phase, pei_id, l1_set, llc_set}
use Rattle.pei_types.specs.Monitor.{placement}
use Rattle.pei_types.specs.Operation.{is_writer}
use Rattle.pei_types.specs.Recency.{list_at, victim}

-- the PEI in a lane is a writer on b that is placed in memory and not sealed
abbrev pub clears_way_for : BlockNo → Option PeiLook → Bool
clears_way_for b None = false
clears_way_for b (Some p) = same_block p.block b && is_writer p.op && is_phase p.phase phase.MemoryPlaced

-- An eviction takes the last line of a full set, or clears the way for a writer that memory is to execute.
abbrev pub EvictsLast : MachineSpec → State → Actor → EventKind → Type 0
EvictsLast m s a (event.EvictL1 c b) = MatchOption (victim m.l1_ways (l1_set m s c b)) ⊥ (λ line. IsTrue (same_block line.block b))
EvictsLast m s a (event.EvictLlc b) =
    MatchOption (victim m.llc_ways (llc_set m s b)) ⊥ (λ line. IsTrue (same_block line.block b)) ⊎ IsTrue (clears_way_for b (look_in s a.core a.lane))
EvictsLast m s a _ = ⊤

-- A placement is what the policy says, by the monitor where that is asked.
abbrev pub PlacesByMonitor : MachineSpec → State → Actor → EventKind → Type 0
PlacesByMonitor m s a (event.Place seq where_to) =
    MatchOption (look_of s (pei_id a seq)) ⊥ (λ p. where_to ≡ placement m.placement (tag_of m p.block) (list_at s.monitor (llc_set_of m p.block)))
PlacesByMonitor m s a _ = ⊤

-- While a PEI is sealed no core may write its block, and for a writer there is no copy of it.
abbrev pub is_guarded : MachineSpec → State → PeiLook → Bool
is_guarded m s p =
    not (is_phase p.phase phase.Sealed) || none_owns m s p.block && (not (is_writer p.op) || none_has m s p.block && is_absent (mark_of m s p.block))

abbrev pub SealsHold : MachineSpec → State → Type 0
SealsHold m s = IsTrue (list_all (is_guarded m s) s.peis)
