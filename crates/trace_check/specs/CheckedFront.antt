-- A checker that has gone through a legal front of a journal.
use Rattle.std.specs.Prelude.{◌≡◌, ◌<◌, List, map, Some, is_some, slice_get}
use Rattle.pei_types.specs.declared.identifiers.BlockNo.{BlockNo}
use Rattle.pei_types.specs.declared.identifiers.CoreId.{CoreId}
use Rattle.pei_types.specs.declared.events.Event.{Event}
use Rattle.pei_types.specs.declared.machines.MachineSpec.{MachineSpec}
use Rattle.pei_types.specs.MachineState.{state_after}
use Rattle.pei_types.specs.Ends.{ends_of}
use Rattle.pei_types.specs.FlatMemory.{flat_block}
use Rattle.pei_types.specs.Legal.{Legal}
use Rattle.pei_types.specs.Program.{Listing, Contents}
use Rattle.core_exec.specs.CoreView.{Standing}
use Rattle.trace_check.specs.declared.checker.Checker.{Checker}
use Rattle.trace_check.specs.Cores.{IsAt}
use Rattle.trace_check.specs.CheckerParts.{state_of, content_of}

-- The events so far are legal, and the checker's state, memory, cores and ends are those that they leave.
pub record Follows (p : Listing) (m : MachineSpec) (image : Contents) (past : List Event) (v : Checker) : Type 0 where
  pub machine : v.machine ≡ m
  pub legal : Legal p m image past
  pub state : state_of v ≡ state_after m past
  pub memory : (b : BlockNo) → b.0 < m.blocks → content_of v b ≡ flat_block image past b
  pub cores : (c : CoreId) (s : Standing) → c.0 < m.cores → slice_get v.cores c.0 ≡ Some s → IsAt p m image past c s.state
  pub ended : v.ended ≡ map is_some (ends_of past)
