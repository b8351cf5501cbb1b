-- A monitor is the monitor in the state of the machine, where its lists are the state's.
use Rattle.std.specs.Prelude.{◌≡◌, length}
use Rattle.pei_types.specs.declared.identifiers.BlockNo.{BlockNo}
use Rattle.pei_types.specs.declared.machines.MachineSpec.{MachineSpec}
use Rattle.pei_types.specs.declared.machines.Policy3.TheVariants as policy
use Rattle.pei_types.specs.Blocks as blocks
use Rattle.pei_types.specs.MachineState.{State, start_state, with_monitor_set}
use Rattle.pei_types.specs.Monitor.{after_access, after_placement, placement}
use Rattle.pei_types.specs.Recency.{list_at}
use Rattle.locality_monitor.specs.Table.{Table, empty_table, with_access, with_placement, place_of}

pub record IsMonitorOf (m : MachineSpec) (s : State) (v : Table) : Type 0 where
  pub sets : length v.sets ≡ m.llc_sets
  pub ways : v.ways ≡ m.llc_ways
  pub entries : s.monitor ≡ v.sets

-- A PEI is placed as in the state, and each call's effect on the monitor is the state's.
pub record FollowsState : Type 0 where
  pub start : (m : MachineSpec) → IsMonitorOf m (start_state m) (empty_table m.llc_sets m.llc_ways)
  pub place : (m : MachineSpec) (s : State) (v : Table) (b : BlockNo) → IsMonitorOf m s v → place_of v b ≡ placement policy.Monitor (blocks.tag_of m b) (list_at s.monitor (blocks.llc_set_of m b))
  pub access : (m : MachineSpec) (s : State) (v : Table) (b : BlockNo) → IsMonitorOf m s v → IsMonitorOf m (with_monitor_set m s b (after_access m.llc_ways (blocks.tag_of m b))) (with_access v b)
  pub placed : (m : MachineSpec) (s : State) (v : Table) (b : BlockNo) → IsMonitorOf m s v → IsMonitorOf m (with_monitor_set m s b (after_placement m.llc_ways (blocks.tag_of m b))) (with_placement v b)
