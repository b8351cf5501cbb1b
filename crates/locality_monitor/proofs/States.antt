-- The monitor in the state of the machine.
use Rattle.std.proofs.Common.{◌≡◌, ℕ, ◌/◌, ◌%◌, List, [], find, refl, sym, ◌∙◌, ap}
use Rattle.std.proofs.lemmas.List.{length-replicate}
use Rattle.pei_types.specs.declared.identifiers.BlockNo.{BlockNo}
use Rattle.pei_types.specs.declared.machines.MachineSpec.{MachineSpec}
use Rattle.pei_types.specs.declared.machines.Policy3.TheVariants as policy
use Rattle.pei_types.specs.Blocks as blocks
use Rattle.pei_types.specs.MachineState.{State, start_state, with_monitor_set}
use Rattle.pei_types.specs.Monitor.{MonitorEntry, has_tag, place_by, after_access, after_placement, placement}
use Rattle.pei_types.specs.Recency.{change_at, list_at}
use Rattle.locality_monitor.specs.Table.{Table, empty_table, set_of, tag_of, with_access, with_placement, place_of}
use Rattle.locality_monitor.specs.Laws.{IsMonitorOf}
use Rattle.pei_types.proofs.Lists.{length-change_at}

pub start_is : (m : MachineSpec) → IsMonitorOf m (start_state m) (empty_table m.llc_sets m.llc_ways)
start_is m = record { sets = length-replicate {A = List MonitorEntry} m.llc_sets []; ways = refl; entries = refl }

tag_same : (m : MachineSpec) (s : State) (v : Table) (b : BlockNo) → IsMonitorOf m s v → tag_of v b ≡ blocks.tag_of m b
tag_same m s v b is = ap (λ n. blocks.fold_of (b.0 / n) 10) is.sets

pub place_is : (m : MachineSpec) (s : State) (v : Table) (b : BlockNo) → IsMonitorOf m s v → place_of v b ≡ placement policy.Monitor (blocks.tag_of m b) (list_at s.monitor (blocks.llc_set_of m b))
place_is m s v b is =
    ap (λ t. place_by (find (has_tag t) (list_at v.sets (set_of v b)))) (tag_same m s v b is)
    ∙ ap (λ n. place_by (find (has_tag (blocks.tag_of m b)) (list_at v.sets (b.0 % n)))) is.sets
    ∙ ap (λ sets. place_by (find (has_tag (blocks.tag_of m b)) (list_at sets (blocks.llc_set_of m b)))) (sym is.entries)

-- one set of the monitor and of the state changes, by the ways and the block's tag
change_is : (m : MachineSpec) (s : State) (v : Table) (b : BlockNo) (change : ℕ → ℕ → List MonitorEntry → List MonitorEntry) → IsMonitorOf m s v
    → IsMonitorOf m (with_monitor_set m s b (change m.llc_ways (blocks.tag_of m b))) (record v { sets = change_at v.sets (set_of v b) (change v.ways (tag_of v b)) })
change_is m s v b change is = record {
  sets = length-change_at v.sets (set_of v b) (change v.ways (tag_of v b)) ∙ is.sets;
  ways = is.ways;
  entries =
      ap (λ sets. change_at sets (blocks.llc_set_of m b) (change m.llc_ways (blocks.tag_of m b))) is.entries
      ∙ ap (λ n. change_at v.sets (b.0 % n) (change m.llc_ways (blocks.tag_of m b))) (sym is.sets)
      ∙ ap (λ w. change_at v.sets (set_of v b) (change w (blocks.tag_of m b))) (sym is.ways)
      ∙ ap (λ t. change_at v.sets (set_of v b) (change v.ways t)) (sym (tag_same m s v b is));
}

pub access_follows : (m : MachineSpec) (s : State) (v : Table) (b : BlockNo) → IsMonitorOf m s v → IsMonitorOf m (with_monitor_set m s b (after_access m.llc_ways (blocks.tag_of m b))) (with_access v b)
access_follows m s v b is = change_is m s v b after_access is

pub placed_follows : (m : MachineSpec) (s : State) (v : Table) (b : BlockNo) → IsMonitorOf m s v → IsMonitorOf m (with_monitor_set m s b (after_placement m.llc_ways (blocks.tag_of m b))) (with_placement v b)
placed_follows m s v b is = change_is m s v b after_placement is
