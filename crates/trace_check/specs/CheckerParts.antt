-- What the parts of a checker are together, and what an event makes of them.
use Rattle.std.specs.Prelude.{◌≡◌, Some, if◌then◌else◌}
use Rattle.pei_types.specs.declared.identifiers.Actor.{Actor}
use Rattle.pei_types.specs.declared.identifiers.Block.{Block}
use Rattle.pei_types.specs.declared.identifiers.BlockNo.{BlockNo}
use Rattle.pei_types.specs.declared.events.EventKind.{EventKind}
use Rattle.pei_types.specs.declared.inflight_looks.PeiLook.{PeiLook}
use Rattle.pei_types.specs.MachineState.{State, look_in, look_of, next_state, with_l1_front}
use Rattle.pei_types.specs.Operation.{block_after, is_writer}
use Rattle.pei_types.specs.declared.operations.Letter.TheVariants as letter
use Rattle.coherence_laws.specs.Data.{next_flat}
use Rattle.coherence_bus.specs.Hierarchy as bus
use Rattle.inflight.specs.OnTheWay.{OnTheWay, IsLaneOf}
use Rattle.locality_monitor.specs.Table.{Table, with_placement}
use Rattle.pei_types.specs.declared.machines.Policy3.{Policy3}
use Rattle.pei_types.specs.declared.machines.Policy3.TheVariants as policy
use Rattle.trace_check.specs.declared.checker.Checker.{Checker}

-- the lines of the bus, the monitor's entries, and what the table of PEIs has
abbrev pub joined : bus.Hierarchy → OnTheWay → Table → State
joined caches table monitor =
    record {
      l1 = caches.l1;
      llc = caches.llc;
      monitor = monitor.sets;
      peis = table.state.peis;
      issues = table.state.issues;
      queues = table.state.queues;
      fences = table.state.fences;
    }

-- a state of the machine
abbrev pub state_of : Checker → State
state_of v = joined v.bus v.inflight v.monitor

-- the content of each block
abbrev pub content_of : Checker → BlockNo → Block
content_of v b = bus.content_of v.bus b

-- From one checker to another the state and the contents go on by an event, and the cores stay as they are.
pub record Moved (v w : Checker) (a : Actor) (kind : EventKind) : Type 0 where
  pub machine : w.machine ≡ v.machine
  pub cores : w.cores ≡ v.cores
  pub ended : w.ended ≡ v.ended
  pub state : state_of w ≡ next_state v.machine (state_of v) a kind
  pub content : (b : BlockNo) → content_of w b ≡ next_flat (state_of v) (content_of v) a kind b

-- the actor that is a PEI's lane
abbrev pub actor_of : PeiLook → Actor
actor_of p = record { core = p.id.core; lane = p.lane }

-- A PEI is in its lane, and the one of its name.
pub record IsThere (v : Checker) (p : PeiLook) : Type 0 where
  pub lane : IsLaneOf v.machine p.id.core p.lane
  pub here : look_in (state_of v) p.id.core p.lane ≡ Some p
  pub named : look_of (state_of v) p.id ≡ Some p

-- the monitor after a PEI on a block is placed, which only its own policy asks
abbrev pub placed_under : Policy3 → Table → BlockNo → Table
placed_under policy.Monitor monitor b = with_placement monitor b
placed_under policy.Host monitor b = monitor
placed_under policy.Memory monitor b = monitor

-- the caches after a PEI at the host has written its block, if it writes
abbrev pub host_written : bus.Hierarchy → PeiLook → bus.Hierarchy
host_written caches p =
    if is_writer p.op
    then bus.with_content (bus.with_caches caches (with_l1_front caches.machine (bus.state_of caches) p.id.core p.block letter.M)) p.block (block_after p.op p.operands (bus.content_of caches p.block))
    else caches
