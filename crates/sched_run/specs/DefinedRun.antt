-- The code's run is a run of the definitions.
use Rattle.std.specs.Prelude.{◌≡◌, ℕ, ◌<◌, Bool, ◌||◌, ◌==◌, List, length, take, Some, is_some, slice_get}
use Rattle.std.specs.List.{list_all}
use Rattle.pei_types.specs.declared.identifiers.CoreId.{CoreId}
use Rattle.pei_types.specs.declared.events.Event.{Event}
use Rattle.pei_types.specs.declared.machines.MachineSpec.{MachineSpec}
use Rattle.pei_types.specs.Core.{core_config, CoreState, core_at_start, core_after, events_of, at_stop}
use Rattle.pei_types.specs.Ends.{ends_of}
use Rattle.pei_types.specs.Program.{Listing, Contents}
use Rattle.pei_types.specs.Schedule.{Run}
use Rattle.core_exec.specs.CoreView.{Standing}
use Rattle.history_laws.specs.Runs.{WholeRun}
use Rattle.sched_run.specs.Steps.{run_at}
use Rattle.sched_run.specs.declared.running.Running.{Running}

-- the run of the definitions where the code's run is, after so many turns
abbrev pub run_in : Running → ℕ → Run
run_in v turns = run_at v.fabric v.desk turns v.stalls

-- a core that stops next where the core of the definitions stops after its events
abbrev pub IsAt : Listing → MachineSpec → Contents → List Event → CoreId → CoreState → Type 0
IsAt p m image journal c s =
    at_stop p (core_config m) s ≡ at_stop p (core_config m) (core_after p (core_config m) (core_at_start image c) (events_of c journal))

-- A run of a program on its way: it goes by rows, and its directory counts who holds each entry and who waits for it; each
-- core is where its events lead; and the ends are the journal's.
pub record IsRunning (p : Listing) (v : Running) : Type 0 where
  pub whole : WholeRun p v.fabric.machine v.fabric.image (run_in v 0)
  pub cores : (c : CoreId) (s : Standing) → c.0 < v.fabric.machine.cores → slice_get v.cores c.0 ≡ Some s → IsAt p v.fabric.machine v.fabric.image v.fabric.journal c s.state
  pub ends : v.ends ≡ ends_of v.fabric.journal

-- each core has ended, or the journal is full
abbrev pub is_over : Running → Bool
is_over v = list_all is_some (take v.fabric.machine.cores v.ends) || (length v.fabric.journal == v.fabric.machine.events)
