-- A run of the whole machine so far.
use Rattle.std.specs.Prelude.{◌≤◌, length}
use Rattle.pei_types.specs.declared.machines.MachineSpec.{MachineSpec}
use Rattle.pei_types.specs.MachineState.{state_after}
use Rattle.pei_types.specs.Legal.{EachEvent}
use Rattle.pei_types.specs.Program.{Listing, Contents}
use Rattle.pei_types.specs.Schedule.{Run}
use Rattle.history_laws.specs.Holders.{Holding}
use Rattle.history_laws.specs.Sound.{SoundRun, GoesByRow}

-- Its journal is a sound run's and goes by rows, its directory counts who holds each entry and who waits for it, and it
-- is within the journal's room.
pub record WholeRun (p : Listing) (m : MachineSpec) (image : Contents) (r : Run) : Type 0 where
  pub run : SoundRun p m image r.journal
  pub holding : Holding m (state_after m r.journal) r.entries r.claims
  pub rows : EachEvent (GoesByRow p m image) r.journal
  pub within : length r.journal ≤ m.events
