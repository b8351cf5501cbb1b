-- What holds after each event of a machine that goes by its rows.
use Rattle.std.specs.Prelude.{List}
use Rattle.pei_types.specs.declared.events.Event.{Event}
use Rattle.pei_types.specs.declared.machines.MachineSpec.{MachineSpec}
use Rattle.pei_types.specs.MachineState.{state_after}
use Rattle.pei_types.specs.Program.{Listing, Contents}
use Rattle.history_laws.specs.Sound.{Sound, SoundRun}
use Rattle.coherence_laws.specs.Invariants.{Invariants}

-- The machine below the cores is in order: its state and its history agree, PEIs enter in turn, fences settle; and its
-- caches, queues, PEIs and seals have their invariants.
pub record MachineInOrder (m : MachineSpec) (journal : List Event) : Type 0 where
  pub sound : Sound m journal
  pub invariants : Invariants m (state_after m journal)

-- So is the machine with its cores, which run this program.
pub record RunInOrder (p : Listing) (m : MachineSpec) (image : Contents) (journal : List Event) : Type 0 where
  pub run : SoundRun p m image journal
  pub invariants : Invariants m (state_after m journal)
