-- The messages that the table of steps asks for.
use Rattle.std.specs.Prelude.{◌≡◌, ◌<◌, Bool, true, false, IsTrue}
use Rattle.pei_types.specs.declared.identifiers.BlockNo.{BlockNo}
use Rattle.pei_types.specs.declared.identifiers.CoreId.{CoreId}
use Rattle.pei_types.specs.declared.events.EventKind.{EventKind}
use Rattle.pei_types.specs.MachineState.{letter_of}
use Rattle.pei_types.specs.Guard.{guard}
use Rattle.pei_types.specs.Next.{want}
use Rattle.coherence_laws.specs.Invariants.{Invariants}
use Rattle.pmu_dispatch.specs.Shown.{suffices}
use Rattle.pmu_dispatch.specs.Steps.{is_message}
use Rattle.coherence_bus.specs.Hierarchy.{Hierarchy, FillsFrom, program_of, state_of}

-- a core's program may make this message, where no PEI is sealed on its block
pub record MayMake (h : Hierarchy) (own : CoreId) (kind : EventKind) : Type 0 where
  pub message : is_message kind ≡ true
  pub guarded : IsTrue (guard h.machine (state_of h) (program_of own) kind)
  pub memory : FillsFrom h.machine.blocks kind

-- In caches that have their invariants, a core whose letter does not suffice for a block of memory may make the message that
-- the table of steps asks for.
abbrev pub WantsAreAllowed : Type 0
WantsAreAllowed =
    (h : Hierarchy) (own : CoreId) (b : BlockNo) (modify : Bool) → Invariants h.machine (state_of h) → own.0 < h.machine.cores → b.0 < h.machine.blocks
    → suffices modify (letter_of h.machine (state_of h) own b) ≡ false → MayMake h own (want h.machine (state_of h) own b modify)
