-- Events that a machine can be asked for.
use Rattle.std.specs.Prelude.{ℕ, zero, suc, ◌<◌, ⊤, IsTrue}
use Rattle.pei_types.specs.declared.events.Event.{Event}
use Rattle.pei_types.specs.declared.events.EventKind.{EventKind}
use Rattle.pei_types.specs.declared.events.EventKind.TheVariants as event
use Rattle.pei_types.specs.Blocks.{is_word_of_memory}
use Rattle.pei_types.specs.Operation.{CanApply}

-- an access is of a word of memory, a PEI's operation can be applied to a block of memory, and a fill is of a block of memory
abbrev pub KindFits : ℕ → EventKind → Type 0
KindFits blocks (event.Load addr value) = IsTrue (is_word_of_memory blocks addr)
KindFits blocks (event.Store addr value) = IsTrue (is_word_of_memory blocks addr)
KindFits blocks (event.Issue seq lane o b operands) = CanApply o operands × (b.0 < blocks)
KindFits blocks (event.Fill b) = b.0 < blocks
KindFits blocks _ = ⊤

-- an event that a core's program makes is so
abbrev pub ProgramFits : ℕ → ℕ → EventKind → Type 0
ProgramFits blocks zero kind = KindFits blocks kind
ProgramFits blocks (suc lane) kind = ⊤

abbrev pub EventFits : ℕ → Event → Type 0
EventFits blocks e = ProgramFits blocks e.actor.lane.0 e.kind
