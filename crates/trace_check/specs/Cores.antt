-- The cores along with the events, and which of them have ended.
use Rattle.std.specs.Prelude.{◌≡◌, IsTrue, Bool, true, List, Some, slice_get, slice_set}
use Rattle.pei_types.specs.declared.identifiers.CoreId.{CoreId}
use Rattle.pei_types.specs.declared.events.Event.{Event}
use Rattle.pei_types.specs.declared.events.EventKind.{EventKind}
use Rattle.pei_types.specs.declared.events.EventKind.TheVariants as event
use Rattle.pei_types.specs.declared.machines.MachineSpec.{MachineSpec}
use Rattle.pei_types.specs.Core.{CoreState, after_answer, at_stop, core_after, core_at_start, core_config, events_of, next_of}
use Rattle.pei_types.specs.Program.{Listing, Contents, instr_at}
use Rattle.core_exec.specs.CoreView.{MayRetire, Standing, is_asking, retires, seen}
use Rattle.core_exec.specs.declared.next.CoreNext.{CoreNext}
use Rattle.pei_types.specs.declared.machines.CoreConfig.{CoreConfig}

-- a core that stops next where the core of the definitions stops after its events
abbrev pub IsAt : Listing → MachineSpec → Contents → List Event → CoreId → CoreState → Type 0
IsAt p m image past c s =
    at_stop p (core_config m) s ≡ at_stop p (core_config m) (core_after p (core_config m) (core_at_start image c) (events_of c past))

-- which cores have ended, after one more event
abbrev pub ended_by : List Bool → Event → EventKind → List Bool
ended_by ended e (event.End kind) = slice_set ended e.actor.core.0 true
ended_by ended e _ = ended

abbrev pub ended_after : List Bool → Event → List Bool
ended_after ended e = ended_by ended e e.kind

-- A core has run to its stop, stands at its instruction, and tells what it does next; the others stay as they are.
abbrev pub CoreStops : Listing → CoreConfig → List Standing → List Standing → CoreId → CoreNext → Type 0
CoreStops p config old new c next =
    (s : Standing) × (slice_get old c.0 ≡ Some s) × (t : Standing) × (new ≡ slice_set old c.0 t) × (t.state ≡ at_stop p config s.state) × (t.instr ≡ instr_at p t.state.pc) × (seen next ≡ next_of p config s.state)
    × (IsTrue (is_asking next) → MayRetire t)

-- The core of an event takes it in, and the others stay as they are.
abbrev pub CoresGoOn : Listing → List Standing → List Standing → Event → Type 0
CoresGoOn p old new e =
    (s : Standing) → slice_get old e.actor.core.0 ≡ Some s → (IsTrue (retires e.kind) → instr_at p s.state.pc ≡ s.instr) → (t : Standing) × (new ≡ slice_set old e.actor.core.0 t) × (t.state ≡ after_answer p s.state e.kind)
