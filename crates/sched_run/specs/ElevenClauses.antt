-- The eleven clauses of a legal run, each by its definition.
use Rattle.std.specs.Prelude.{IsTrue, List}
use Rattle.pei_types.specs.declared.events.Event.{Event}
use Rattle.pei_types.specs.declared.machines.MachineSpec.{MachineSpec}
use Rattle.pei_types.specs.Calls.{AnswersCall}
use Rattle.pei_types.specs.MachineState.{next_state, state_after}
use Rattle.pei_types.specs.Core.{next_of_core}
use Rattle.pei_types.specs.Exclusion.{EntersAlone}
use Rattle.pei_types.specs.Fence.{FencesEarlier}
use Rattle.pei_types.specs.Guard.{guard}
use Rattle.pei_types.specs.Legal.{EachEvent}
use Rattle.pei_types.specs.Order.{IsInOrder}
use Rattle.pei_types.specs.Program.{Listing, Contents}
use Rattle.pei_types.specs.Race.{RacesRightly}
use Rattle.pei_types.specs.Replies.{RepliesRightly}
use Rattle.pei_types.specs.StateClauses.{EvictsLast, PlacesByMonitor, SealsHold}
use Rattle.pei_types.specs.Turns.{IsNextOf}

-- Loads and PEIs answer what flat memory holds. Each event answers its core's call, or is its PEI's next. Accesses and
-- acts of a core come in its order. A PEI enters beside none that conflicts on its directory entry. A fence ends behind
-- every writer that was issued before it. A race is told where there is one, and no access that races is made. Each event
-- comes where the state of the caches, the vaults and the PEIs on their way lets it. An eviction takes the last line of a
-- full set, or clears the way for a writer that memory is to execute. A placement is what the policy says. Each event is
-- its actor's next row, and the journal has room for it. And after it no core may write the block of a sealed PEI, of which
-- there is no copy where the PEI writes.
pub record ElevenClauses (p : Listing) (m : MachineSpec) (image : Contents) (journal : List Event) : Type 0 where
  pub replies : EachEvent (λ before e. RepliesRightly m image before e.actor e.kind) journal
  pub calls : EachEvent (λ before e. AnswersCall (next_of_core p m image before e.actor.core) m before e.actor e.kind) journal
  pub order : EachEvent (λ before e. IsInOrder before e.actor e.kind) journal
  pub directory : EachEvent (λ before e. EntersAlone m before e.actor e.kind) journal
  pub fence : EachEvent (λ before e. FencesEarlier before e.actor e.kind) journal
  pub race : EachEvent (λ before e. RacesRightly (next_of_core p m image before e.actor.core) before e.kind) journal
  pub guard : EachEvent (λ before e. IsTrue (guard m (state_after m before) e.actor e.kind)) journal
  pub recency : EachEvent (λ before e. EvictsLast m (state_after m before) e.actor e.kind) journal
  pub monitor : EachEvent (λ before e. PlacesByMonitor m (state_after m before) e.actor e.kind) journal
  pub next : EachEvent (λ before e. IsNextOf (next_of_core p m image before e.actor.core) m image before e.actor e.kind) journal
  pub seal : EachEvent (λ before e. SealsHold m (next_state m (state_after m before) e.actor e.kind)) journal
