-- Journals on which state and history agree, and runs that make such journals.
use Rattle.std.specs.Prelude.{⊤, false, ◌≡◌, ℕ, IsTrue, List, Some}
use Rattle.pei_types.specs.declared.identifiers.Actor.{Actor}
use Rattle.pei_types.specs.declared.identifiers.CoreId.{CoreId}
use Rattle.pei_types.specs.declared.events.Event.{Event}
use Rattle.pei_types.specs.declared.events.EventKind.{EventKind}
use Rattle.pei_types.specs.declared.events.EventKind.TheVariants as event
use Rattle.pei_types.specs.declared.machines.MachineSpec.{MachineSpec}
use Rattle.pei_types.specs.Calls.{AnswersCall, is_actor_of}
use Rattle.pei_types.specs.MachineState.{state_after, next_state}
use Rattle.pei_types.specs.Core.{CoreNext, next_of_core}
use Rattle.pei_types.specs.Guard.{guard}
use Rattle.pei_types.specs.Legal.{FlatLegal}
use Rattle.pei_types.specs.Program.{Listing, Contents}
use Rattle.pei_types.specs.Schedule.{Policy}
use Rattle.pei_types.specs.StateClauses.{EvictsLast, SealsHold}
use Rattle.pei_types.specs.Turns.{IsNextOf}
use Rattle.history_laws.specs.TrackedPeis.{Agrees, issues_next, fence_is_on}
use Rattle.history_laws.specs.EntryOrder.{InTurn, enters_rightly}
use Rattle.history_laws.specs.Fences.{Settles, fences_rightly}
use Rattle.history_laws.specs.Fits.{AsksForFence, EntersFree}

-- The state after a journal agrees with its history, PEIs enter in turn and exclude each other, and fences settle.
pub record Sound (m : MachineSpec) (journal : List Event) : Type 0 where
  pub agrees : Agrees m (state_after m journal) journal
  pub turns : InTurn m (state_after m journal)
  pub fences : Settles journal

-- An event that keeps all this: it answers some call of its core or is its PEI's next, numbers an issue rightly, has a
-- PEI enter alone and first of its core, and keeps its core's fence.
abbrev pub IsSoundEvent : MachineSpec → List Event → Event → Type 0
IsSoundEvent m before e =
    (x : CoreNext) × AnswersCall x m before e.actor e.kind × IsTrue (issues_next (state_after m before) e.actor e.kind)
    × IsTrue (enters_rightly m (state_after m before) e.actor e.kind) × IsTrue (fences_rightly (state_after m before) e.actor e.kind)

-- the journal of a program's run on the flat machine, so far
pub record SoundRun (p : Listing) (m : MachineSpec) (image : Contents) (journal : List Event) : Type 0 where
  pub sound : Sound m journal
  pub asks : (c : CoreId) → AsksForFence (next_of_core p m image journal c) journal c
  pub legal : FlatLegal p m image journal

-- a policy that gives turns only to actors of the machine
abbrev pub ChoosesActors : MachineSpec → Policy → Type 0
ChoosesActors m policy = (turns stalls : ℕ) (a : Actor) → policy turns stalls ≡ Some a → IsTrue (is_actor_of m a)

-- a core issues nothing while its fence is on
abbrev pub IssuesUnfenced : List Event → Actor → EventKind → Type 0
IssuesUnfenced before a (event.Issue seq lane o b operands) = fence_is_on a.core before ≡ false
IssuesUnfenced before a _ = ⊤

-- an event is an actor of the machine's next row, and a PEI that enters finds its entry free
abbrev pub GoesByRow : Listing → MachineSpec → Contents → List Event → Event → Type 0
GoesByRow p m image before e =
    IsTrue (is_actor_of m e.actor) × EntersFree m (state_after m before) e.actor e.kind × IsNextOf (next_of_core p m image before e.actor.core) m image before e.actor e.kind

-- the clauses on the state alone: the guard, recency, and seals after the event
pub record MeetsState (m : MachineSpec) (before : List Event) (e : Event) : Type 0 where
  pub guarded : IsTrue (guard m (state_after m before) e.actor e.kind)
  pub recency : EvictsLast m (state_after m before) e.actor e.kind
  pub seal : SealsHold m (next_state m (state_after m before) e.actor e.kind)
