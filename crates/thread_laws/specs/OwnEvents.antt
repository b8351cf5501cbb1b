-- What a core knows of its own events.
use Rattle.std.specs.Prelude.{◌≡◌, ℕ, ◌<◌, Bool, ⊤, List, map, Option, Some, None, if◌then◌else◌, slice_index}
use Rattle.pei_types.specs.declared.identifiers.Actor.{Actor}
use Rattle.pei_types.specs.declared.identifiers.CoreId.{CoreId}
use Rattle.pei_types.specs.declared.inflight_looks.PeiLook.{PeiLook}
use Rattle.pei_types.specs.declared.events.Event.{Event}
use Rattle.pei_types.specs.declared.events.EventKind.{EventKind}
use Rattle.pei_types.specs.declared.events.EventKind.TheVariants as event
use Rattle.pei_types.specs.declared.machines.MachineSpec.{MachineSpec}
use Rattle.pei_types.specs.MachineState.{State, state_after, free_lane}
use Rattle.pei_types.specs.Core.{events_of}
use Rattle.pei_types.specs.History.{Pei}
use Rattle.pei_types.specs.Legal.{EachEvent}
use Rattle.bank_laws.specs.Banks.{HasBanks, Placed, EachPlaced, StandsRightly, journal_of, log_of}
use Rattle.bank_laws.specs.Parts.{is_in_bank, is_issued_in}
use Rattle.shared_table.specs.declared.claims.Made.{Made}

-- An issue is of a core of the machine, and takes the core's next number and its lowest free lane.
abbrev pub IssuesBy : MachineSpec → State → Actor → EventKind → Type 0
IssuesBy m s a (event.Issue seq lane o b operands) = (a.core.0 < m.cores) × (seq ≡ slice_index s.issues a.core.0) × (free_lane m s a.core ≡ Some lane)
IssuesBy m s a _ = ⊤

-- the same, as the core's own events before it tell them
abbrev pub IssuesNext : MachineSpec → List Event → Event → Type 0
IssuesNext m own e = IssuesBy m (state_after m own) e.actor e.kind

-- what is found, where it passes a test
abbrev pub if_passes : {A : Type 0} → (A → Bool) → Option A → Option A
if_passes test None = None
if_passes test (Some x) = if test x then Some x else None

-- a PEI on its way, and one as it was issued, where its block is of the bank
abbrev pub look_there : MachineSpec → ℕ → Option PeiLook → Option PeiLook
look_there m k o = if_passes (is_in_bank m k) o

abbrev pub pei_there : MachineSpec → ℕ → Option Pei → Option Pei
pei_there m k o = if_passes (is_issued_in m k) o

-- A core and a bank: each of the core's own events stands in the bank that it was made in, its issues take next numbers and free
-- lanes, and those of its events that were made in this bank are all its events of the bank's log.
pub record KnowsItsPart (m : MachineSpec) (k : ℕ) (c : CoreId) (own : List Placed) (log : List Event) : Type 0 where
  pub banks : HasBanks m
  pub stands : EachPlaced (StandsRightly m) own
  pub issues : EachEvent (IssuesNext m) (journal_of own)
  pub part : events_of c log ≡ log_of k own

-- a core's own events, as its seat has them, each with the bank that it was made in
abbrev pub placed_of : List Made → List Placed
placed_of mine = map (λ x. record { bank = x.bank; event = x.event }) mine
