-- The logs of banks, whose events have stamps, and what a core hands back of them.
use Rattle.std.specs.Prelude.{◌≡◌, ℕ, zero, suc, ◌<◌, Bool, true, ◌==◌, nat_lt, List, [], ◌∷◌, ◌++◌, map, filter, find, Option, Some, None, option_map}
use Rattle.std.specs.List.{cons_option}
use Rattle.pei_types.specs.declared.identifiers.CoreId.{CoreId}
use Rattle.pei_types.specs.declared.events.Event.{Event}
use Rattle.pei_types.specs.declared.machines.MachineSpec.{MachineSpec}
use Rattle.pei_types.specs.declared.stamps.Stamped.{Stamped}
use Rattle.pei_types.specs.Blocks.{same_core}
use Rattle.pei_types.specs.Program.{Listing, Contents}
use Rattle.pei_types.specs.Recency.{list_at}
use Rattle.history_laws.specs.Members.{In}
use Rattle.coherence_laws.specs.Sets.{EachPair}
use Rattle.bank_laws.specs.Banks.{Placed, journal_of}
use Rattle.bank_laws.specs.Rows.{IsRowIn}

abbrev pub has_stamp : ℕ → Stamped → Bool
has_stamp i x = x.stamp == i

-- ---- the logs of the banks in their order

abbrev pub in_first : Option Stamped → Option Placed → Option Placed
in_first None rest = rest
in_first (Some x) rest = Some (record { bank = 0; event = x.event })

abbrev pub in_next : Placed → Placed
in_next x = record { bank = suc x.bank; event = x.event }

-- the event with this stamp, and its bank
abbrev pub event_with : ℕ → List (List Stamped) → Option Placed
event_with i [] = None
event_with i (log ∷ logs) = in_first (find (has_stamp i) log) (option_map in_next (event_with i logs))

-- the events with stamps below n, in the order of their stamps, each with its bank
abbrev pub history_below : ℕ → List (List Stamped) → List Placed
history_below zero logs = []
history_below (suc n) logs = history_below n logs ++ cons_option (event_with n logs) []

-- The journal of all banks: their events with stamps below n, in the order of their stamps.
abbrev pub merged : ℕ → List (List Stamped) → List Event
merged n logs = journal_of (history_below n logs)

-- the events of one list with stamps below n
abbrev pub events_below : ℕ → List Stamped → List Event
events_below n log = map (λ x. x.event) (filter (λ x. nat_lt x.stamp n) log)

-- each stamp is below all later ones
abbrev pub Rises : List Stamped → Type 0
Rises log = EachPair (λ x y. x.stamp < y.stamp) log

-- The stamps of the events of all logs are the numbers below n, each once, and they rise along each log.
pub record AreStamped (n : ℕ) (logs : List (List Stamped)) : Type 0 where
  pub rising : (k : ℕ) → Rises (list_at logs k)
  pub below : (k : ℕ) (x : Stamped) → In x (list_at logs k) → x.stamp < n
  pub there : (i : ℕ) → i < n → (k : ℕ) × (x : Stamped) × In x (list_at logs k) × (x.stamp ≡ i)
  pub once : (j k : ℕ) (x y : Stamped) → In x (list_at logs j) → In y (list_at logs k) → x.stamp ≡ y.stamp → j ≡ k

-- The event with stamp i, which stands in a log: the journal of all banks goes on with it, and is so around it.
pub record NextInLogs (n i : ℕ) (logs : List (List Stamped)) : Type 0 where
  pub placed : Placed
  pub item : Stamped
  pub there : In item (list_at logs placed.bank)
  pub event : item.event ≡ placed.event
  pub found : event_with i logs ≡ Some placed
  pub more : merged (suc i) logs ≡ merged i logs ++ placed.event ∷ []
  pub rest : List Event
  pub whole : merged n logs ≡ merged i logs ++ placed.event ∷ rest

-- ---- a core

-- the events of a core in all logs, in the order of their stamps
pub record AreOwn (c : CoreId) (mine : List Stamped) (logs : List (List Stamped)) : Type 0 where
  pub rising : Rises mine
  pub own : (x : Stamped) → In x mine → (k : ℕ) × In x (list_at logs k) × (same_core x.event.actor.core c ≡ true)
  pub all : (k : ℕ) (x : Stamped) → In x (list_at logs k) → same_core x.event.actor.core c ≡ true → In x mine

-- a log begins with what was seen of it
abbrev pub IsFront : List Stamped → List Stamped → Type 0
IsFront seen log = (rest : List Stamped) × (log ≡ seen ++ rest)

-- an event of a core stands in what the core saw of a bank's log, and is the row of that bank after the events before it
-- there and the core's own before it
abbrev pub GoesBySeen : Listing → MachineSpec → Contents → List Stamped → List (List Stamped) → Stamped → Type 0
GoesBySeen p m image mine seen x =
    (k : ℕ) × In x (list_at seen k) × IsRowIn p m image k (events_below x.stamp (list_at seen k)) (events_below x.stamp mine) x.event

-- What a core hands back: each of its events goes so.
abbrev pub HandsBack : Listing → MachineSpec → Contents → List Stamped → List (List Stamped) → Type 0
HandsBack p m image mine seen = (x : Stamped) → In x mine → GoesBySeen p m image mine seen x

-- What the cores hand back, where the logs are those of all banks: of each core, its events in all logs; what it saw of each
-- log, which the log begins with; and that its events go by their rows.
pub record CoresHandBack (p : Listing) (m : MachineSpec) (image : Contents) (logs : List (List Stamped)) (mine : CoreId → List Stamped) (seen : CoreId → List (List Stamped)) : Type 0 where
  pub own : (c : CoreId) → AreOwn c (mine c) logs
  pub fronts : (c : CoreId) (k : ℕ) → IsFront (list_at (seen c) k) (list_at logs k)
  pub rows : (c : CoreId) → HandsBack p m image (mine c) (seen c)
