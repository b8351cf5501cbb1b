-- Two logs and the journal that they make.
use Rattle.std.specs.Prelude.{◌≡◌, ℕ, List, [], ◌∷◌, map}
use Rattle.pei_types.specs.declared.stamps.Stamped.{Stamped}
use Rattle.pei_types.specs.declared.events.Event.{Event}
use Rattle.pei_types.specs.declared.events.EventKind.{EventKind}
use Rattle.pei_types.specs.declared.events.EventKind.TheVariants as event
use Rattle.bank_laws.specs.Banks.{log_of}
use Rattle.bank_laws.specs.Logs.{history_below, merged, events_below}

abbrev pub of_core : ℕ → EventKind → Event
of_core c kind = record { actor = record { core = record { 0 = c }; lane = record { 0 = 0 } }; kind = kind }

-- core 0 brings in and reads block 1, and core 1 block 2; the events of odd blocks are in bank 1
abbrev pub fill_1 : Event
fill_1 = of_core 0 (event.Fill (record { 0 = 1 }))

abbrev pub fill_2 : Event
fill_2 = of_core 1 (event.Fill (record { 0 = 2 }))

abbrev pub grant_1 : Event
grant_1 = of_core 0 (event.GrantE (record { 0 = 1 }))

abbrev pub grant_2 : Event
grant_2 = of_core 1 (event.GrantE (record { 0 = 2 }))

abbrev pub load_1 : Event
load_1 = of_core 0 (event.Load 64 0)

abbrev pub even_log : List Stamped
even_log = record { stamp = 1; event = fill_2 } ∷ record { stamp = 2; event = grant_2 } ∷ []

abbrev pub odd_log : List Stamped
odd_log = record { stamp = 0; event = fill_1 } ∷ record { stamp = 3; event = grant_1 } ∷ record { stamp = 4; event = load_1 } ∷ []

abbrev pub two_logs : List (List Stamped)
two_logs = even_log ∷ odd_log ∷ []

-- The journal has the events of both logs in the order of their stamps; its banks are told; and an event has those of its bank
-- with smaller stamps before it.
pub record MergingIsRight : Type 0 where
  pub order : merged 5 two_logs ≡ fill_1 ∷ fill_2 ∷ grant_2 ∷ grant_1 ∷ load_1 ∷ []
  pub banks : map (λ x. x.bank) (history_below 5 two_logs) ≡ 1 ∷ 0 ∷ 0 ∷ 1 ∷ 1 ∷ []
  pub earlier : merged 3 two_logs ≡ fill_1 ∷ fill_2 ∷ grant_2 ∷ []
  pub own : log_of 1 (history_below 4 two_logs) ≡ fill_1 ∷ grant_1 ∷ []
  pub below : events_below 4 odd_log ≡ fill_1 ∷ grant_1 ∷ []
