-- The log of a bank.
use Rattle.std.proofs.Common.{ℕ, List, [], ◌∷◌, ◌++◌}
use Rattle.pei_types.specs.declared.events.Event.{Event}
use Rattle.pei_types.specs.declared.machines.MachineSpec.{MachineSpec}
use Rattle.pei_types.specs.Calls.{Side, Programs, Peis, Messages, side_of}
use Rattle.pei_types.specs.Legal.{EachEvent}
use Rattle.pei_types.specs.Program.{Contents}
use Rattle.pei_types.proofs.Histories.{each_push, each_of_from}
use Rattle.bank_laws.specs.Across.{FollowsItsPei, FollowsSide}
use Rattle.bank_laws.specs.Kept.{FitsInBank}
use Rattle.bank_laws.specs.Laws.{CoresGoOn}
use Rattle.bank_laws.specs.Rows.{IsRowOfBank}
use Rattle.shared_table.specs.Orderly.{Continues, Follows, FollowsOf}
use Rattle.thread_laws.specs.BankLogs.{IsBankLog}
use Rattle.thread_laws.proofs.Following.{TracksState, tracks_start, tracks_next, log_induction}
use Rattle.thread_laws.proofs.Rows.{row_follows, fits_fresh}

-- what a bank's log is, event by event
abbrev IsBankEvent : MachineSpec → Contents → ℕ → List Event → Event → Type 0
IsBankEvent m image k before e = IsRowOfBank m image k before e × FitsInBank m before e.actor e.kind

-- each event of the log is its PEI's next, and the state's PEIs are the log's
abbrev Follow : MachineSpec → List Event → Type 0
Follow m log = EachEvent Continues log × TracksState m log

pub bank_follows : CoresGoOn → (m : MachineSpec) (image : Contents) (k : ℕ) (log : List Event) → IsBankLog m image k log → Follow m log
bank_follows cores m image k log is = log_induction (IsBankEvent m image k) (Follow m) (each_of_from Continues [] tt, tracks_start m) step log (λ before rest e same. (is.rows before rest e same, is.fitting before rest e same))
  where
    step : (before : List Event) (e : Event) → IsBankEvent m image k before e → Follow m before → Follow m (before ++ e ∷ [])
    step before e h g =
        let next : Continues before e = (row_follows m image k before e g.1 h.0, fits_fresh m before e h.1)
        in (each_push Continues before e g.0 next, tracks_next cores m before e next g.1)

-- the same in the words of banks
pub follows_its_pei : (before : List Event) (e : Event) → Follows before e → FollowsItsPei before e.actor e.kind
follows_its_pei before e h = by (side_of e.kind) h
  where
    by : (side : Side) → FollowsOf side before e.actor e.kind → FollowsSide side before e.actor e.kind
    by Programs g = tt
    by (Peis seq) g = g
    by Messages g = tt
