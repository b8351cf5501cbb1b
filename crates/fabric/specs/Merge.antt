-- When the banks of a machine merge, and into what.
use Rattle.std.specs.Prelude.{◌≡◌, ℕ, ◌<◌, IsTrue, ⊤, List, [], ◌∷◌, map}
use Rattle.std.specs.List.{AllByRecursion}
use Rattle.pei_types.specs.declared.machines.MachineSpec.{MachineSpec}
use Rattle.pei_types.specs.declared.events.Event.{Event}
use Rattle.pei_types.specs.Calls.{is_actor_of}
use Rattle.pei_types.specs.MachineState.{state_after}
use Rattle.pei_types.specs.Exclusion.{EntersAlone}
use Rattle.pei_types.specs.Fence.{FencesEarlier}
use Rattle.pei_types.specs.Legal.{EachEvent}
use Rattle.pei_types.specs.Program.{Contents}
use Rattle.history_laws.specs.Sound.{IssuesUnfenced}
use Rattle.bank_laws.specs.Logs.{AreStamped, merged}
use Rattle.pei_types.specs.declared.stamps.Stamped.{Stamped}
use Rattle.bank_laws.specs.Rows.{IsGuardedWidely, IsRowOfBank}
use Rattle.fabric.specs.Banks.{BankHistory, banks_at_start, events_of}
use Rattle.fabric.specs.ValidEvents.{EventFits}
use Rattle.fabric.specs.History.{History}

-- a list with a first item
abbrev pub IsCons : {A : Type 0} → List A → Type 0
IsCons [] = ⊥
IsCons (x ∷ xs) = ⊤

-- a bank at its start
abbrev pub without_log : BankHistory → BankHistory
without_log h = record h { log = [] }

abbrev pub logs_of : List BankHistory → List (List Stamped)
logs_of banks = map (λ h. h.log) banks

-- the events of all banks, in the order of their stamps, which are the numbers below n
abbrev pub journal_of : ℕ → List BankHistory → List Event
journal_of n banks = merged n (logs_of banks)

abbrev pub merged_history : MachineSpec → Contents → ℕ → List BankHistory → History
merged_history m image n banks = record { machine = m; image = image; journal = journal_of n banks }

-- These are all banks of one machine, in order. The stamps of all events are the numbers below n, each once. In their order the
-- events are of actors of the machine, and meet the guards that look at more than one bank; every PEI enters alone, every
-- fence ends behind the earlier writers, and no PEI is issued while a fence of its core is on.
pub record CanMerge (m : MachineSpec) (image : Contents) (n : ℕ) (banks : List BankHistory) : Type 0 where
  pub all : map without_log banks ≡ banks_at_start m image
  pub stamps : AreStamped n (logs_of banks)
  pub actors : EachEvent (λ before e. IsTrue (is_actor_of m e.actor)) (journal_of n banks)
  pub guarded : EachEvent (λ before e. IsGuardedWidely m (state_after m before) e.actor e.kind) (journal_of n banks)
  pub alone : EachEvent (λ before e. EntersAlone m before e.actor e.kind) (journal_of n banks)
  pub fenced : EachEvent (λ before e. FencesEarlier before e.actor e.kind) (journal_of n banks)
  pub unfenced : EachEvent (λ before e. IssuesUnfenced before e.actor e.kind) (journal_of n banks)

-- What each bank keeps: its events are rows of the bank, with stamps below the number of events that the machine has room for,
-- and what programs made, the machine can be asked for.
pub record IsVouched (h : BankHistory) : Type 0 where
  pub rows : EachEvent (IsRowOfBank h.machine h.image h.bank) (events_of h)
  pub within : AllByRecursion (λ x. x.stamp < h.machine.events) h.log
  pub fits : AllByRecursion (EventFits h.machine.blocks) (events_of h)
