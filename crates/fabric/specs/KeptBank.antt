-- What a bank keeps true of itself.
use Rattle.std.specs.Prelude.{◌≡◌, ℕ, ◌<◌, List, length, IsTrue}
use Rattle.std.specs.List.{AllByRecursion}
use Rattle.pei_types.specs.declared.identifiers.BlockNo.{BlockNo}
use Rattle.pei_types.specs.Calls.{is_actor_of}
use Rattle.pei_types.specs.MachineState.{state_after}
use Rattle.pei_types.specs.FlatMemory.{flat_block}
use Rattle.pei_types.specs.Legal.{EachEvent}
use Rattle.pei_types.specs.Program.{Contents}
use Rattle.coherence_laws.specs.Holdings.{Holdings}
use Rattle.journal.specs.Recorded.{Recorded}
use Rattle.bank_laws.specs.Kept.{BankInOrder, FitsInBank}
use Rattle.bank_laws.specs.Logs.{Rises}
use Rattle.bank_laws.specs.Rows.{IsRowOfBank}
use Rattle.fabric.specs.Likeness.{AreAlike}
use Rattle.fabric.specs.Banks.{BankHistory}
use Rattle.fabric.specs.ValidEvents.{EventFits}
use Rattle.fabric.specs.IssueStamps.{HaveStamps, log_with}
use Rattle.fabric.specs.Whole.{Whole, content_in}
use Rattle.fabric.specs.declared.sections.Section.TheInside.{Inside}

abbrev pub history_of : Whole → Recorded → ℕ → Contents → BankHistory
history_of parts journal bank image = record { machine = parts.machine; image = image; bank = bank; log = log_with journal.events journal.stamps }

-- The parts are as the bank's log leaves them, but for counts and fences, and memory is the log's flat memory. Each event is a row of
-- the bank, by an actor of the machine, and fits in the bank, and the log leaves the bank in order. What programs made, the machine can be asked for. Stamps rise and are of the machine's journal; each lane has its PEI's.
pub record KeepsBank (parts : Whole) (journal : Recorded) (bank : ℕ) (image : Contents) (issued : List ℕ) : Type 0 where
  pub state : AreAlike parts.state (state_after parts.machine journal.events)
  pub memory : (b : BlockNo) → content_in parts b ≡ flat_block image journal.events b
  pub room : journal.room ≡ parts.machine.events
  pub stamped : length journal.stamps ≡ length journal.events
  pub order : (h : Holdings) × BankInOrder parts.machine image journal.events h
  pub rows : EachEvent (IsRowOfBank parts.machine image bank) journal.events
  pub fitting : EachEvent (λ before e. FitsInBank parts.machine before e.actor e.kind) journal.events
  pub actors : AllByRecursion (λ e. IsTrue (is_actor_of parts.machine e.actor)) journal.events
  pub rising : Rises (log_with journal.events journal.stamps)
  pub within : AllByRecursion (λ x. x.stamp < parts.machine.events) (log_with journal.events journal.stamps)
  pub fits : AllByRecursion (EventFits parts.machine.blocks) journal.events
  pub lanes : length issued ≡ 33
  pub numbers : HaveStamps (log_with journal.events journal.stamps) issued parts.state.peis

abbrev pub shown : Inside → BankHistory
shown i = history_of i.parts i.journal i.bank i.image.value

abbrev pub IsKept : Inside → Type 0
IsKept i = KeepsBank i.parts i.journal i.bank i.image.value i.numbers.items
