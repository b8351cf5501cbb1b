-- What the thread of a core keeps between two turns.
use Rattle.std.specs.Prelude.{◌≡◌, ℕ, ◌<◌, true, ◌||◌, ◌⊎◌, List, filter_map, Option, Some, None, slice_get, is_some}
use Rattle.std.specs.List.{AllByRecursion}
use Rattle.pei_types.specs.declared.calls.EndKind.{EndKind}
use Rattle.pei_types.specs.declared.events.EventKind.{EventKind}
use Rattle.pei_types.specs.declared.identifiers.CoreId.{CoreId}
use Rattle.pei_types.specs.declared.machines.MachineSpec.{MachineSpec}
use Rattle.pei_types.specs.declared.stamps.Stamped.{Stamped}
use Rattle.pei_types.specs.Core.{at_stop, core_after, core_at_start, core_config}
use Rattle.pei_types.specs.Ends.{end_in}
use Rattle.pei_types.specs.History.{begins_fence, ends_fence}
use Rattle.pei_types.specs.Program.{Listing, Contents}
use Rattle.atomic_table.specs.Seated.{TableId}
use Rattle.bank_laws.specs.Banks.{EachPlaced, Placed, StandsRightly}
use Rattle.bank_laws.specs.Logs.{HandsBack, Rises}
use Rattle.bank_laws.specs.Kept.{BankInOrder}
use Rattle.coherence_laws.specs.Holdings.{Holdings}
use Rattle.core_exec.specs.CoreView.{Standing}
use Rattle.thread_laws.specs.BankLogs.{IsBankLog}
use Rattle.shared_table.specs.Actives.{active_in}
use Rattle.shared_table.specs.Diaries.{active_of, events_of, made_in}
use Rattle.shared_table.specs.Journal.{events}
use Rattle.shared_table.specs.Parts.{active, claims, core_number, drawn, filled, lent, mine, misses, seen, turn}
use Rattle.shared_table.specs.Place.{SeatView}
use Rattle.shared_table.specs.Rule.{IsClear}
use Rattle.thread_laws.specs.OwnEvents.{placed_of}
use Rattle.host_run.specs.Own.{KeepsActives, KeepsClaims, KeepsPeis, core_of, own_events, own_log, seen_logs}
use Rattle.host_run.specs.declared.cores.CoreRun.{CoreRun}
use Rattle.host_run.specs.declared.own_peis.OwnPeis.{OwnPeis}

-- The core has taken its own events in, up to where it stops next.
abbrev pub HasTakenIn : Listing → MachineSpec → Contents → SeatView → Standing → Type 0
HasTakenIn p m image s core =
    at_stop p (core_config m) core.state ≡ at_stop p (core_config m) (core_after p (core_config m) (core_at_start image (core_of s)) (own_events s))

-- how the core of a seat has ended, by its own events
abbrev pub own_end : SeatView → Option EndKind
own_end s = slice_get (filter_map (λ e. end_in e.kind) (own_events s)) 0

-- how a core has ended once it made this event too
abbrev pub end_after : Option EndKind → EventKind → Option EndKind
end_after (Some how) kind = Some how
end_after None kind = end_in kind

-- an event that begins or ends a fence of the core stands in bank 0
abbrev pub FencesAtHome : CoreId → Placed → Type 0
FencesAtHome c x = (begins_fence c x.event || ends_fence c x.event) ≡ true → x.bank ≡ 0

-- What a seat hands back of a run. Its core is the machine's. Each of its own events stands in the log that it saw of the
-- event's bank, which is the right one, and is the row of that bank and of this core there. Stamps rise.
pub record HasFollowed (p : Listing) (m : MachineSpec) (image : Contents) (s : SeatView) : Type 0 where
  pub core : core_number s < m.cores
  pub rows : HandsBack p m image (own_log s) (seen_logs m s)
  pub own_rises : Rises (own_log s)
  pub seen_rise : (k : ℕ) → Rises (seen k s)
  pub stand : EachPlaced (StandsRightly m) (placed_of (mine s))
  pub home : AllByRecursion (FencesAtHome (core_of s)) (placed_of (mine s))

-- What the thread keeps with and without a slot: what it has followed, where its core is and how it ended, its PEIs and its fence,
-- and what its lanes have of the directory.
pub record KeepsUp (p : Listing) (m : MachineSpec) (image : Contents) (s : SeatView) (core : Standing) (own : OwnPeis) (end : Option EndKind) : Type 0 where
  pub followed : HasFollowed p m image s
  pub taken_in : HasTakenIn p m image s core
  pub ended : end ≡ own_end s
  pub peis : KeepsPeis m s own
  pub actives : KeepsActives m s own
  pub lanes : KeepsClaims m s own

-- A seat that has the slot of bank k, with this log, which is one of the bank in order, and with what the table told of it as the
-- slot was taken: the core's events and active PEIs there are the seat's, and no active PEI of another lane conflicts with its
-- claims. It has drawn this stamp, or none.
pub record HasSlot (m : MachineSpec) (image : Contents) (t : TableId) (k : ℕ) (log : List Stamped) (stamp : Option ℕ) (s : SeatView) : Type 0 where
  pub table : s.table ≡ t
  pub below : k < m.banks
  pub slot : turn s ≡ Some k
  pub stamp_is : drawn s ≡ stamp
  pub seen_is : seen k s ≡ log
  pub lent_is : lent s ≡ active_in m.directory (events log)
  pub own : events_of (core_number s) log ≡ made_in k (mine s)
  pub active_is : active_of (core_number s) (active_in m.directory (events log)) ≡ active k s
  pub clear : IsClear (core_number s) (claims s) (active_in m.directory (events log))
  pub bank : IsBankLog m image k (events log)
  pub order : (h : Holdings) × BankInOrder m image (events log) h

-- a seat between two turns: it is of this table, has no slot and no stamp
pub record IsAtRest (t : TableId) (s : SeatView) : Type 0 where
  pub table : s.table ≡ t
  pub slot : turn s ≡ None
  pub stamp : drawn s ≡ None

-- The invariant of a core's loop, where a stamp may be left.
pub record IsInTurn (p : Listing) (m : MachineSpec) (image : Contents) (t : TableId) (s : SeatView) (run : CoreRun) : Type 0 where
  pub rest : IsAtRest t s
  pub missed : misses s ≡ 0
  pub keeps : KeepsUp p m image s run.core run.own run.end

-- The same where no stamp was left, as the seat found.
pub record IsFull (p : Listing) (m : MachineSpec) (image : Contents) (t : TableId) (s : SeatView) (run : CoreRun) : Type 0 where
  pub rest : IsAtRest t s
  pub found : filled s ≡ true
  pub keeps : KeepsUp p m image s run.core run.own run.end

-- A seat that gives its claims back where no stamp was left: it keeps its active PEIs, and what it has followed.
pub record IsLetGo (p : Listing) (m : MachineSpec) (image : Contents) (t : TableId) (s : SeatView) (run : CoreRun) : Type 0 where
  pub rest : IsAtRest t s
  pub found : filled s ≡ true
  pub followed : HasFollowed p m image s
  pub ended : run.end ≡ own_end s
  pub actives : KeepsActives m s run.own

-- What a thread hands back: its core has ended, or it found that no stamp is left.
pub record IsDone (p : Listing) (m : MachineSpec) (image : Contents) (t : TableId) (s : SeatView) (end : Option EndKind) : Type 0 where
  pub rest : IsAtRest t s
  pub followed : HasFollowed p m image s
  pub ended : end ≡ own_end s
  pub over : (is_some end ≡ true) ⊎ (filled s ≡ true)
