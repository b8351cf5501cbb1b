-- The laws that a thread's loop rests on.
use Rattle.pei_types.specs.Laws.{AsksWhatFits, FoldsGrow, StopsOnce}
use Rattle.bank_laws.specs.Laws.{BanksKeepApart, BanksMerge, CoresGoOn, LogsMakeLegal}
use Rattle.shared_table.specs.Actives.{ActivesAreEntered}
use Rattle.shared_table.specs.SeatLaws.{SeatsFollow}
use Rattle.thread_laws.specs.Laws.{ActivesGoOn, BanksAreCleared, BanksFollow, CoresMeetBanks, EntriesAreFree, LogsTrack, OwnIssuesAreNew}

pub record TurnLaws : Type 0 where
  -- what a core does next, and that it asks for what the machine serves
  pub stops : StopsOnce
  pub folds : FoldsGrow
  pub fits : AsksWhatFits
  -- the parts of a seat that takes a slot and gives it back
  pub seats : SeatsFollow
  -- what a core hands back of its events
  pub logs : LogsMakeLegal
  pub cores : CoresGoOn
  pub merge : BanksMerge
  pub new : OwnIssuesAreNew
  -- what a bank's log tells, and what of it is the core's
  pub apart : BanksKeepApart
  pub track : LogsTrack
  pub follow : BanksFollow
  pub entered : ActivesAreEntered
  pub actives : ActivesGoOn
  pub free : EntriesAreFree
  pub meet : CoresMeetBanks
  pub cleared : BanksAreCleared
