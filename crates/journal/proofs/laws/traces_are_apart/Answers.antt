use Rattle.journal.proofs.OneJournal.{one_event, one_journal}
use Rattle.journal.proofs.laws.traces_are_apart.Goals as goal

pub returns : goal.returns
returns c = record { one_event = one_event; one_journal = one_journal }
