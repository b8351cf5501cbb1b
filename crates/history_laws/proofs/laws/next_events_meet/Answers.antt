use Rattle.history_laws.proofs.Rows.{fits_next}
use Rattle.history_laws.proofs.Journals.{next_meets, next_sound}
use Rattle.history_laws.proofs.laws.next_events_meet.Goals as goal

pub returns : goal.returns
returns c = record { fits = fits_next; flat = next_meets; sound = next_sound }
