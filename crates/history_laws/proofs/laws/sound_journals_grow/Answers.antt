use Rattle.history_laws.proofs.Fitting.{sound_at_start, sound_next, fits_sound}
use Rattle.history_laws.proofs.laws.sound_journals_grow.Goals as goal

pub returns : goal.returns
returns c = record { start = sound_at_start; next = sound_next; fits = fits_sound }
