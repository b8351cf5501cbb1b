use Rattle.history_laws.proofs.Fitting.{sound_meets}
use Rattle.history_laws.proofs.laws.fitting_events_meet.Goals as goal

pub returns : goal.returns
returns c = record { flat = sound_meets }
