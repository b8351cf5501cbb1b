use Rattle.history_laws.proofs.Journals.{next_places, next_meets_all, rows_legal}
use Rattle.history_laws.proofs.laws.rest_is_state.Goals as goal

pub returns : goal.returns
returns c = record { monitor = next_places; all = next_meets_all; legal = rows_legal }
