use Rattle.history_laws.proofs.Programs.{asks_next}
use Rattle.history_laws.proofs.Fitting.{run_starts, run_next}
use Rattle.history_laws.proofs.laws.runs_go_on.Goals as goal

pub returns : goal.returns
returns c = record { asks = asks_next; start = run_starts; next = run_next }
