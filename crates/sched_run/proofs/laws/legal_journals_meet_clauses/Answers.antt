use Rattle.sched_run.proofs.Played.{each_clause}
use Rattle.sched_run.proofs.laws.legal_journals_meet_clauses.Goals as goal

pub returns : goal.returns
returns c = each_clause
