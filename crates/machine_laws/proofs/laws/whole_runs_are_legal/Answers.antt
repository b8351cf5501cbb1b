use Rattle.machine_laws.proofs.Programs.{whole_runs_legal}
use Rattle.machine_laws.proofs.laws.whole_runs_are_legal.Goals as goal

pub returns : goal.returns
returns c = whole_runs_legal c.policies_choose_actors.ensures c.whole_runs_are_legal.ensures c.rows_make_legal.ensures
