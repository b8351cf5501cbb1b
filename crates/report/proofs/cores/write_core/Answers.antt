use Rattle.report.proofs.cores.write_core.Goals as goal

pub returns : goal.returns
returns g c = c.writes_join.ensures.joins _ _ _ _ _ _ _ _ _ _ c.in_ok-write_outputs.ensures c.write_end.ensures
