use Rattle.trace_check.proofs.laws.laws.Goals as goal

pub returns : goal.returns
returns c = record {
  tells = c.state_tells.ensures;
  legal = c.rows_make_legal.ensures;
  asks = c.calls_fit.ensures;
  stops = c.core_stops_once.ensures;
  folds = c.folds_grow.ensures;
  grows = c.legal_journals_grow.ensures;
  flat = c.flat_memory_goes_on.ensures;
}
