use Rattle.std.proofs.Common.{take, flat_map, Ok}
use Rattle.pei_io.specs.Outside.{Writes}
use Rattle.report.specs.Rows.{row_line}
use Rattle.report.proofs.statistics.write_rows.Given as goal

abbrev pub invariant-loop-row : goal.invariant-loop-row
invariant-loop-row g l = Writes (flat_map (λ r. row_line (r.0.now, r.1)) (take l.row-index l.rows)) (g.K.Sink.written l.fn.sink) (g.K.Sink.written l.sink) (g.K.Sink.faults l.fn.sink) (g.K.Sink.faults l.sink) (Ok tt)
