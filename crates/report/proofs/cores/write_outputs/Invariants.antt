use Rattle.std.proofs.Common.{take, flat_map, Ok}
use Rattle.pei_io.specs.Outside.{Writes}
use Rattle.report.proofs.ReportLines.{event_lines}
use Rattle.report.proofs.cores.write_outputs.Given as goal

abbrev pub invariant-loop-i : goal.invariant-loop-i
invariant-loop-i g l = Writes (flat_map (event_lines l.core) (take l.i l.journal.events)) (g.K.Sink.written l.fn.sink) (g.K.Sink.written l.sink) (g.K.Sink.faults l.fn.sink) (g.K.Sink.faults l.sink) (Ok tt)
