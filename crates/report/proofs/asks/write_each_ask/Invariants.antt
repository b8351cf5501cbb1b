use Rattle.std.proofs.Common.{take, flat_map, Ok}
use Rattle.pei_io.specs.Outside.{Writes}
use Rattle.pei_types.specs.Texts.{ask_lines}
use Rattle.report.proofs.asks.write_each_ask.Given as goal

abbrev pub invariant-loop-ask : goal.invariant-loop-ask
invariant-loop-ask g l = Writes (flat_map (ask_lines l.fabric.image l.fabric.journal) (take l.ask-index l.asks)) (g.K.Sink.written l.fn.sink) (g.K.Sink.written l.sink) (g.K.Sink.faults l.fn.sink) (g.K.Sink.faults l.sink) (Ok tt)
