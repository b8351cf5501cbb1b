use Rattle.std.proofs.Common.{take, flat_map, Ok}
use Rattle.pei_io.specs.Outside.{Writes}
use Rattle.pei_types.specs.Texts.{addresses}
use Rattle.pei_types.specs.FlatMemory.{flat_word}
use Rattle.report.specs.Shown.{word_line}
use Rattle.report.proofs.asks.write_words.Given as goal

abbrev pub invariant-loop-i : goal.invariant-loop-i
invariant-loop-i g l = Writes (flat_map (word_line (flat_word l.fabric.image l.fabric.journal)) (take l.i (addresses l.addr l.count))) (g.K.Sink.written l.fn.sink) (g.K.Sink.written l.sink) (g.K.Sink.faults l.fn.sink) (g.K.Sink.faults l.sink) (Ok tt)
