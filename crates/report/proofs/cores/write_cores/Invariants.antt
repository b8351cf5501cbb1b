use Rattle.std.proofs.Common.{take, flat_map, Ok}
use Rattle.pei_io.specs.Outside.{Writes}
use Rattle.pei_types.specs.MachineState.{cores_of}
use Rattle.pei_types.specs.Texts.{core_lines}
use Rattle.report.proofs.cores.write_cores.Given as goal

abbrev pub invariant-loop-core : goal.invariant-loop-core
invariant-loop-core g l = Writes (flat_map (core_lines l.journal.events) (take l.core (cores_of l.spec))) (g.K.Sink.written l.fn.sink) (g.K.Sink.written l.sink) (g.K.Sink.faults l.fn.sink) (g.K.Sink.faults l.sink) (Ok tt)
