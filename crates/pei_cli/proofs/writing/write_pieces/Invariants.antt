use Rattle.std.proofs.Common.{Ok, take, flat_map}
use Rattle.pei_io.specs.Outside.{Writes}
use Rattle.pei_cli.proofs.writing.write_pieces.Given as goal

abbrev pub invariant-loop-piece : goal.invariant-loop-piece
invariant-loop-piece g l = Writes (flat_map (λ p. p.now) (take l.piece-index l.pieces)) (g.K.Sink.written l.fn.sink) (g.K.Sink.written l.sink) (g.K.Sink.faults l.fn.sink) (g.K.Sink.faults l.sink) (Ok tt)
