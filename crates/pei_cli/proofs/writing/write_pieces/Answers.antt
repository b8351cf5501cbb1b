use Rattle.std.proofs.Common.{rules}
use Rattle.pei_cli.proofs.WritingOn.{pieces_stopped, any_failure, joined}
use Rattle.pei_cli.proofs.writing.write_pieces.Goals as goal

pub returns-in_err-write_all : goal.returns-in_err-write_all
returns-in_err-write_all g c =
    any_failure (joined c.args.pieces.now) _ _ _ _ c.in_err-write_all.field-0.0 _ c.from_residual.ensures.0
    (pieces_stopped c.writes_join.ensures c.args.pieces.now c.loop-piece.piece-index _ _ _ (g.K.Sink.written c.write_all.new.sink) _ _ (g.K.Sink.faults c.write_all.new.sink) c.in_err-write_all.field-0.0 (search rules) c.loop-piece.invariant c.in_err-write_all.ensures)
