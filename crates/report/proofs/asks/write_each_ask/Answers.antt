use Rattle.std.proofs.Common.{refl}
use Rattle.pei_types.specs.Texts.{ask_lines}
use Rattle.report.proofs.Loops.{stopped}
use Rattle.report.proofs.asks.write_each_ask.Goals as goal

pub returns-in_err-write_ask : goal.returns-in_err-write_ask
returns-in_err-write_ask g c =
    stopped c.writes_join.ensures (ask_lines c.args.fabric.now.image c.args.fabric.now.journal) c.args.asks.now c.loop-ask.ask-index _ _ _ _ (g.K.Sink.written c.write_ask.new.sink) _ _ (g.K.Sink.faults c.write_ask.new.sink) c.in_err-write_ask.field-0.0 c.from_residual.result
    c.loop-ask-test.true refl c.loop-ask.invariant c.in_err-write_ask.ensures c.from_residual.ensures.0
