use Rattle.std.proofs.Common.{rules, ℕ, List, Ok, subst}
use Rattle.std.proofs.lemmas.Option.{slice_get_within, get_or_from_slice_get}
use Rattle.pei_io.specs.Outside.{Writes}
use Rattle.report.proofs.Loops.{went_on, stopped, finished}
use Rattle.report.proofs.ReportLines.{event_lines, outputs_by_event}
use Rattle.report.proofs.cores.write_outputs.Goals as goal

pub returns-in_err-write_output_in : goal.returns-in_err-write_output_in
returns-in_err-write_output_in g c =
    let journal = c.args.journal.now.events
    in subst (λ (t : List ℕ). Writes t (g.K.Sink.written c.args.sink.now) (g.K.Sink.written c.write_output_in.new.sink) (g.K.Sink.faults c.args.sink.now) (g.K.Sink.faults c.write_output_in.new.sink) c.from_residual.result)
    (outputs_by_event c.args.core journal)
    (stopped c.writes_join.ensures (event_lines c.args.core) journal c.loop-i.i c.get.result c.get.result _ _ (g.K.Sink.written c.write_output_in.new.sink) _ _ (g.K.Sink.faults c.write_output_in.new.sink) c.in_err-write_output_in.field-0.0 c.from_residual.result
    (slice_get_within journal c.loop-i.i c.get.result c.get.ensures) (get_or_from_slice_get journal c.loop-i.i c.get.result c.get.result c.get.ensures) c.loop-i.invariant c.in_err-write_output_in.ensures c.from_residual.ensures.0)

pub loop-i-preserved : goal.loop-i-preserved
loop-i-preserved g c =
    let journal = c.args.journal.now.events
    in went_on c.writes_join.ensures (event_lines c.args.core) journal c.loop-i.i c.get.result c.get.result _ _ (g.K.Sink.written c.write_output_in.new.sink) _ _ (g.K.Sink.faults c.write_output_in.new.sink)
    (slice_get_within journal c.loop-i.i c.get.result c.get.ensures) (get_or_from_slice_get journal c.loop-i.i c.get.result c.get.result c.get.ensures) c.loop-i.invariant c.in_ok-write_output_in.ensures

pub returns : goal.returns
returns g c =
    let journal = c.args.journal.now.events
    in subst (λ (t : List ℕ). Writes t (g.K.Sink.written c.args.sink.now) (g.K.Sink.written c.loop-i.sink) (g.K.Sink.faults c.args.sink.now) (g.K.Sink.faults c.loop-i.sink) (Ok tt))
    (outputs_by_event c.args.core journal)
    (finished (event_lines c.args.core) journal c.loop-i.i (g.K.Sink.written c.args.sink.now) (g.K.Sink.written c.loop-i.sink) (g.K.Sink.faults c.args.sink.now) (g.K.Sink.faults c.loop-i.sink) (search rules) c.loop-i.invariant)
