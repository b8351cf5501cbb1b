use Rattle.std.proofs.Common.{List, ℕ, flat_map, subst}
use Rattle.pei_io.specs.Outside.{Writes}
use Rattle.pei_types.specs.declared.events.Event.{Event}
use Rattle.pei_types.specs.Texts.{ask_lines}
use Rattle.report.specs.Shown.{report_with}
use Rattle.report.proofs.writing.write_report.Goals as goal

pub returns : goal.returns
returns g c =
    subst (λ (js : List Event). Writes (report_with (flat_map (ask_lines c.args.fabric.now.image c.args.fabric.now.journal) c.args.program.now.asks) c.args.program.now c.args.spec.now js) (g.K.Sink.written c.args.sink.now) (g.K.Sink.written c.write_parts.new.sink) (g.K.Sink.faults c.args.sink.now) (g.K.Sink.faults c.write_parts.new.sink) c.write_parts.result)
    c.journal.ensures.events c.write_parts.ensures
