use Rattle.std.proofs.Common.{ℕ, List, [], ◌∷◌, flat_map, codes, decimal, subst}
use Rattle.pei_io.specs.Outside.{Writes}
use Rattle.pei_types.specs.MachineState.{cores_of}
use Rattle.pei_types.specs.Ends.{status_of}
use Rattle.pei_types.specs.Texts.{line, core_lines, ask_lines}
use Rattle.report.specs.Shown.{asked_stats}
use Rattle.report.proofs.Parts.{second_stopped, third_stopped, four_ended, status_line}
use Rattle.report.proofs.writing.write_parts.Goals as goal

pub returns-in_err-write_asks : goal.returns-in_err-write_asks
returns-in_err-write_asks g c =
    let journal = c.args.journal.now.events
    in second_stopped c.writes_join.ensures (flat_map (core_lines journal) (cores_of c.args.spec.now)) (flat_map (ask_lines c.args.fabric.now.image c.args.fabric.now.journal) c.args.program.now.asks)
    (asked_stats c.args.program.now journal) (line (codes "status" ∷ decimal (status_of c.args.spec.now journal) ∷ []))
    (g.K.Sink.written c.args.sink.now) (g.K.Sink.written c.write_cores.new.sink) (g.K.Sink.written c.write_asks.new.sink)
    (g.K.Sink.faults c.args.sink.now) (g.K.Sink.faults c.write_cores.new.sink) (g.K.Sink.faults c.write_asks.new.sink)
    c.in_err-write_asks.field-0.0 c.from_residual-in_err-write_asks.result c.in_ok-write_cores.ensures c.in_err-write_asks.ensures c.from_residual-in_err-write_asks.ensures.0

pub returns-in_err-write_asked_stats : goal.returns-in_err-write_asked_stats
returns-in_err-write_asked_stats g c =
    let journal = c.args.journal.now.events
    in third_stopped c.writes_join.ensures (flat_map (core_lines journal) (cores_of c.args.spec.now)) (flat_map (ask_lines c.args.fabric.now.image c.args.fabric.now.journal) c.args.program.now.asks)
    (asked_stats c.args.program.now journal) (line (codes "status" ∷ decimal (status_of c.args.spec.now journal) ∷ []))
    (g.K.Sink.written c.args.sink.now) (g.K.Sink.written c.write_cores.new.sink) (g.K.Sink.written c.write_asks.new.sink) (g.K.Sink.written c.write_asked_stats.new.sink)
    (g.K.Sink.faults c.args.sink.now) (g.K.Sink.faults c.write_cores.new.sink) (g.K.Sink.faults c.write_asks.new.sink) (g.K.Sink.faults c.write_asked_stats.new.sink)
    c.in_err-write_asked_stats.field-0.0 c.from_residual-in_err-write_asked_stats.result c.in_ok-write_cores.ensures c.in_ok-write_asks.ensures c.in_err-write_asked_stats.ensures c.from_residual-in_err-write_asked_stats.ensures.0

pub returns : goal.returns
returns g c =
    let journal = c.args.journal.now.events
    in four_ended c.writes_join.ensures (flat_map (core_lines journal) (cores_of c.args.spec.now)) (flat_map (ask_lines c.args.fabric.now.image c.args.fabric.now.journal) c.args.program.now.asks)
    (asked_stats c.args.program.now journal) (line (codes "status" ∷ decimal (status_of c.args.spec.now journal) ∷ []))
    (g.K.Sink.written c.args.sink.now) (g.K.Sink.written c.write_cores.new.sink) (g.K.Sink.written c.write_asks.new.sink) (g.K.Sink.written c.write_asked_stats.new.sink) (g.K.Sink.written c.write_status.new.sink)
    (g.K.Sink.faults c.args.sink.now) (g.K.Sink.faults c.write_cores.new.sink) (g.K.Sink.faults c.write_asks.new.sink) (g.K.Sink.faults c.write_asked_stats.new.sink) (g.K.Sink.faults c.write_status.new.sink)
    c.write_status.result c.in_ok-write_cores.ensures c.in_ok-write_asks.ensures c.in_ok-write_asked_stats.ensures
    (subst (λ (t : List ℕ). Writes t (g.K.Sink.written c.write_asked_stats.new.sink) (g.K.Sink.written c.write_status.new.sink) (g.K.Sink.faults c.write_asked_stats.new.sink) (g.K.Sink.faults c.write_status.new.sink) c.write_status.result)
    (status_line c.args.status (status_of c.args.spec.now journal) c.requires.status) c.write_status.ensures)
