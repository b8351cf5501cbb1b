use Rattle.std.proofs.Common.{rules, ℕ, List, Ok, ◌<◌, subst, sym, None, Err}
use Rattle.pei_io.specs.Outside.{Writes}
use Rattle.pei_types.specs.MachineState.{cores_of}
use Rattle.pei_types.specs.Texts.{core_lines}
use Rattle.report.proofs.Loops.{went_on, stopped, finished}
use Rattle.report.proofs.ReportLines.{cores_count, core_at, lines_of_core}
use Rattle.report.proofs.cores.write_cores.Goals as goal

pub returns-in_err-write_core : goal.returns-in_err-write_core
returns-in_err-write_core g c =
    let m = c.args.spec.now
    in let k = c.loop-core.core
    in stopped c.writes_join.ensures (core_lines c.args.journal.now.events) (cores_of m) k (record { 0 = k }) (record { 0 = k }) _ _ (g.K.Sink.written c.write_core.new.sink) _ _ (g.K.Sink.faults c.write_core.new.sink) c.in_err-write_core.field-0.0 c.from_residual.result
    (subst (λ (n : ℕ). k < n) (sym (cores_count m)) c.loop-core-test.true) (core_at m k c.loop-core-test.true) c.loop-core.invariant
    (subst (λ (t : List ℕ). Writes t (g.K.Sink.written c.loop-core.sink) (g.K.Sink.written c.write_core.new.sink) (g.K.Sink.faults c.loop-core.sink) (g.K.Sink.faults c.write_core.new.sink) (Err c.in_err-write_core.field-0.0))
    (lines_of_core c.args.journal.now.events c.args.ends.now k None c.requires (search rules)) c.in_err-write_core.ensures)
    c.from_residual.ensures.0

pub loop-core-preserved : goal.loop-core-preserved
loop-core-preserved g c =
    let m = c.args.spec.now
    in let k = c.loop-core.core
    in went_on c.writes_join.ensures (core_lines c.args.journal.now.events) (cores_of m) k (record { 0 = k }) (record { 0 = k }) _ _ (g.K.Sink.written c.write_core.new.sink) _ _ (g.K.Sink.faults c.write_core.new.sink)
    (subst (λ (n : ℕ). k < n) (sym (cores_count m)) c.loop-core-test.true) (core_at m k c.loop-core-test.true) c.loop-core.invariant
    (subst (λ (t : List ℕ). Writes t (g.K.Sink.written c.loop-core.sink) (g.K.Sink.written c.write_core.new.sink) (g.K.Sink.faults c.loop-core.sink) (g.K.Sink.faults c.write_core.new.sink) (Ok tt))
    (lines_of_core c.args.journal.now.events c.args.ends.now k None c.requires (search rules)) c.in_ok-write_core.ensures)

pub returns : goal.returns
returns g c =
    finished (core_lines c.args.journal.now.events) (cores_of c.args.spec.now) c.loop-core.core (g.K.Sink.written c.args.sink.now) (g.K.Sink.written c.loop-core.sink) (g.K.Sink.faults c.args.sink.now) (g.K.Sink.faults c.loop-core.sink) (search (rules, cores_count)) c.loop-core.invariant
