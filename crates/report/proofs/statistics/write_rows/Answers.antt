use Rattle.std.proofs.Common.{rules, ℕ, List, Ok, Bor, subst, sym, refl}
use Rattle.std.proofs.lemmas.List.Folds.{flat_map-map}
use Rattle.pei_io.specs.Outside.{Writes}
use Rattle.report.specs.Rows.{row_line}
use Rattle.report.proofs.Loops.{stopped, finished}
use Rattle.report.proofs.statistics.write_rows.Goals as goal

abbrev named : Bor (List ℕ) × ℕ → List ℕ × ℕ
named r = (r.0.now, r.1)

pub returns-in_err-write_stat : goal.returns-in_err-write_stat
returns-in_err-write_stat g c =
    subst (λ (t : List ℕ). Writes t (g.K.Sink.written c.args.sink.now) (g.K.Sink.written c.write_stat.new.sink) (g.K.Sink.faults c.args.sink.now) (g.K.Sink.faults c.write_stat.new.sink) c.from_residual.result)
    (sym (flat_map-map row_line named c.args.rows.now))
    (stopped c.writes_join.ensures (λ (r : Bor (List ℕ) × ℕ). row_line (named r)) c.args.rows.now c.loop-row.row-index _ _ _ _ (g.K.Sink.written c.write_stat.new.sink) _ _ (g.K.Sink.faults c.write_stat.new.sink) c.in_err-write_stat.field-0.0 c.from_residual.result
    c.loop-row-test.true refl c.loop-row.invariant c.in_err-write_stat.ensures c.from_residual.ensures.0)

pub returns : goal.returns
returns g c =
    subst (λ (t : List ℕ). Writes t (g.K.Sink.written c.args.sink.now) (g.K.Sink.written c.loop-row.sink) (g.K.Sink.faults c.args.sink.now) (g.K.Sink.faults c.loop-row.sink) (Ok tt))
    (sym (flat_map-map row_line named c.args.rows.now))
    (finished (λ (r : Bor (List ℕ) × ℕ). row_line (named r)) c.args.rows.now c.loop-row.row-index (g.K.Sink.written c.args.sink.now) (g.K.Sink.written c.loop-row.sink) (g.K.Sink.faults c.args.sink.now) (g.K.Sink.faults c.loop-row.sink) (search rules) c.loop-row.invariant)
