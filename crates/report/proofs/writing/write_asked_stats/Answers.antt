use Rattle.std.proofs.Common.{rules, ℕ, List, subst}
use Rattle.pei_io.specs.Outside.{Writes}
use Rattle.report.proofs.StatisticsLines.{stats_asked}
use Rattle.report.proofs.writing.write_asked_stats.Goals as goal

pub returns-then-stats : goal.returns-then-stats
returns-then-stats g c =
    subst (λ (t : List ℕ). Writes t (g.K.Sink.written c.args.sink.now) (g.K.Sink.written c.write_stats.new.sink) (g.K.Sink.faults c.args.sink.now) (g.K.Sink.faults c.write_stats.new.sink) c.write_stats.result)
    (stats_asked c.args.program.now c.args.journal.now.events c.counts.result c.counts.ensures (search rules)) c.write_stats.ensures
