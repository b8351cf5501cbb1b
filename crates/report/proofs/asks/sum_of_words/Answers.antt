use Rattle.std.proofs.Common.{rules}
use Rattle.pei_types.specs.FlatMemory.{flat_word}
use Rattle.report.proofs.ReportLines.{sum_on}
use Rattle.report.proofs.asks.sum_of_words.Goals as goal

pub loop-i-preserved : goal.loop-i-preserved
loop-i-preserved c =
    sum_on (flat_word c.args.fabric.now.image c.args.fabric.now.journal) c.args.addr c.loop-i.i c.loop-i.total _ c.loop-i.invariant (search rules)
