use Rattle.fabric.proofs.Between.{none_between}
use Rattle.fabric.proofs.places.lies_between.Goals as goal

pub returns-then-is_above_last : goal.returns-then-is_above_last
returns-then-is_above_last c passed =
    none_between c.args.journal.now.stamps c.requires.rising c.args.stamp c.args.near (c.is_above_last.ensures c.if-is_above_last.true) (c.is_below_next.ensures passed)
