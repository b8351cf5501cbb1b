use Rattle.trace_check.specs.CheckerParts.{state_of}
use Rattle.trace_check.proofs.Messages.{fill_shown}
use Rattle.trace_check.proofs.Rows.{told_none}
use Rattle.trace_check.proofs.checker.Checker.may_fill.Goals as goal

pub returns : goal.returns
returns c a =
    let v = c.args.self.now
    in fill_shown v.machine (state_of v) c.args.looks.now c.requires.looks c.requires.invariants c.is_absent.result c.writer_sealed-sealed.result c.is_none.result c.is_absent.ensures c.writer_sealed-sealed.ensures (told_none c.args.looks.now.llc_victim c.is_none.result c.is_none.ensures)
