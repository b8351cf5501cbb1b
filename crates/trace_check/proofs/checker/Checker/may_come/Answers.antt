use Rattle.std.proofs.Common.{◌∙◌, ap}
use Rattle.pei_types.specs.MachineState.{is_i}
use Rattle.trace_check.specs.CheckerParts.{state_of}
use Rattle.trace_check.proofs.Others.{come_shown}
use Rattle.trace_check.proofs.Rows.{told_none}
use Rattle.trace_check.proofs.checker.Checker.may_come.Goals as goal

pub returns : goal.returns
returns c =
    let v = c.args.self.now
    in let looks = c.args.looks.now
    in come_shown v.machine (state_of v) looks c.requires.looks c.requires.invariants c.is_i.result c.is_absent.result c.is_none.result (c.is_i.ensures ∙ ap is_i c.letter_in-letter.ensures) c.is_absent.ensures (told_none looks.l1_victim c.is_none.result c.is_none.ensures)
