use Rattle.std.proofs.Common.{All, subst}
use Rattle.std.proofs.lemmas.Result.{MatchResult-weaker}
use Rattle.pei_asm.specs.MachineNumbers.{HasNumbers}
use Rattle.pei_asm.proofs.MachinePrograms.{spelled}
use Rattle.pei_asm.proofs.printing.add_program.Goals as goal

pub returns-clause-spells : goal.returns-clause-spells
returns-clause-spells c =
    let asks = subst (All HasNumbers) c.asks.ensures c.in_ok-add_asks.ensures.numbers
    in let instrs = c.in_ok-add_instrs.ensures
    in MatchResult-weaker c.add_last.result c.add_last.ensures
    (λ ok now. spelled c.args.program.now c.requires.printable c.entry_line.ensures.eight instrs.few instrs.registers instrs.numbers c.in_ok-add_lines.ensures.numbers asks)
    (λ error none. none)
