use Rattle.pei_asm.specs.Canonical.{words_line}
use Rattle.pei_asm.specs.MachineNumbers.{IsLineOfNumbers}
use Rattle.pei_asm.proofs.AddingOn.{added_on, all_on}
use Rattle.pei_asm.proofs.printing.add_lines.Goals as goal

pub loop-i-preserved : goal.loop-i-preserved
loop-i-preserved c =
    record {
      text = added_on words_line c.args.program.now.lines c.loop-i.i _ _ _ _ c.line-addr.ensures.found c.in_ok-add_words.ensures.text c.loop-i.invariant.text;
      numbers = all_on IsLineOfNumbers c.args.program.now.lines c.loop-i.i _ c.line-addr.ensures.found c.in_ok-add_words.ensures.numbers c.loop-i.invariant.numbers;
    }
