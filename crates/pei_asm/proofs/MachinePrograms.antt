-- A program whose numbers are of 64 bits can be written.
use Rattle.std.proofs.lemmas.List.Elements.{recursion_from_All}
use Rattle.std.proofs.Common.{◌≡◌, ℕ, ◌≤◌, List, [], ◌∷◌, length, arith}
use Rattle.std.specs.Prelude.{All}
use Rattle.pei_types.specs.declared.instructions.Ask.{Ask}
use Rattle.pei_types.specs.declared.instructions.Ask.TheVariants as ask
use Rattle.pei_types.specs.declared.instructions.Instr.{Instr}
use Rattle.pei_types.specs.declared.instructions.Instr.TheVariants as instr
use Rattle.pei_types.specs.Program.{HasRegisters, Listing}
use Rattle.pei_asm.specs.Canonical.{IsPrintable, canonical}
use Rattle.pei_asm.specs.MachineNumbers.{HasNumber, HasNumbers, IsLineOfNumbers, IsNumber}
use Rattle.pei_asm.specs.Meaning.{Spells}
use Rattle.pei_asm.proofs.InstrLines.{IsSmall}
use Rattle.pei_asm.proofs.Headers.{IsSmallAsk, IsWordsLine}
use Rattle.pei_asm.proofs.CanonicalSpells.{canonical_spells}
use Rattle.pei_types.proofs.Lists.{each_weaker}

small_instr : (i : Instr) → HasNumber i → IsSmall i
small_instr (instr.Li rd n) h = h
small_instr (instr.Add rd ra rb) h = h
small_instr (instr.Sub rd ra rb) h = h
small_instr (instr.Mul rd ra rb) h = h
small_instr (instr.And rd ra rb) h = h
small_instr (instr.Or rd ra rb) h = h
small_instr (instr.Xor rd ra rb) h = h
small_instr (instr.Addi rd ra n) h = h
small_instr (instr.Andi rd ra n) h = h
small_instr (instr.Shl rd ra n) h = h
small_instr (instr.Shr rd ra n) h = h
small_instr (instr.Ld rd ra n) h = h
small_instr (instr.St rv ra n) h = h
small_instr (instr.Beq ra rb to) h = h
small_instr (instr.Bne ra rb to) h = h
small_instr (instr.Bltu ra rb to) h = h
small_instr (instr.Bgeu ra rb to) h = h
small_instr (instr.Jmp to) h = h
small_instr (instr.Pinc ra n) h = h
small_instr (instr.Pmin ra n rv) h = h
small_instr (instr.Pprobe rd ra n rk) h = h
small_instr (instr.Phist rd ra n rs) h = h
small_instr (instr.Pdot rd ra n rx) h = h
small_instr instr.Pfence h = h
small_instr (instr.Out ra) h = h
small_instr instr.Halt h = h

words_line_of : (l : ℕ × List ℕ) → IsLineOfNumbers l → IsWordsLine l
unfolding IsWordsLine
words_line_of (addr, []) h = absurd (omega (arith, h.some))
words_line_of (addr, n ∷ ns) h =
    let values = recursion_from_All IsNumber (n ∷ ns) h.values
    in (h.addr, values.0, values.1)

small_ask : (a : Ask) → HasNumbers a → IsSmallAsk a
unfolding IsSmallAsk
small_ask (ask.Show addr count) h = h
small_ask (ask.Sum addr count) h = h

-- its canonical text spells it
pub spelled : (p : Listing) → IsPrintable p → length p.own_entries ≡ 8 → length p.instrs ≤ 65536 → All HasRegisters p.instrs → All HasNumber p.instrs → All IsLineOfNumbers p.lines → All HasNumbers p.asks
    → Spells (canonical p) p
spelled p printable eight few registers numbers lines asks =
    canonical_spells p
    (record {
      printable = printable;
      registers = recursion_from_All HasRegisters p.instrs registers;
      small = each_weaker HasNumber IsSmall small_instr p.instrs (recursion_from_All HasNumber p.instrs numbers);
      few = few;
      eight = eight;
      words = each_weaker IsLineOfNumbers IsWordsLine words_line_of p.lines (recursion_from_All IsLineOfNumbers p.lines lines);
      asks = each_weaker HasNumbers IsSmallAsk small_ask p.asks (recursion_from_All HasNumbers p.asks asks);
    })
