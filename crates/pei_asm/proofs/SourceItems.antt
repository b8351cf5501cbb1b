-- What the lines of the code add to a program.
use Rattle.std.proofs.Common.{◌≡◌, ℕ, ◌+◌, ◌<◌, ◌≤◌, true, List, [], ◌∷◌, map, length, fold, All, Option, Some, None, IfSome, refl, sym, ap, ◌∙◌, arith}
use Rattle.std.specs.Prelude.{filter_map, is_some, option_map}
use Rattle.std.specs.List.{AllByRecursion, cons_option}
use Rattle.std.proofs.lemmas.Bool.{and_parts}
use Rattle.std.proofs.lemmas.List.{length-append}
use Rattle.std.proofs.lemmas.List.Elements.{All-head, All-tail}
use Rattle.pei_types.specs.declared.instructions.Instr.{Instr}
use Rattle.pei_types.specs.Program.{Listing}
use Rattle.pei_asm.specs.declared.lines.SourceLine.{SourceLine}
use Rattle.asm_statements.specs.declared.operands.SourceStatement.{SourceStatement}
use Rattle.asm_statements.specs.declared.mnemonics.Mnemonic.{Mnemonic}
use Rattle.asm_statements.specs.declared.mnemonics.Mnemonic.TheVariants as known
use Rattle.asm_statements.specs.Mnemonics.{Item, row_of, value_of, instruction_in}
use Rattle.asm_statements.specs.Statements.{item_of, tokens_alone, item_anywhere}
use Rattle.pei_asm.specs.Meaning.{instruction_count, items_anywhere}
use Rattle.pei_asm.specs.Items.{HasValues, with_item}
use Rattle.pei_asm.specs.Places.{item_on}
use Rattle.pei_asm.specs.Sources.{HasWellFormed, IsWellFormed, line_of}
use Rattle.asm_statements.specs.Sources.{statement_of}
use Rattle.pei_asm.proofs.ItemByItem.{HasCore, instructions_on}
use Rattle.pei_asm.proofs.OperandValues.{values_from}

-- ---- rows

-- whether a row makes an instruction hangs on no value
makes_alike : (m : Mnemonic) (v w : List ℕ) → is_some (instruction_in ((row_of m).makes v)) ≡ is_some (instruction_in ((row_of m).makes w))
makes_alike known.Li v w = refl
makes_alike known.Add v w = refl
makes_alike known.Sub v w = refl
makes_alike known.Mul v w = refl
makes_alike known.And v w = refl
makes_alike known.Or v w = refl
makes_alike known.Xor v w = refl
makes_alike known.Addi v w = refl
makes_alike known.Andi v w = refl
makes_alike known.Shl v w = refl
makes_alike known.Shr v w = refl
makes_alike known.Ld v w = refl
makes_alike known.St v w = refl
makes_alike known.Beq v w = refl
makes_alike known.Bne v w = refl
makes_alike known.Bltu v w = refl
makes_alike known.Bgeu v w = refl
makes_alike known.Jmp v w = refl
makes_alike known.Pinc v w = refl
makes_alike known.Pmin v w = refl
makes_alike known.Pprobe v w = refl
makes_alike known.Phist v w = refl
makes_alike known.Pdot v w = refl
makes_alike known.Pfence v w = refl
makes_alike known.Out v w = refl
makes_alike known.Halt v w = refl
makes_alike known.EntryOfCore v w = refl
makes_alike known.EntryOfAll v w = refl
makes_alike known.Data v w = refl
makes_alike known.Show v w = refl
makes_alike known.Sum v w = refl
makes_alike known.Stats v w = refl

-- the cores of entries are there
core_of_row : (m : Mnemonic) (v : List ℕ) → HasValues (row_of m).shapes v → HasCore ((row_of m).makes v)
core_of_row known.Li v h = tt
core_of_row known.Add v h = tt
core_of_row known.Sub v h = tt
core_of_row known.Mul v h = tt
core_of_row known.And v h = tt
core_of_row known.Or v h = tt
core_of_row known.Xor v h = tt
core_of_row known.Addi v h = tt
core_of_row known.Andi v h = tt
core_of_row known.Shl v h = tt
core_of_row known.Shr v h = tt
core_of_row known.Ld v h = tt
core_of_row known.St v h = tt
core_of_row known.Beq v h = tt
core_of_row known.Bne v h = tt
core_of_row known.Bltu v h = tt
core_of_row known.Bgeu v h = tt
core_of_row known.Jmp v h = tt
core_of_row known.Pinc v h = tt
core_of_row known.Pmin v h = tt
core_of_row known.Pprobe v h = tt
core_of_row known.Phist v h = tt
core_of_row known.Pdot v h = tt
core_of_row known.Pfence v h = tt
core_of_row known.Out v h = tt
core_of_row known.Halt v h = tt
core_of_row known.EntryOfCore v h = h.1
core_of_row known.EntryOfAll v h = tt
core_of_row known.Data v h = tt
core_of_row known.Show v h = tt
core_of_row known.Sum v h = tt
core_of_row known.Stats v h = tt

module _ (places : List ℕ → ℕ) (below : (text : List ℕ) → places text ≤ 65536) where
  -- the values of the operands of a statement are of the shapes of its row
  pub values_of_statement : (s : SourceStatement) → IsWellFormed s → HasValues (row_of s.mnemonic).shapes (map (value_of places) (tokens_alone (statement_of s).operands))
  values_of_statement s h =
      values_from places below (row_of s.mnemonic).goes_on (row_of s.mnemonic).shapes (statement_of s).operands (map (value_of places) (tokens_alone (statement_of s).operands)) 0 refl h.fits
      (and_parts _ _ h.in_range).1

  -- the cores of the entries of all lines are there
  pub cores_of_lines : (sources : List SourceLine) → All HasWellFormed sources → AllByRecursion HasCore (filter_map (item_on places) (map line_of sources))
  cores_of_lines [] h = tt
  cores_of_lines (l ∷ ls) h = by_statement l.statement (All-head HasWellFormed l ls h) (cores_of_lines ls (All-tail HasWellFormed l ls h))
    where
      by_statement : (o : Option SourceStatement) → IfSome o IsWellFormed → AllByRecursion HasCore (filter_map (item_on places) (map line_of ls))
          → AllByRecursion HasCore (cons_option (option_map (item_of places) (option_map statement_of o)) (filter_map (item_on places) (map line_of ls)))
      by_statement None h rest = rest
      by_statement (Some s) h rest = (core_of_row s.mnemonic _ (values_of_statement s h), rest)

-- ---- how many instructions there are

as_long : (o p : Option Instr) (xs ys : List Instr) → is_some o ≡ is_some p → length xs ≡ length ys → length (cons_option o xs) ≡ length (cons_option p ys)
as_long None None xs ys h e = e
as_long None (Some y) xs ys h e = absurd (cc h)
as_long (Some x) None xs ys h e = absurd (cc h)
as_long (Some x) (Some y) xs ys h e = omega (arith, e)

-- the items hold as many instructions as are counted
pub as_many_instructions : (places : List ℕ → ℕ) (sources : List SourceLine) → length (filter_map instruction_in (filter_map (item_on places) (map line_of sources))) ≡ instruction_count (map line_of sources)
as_many_instructions places [] = refl
as_many_instructions places (l ∷ ls) = by_statement l.statement (as_many_instructions places ls)
  where
    by_statement : (o : Option SourceStatement) → length (filter_map instruction_in (filter_map (item_on places) (map line_of ls))) ≡ instruction_count (map line_of ls)
        → length (filter_map instruction_in (cons_option (option_map (item_of places) (option_map statement_of o)) (filter_map (item_on places) (map line_of ls))))
        ≡ length (filter_map instruction_in (cons_option (option_map item_anywhere (option_map statement_of o)) (items_anywhere (map line_of ls))))
    by_statement None e = e
    by_statement (Some s) e = as_long _ _ _ _ (makes_alike s.mnemonic _ _) e

-- there is room for the instruction of a line that comes next
pub room_for_next : (p whole : Listing) (o : Option Item) (more : List Item) → fold with_item p (cons_option o more) ≡ whole → length whole.instrs ≤ 65536
    → IfSome o (λ item. is_some (instruction_in item) ≡ true → length p.instrs < 65536)
room_for_next p whole None more e h = tt
room_for_next p whole (Some item) more e h = λ k. by_item (instruction_in item) k (ap (λ q. length q.instrs) (sym e) ∙ ap length (instructions_on p (item ∷ more)) ∙ length-append p.instrs (filter_map instruction_in (item ∷ more)))
  where
    by_item : (i : Option Instr) → is_some i ≡ true → length whole.instrs ≡ length p.instrs + length (cons_option i (filter_map instruction_in more)) → length p.instrs < 65536
    by_item None k q = absurd (cc k)
    by_item (Some x) k q = omega (arith, q, h)
