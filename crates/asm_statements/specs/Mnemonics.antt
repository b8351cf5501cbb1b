-- The table of mnemonics and directives: what operands each takes, and what it adds to a program.
use Rattle.std.specs.Prelude.{ℕ, ◌-◌, ◌%◌, ◌^◌, Bool, true, false, not, ◌&&◌, ◌==◌, nat_lt, nat_le, List, [], ◌∷◌, drop, filter, position, slice_index, Option, Some, None, is_some, unwrap_or, codes}
use Rattle.std.specs.List.{list_all}
use Rattle.std.specs.Str.{byte, bytes_eq}
use Rattle.pei_types.specs.declared.instructions.Ask.{Ask}
use Rattle.pei_types.specs.declared.instructions.Ask.TheVariants as ask
use Rattle.pei_types.specs.declared.instructions.Instr.{Instr}
use Rattle.pei_types.specs.declared.instructions.Instr.TheVariants as instr
use Rattle.asm_statements.specs.declared.mnemonics.Mnemonic.{Mnemonic}
use Rattle.asm_statements.specs.declared.mnemonics.Mnemonic.TheVariants as known
use Rattle.asm_statements.specs.Tokens.{Token, name, number, star}

-- ---- registers and labels

unfoldable pub register_names : List (List ℕ)
register_names =
    codes "r0" ∷ codes "r1" ∷ codes "r2" ∷ codes "r3" ∷ codes "r4" ∷ codes "r5" ∷ codes "r6" ∷ codes "r7"
    ∷ codes "r8" ∷ codes "r9" ∷ codes "r10" ∷ codes "r11" ∷ codes "r12" ∷ codes "r13" ∷ codes "r14" ∷ codes "r15" ∷ []

-- the number of the register that a name is
abbrev pub register_of : List ℕ → Option ℕ
register_of text = position (bytes_eq text) register_names

abbrev pub is_register : List ℕ → Bool
is_register text = is_some (register_of text)

-- a label is a name that does not begin with a dot and is no register
abbrev pub is_label : List ℕ → Bool
is_label text = not (slice_index text 0 == byte ".") && not (is_register text)

-- ---- operands

-- What an operand is to be: a register, which is to be below a number; a number; an address or a count; one core;
-- all cores; a label.
pub data Shape : Type 0 where
  register_below : ℕ → Shape
  any_number : Shape
  amount : Shape
  one_core : Shape
  all_cores : Shape
  place : Shape

-- a number below 0
abbrev pub is_below_zero : Bool → ℕ → Bool
is_below_zero negative magnitude = negative && nat_lt 0 magnitude

-- the token is of the kind that the shape asks for
abbrev pub suits : Shape → Token → Bool
suits (register_below most) (name text) = is_register text
suits any_number (number negative magnitude) = true
suits amount (number negative magnitude) = not (is_below_zero negative magnitude)
suits one_core (number negative magnitude) = not (is_below_zero negative magnitude) && nat_lt magnitude 8
suits all_cores star = true
suits place (name text) = is_label text
suits _ _ = false

-- behind the last operand: nothing more, or, where it goes on, operands that suit the last shape
abbrev pub fits_more : Bool → Shape → List Token → Bool
fits_more goes_on s [] = true
fits_more goes_on s (t ∷ ts) = goes_on && list_all (suits s) (t ∷ ts)

-- the operands suit the shapes one by one; where it goes on, all further ones suit the last shape
abbrev pub fits : Bool → List Shape → List Token → Bool
fits goes_on [] [] = true
fits goes_on [] (t ∷ ts) = false
fits goes_on (s ∷ shapes) [] = false
fits goes_on (s ∷ []) (t ∷ ts) = suits s t && fits_more goes_on s ts
fits goes_on (s ∷ s' ∷ shapes) (t ∷ ts) = suits s t && fits goes_on (s' ∷ shapes) ts

-- a number is in range from -2^63 to 2^64 - 1
abbrev pub is_number_in_range : Token → Bool
is_number_in_range (number true magnitude) = nat_le magnitude (2 ^ 63)
is_number_in_range (number false magnitude) = nat_lt magnitude (2 ^ 64)
is_number_in_range _ = true

-- a register is below the number that its shape has
abbrev pub is_register_in_range : Shape → Token → Bool
is_register_in_range (register_below most) (name text) = nat_lt (unwrap_or (register_of text) 0) most
is_register_in_range _ _ = true

-- the value of an operand: of a register its number, of a label its place, of a number itself modulo 2^64
abbrev pub value_of : (List ℕ → ℕ) → Token → ℕ
value_of place_of_label (name text) = unwrap_or (register_of text) (place_of_label text)
value_of place_of_label (number true magnitude) = (2 ^ 64 - magnitude) % 2 ^ 64
value_of place_of_label (number false magnitude) = magnitude
value_of place_of_label _ = 0

-- ---- the table

-- What a line adds to a program: an instruction, the entry of a core or of all others, words from an address on,
-- something that the report shows, or its statistics.
pub data Item : Type 0 where
  instruction : Instr → Item
  entry : (core : Option ℕ) → (pc : ℕ) → Item
  words : (addr : ℕ) → List ℕ → Item
  shown : Ask → Item
  statistics : Item

abbrev pub instruction_in : Item → Option Instr
instruction_in (instruction i) = Some i
instruction_in _ = None

-- the core whose entry it is, or none for all others
abbrev pub core_in : Item → Option (Option ℕ)
core_in (entry core pc) = Some core
core_in _ = None

-- A row: the name, the shapes of its operands, whether the last may come again, and what the values make.
pub record Row : Type 0 where
  pub mnemonic : List ℕ
  pub shapes : List Shape
  pub goes_on : Bool
  pub makes : List ℕ → Item

abbrev pub row : List ℕ → List Shape → (List ℕ → Item) → Row
row mnemonic shapes makes = record { mnemonic = mnemonic; shapes = shapes; goes_on = false; makes = makes }

abbrev pub row_that_goes_on : List ℕ → List Shape → (List ℕ → Item) → Row
row_that_goes_on mnemonic shapes makes = record { mnemonic = mnemonic; shapes = shapes; goes_on = true; makes = makes }

-- an instruction of so many operands
abbrev pub of_none : Instr → List ℕ → Item
of_none i v = instruction i

abbrev pub of_one : (ℕ → Instr) → List ℕ → Item
of_one i v = instruction (i (slice_index v 0))

abbrev pub of_two : (ℕ → ℕ → Instr) → List ℕ → Item
of_two i v = instruction (i (slice_index v 0) (slice_index v 1))

abbrev pub of_three : (ℕ → ℕ → ℕ → Instr) → List ℕ → Item
of_three i v = instruction (i (slice_index v 0) (slice_index v 1) (slice_index v 2))

abbrev pub of_four : (ℕ → ℕ → ℕ → ℕ → Instr) → List ℕ → Item
of_four i v = instruction (i (slice_index v 0) (slice_index v 1) (slice_index v 2) (slice_index v 3))

-- any register, one with a register behind it, and one with three behind it
abbrev pub register : Shape
register = register_below 16

abbrev pub register_of_pair : Shape
register_of_pair = register_below 15

abbrev pub register_of_four : Shape
register_of_four = register_below 13

-- each mnemonic and directive with its operands; `.entry` has two rows
abbrev pub row_of : Mnemonic → Row
row_of known.Li = row (codes "li") (register ∷ any_number ∷ []) (of_two instr.Li)
row_of known.Add = row (codes "add") (register ∷ register ∷ register ∷ []) (of_three instr.Add)
row_of known.Sub = row (codes "sub") (register ∷ register ∷ register ∷ []) (of_three instr.Sub)
row_of known.Mul = row (codes "mul") (register ∷ register ∷ register ∷ []) (of_three instr.Mul)
row_of known.And = row (codes "and") (register ∷ register ∷ register ∷ []) (of_three instr.And)
row_of known.Or = row (codes "or") (register ∷ register ∷ register ∷ []) (of_three instr.Or)
row_of known.Xor = row (codes "xor") (register ∷ register ∷ register ∷ []) (of_three instr.Xor)
row_of known.Addi = row (codes "addi") (register ∷ register ∷ any_number ∷ []) (of_three instr.Addi)
row_of known.Andi = row (codes "andi") (register ∷ register ∷ any_number ∷ []) (of_three instr.Andi)
row_of known.Shl = row (codes "shl") (register ∷ register ∷ any_number ∷ []) (of_three instr.Shl)
row_of known.Shr = row (codes "shr") (register ∷ register ∷ any_number ∷ []) (of_three instr.Shr)
row_of known.Ld = row (codes "ld") (register ∷ register ∷ any_number ∷ []) (of_three instr.Ld)
row_of known.St = row (codes "st") (register ∷ register ∷ any_number ∷ []) (of_three instr.St)
row_of known.Beq = row (codes "beq") (register ∷ register ∷ place ∷ []) (of_three instr.Beq)
row_of known.Bne = row (codes "bne") (register ∷ register ∷ place ∷ []) (of_three instr.Bne)
row_of known.Bltu = row (codes "bltu") (register ∷ register ∷ place ∷ []) (of_three instr.Bltu)
row_of known.Bgeu = row (codes "bgeu") (register ∷ register ∷ place ∷ []) (of_three instr.Bgeu)
row_of known.Jmp = row (codes "jmp") (place ∷ []) (of_one instr.Jmp)
row_of known.Pinc = row (codes "pinc") (register ∷ any_number ∷ []) (of_two instr.Pinc)
row_of known.Pmin = row (codes "pmin") (register ∷ any_number ∷ register ∷ []) (of_three instr.Pmin)
row_of known.Pprobe = row (codes "pprobe") (register_of_pair ∷ register ∷ any_number ∷ register ∷ []) (of_four instr.Pprobe)
row_of known.Phist = row (codes "phist") (register_of_pair ∷ register ∷ any_number ∷ register ∷ []) (of_four instr.Phist)
row_of known.Pdot = row (codes "pdot") (register ∷ register ∷ any_number ∷ register_of_four ∷ []) (of_four instr.Pdot)
row_of known.Pfence = row (codes "pfence") [] (of_none instr.Pfence)
row_of known.Out = row (codes "out") (register ∷ []) (of_one instr.Out)
row_of known.Halt = row (codes "halt") [] (of_none instr.Halt)
row_of known.EntryOfCore = row (codes ".entry") (one_core ∷ place ∷ []) (λ v. entry (Some (slice_index v 0)) (slice_index v 1))
row_of known.EntryOfAll = row (codes ".entry") (all_cores ∷ place ∷ []) (λ v. entry None (slice_index v 1))
row_of known.Data = row_that_goes_on (codes ".data") (amount ∷ any_number ∷ []) (λ v. words (slice_index v 0) (drop 1 v))
row_of known.Show = row (codes ".show") (amount ∷ amount ∷ []) (λ v. shown (ask.Show (slice_index v 0) (slice_index v 1)))
row_of known.Sum = row (codes ".sum") (amount ∷ amount ∷ []) (λ v. shown (ask.Sum (slice_index v 0) (slice_index v 1)))
row_of known.Stats = row (codes ".stats") [] (λ v. statistics)

-- the table
unfoldable pub table : List Row
table =
    row_of known.Li
    ∷ row_of known.Add
    ∷ row_of known.Sub
    ∷ row_of known.Mul
    ∷ row_of known.And
    ∷ row_of known.Or
    ∷ row_of known.Xor
    ∷ row_of known.Addi
    ∷ row_of known.Andi
    ∷ row_of known.Shl
    ∷ row_of known.Shr
    ∷ row_of known.Ld
    ∷ row_of known.St
    ∷ row_of known.Beq
    ∷ row_of known.Bne
    ∷ row_of known.Bltu
    ∷ row_of known.Bgeu
    ∷ row_of known.Jmp
    ∷ row_of known.Pinc
    ∷ row_of known.Pmin
    ∷ row_of known.Pprobe
    ∷ row_of known.Phist
    ∷ row_of known.Pdot
    ∷ row_of known.Pfence
    ∷ row_of known.Out
    ∷ row_of known.Halt
    ∷ row_of known.EntryOfCore
    ∷ row_of known.EntryOfAll
    ∷ row_of known.Data
    ∷ row_of known.Show
    ∷ row_of known.Sum
    ∷ row_of known.Stats
    ∷ []

-- the rows of a name
abbrev pub rows_named : List ℕ → List Row
rows_named text = filter (λ r. bytes_eq r.mnemonic text) table
