-- The five operations of PEIs on one block, in whole numbers.
use Rattle.std.specs.Prelude.{⊤, ℕ, ◌<◌, ◌≤◌, zero, suc, ◌+◌, ◌*◌, ◌/◌, ◌%◌, ◌^◌, min, Bool, true, false, if◌then◌else◌, List, [], ◌∷◌, ℤ, pos, ◌+ℤ◌, ◌*ℤ◌, ◌==◌, slice_index, slice_set, Option, Some, None}
use Rattle.std.specs.Int.{cast_signed, cast_unsigned, w16, w32, w64}
use Rattle.pei_types.specs.declared.identifiers.Block.{Block}
use Rattle.pei_types.specs.declared.operations.Op.{Op}
use Rattle.pei_types.specs.declared.operations.Op.TheVariants as op
use Rattle.pei_types.specs.declared.operations.Mode.{Mode}
use Rattle.pei_types.specs.declared.operations.Mode.TheVariants as mode
use Rattle.pei_types.specs.declared.operations.Operands.{Operands}
use Rattle.pei_types.specs.declared.operations.Reply.{Reply}

-- whether an operation changes its block
abbrev pub is_writer : Op → Bool
is_writer (op.Inc word) = true
is_writer (op.Min word) = true
is_writer op.Probe = false
is_writer op.Hist = false
is_writer op.Dot = false

abbrev pub mode_of : Op → Mode
mode_of o = if is_writer o then mode.Writer else mode.Reader

-- An operation that can be applied: its word is one of the eight, and a histogram shifts within its lanes.
abbrev pub CanApply : Op → Operands → Type 0
CanApply (op.Inc word) operands = word < 8
CanApply (op.Min word) operands = word < 8
CanApply op.Hist operands = slice_index operands.0 0 ≤ 24
CanApply op.Probe operands = ⊤
CanApply op.Dot operands = ⊤

-- Half i of a list of 64-bit words: the halves of a word are its low 32 bits and its high 32 bits.
abbrev pub half_word : List ℕ → ℕ → ℕ
half_word words i = slice_index words (i / 2) / 2 ^ (32 * (i % 2)) % 2 ^ 32

-- Quarter i of a list of 64-bit words, the lowest 16 bits of each word first.
abbrev pub quarter_word : List ℕ → ℕ → ℕ
quarter_word words i = slice_index words (i / 4) / 2 ^ (16 * (i % 4)) % 2 ^ 16

-- the sum of f over the n numbers from a on
abbrev pub sum_from : (ℕ → ℤ) → ℕ → ℕ → ℤ
sum_from f a zero = pos 0
sum_from f a (suc n) = f a +ℤ sum_from f (a + 1) n

abbrev pub no_reply : Reply
no_reply = record { words = 0 ∷ 0 ∷ []; len = 0 }

-- a reply of two words, and of one
abbrev pub two_words : ℕ → ℕ → Reply
two_words x y = record { words = x ∷ y ∷ []; len = 2 }

abbrev pub one_word : ℕ → Reply
one_word x = record { words = x ∷ 0 ∷ []; len = 1 }

-- The value of the first pair with this key, among n pairs of a key and a value.
abbrev pub value_of_key : ℕ → ℕ → List ℕ → Option ℕ
value_of_key key zero words = None
value_of_key key (suc n) [] = None
value_of_key key (suc n) (x ∷ []) = None
value_of_key key (suc n) (x ∷ value ∷ words) = if x == key then Some value else value_of_key key n words

abbrev pub found : Option ℕ → ℕ → Reply
found None next = two_words 0 next
found (Some value) next = two_words 1 value

-- Words 0 to 5 of the block are three pairs, word 6 their count, and word 7 a next address.
unfoldable pub probe : ℕ → List ℕ → Reply
probe key words = found (value_of_key key (min 3 (slice_index words 6)) words) (slice_index words 7)

-- eight bytes as a word, the lowest first: bin k of the word is that of half i + k, shifted down
abbrev pub bins : ℕ → List ℕ → ℕ → ℕ → ℕ
bins shift words i zero = 0
bins shift words i (suc n) = half_word words i / 2 ^ shift % 256 + 256 * bins shift words (i + 1) n

unfoldable pub hist : ℕ → List ℕ → Reply
hist shift words = two_words (bins shift words 0 8) (bins shift words 8 8)

-- the product of two signed numbers: half i of the block and quarter i of the operands
abbrev pub product_at : List ℕ → List ℕ → ℕ → ℤ
product_at words operands i = cast_signed w32 (half_word words i) *ℤ cast_signed w16 (quarter_word operands i)

unfoldable pub dot : List ℕ → List ℕ → Reply
dot words operands = one_word (cast_unsigned w64 (sum_from (product_at words operands) 0 16))

-- the content of the block after the operation
abbrev pub block_after : Op → Operands → Block → Block
block_after (op.Inc word) operands block = record { 0 = slice_set block.0 word ((slice_index block.0 word + 1) % 2 ^ 64) }
block_after (op.Min word) operands block = record { 0 = slice_set block.0 word (min (slice_index block.0 word) (slice_index operands.0 0)) }
block_after op.Probe operands block = block
block_after op.Hist operands block = block
block_after op.Dot operands block = block

-- the reply of the operation on a block with this content
abbrev pub reply_of : Op → Operands → Block → Reply
reply_of (op.Inc word) operands block = no_reply
reply_of (op.Min word) operands block = no_reply
reply_of op.Probe operands block = probe (slice_index operands.0 0) block.0
reply_of op.Hist operands block = hist (slice_index operands.0 0) block.0
reply_of op.Dot operands block = dot block.0 operands.0
