-- The instructions of a kernel. A variable has a register, and registers from 8 on are for values in between. Register 15 is
-- never written: it has the core's number, which is 0.
use Rattle.std.specs.Prelude.{ℕ, ◌+◌, ◌-◌, ◌*◌, ◌/◌, ◌%◌, Bool, true, false, not, ◌&&◌, ◌||◌, if◌then◌else◌, List, [], ◌∷◌, ◌++◌, length}
use Rattle.pei_types.specs.declared.instructions.Instr.{Instr}
use Rattle.pei_types.specs.declared.instructions.Instr.TheVariants as instr
use Rattle.kernel_text.specs.declared.tree.Operator.{Operator}
use Rattle.kernel_text.specs.declared.tree.Operator.TheVariants as op
use Rattle.kernel_text.specs.Trees.{Expression, Action, Statements, num, named, item, group, binary, assign, store, print, increment, minimum, probe, hist, dot, done, act, repeat}
use Rattle.kernel_lang.specs.declared.homes.Home.{Home}
use Rattle.kernel_lang.specs.Homes.{Frame, home_of, register_of}

-- ---- registers

-- the first for a value in between; an index uses it, and the value behind an index the next
abbrev pub index_register : ℕ
index_register = 8

abbrev pub value_register : ℕ
value_register = 9

-- the first of two for a reply
abbrev pub reply_register : ℕ
reply_register = 13

abbrev pub zero_register : ℕ
zero_register = 15

-- ---- fences: an access to an array waits for writers where one may be on its way

abbrev pub fence_where : Bool → List Instr
fence_where b = if b then instr.Pfence ∷ [] else []

-- whether an expression reads an array
abbrev pub reads_array : Frame → Expression → Bool
reads_array f (num value) = false
reads_array f (named name) = false
reads_array f (item name index) = (home_of f name).array || reads_array f index
reads_array f (group inner) = reads_array f inner
reads_array f (binary o left right) = reads_array f left || reads_array f right

-- whether a writer may be on its way behind an expression, where one may before it
abbrev pub still : Frame → Bool → Expression → Bool
still f waiting e = waiting && not (reads_array f e)

-- ---- expressions

-- the register that has the value of an expression behind its code: a variable's own, or else this one
abbrev pub place_of : Frame → ℕ → Expression → ℕ
place_of f t (named name) = register_of f name
place_of f t _ = t

-- a variable needs no code
abbrev pub unless_named : Expression → List Instr → List Instr
unless_named (named name) code = []
unless_named _ code = code

-- nor does a number as index
abbrev pub unless_number : Expression → List Instr → List Instr
unless_number (num value) code = []
unless_number _ code = code

-- an index among `count` things of 2^shift bytes, a power of two: in register t the bytes before the one that it picks
abbrev pub offset : ℕ → ℕ → ℕ → ℕ → List Instr
offset t from count shift = instr.Andi t from (count - 1) ∷ instr.Shl t t shift ∷ []

-- An address is a register's value and a number.
abbrev pub base_register : ℕ → Expression → ℕ
base_register t (num value) = zero_register
base_register t _ = t

abbrev pub base_number : ℕ → ℕ → ℕ → Expression → ℕ
base_number base count bytes (num value) = base + bytes * (value % count)
base_number base count bytes _ = base

abbrev pub operation : Operator → ℕ → ℕ → ℕ → Instr
operation op.Add = instr.Add
operation op.Sub = instr.Sub
operation op.Mul = instr.Mul
operation op.And = instr.And
operation op.Or = instr.Or
operation op.Xor = instr.Xor

-- an expression into a register, with values in between from register t on
abbrev pub into : Frame → Bool → ℕ → ℕ → Expression → List Instr
into f waiting rd t (num value) = instr.Li rd value ∷ []
into f waiting rd t (named name) = instr.Addi rd (register_of f name) 0 ∷ []
into f waiting rd t (item name index) =
    unless_number index (unless_named index (into f waiting t t index) ++ offset t (place_of f t index) (home_of f name).size 3)
    ++ fence_where (still f waiting index && (home_of f name).array)
    ++ instr.Ld rd (base_register t index) (base_number (home_of f name).base (home_of f name).size 8 index) ∷ []
into f waiting rd t (group inner) = into f waiting rd t inner
into f waiting rd t (binary o left right) =
    unless_named left (into f waiting t t left) ++ unless_named right (into f (still f waiting left) (t + 1) (t + 1) right)
    ++ operation o rd (place_of f t left) (place_of f (t + 1) right) ∷ []

-- an expression, to where its value is read
abbrev pub operand : Frame → Bool → ℕ → Expression → List Instr
operand f waiting t e = unless_named e (into f waiting t t e)

-- an index, to where the address is read
abbrev pub indexed : Frame → Bool → ℕ → ℕ → ℕ → Expression → List Instr
indexed f waiting t count shift index = unless_number index (operand f waiting t index ++ offset t (place_of f t index) count shift)

-- ---- the address of a word, and of a block, of a name

abbrev pub word_code : Frame → Bool → List ℕ → Expression → List Instr
word_code f waiting name index = indexed f waiting index_register (home_of f name).size 3 index

abbrev pub word_number : Frame → List ℕ → Expression → ℕ
word_number f name index = base_number (home_of f name).base (home_of f name).size 8 index

abbrev pub block_code : Frame → Bool → List ℕ → Expression → List Instr
block_code f waiting name index = indexed f waiting index_register ((home_of f name).size / 8) 6 index

abbrev pub block_number : Frame → List ℕ → Expression → ℕ
block_number f name index = base_number (home_of f name).base ((home_of f name).size / 8) 64 index

-- ---- statements that are no loops

abbrev pub copied : Frame → List ℕ → ℕ → Instr
copied f name from = instr.Addi (register_of f name) from 0

abbrev pub action_code : Frame → Bool → Action → List Instr
action_code f waiting (assign name e) = into f waiting (register_of f name) index_register e
action_code f waiting (store name index e) =
    word_code f waiting name index ++ operand f (still f waiting index) value_register e ++ fence_where (still f (still f waiting index) e)
    ++ instr.St (place_of f value_register e) (base_register index_register index) (word_number f name index) ∷ []
action_code f waiting (print e) = operand f waiting index_register e ++ instr.Out (place_of f index_register e) ∷ []
action_code f waiting (increment name index) =
    word_code f waiting name index ++ instr.Pinc (base_register index_register index) (word_number f name index) ∷ []
action_code f waiting (minimum name index e) =
    word_code f waiting name index ++ operand f (still f waiting index) value_register e
    ++ instr.Pmin (base_register index_register index) (word_number f name index) (place_of f value_register e) ∷ []
action_code f waiting (probe first second name index key) =
    block_code f waiting name index ++ operand f (still f waiting index) value_register key
    ++ instr.Pprobe reply_register (base_register index_register index) (block_number f name index) (place_of f value_register key)
    ∷ copied f first reply_register ∷ copied f second (reply_register + 1) ∷ []
action_code f waiting (hist first second name index shift) =
    block_code f waiting name index
    ++ instr.Li value_register shift
    ∷ instr.Phist reply_register (base_register index_register index) (block_number f name index) value_register
    ∷ copied f first reply_register ∷ copied f second (reply_register + 1) ∷ []
action_code f waiting (dot first name index a b c d) =
    block_code f waiting name index
    ++ instr.Addi value_register (register_of f a) 0 ∷ instr.Addi (value_register + 1) (register_of f b) 0
    ∷ instr.Addi (value_register + 2) (register_of f c) 0 ∷ instr.Addi (value_register + 3) (register_of f d) 0
    ∷ instr.Pdot index_register (base_register index_register index) (block_number f name index) value_register
    ∷ copied f first index_register ∷ []

-- whether a writer may be on its way behind a statement
abbrev pub waiting_after : Frame → Bool → Action → Bool
waiting_after f waiting (assign name e) = still f waiting e
waiting_after f waiting (store name index e) = false
waiting_after f waiting (print e) = still f waiting e
waiting_after f waiting (increment name index) = true
waiting_after f waiting (minimum name index e) = true
waiting_after f waiting (probe first second name index key) = still f (still f waiting index) key
waiting_after f waiting (hist first second name index shift) = still f waiting index
waiting_after f waiting (dot first name index a b c d) = still f waiting index

-- ---- statements

abbrev pub is_writer : Action → Bool
is_writer (increment name index) = true
is_writer (minimum name index e) = true
is_writer _ = false

-- whether writers are among statements: then one may be on its way in each turn of a loop over them
abbrev pub has_writers : Statements → Bool
has_writers done = false
has_writers (act first rest) = is_writer first || has_writers rest
has_writers (repeat name turns body rest) = has_writers body || has_writers rest

abbrev pub waiting_behind : Frame → Bool → Statements → Bool
waiting_behind f waiting done = waiting
waiting_behind f waiting (act first rest) = waiting_behind f (waiting_after f waiting first) rest
waiting_behind f waiting (repeat name turns body rest) = waiting_behind f (waiting_behind f (waiting || has_writers body) body) rest

-- a loop whose first instruction has this place: the variable counts from 0, and is compared behind the body
abbrev pub loop_code : ℕ → ℕ → ℕ → List Instr → List Instr
loop_code counter turns at body =
    instr.Li counter 0 ∷ body ++ instr.Addi counter counter 1 ∷ instr.Li index_register turns ∷ instr.Bne counter index_register (at + 1) ∷ []

-- statements whose first instruction has this place
abbrev pub code : Frame → Bool → ℕ → Statements → List Instr
code f waiting at done = []
code f waiting at (act first rest) = action_code f waiting first ++ code f (waiting_after f waiting first) (at + length (action_code f waiting first)) rest
code f waiting at (repeat name turns body rest) =
    loop_code (register_of f name) turns at (code f (waiting || has_writers body) (at + 1) body)
    ++ code f (waiting_behind f (waiting || has_writers body) body) (at + (length (code f (waiting || has_writers body) (at + 1) body) + 4)) rest
