-- A program, item by item.
use Rattle.std.specs.Prelude.{ℕ, ◌+◌, ◌<◌, ◌≤◌, ⊤, true, if◌then◌else◌, List, [], ◌∷◌, ◌++◌, length, Option, Some, None, is_some, slice_index, slice_index_or, slice_set}
use Rattle.pei_types.specs.Program.{Listing}
use Rattle.asm_statements.specs.Mnemonics.{Shape, register_below, one_core, place, Item, instruction, entry, words, shown, statistics}

-- the entries of single cores, with one more where the core has none
abbrev pub with_own_entry : List (Option ℕ) → ℕ → ℕ → List (Option ℕ)
with_own_entry entries core pc = if is_some (slice_index_or entries core None) then entries else slice_set entries core (Some pc)

abbrev pub with_common_entry : Option ℕ → ℕ → Option ℕ
with_common_entry given pc = if is_some given then given else Some pc

-- the program with one item more
abbrev pub with_item : Listing → Item → Listing
with_item p (instruction i) = record p { instrs = p.instrs ++ i ∷ [] }
with_item p (entry (Some core) pc) = record p { own_entries = with_own_entry p.own_entries core pc }
with_item p (entry None pc) = record p { common_entry = with_common_entry p.common_entry pc }
with_item p (words addr values) = record p { lines = p.lines ++ (addr, values) ∷ [] }
with_item p (shown ask) = record p { asks = p.asks ++ ask ∷ [] }
with_item p statistics = record p { statistics = true }

-- a value that an operand of a shape can have
abbrev pub IsValueOf : Shape → ℕ → Type 0
IsValueOf (register_below most) n = (n < most) × (n < 16)
IsValueOf one_core n = n < 8
IsValueOf place n = n ≤ 65536
IsValueOf _ n = ⊤

-- the values from a place on are of these shapes
abbrev pub HasValuesFrom : ℕ → List Shape → List ℕ → Type 0
HasValuesFrom i [] values = ⊤
HasValuesFrom i (s ∷ shapes) values = (i < length values) × IsValueOf s (slice_index values i) × HasValuesFrom (i + 1) shapes values

abbrev pub HasValues : List Shape → List ℕ → Type 0
HasValues shapes values = HasValuesFrom 0 shapes values
