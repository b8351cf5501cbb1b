-- The places of labels, as numbers.
use Rattle.std.specs.Prelude.{ℕ, List, Option, unwrap_or, option_map}
use Rattle.std.specs.Option.{option_map_or}
use Rattle.pei_types.specs.Program.{Listing}
use Rattle.asm_statements.specs.Mnemonics.{Item}
use Rattle.asm_statements.specs.Statements.{Line, item_of}
use Rattle.pei_asm.specs.Meaning.{place_among}
use Rattle.pei_asm.specs.Items.{with_item}

-- the place of a label, and 0 where it has none
abbrev pub place_or_start : List Line → List ℕ → ℕ
place_or_start lines label = unwrap_or (place_among lines label) 0

-- what a line adds, if it has a statement
abbrev pub item_on : (List ℕ → ℕ) → Line → Option Item
item_on places l = option_map (item_of places) l.statement

abbrev pub with_line : Listing → Option Item → Listing
with_line p o = option_map_or (with_item p) o p
