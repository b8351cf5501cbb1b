-- What the store of lines keeps true of itself.
use Rattle.std.specs.Prelude.{◌≡◌, ℕ, ◌≤◌, ◌<◌, List, [], ◌∷◌, ◌++◌, map, Option, Some, None, option_map, slice_get, All}
use Rattle.std.specs.Option.{option_and_then}
use Rattle.pei_types.specs.declared.instructions.Instr.{Instr}
use Rattle.pei_asm.specs.declared.lines.Lines.{Lines}
use Rattle.pei_asm.specs.Meaning.{lines_of, instruction_count, place_among}
use Rattle.asm_statements.specs.Statements.{Line, item_anywhere}
use Rattle.asm_statements.specs.Mnemonics.{core_in, instruction_in}
use Rattle.pei_asm.specs.Faults.{has_entry}
use Rattle.pei_asm.specs.Sources.{HasWellFormed, line_of, place_in}

-- the instruction on a line, and the core to which the line gives an entry, or none for all others
abbrev pub instruction_on : Line → Option Instr
instruction_on l = option_and_then instruction_in (option_map item_anywhere l.statement)

abbrev pub entry_on : Line → Option (Option ℕ)
entry_on l = option_and_then core_in (option_map item_anywhere l.statement)

abbrev pub stored : Lines → List Line
stored i = map line_of i.lines.items

pub record IsStored (i : Lines) : Type 0 where
  pub labels : (label : List ℕ) → place_in i.labels label ≡ place_among (stored i) label
  pub count : i.instructions ≡ instruction_count (stored i)
  pub most : i.instructions ≤ 65536
  pub own_entries : (core : ℕ) → core < 8 → slice_get i.own_entries core ≡ Some (has_entry (stored i) (Some (Some core)))
  pub common_entry : i.common_entry ≡ has_entry (stored i) (Some None)
  pub well_formed : All HasWellFormed i.lines.items

-- the labels, with one more where a line defines one
abbrev pub with_label : List (List ℕ × ℕ) → Option (List ℕ) → ℕ → List (List ℕ × ℕ)
with_label labels None place = labels
with_label labels (Some label) place = labels ++ (label, place) ∷ []

-- the lines of what is left of a text
abbrev pub lines_left : Option (List ℕ) → List (List ℕ)
lines_left None = []
lines_left (Some text) = lines_of text
