-- What a line means: its label, and its directive or instruction with the operands.
use Rattle.std.specs.Prelude.{ℕ, Bool, true, false, ◌&&◌, if◌then◌else◌, List, [], ◌∷◌, map, drop, find, zip, Option, Some, None, option_map, option_and_then}
use Rattle.std.specs.List.{list_all}
use Rattle.std.specs.Str.{is_utf8}
use Rattle.asm_statements.specs.Tokens.{Token, name, comma, colon, Placed, tokens_of}
use Rattle.asm_statements.specs.Mnemonics.{Row, Item, is_label, fits, is_number_in_range, is_register_in_range, value_of, rows_named}

-- a row of the table, and the operands
pub record Statement : Type 0 where
  pub row : Row
  pub operands : List Placed

-- a label or none, and a statement or none
pub record Line : Type 0 where
  pub label : Option (List ℕ)
  pub statement : Option Statement

-- ---- the parts of a line

-- the label at the front: a name that can be one, with a colon behind it
abbrev pub label_in : List Token → Option (List ℕ)
label_in (name text ∷ colon ∷ rest) = if is_label text then Some text else None
label_in _ = None

abbrev pub tokens_alone : List Placed → List Token
tokens_alone placed = map (λ t. t.token) placed

abbrev pub label_of : List Placed → Option (List ℕ)
label_of placed = label_in (tokens_alone placed)

-- what stands behind the label
abbrev pub behind_label : Option (List ℕ) → List Placed → List Placed
behind_label None placed = placed
behind_label (Some label) placed = drop 2 placed

abbrev pub body_of : List Placed → List Placed
body_of placed = behind_label (label_of placed) placed

-- the operands, with a comma between each two
abbrev pub is_comma : Token → Bool
is_comma comma = true
is_comma _ = false

abbrev pub separated : List Placed → Option (List Placed)
separated [] = Some []
separated (t ∷ []) = Some (t ∷ [])
separated (t ∷ between ∷ []) = None
separated (t ∷ between ∷ u ∷ rest) =
    if is_comma between.token then option_map (λ operands. t ∷ operands) (separated (u ∷ rest)) else None

-- ---- statements

-- the operands fit the row
abbrev pub fits_row : List Placed → Row → Bool
fits_row operands r = fits r.goes_on r.shapes (tokens_alone operands)

-- the statement of a name with its operands: the first row of that name that they fit
abbrev pub statement_with : List Row → List Placed → Option Statement
statement_with rows operands = option_map (λ r. record { row = r; operands = operands }) (find (fits_row operands) rows)

abbrev pub statement_named : Token → List Placed → Option Statement
statement_named (name text) rest = option_and_then (statement_with (rows_named text)) (separated rest)
statement_named _ rest = None

abbrev pub statement_in : List Placed → Option Statement
statement_in [] = None
statement_in (t ∷ rest) = statement_named t.token rest

-- its numbers and registers are in their ranges
abbrev pub is_in_range : Statement → Bool
is_in_range s =
    list_all (λ t. is_number_in_range t.token) s.operands
    && list_all (λ pair. is_register_in_range pair.0 pair.1.token) (zip s.row.shapes s.operands)

-- what a statement adds to a program, where labels have these places
abbrev pub item_of : (List ℕ → ℕ) → Statement → Item
item_of place_of_label s = s.row.makes (map (value_of place_of_label) (tokens_alone s.operands))

-- the item of a statement, whatever the places of its label are
abbrev pub item_anywhere : Statement → Item
item_anywhere s = item_of (λ label. 0) s

-- ---- lines

abbrev pub line_with : Option (List ℕ) → Option Statement → Option Line
line_with label None = None
line_with label (Some s) = if is_in_range s then Some (record { label = label; statement = Some s }) else None

-- a label, and what stands behind it
abbrev pub line_from : Option (List ℕ) → List Placed → Option Line
line_from label [] = Some (record { label = label; statement = None })
line_from label (t ∷ rest) = line_with label (statement_in (t ∷ rest))

-- what tokens mean, if they mean anything
abbrev pub line_of : List Placed → Option Line
line_of placed = line_from (label_of placed) (body_of placed)

-- what the bytes of a line mean
abbrev pub meaning_of : List ℕ → Option Line
meaning_of line = if is_utf8 line then line_of (tokens_of line) else None
