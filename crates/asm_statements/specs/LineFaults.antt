-- The faults of a line by itself: of each kind the column of the first place where it stands.
use Rattle.std.specs.Prelude.{ℕ, ◌+◌, Bool, true, false, not, nat_lt, if◌then◌else◌, List, [], ◌∷◌, length, find, zip, Option, Some, None, is_none, option_map, option_and_then}
use Rattle.std.specs.Str.Lossy.{utf8_valid_len}
use Rattle.asm_statements.specs.Tokens.{Token, name, stray, Placed}
use Rattle.asm_statements.specs.Mnemonics.{is_number_in_range, is_register_in_range, rows_named}
use Rattle.asm_statements.specs.Statements.{Statement, statement_in}

-- the column of the first token that passes a test
abbrev pub column_where : (Token → Bool) → List Placed → Option ℕ
column_where test placed = option_map (λ t. t.column) (find (λ t. test t.token) placed)

-- the column of the first token
abbrev pub first_column : List Placed → Option ℕ
first_column placed = column_where (λ t. true) placed

abbrev pub column_if : Bool → Option ℕ → Option ℕ
column_if wrong column = if wrong then column else None

-- ---- its characters and names

abbrev pub not_utf8 : List ℕ → Option ℕ
not_utf8 line = column_if (nat_lt (utf8_valid_len line) (length line)) (Some (utf8_valid_len line + 1))

abbrev pub is_stray : Token → Bool
is_stray stray = true
is_stray _ = false

abbrev pub bad_char : List Placed → Option ℕ
bad_char placed = column_where is_stray placed

-- the name is in the table
abbrev pub is_known : Token → Bool
is_known (name text) = nat_lt 0 (length (rows_named text))
is_known _ = false

abbrev pub unknown_name : List Placed → Option ℕ
unknown_name [] = None
unknown_name (t ∷ rest) = column_if (not (is_known t.token)) (Some t.column)

abbrev pub wrong_operands : List Placed → Option ℕ
wrong_operands body = column_if (is_none (statement_in body)) (first_column body)

-- ---- its statement, where its operands fit

abbrev pub number_too_large : List Placed → Option ℕ
number_too_large body = option_and_then (λ s. column_where (λ t. not (is_number_in_range t)) s.operands) (statement_in body)

-- the first operand that is a register out of range
abbrev pub register_out_of_range : Statement → Option ℕ
register_out_of_range s =
    option_map (λ pair. pair.1.column) (find (λ pair. not (is_register_in_range pair.0 pair.1.token)) (zip s.row.shapes s.operands))

abbrev pub register_range : List Placed → Option ℕ
register_range body = option_and_then register_out_of_range (statement_in body)
