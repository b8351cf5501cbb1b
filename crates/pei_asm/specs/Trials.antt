-- The trials of a line in two parts: those of its characters and names, and those of its statement.
use Rattle.std.specs.Prelude.{ℕ, List, [], ◌∷◌, Option, not}
use Rattle.pei_asm.specs.declared.faults.AsmKind.TheVariants as kind
use Rattle.asm_statements.specs.Tokens.{Placed}
use Rattle.asm_statements.specs.Mnemonics.{is_number_in_range, core_in}
use Rattle.asm_statements.specs.Statements.{Line, Statement, item_anywhere}
use Rattle.pei_asm.specs.Faults.{Trial, double_label, has_entry, is_one_too_many}
use Rattle.asm_statements.specs.LineFaults.{bad_char, column_if, column_where, not_utf8, register_out_of_range, unknown_name}

abbrev pub trials_of_front : List Line → List ℕ → List Placed → List Placed → List Trial
trials_of_front earlier line placed body =
    (kind.NotUtf8, not_utf8 line) ∷ (kind.BadChar, bad_char placed) ∷ (kind.DoubleLabel, double_label earlier placed) ∷ (kind.UnknownName, unknown_name body) ∷ []

-- the trials of a statement whose name is in this column
abbrev pub trials_of_statement : List Line → Option ℕ → Statement → List Trial
trials_of_statement earlier column s =
    (kind.NumberTooLarge, column_where (λ t. not (is_number_in_range t)) s.operands)
    ∷ (kind.RegisterRange, register_out_of_range s)
    ∷ (kind.TooManyInstructions, column_if (is_one_too_many earlier s) column)
    ∷ (kind.DoubleEntry, column_if (has_entry earlier (core_in (item_anywhere s))) column)
    ∷ []
