-- The first fault of a text.
use Rattle.std.specs.Prelude.{ℕ, ◌+◌, Bool, false, not, ◌&&◌, nat_lt, List, [], ◌∷◌, ◌++◌, find, Option, Some, None, is_some, option_map, option_and_then}
use Rattle.std.specs.List.{list_any}
use Rattle.std.specs.Option.{option_or, option_to_list}
use Rattle.std.specs.Str.{bytes_eq}
use Rattle.pei_asm.specs.declared.faults.AsmFault.{AsmFault}
use Rattle.pei_asm.specs.declared.faults.AsmKind.{AsmKind}
use Rattle.pei_asm.specs.declared.faults.AsmKind.TheVariants as kind
use Rattle.asm_statements.specs.Tokens.{Placed, tokens_of}
use Rattle.pei_asm.specs.Meaning.{lines_of, instruction_count, same_core, labels_defined, cores_given, labels_used, is_defined, lines_read}
use Rattle.asm_statements.specs.Mnemonics.{core_in, instruction_in}
use Rattle.asm_statements.specs.Statements.{Statement, Line, label_of, body_of, statement_in, meaning_of, item_anywhere}
use Rattle.asm_statements.specs.LineFaults.{column_if, first_column, not_utf8, bad_char, unknown_name, wrong_operands, number_too_large, register_range}

-- ---- the kinds of faults in a line that its earlier ones decide: the column of the first place where each stands

abbrev pub is_defined_before : List Line → Option (List ℕ) → Bool
is_defined_before earlier None = false
is_defined_before earlier (Some label) = list_any (bytes_eq label) (labels_defined earlier)

abbrev pub double_label : List Line → List Placed → Option ℕ
double_label earlier placed = column_if (is_defined_before earlier (label_of placed)) (first_column placed)

-- the statement is an instruction, and there are as many as there may be
abbrev pub is_one_too_many : List Line → Statement → Bool
is_one_too_many earlier s = is_some (instruction_in (item_anywhere s)) && not (nat_lt (instruction_count earlier) 65536)

abbrev pub too_many_instructions : List Line → List Placed → Option ℕ
too_many_instructions earlier body = option_and_then (λ s. column_if (is_one_too_many earlier s) (first_column body)) (statement_in body)

-- an earlier line gives this core an entry
abbrev pub has_entry : List Line → Option (Option ℕ) → Bool
has_entry earlier None = false
has_entry earlier (Some core) = list_any (same_core core) (cores_given earlier)

abbrev pub double_entry : List Line → List Placed → Option ℕ
double_entry earlier body = option_and_then (λ s. column_if (has_entry earlier (core_in (item_anywhere s))) (first_column body)) (statement_in body)

-- ---- the first fault

-- a kind, and the column of its first place in a line, if it has one
abbrev pub Trial : Type 0
Trial = AsmKind × Option ℕ

-- the kinds in the order in which a line is tried for them
abbrev pub trials : List Line → List ℕ → List Placed → List Placed → List Trial
trials earlier line placed body =
    (kind.NotUtf8, not_utf8 line)
    ∷ (kind.BadChar, bad_char placed)
    ∷ (kind.DoubleLabel, double_label earlier placed)
    ∷ (kind.UnknownName, unknown_name body)
    ∷ (kind.WrongOperands, wrong_operands body)
    ∷ (kind.NumberTooLarge, number_too_large body)
    ∷ (kind.RegisterRange, register_range body)
    ∷ (kind.TooManyInstructions, too_many_instructions earlier body)
    ∷ (kind.DoubleEntry, double_entry earlier body)
    ∷ []

-- the fault of the first kind that has a place
abbrev pub fault_of_trials : ℕ → List Trial → Option AsmFault
fault_of_trials n [] = None
fault_of_trials n ((k, None) ∷ more) = fault_of_trials n more
fault_of_trials n ((k, Some column) ∷ more) = Some (record { line = n; column = column; kind = k })

-- the fault of a line, by its number and what the earlier lines mean
unfoldable pub line_fault : List Line → ℕ → List ℕ → Option AsmFault
line_fault earlier n line = fault_of_trials n (trials earlier line (tokens_of line) (body_of (tokens_of line)))

-- the fault of the first line that has one
abbrev pub first_line_fault : List Line → ℕ → List (List ℕ) → Option AsmFault
first_line_fault earlier n [] = None
first_line_fault earlier n (line ∷ lines) =
    option_or (line_fault earlier n line) (first_line_fault (earlier ++ option_to_list (meaning_of line)) (n + 1) lines)

-- the first use of a label that no line defines, in lines of which the first has this number
abbrev pub unknown_label : List Line → ℕ → List Line → Option AsmFault
unknown_label all n [] = None
unknown_label all n (l ∷ lines) =
    option_or
    (option_map (λ t. record { line = n; column = t.column; kind = kind.UnknownLabel }) (find (λ t. not (is_defined all t)) (labels_used l)))
    (unknown_label all (n + 1) lines)

-- The first fault of a text: that of its first line with one, and else the first use of a label that it does not define.
abbrev pub first_fault : List ℕ → Option AsmFault
first_fault text = option_or (first_line_fault [] 1 (lines_of text)) (unknown_label (lines_read text) 1 (lines_read text))
