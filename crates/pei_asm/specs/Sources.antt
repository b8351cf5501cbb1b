-- What the code's lines stand for.
use Rattle.std.specs.Prelude.{◌≡◌, ℕ, true, List, Option, option_map, IfSome}
use Rattle.std.specs.Map.{lookup}
use Rattle.std.specs.Str.{bytes_eq}
use Rattle.asm_statements.specs.declared.operands.SourceStatement.{SourceStatement}
use Rattle.pei_asm.specs.declared.lines.SourceLine.{SourceLine}
use Rattle.asm_statements.specs.Mnemonics.{row_of}
use Rattle.asm_statements.specs.Statements.{Line, fits_row, is_in_range}
use Rattle.asm_statements.specs.Sources.{statement_of}

abbrev pub line_of : SourceLine → Line
line_of l = record { label = option_map (λ text. text.now) l.label; statement = option_map statement_of l.statement }

-- the place of a label in a list of labels with places
abbrev pub place_in : List (List ℕ × ℕ) → List ℕ → Option ℕ
place_in labels label = lookup (bytes_eq label) labels

-- the operands of a statement fit its row, and are in their ranges
pub record IsWellFormed (s : SourceStatement) : Type 0 where
  pub fits : fits_row (statement_of s).operands (row_of s.mnemonic) ≡ true
  pub in_range : is_in_range (statement_of s) ≡ true

abbrev pub HasWellFormed : SourceLine → Type 0
HasWellFormed l = IfSome l.statement IsWellFormed
