-- What the code's statements stand for.
use Rattle.std.specs.Prelude.{map}
use Rattle.asm_statements.specs.declared.operands.SourceStatement.{SourceStatement}
use Rattle.asm_statements.specs.Lexemes.{placed_of}
use Rattle.asm_statements.specs.Mnemonics.{row_of}
use Rattle.asm_statements.specs.Statements.{Statement}

abbrev pub statement_of : SourceStatement → Statement
statement_of s = record { row = row_of s.mnemonic; operands = map placed_of s.operands.items }
