use Rattle.std.proofs.Common.{◌≡◌, drop, map, filter, find}
use Rattle.std.specs.Str.{bytes_eq}
use Rattle.asm_statements.specs.Lexemes.{placed_of}
use Rattle.asm_statements.specs.Mnemonics.{row_of}
use Rattle.asm_statements.specs.Statements.{fits_row}
use Rattle.asm_statements.proofs.operands.first_fitting.Given as goal

abbrev pub invariant-loop-row : goal.invariant-loop-row
invariant-loop-row l =
    find (fits_row (map placed_of l.operands)) (filter (λ r. bytes_eq r.mnemonic l.name) (map row_of (drop l.row-index l.rows)))
    ≡ find (fits_row (map placed_of l.operands)) (filter (λ r. bytes_eq r.mnemonic l.name) (map row_of l.rows))
