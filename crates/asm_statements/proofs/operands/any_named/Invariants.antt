use Rattle.std.proofs.Common.{◌≡◌, drop, map, length, nat_lt, filter}
use Rattle.std.specs.Str.{bytes_eq}
use Rattle.asm_statements.specs.Mnemonics.{row_of}
use Rattle.asm_statements.proofs.operands.any_named.Given as goal

abbrev pub invariant-loop-row : goal.invariant-loop-row
invariant-loop-row l =
    nat_lt 0 (length (filter (λ r. bytes_eq r.mnemonic l.name) (map row_of (drop l.row-index l.rows))))
    ≡ nat_lt 0 (length (filter (λ r. bytes_eq r.mnemonic l.name) (map row_of l.rows)))
