use Rattle.std.proofs.Common.{◌≡◌, ◌+◌, length, nat_lt, false, Some, sym, ap, arith}
use Rattle.std.proofs.lemmas.Str.{utf8_valid_len-IsUtf8}
use Rattle.std.proofs.lemmas.Bool.{le-ltb}
use Rattle.std.specs.Str.Lossy.{utf8_valid_len}
use Rattle.asm_statements.specs.LineFaults.{column_if}
use Rattle.asm_statements.proofs.trials.not_utf8.Goals as goal

-- all bytes belong to characters
pub returns-in-Ok : goal.returns-in-Ok
returns-in-Ok c =
    let line = c.args.line.now
    in let whole = utf8_valid_len-IsUtf8 line c.in-Ok.ensures.cases.1
    in let none : nat_lt (utf8_valid_len line) (length line) ≡ false = le-ltb (utf8_valid_len line) (length line) (omega (arith, whole))
    in sym (ap (λ b. column_if b (Some (utf8_valid_len line + 1))) none)
