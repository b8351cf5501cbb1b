use Rattle.std.proofs.Common.{◌≡◌, ◌*◌, ◌+◌, ◌<◌, ◌^◌, drop, fold}
use Rattle.std.specs.Char.{digit_value}
use Rattle.asm_statements.specs.Tokens.{value_of_digits}
use Rattle.asm_statements.proofs.numbers.value_of_digits.Given as goal

abbrev pub invariant-loop-digit : goal.invariant-loop-digit
invariant-loop-digit l =
    record { below : l.value < 2 ^ 64; so_far : fold (λ n d. n * l.base + digit_value d) l.value (drop l.digit-index l.digits) ≡ value_of_digits l.base l.digits }
