use Rattle.std.proofs.Common.{◌≡◌, ◌*◌, ◌+◌, ◌<◌, ◌^◌, drop, fold}
use Rattle.std.specs.Char.{digit_value}
use Rattle.kernel_text.specs.Tokens.{value_of_digits}
use Rattle.kernel_text.proofs.numbers.value_of_digits.Given as goal

abbrev pub invariant-loop-digit : goal.invariant-loop-digit
invariant-loop-digit l =
    record { below : l.value < 2 ^ 64; so_far : fold (λ n d. n * 10 + digit_value d) l.value (drop l.digit-index l.digits) ≡ value_of_digits l.digits }
