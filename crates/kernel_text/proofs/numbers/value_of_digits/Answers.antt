use Rattle.std.proofs.Common.{rules, arith, ap, sym, ◌∙◌}
use Rattle.kernel_text.specs.Lexemes.{below_two_to_64}
use Rattle.kernel_text.proofs.Digits.{past_the_range, no_more_digits, is_below}
use Rattle.kernel_text.proofs.numbers.value_of_digits.Goals as goal

-- the product alone is past the range
pub returns-in_err-checked_mul : goal.returns-in_err-checked_mul
returns-in_err-checked_mul c =
    c.from_residual.ensures
    ∙ sym (ap below_two_to_64 (sym c.loop-digit.invariant.so_far)
    ∙ past_the_range c.loop-digit.value c.args.digits.now c.loop-digit.digit-index (search (rules, c.loop-digit-test.true)) (omega (arith, c.in_err-checked_mul.ensures)))

-- the sum is past the range
pub returns-in_err-value : goal.returns-in_err-value
returns-in_err-value c =
    c.from_residual-in_err-value.ensures
    ∙ sym (ap below_two_to_64 (sym c.loop-digit.invariant.so_far)
    ∙ past_the_range c.loop-digit.value c.args.digits.now c.loop-digit.digit-index (search (rules, c.loop-digit-test.true)) (search (arith, c.in_err-value.ensures, c.in_ok-checked_mul.ensures, c.digit_value.ensures.value)))

-- no digit is left
pub returns : goal.returns
returns c = sym (ap below_two_to_64 (sym c.loop-digit.invariant.so_far ∙ no_more_digits c.loop-digit.value c.args.digits.now c.loop-digit.digit-index (search (rules, c.loop-digit-test.false))) ∙ is_below c.loop-digit.value c.loop-digit.invariant.below)
