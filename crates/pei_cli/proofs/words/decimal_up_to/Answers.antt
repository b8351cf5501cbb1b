use Rattle.std.proofs.Common.{rules, sym, ◌+◌, ◌∙◌}
use Rattle.pei_cli.proofs.Digits.{overflows_at}
use Rattle.pei_cli.proofs.words.decimal_up_to.Goals as goal

pub returns-in_err-checked_mul : goal.returns-in_err-checked_mul
returns-in_err-checked_mul c = (search rules) ∙ sym (overflows_at (c.args.most + 1) c.loop-rest.value c.args.word.now c.loop-rest.rest.now (search rules) (search rules) c.loop-rest.invariant (search rules))

pub returns-in_err-value : goal.returns-in_err-value
returns-in_err-value c = (search rules) ∙ sym (overflows_at (c.args.most + 1) c.loop-rest.value c.args.word.now c.loop-rest.rest.now (search rules) (search rules) c.loop-rest.invariant (search rules))
