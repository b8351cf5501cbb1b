use Rattle.std.proofs.Common.{sym, ◌∙◌}
use Rattle.kernel_text.specs.Lexemes.{token_of}
use Rattle.kernel_text.specs.Built.{tokens_in}
use Rattle.kernel_text.proofs.Continuing.{reads_count, sticks_at_count, number_is_no_option, wanted_at_end}
use Rattle.kernel_text.proofs.parts.number.Goals as goal

pub returns-in_default-clause-sticks : goal.returns-in_default-clause-sticks
returns-in_default-clause-sticks c = λ misfit w wants rest. wanted_at_end w (tokens_in c.args.tokens.now) rest (number_is_no_option w wants) c.in_default.ensures.none

pub returns-then-not-is_number-clause-sticks : goal.returns-then-not-is_number-clause-sticks
returns-then-not-is_number-clause-sticks c = λ misfit w wants rest.
    sticks_at_count w (tokens_in c.args.tokens.now) (token_of c.in-Some.t) (tokens_in c.in-Some.rest.now) rest wants c.in-Some.ensures.some (sym c.is_number.ensures ∙ c.if-not-is_number.true)

pub returns-clause-reads : goal.returns-clause-reads
returns-clause-reads c = λ w wants rest.
    reads_count w (tokens_in c.args.tokens.now) (token_of c.in-Some.t) (tokens_in c.in-Some.rest.now) rest wants c.in-Some.ensures.some (sym c.is_number.ensures ∙ c.if-not-is_number.false)
