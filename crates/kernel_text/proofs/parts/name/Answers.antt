use Rattle.std.proofs.Common.{sym, ◌∙◌}
use Rattle.kernel_text.specs.Lexemes.{token_of}
use Rattle.kernel_text.specs.Built.{tokens_in}
use Rattle.kernel_text.proofs.Continuing.{reads_name, sticks_at_name, name_is_no_option, wanted_at_end}
use Rattle.kernel_text.proofs.parts.name.Goals as goal

pub returns-in_default-clause-sticks : goal.returns-in_default-clause-sticks
returns-in_default-clause-sticks c = λ misfit w wants rest. wanted_at_end w (tokens_in c.args.tokens.now) rest (name_is_no_option w wants) c.in_default.ensures.none

pub returns-then-not-is_name-clause-sticks : goal.returns-then-not-is_name-clause-sticks
returns-then-not-is_name-clause-sticks c = λ misfit w wants rest.
    sticks_at_name w (tokens_in c.args.tokens.now) (token_of c.in-Some.t) (tokens_in c.in-Some.rest.now) rest wants c.in-Some.ensures.some (sym c.is_name.ensures ∙ c.if-not-is_name.true)

pub returns-clause-reads : goal.returns-clause-reads
returns-clause-reads c = λ w wants rest.
    reads_name w (tokens_in c.args.tokens.now) (token_of c.in-Some.t) (tokens_in c.in-Some.rest.now) rest wants c.in-Some.ensures.some (sym c.is_name.ensures ∙ c.if-not-is_name.false)
