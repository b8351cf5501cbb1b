use Rattle.kernel_text.specs.Lexemes.{token_of}
use Rattle.kernel_text.specs.Built.{tokens_in}
use Rattle.kernel_text.proofs.Continuing.{no_more_terms, no_terms_at_end}
use Rattle.kernel_text.proofs.cursor.operator.Goals as goal

pub returns-in_err-t-clause-none : goal.returns-in_err-t-clause-none
returns-in_err-t-clause-none c = rw c.from_residual.ensures (λ room rest. no_terms_at_end room (tokens_in c.args.tokens.now) rest c.in_err-t.ensures.none)

pub returns-in_err-operator-clause-none : goal.returns-in_err-operator-clause-none
returns-in_err-operator-clause-none c =
    rw c.from_residual-in_err-operator.ensures
    (λ room rest. no_more_terms room (tokens_in c.args.tokens.now) (token_of c.in_ok-t.t) (tokens_in c.in_ok-t.rest.now) rest c.in_ok-t.ensures.some c.in_err-operator.ensures.none)
