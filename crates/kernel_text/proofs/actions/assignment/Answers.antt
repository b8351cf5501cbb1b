use Rattle.std.proofs.Common.{◌∷◌, [], refl, sym, ◌∙◌}
use Rattle.std.specs.Str.{byte}
use Rattle.kernel_text.specs.declared.senses.Wanted.TheVariants as wanted
use Rattle.kernel_text.specs.Lexemes.{token_of}
use Rattle.kernel_text.specs.Built.{tokens_in}
use Rattle.kernel_text.proofs.Continuing.{wanted_at_end}
use Rattle.kernel_text.proofs.Phrases.{pass_reads, pass_sticks, reads_one, reads_two, sticks_at_variable}
use Rattle.kernel_text.proofs.actions.assignment.Goals as goal

pub returns-in_default-clause-sticks : goal.returns-in_default-clause-sticks
returns-in_default-clause-sticks c = λ misfit rest. wanted_at_end wanted.BehindVariable (tokens_in c.args.tokens.now) rest refl c.in_default.ensures.none

pub returns-then-is_mark-clause-reads : goal.returns-then-is_mark-clause-reads
returns-then-is_mark-clause-reads c =
    pass_reads c.one_word.result (λ r. tokens_in r.1.now) (tokens_in c.args.tokens.now) (tokens_in c.in-Some.rest.now) (wanted.BehindVariable ∷ []) (wanted.OneWord ∷ [])
    (λ rest. reads_one (tokens_in c.args.tokens.now) (token_of c.in-Some.t) (tokens_in c.in-Some.rest.now) rest c.in-Some.ensures.some (sym c.is_mark.ensures ∙ c.if-is_mark.true)) c.one_word.ensures.reads

pub returns-then-is_mark-clause-sticks : goal.returns-then-is_mark-clause-sticks
returns-then-is_mark-clause-sticks c =
    pass_sticks c.one_word.result (tokens_in c.args.tokens.now) (tokens_in c.in-Some.rest.now) (wanted.BehindVariable ∷ []) (wanted.OneWord ∷ [])
    (λ rest. reads_one (tokens_in c.args.tokens.now) (token_of c.in-Some.t) (tokens_in c.in-Some.rest.now) rest c.in-Some.ensures.some (sym c.is_mark.ensures ∙ c.if-is_mark.true)) c.one_word.ensures.sticks

pub returns-then-is_mark-2-clause-reads : goal.returns-then-is_mark-2-clause-reads
returns-then-is_mark-2-clause-reads c =
    pass_reads c.two_variables.result (λ r. tokens_in r.1.now) (tokens_in c.args.tokens.now) (tokens_in c.in-Some.rest.now) (wanted.BehindVariable ∷ [])
    (wanted.SecondVariable ∷ wanted.Mark (byte "=") ∷ wanted.TwoWords ∷ [])
    (λ rest. reads_two (tokens_in c.args.tokens.now) (token_of c.in-Some.t) (tokens_in c.in-Some.rest.now) rest c.in-Some.ensures.some (sym c.is_mark-2.ensures ∙ c.if-is_mark-2.true)) c.two_variables.ensures.reads

pub returns-then-is_mark-2-clause-sticks : goal.returns-then-is_mark-2-clause-sticks
returns-then-is_mark-2-clause-sticks c =
    pass_sticks c.two_variables.result (tokens_in c.args.tokens.now) (tokens_in c.in-Some.rest.now) (wanted.BehindVariable ∷ [])
    (wanted.SecondVariable ∷ wanted.Mark (byte "=") ∷ wanted.TwoWords ∷ [])
    (λ rest. reads_two (tokens_in c.args.tokens.now) (token_of c.in-Some.t) (tokens_in c.in-Some.rest.now) rest c.in-Some.ensures.some (sym c.is_mark-2.ensures ∙ c.if-is_mark-2.true)) c.two_variables.ensures.sticks

pub returns-clause-sticks : goal.returns-clause-sticks
returns-clause-sticks c = λ misfit rest.
    sticks_at_variable (tokens_in c.args.tokens.now) (token_of c.in-Some.t) (tokens_in c.in-Some.rest.now) rest c.in-Some.ensures.some (sym c.is_mark.ensures ∙ c.if-is_mark.false) (sym c.is_mark-2.ensures ∙ c.if-is_mark-2.false)
