use Rattle.std.proofs.Common.{◌∷◌, ◌++◌, [], refl, sym, ◌∙◌}
use Rattle.kernel_text.specs.declared.senses.Wanted.TheVariants as wanted
use Rattle.kernel_text.specs.Lexemes.{token_of}
use Rattle.kernel_text.specs.Readings.{index, comma, value, ending}
use Rattle.kernel_text.specs.Built.{tokens_in}
use Rattle.kernel_text.proofs.Continuing.{wanted_at_end}
use Rattle.kernel_text.proofs.Phrases.{pass_reads, pass_sticks, reads_probe, reads_hist, sticks_at_words}
use Rattle.kernel_text.proofs.actions.two_words.Goals as goal

pub returns-in_default-clause-sticks : goal.returns-in_default-clause-sticks
returns-in_default-clause-sticks c = λ misfit rest. wanted_at_end wanted.TwoWords (tokens_in c.args.tokens.now) rest refl c.in_default.ensures.none

pub returns-then-is_word-clause-reads : goal.returns-then-is_word-clause-reads
returns-then-is_word-clause-reads c =
    pass_reads c.probe.result (λ r. tokens_in r.1.now) (tokens_in c.args.tokens.now) (tokens_in c.in-Some.rest.now) (wanted.TwoWords ∷ []) (wanted.TableName ∷ index ++ comma ++ value ++ ending)
    (λ rest. reads_probe (tokens_in c.args.tokens.now) (token_of c.in-Some.t) (tokens_in c.in-Some.rest.now) rest c.in-Some.ensures.some (sym c.is_word.ensures ∙ c.if-is_word.true)) c.probe.ensures.reads

pub returns-then-is_word-clause-sticks : goal.returns-then-is_word-clause-sticks
returns-then-is_word-clause-sticks c =
    pass_sticks c.probe.result (tokens_in c.args.tokens.now) (tokens_in c.in-Some.rest.now) (wanted.TwoWords ∷ []) (wanted.TableName ∷ index ++ comma ++ value ++ ending)
    (λ rest. reads_probe (tokens_in c.args.tokens.now) (token_of c.in-Some.t) (tokens_in c.in-Some.rest.now) rest c.in-Some.ensures.some (sym c.is_word.ensures ∙ c.if-is_word.true)) c.probe.ensures.sticks

pub returns-then-is_word-2-clause-reads : goal.returns-then-is_word-2-clause-reads
returns-then-is_word-2-clause-reads c =
    pass_reads c.hist.result (λ r. tokens_in r.1.now) (tokens_in c.args.tokens.now) (tokens_in c.in-Some.rest.now) (wanted.TwoWords ∷ []) (wanted.TableName ∷ index ++ comma ++ wanted.Shift ∷ ending)
    (λ rest. reads_hist (tokens_in c.args.tokens.now) (token_of c.in-Some.t) (tokens_in c.in-Some.rest.now) rest c.in-Some.ensures.some (sym c.is_word-2.ensures ∙ c.if-is_word-2.true)) c.hist.ensures.reads

pub returns-then-is_word-2-clause-sticks : goal.returns-then-is_word-2-clause-sticks
returns-then-is_word-2-clause-sticks c =
    pass_sticks c.hist.result (tokens_in c.args.tokens.now) (tokens_in c.in-Some.rest.now) (wanted.TwoWords ∷ []) (wanted.TableName ∷ index ++ comma ++ wanted.Shift ∷ ending)
    (λ rest. reads_hist (tokens_in c.args.tokens.now) (token_of c.in-Some.t) (tokens_in c.in-Some.rest.now) rest c.in-Some.ensures.some (sym c.is_word-2.ensures ∙ c.if-is_word-2.true)) c.hist.ensures.sticks

pub returns-clause-sticks : goal.returns-clause-sticks
returns-clause-sticks c = λ misfit rest.
    sticks_at_words (tokens_in c.args.tokens.now) (token_of c.in-Some.t) (tokens_in c.in-Some.rest.now) rest c.in-Some.ensures.some (sym c.is_word.ensures ∙ c.if-is_word.false) (sym c.is_word-2.ensures ∙ c.if-is_word-2.false)
