use Rattle.std.proofs.Common.{◌≡◌, ◌∷◌, ◌++◌, [], false, ap, sym, ◌∙◌}
use Rattle.std.specs.Prelude.{codes}
use Rattle.kernel_text.specs.declared.senses.Wanted.TheVariants as wanted
use Rattle.kernel_text.specs.Lexemes.{token_of}
use Rattle.kernel_text.specs.Readings.{index, comma, operands, value, ending}
use Rattle.kernel_text.specs.Built.{tokens_in, begins_with_word}
use Rattle.kernel_text.proofs.Continuing.{reads_one_word}
use Rattle.kernel_text.proofs.Phrases.{pass_reads, pass_sticks, reads_dot}
use Rattle.kernel_text.proofs.actions.one_word.Goals as goal
use Rattle.kernel_text.proofs.actions.one_word.Goals.{in_default-via-in-Some+else-is_word, in_default-via-in_default}

pub returns-in-Some-clause-reads : goal.returns-in-Some-clause-reads
returns-in-Some-clause-reads c =
    pass_reads c.dot.result (λ r. tokens_in r.1.now) (tokens_in c.args.tokens.now) (tokens_in c.in-Some.behind.now) (wanted.OneWord ∷ []) (wanted.TableName ∷ index ++ comma ++ operands ++ ending)
    (λ rest. reads_dot (tokens_in c.args.tokens.now) (token_of c.in-Some.t) (tokens_in c.in-Some.behind.now) rest c.in-Some.ensures.some (sym c.is_word.ensures ∙ c.if-is_word.true)) c.dot.ensures.reads

pub returns-in-Some-clause-sticks : goal.returns-in-Some-clause-sticks
returns-in-Some-clause-sticks c =
    pass_sticks c.dot.result (tokens_in c.args.tokens.now) (tokens_in c.in-Some.behind.now) (wanted.OneWord ∷ []) (wanted.TableName ∷ index ++ comma ++ operands ++ ending)
    (λ rest. reads_dot (tokens_in c.args.tokens.now) (token_of c.in-Some.t) (tokens_in c.in-Some.behind.now) rest c.in-Some.ensures.some (sym c.is_word.ensures ∙ c.if-is_word.true)) c.dot.ensures.sticks

pub returns-in_default-clause-reads : goal.returns-in_default-clause-reads
returns-in_default-clause-reads c =
    let plain : begins_with_word (codes "dot") (tokens_in c.args.tokens.now) ≡ false = elim c.in_default.branch [
      | in_default-via-in-Some+else-is_word w ↦ ap (begins_with_word (codes "dot")) w.in-Some.ensures.some ∙ sym w.is_word.ensures ∙ w.if-is_word.false
      | in_default-via-in_default w ↦ ap (begins_with_word (codes "dot")) w.in_default.ensures.none
    ]
    in pass_reads c.assign.result (λ r. tokens_in r.1.now) (tokens_in c.args.tokens.now) (tokens_in c.args.tokens.now) (wanted.OneWord ∷ []) (value ++ ending)
    (λ rest. reads_one_word (tokens_in c.args.tokens.now) rest plain) c.assign.ensures.reads

pub returns-in_default-clause-sticks : goal.returns-in_default-clause-sticks
returns-in_default-clause-sticks c =
    let plain : begins_with_word (codes "dot") (tokens_in c.args.tokens.now) ≡ false = elim c.in_default.branch [
      | in_default-via-in-Some+else-is_word w ↦ ap (begins_with_word (codes "dot")) w.in-Some.ensures.some ∙ sym w.is_word.ensures ∙ w.if-is_word.false
      | in_default-via-in_default w ↦ ap (begins_with_word (codes "dot")) w.in_default.ensures.none
    ]
    in pass_sticks c.assign.result (tokens_in c.args.tokens.now) (tokens_in c.args.tokens.now) (wanted.OneWord ∷ []) (value ++ ending)
    (λ rest. reads_one_word (tokens_in c.args.tokens.now) rest plain) c.assign.ensures.sticks
