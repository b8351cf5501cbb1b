use Rattle.std.proofs.Common.{refl, sym, ◌∙◌}
use Rattle.kernel_text.specs.declared.senses.Wanted.TheVariants as wanted
use Rattle.kernel_text.specs.Lexemes.{token_of}
use Rattle.kernel_text.specs.Built.{tokens_in}
use Rattle.kernel_text.proofs.Continuing.{reads_brace, sticks_at_brace, wanted_at_end}
use Rattle.kernel_text.proofs.cursor.closing_brace.Goals as goal
use Rattle.kernel_text.proofs.cursor.closing_brace.Goals.{in_default-via-in-Some+else-is_mark, in_default-via-in_default}

pub returns-in-Some-clause-reads : goal.returns-in-Some-clause-reads
returns-in-Some-clause-reads c = λ rest.
    reads_brace (tokens_in c.args.tokens.now) (token_of c.in-Some.t) (tokens_in c.in-Some.rest.now) rest c.in-Some.ensures.some (sym c.is_mark.ensures ∙ c.if-is_mark.true)

pub returns-in_default-clause-sticks : goal.returns-in_default-clause-sticks
returns-in_default-clause-sticks c = λ rest.
    elim c.in_default.branch [
      | in_default-via-in-Some+else-is_mark w ↦
          sticks_at_brace (tokens_in c.args.tokens.now) (token_of w.in-Some.t) (tokens_in w.in-Some.rest.now) rest w.in-Some.ensures.some (sym w.is_mark.ensures ∙ w.if-is_mark.false)
      | in_default-via-in_default w ↦ wanted_at_end wanted.ClosingBrace (tokens_in c.args.tokens.now) rest refl w.in_default.ensures.none
    ]
