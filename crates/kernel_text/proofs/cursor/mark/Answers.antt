use Rattle.std.proofs.Common.{◌∷◌, ◌∙◌, ap, sym}
use Rattle.kernel_text.specs.declared.senses.Wanted.TheVariants as wanted
use Rattle.kernel_text.specs.Lexemes.{token_of}
use Rattle.kernel_text.specs.Built.{tokens_in, continues}
use Rattle.kernel_text.proofs.Continuing.{reads_mark, sticks_at_mark, mark_at_end}
use Rattle.kernel_text.proofs.cursor.mark.Goals as goal
use Rattle.kernel_text.proofs.cursor.mark.Goals.{in_default-via-in-Some+else-is_mark, in_default-via-in_default}

pub returns-in-Some-clause-reads : goal.returns-in-Some-clause-reads
returns-in-Some-clause-reads c = λ rest.
    ap (λ ts. continues ts (wanted.Mark c.args.symbol ∷ rest)) c.in-Some.ensures.some
    ∙ reads_mark c.args.symbol (token_of c.in-Some.t) (tokens_in c.in-Some.rest.now) rest (sym c.is_mark.ensures ∙ c.if-is_mark.true)

pub returns-in_default-clause-sticks : goal.returns-in_default-clause-sticks
returns-in_default-clause-sticks c = λ rest.
    elim c.in_default.branch [
      | in_default-via-in-Some+else-is_mark w ↦
          ap (λ ts. continues ts (wanted.Mark c.args.symbol ∷ rest)) w.in-Some.ensures.some
          ∙ sticks_at_mark c.args.symbol (token_of w.in-Some.t) (tokens_in w.in-Some.rest.now) rest (sym w.is_mark.ensures ∙ w.if-is_mark.false)
      | in_default-via-in_default w ↦
          ap (λ ts. continues ts (wanted.Mark c.args.symbol ∷ rest)) w.in_default.ensures.none ∙ mark_at_end c.args.symbol rest
    ]
