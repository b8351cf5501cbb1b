use Rattle.std.proofs.Common.{◌∷◌, ◌++◌, [], refl, sym, ap, ◌∙◌, append_assoc, arith}
use Rattle.std.proofs.lemmas.Result.{err_from_is_err_and}
use Rattle.kernel_text.specs.declared.senses.Wanted.TheVariants as wanted
use Rattle.kernel_text.specs.Grammar.{numbers, comma}
use Rattle.kernel_text.specs.Built.{tokens_in}
use Rattle.kernel_text.proofs.Phrases.{reads_comma, no_value}
use Rattle.kernel_text.proofs.Stacked.{numbers_push, still_numbers}
use Rattle.kernel_text.proofs.declarations.numbers.Goals as goal

pub returns-in_err-behind-clause-sticks : goal.returns-in_err-behind-clause-sticks
returns-in_err-behind-clause-sticks c =
    let p = err_from_is_err_and c.from_residual-in_err-behind.result c.from_residual-in_err-behind.ensures.1
    in rw (p.1, p.2)
    (λ misfit rest. c.loop-rest.invariant.reads rest ∙ reads_comma (tokens_in c.loop-rest.rest.now) rest (sym c.is_mark.ensures ∙ c.loop-rest-test.true) ∙ c.in_err-behind.ensures.sticks (wanted.Value ∷ wanted.MoreValues ∷ rest))

pub returns-in_err-next-clause-sticks : goal.returns-in_err-next-clause-sticks
returns-in_err-next-clause-sticks c =
    let p = err_from_is_err_and c.from_residual-in_err-next.result c.from_residual-in_err-next.ensures.1
    in rw (p.1, p.2)
    (λ misfit rest. c.loop-rest.invariant.reads rest ∙ reads_comma (tokens_in c.loop-rest.rest.now) rest (sym c.is_mark.ensures ∙ c.loop-rest-test.true) ∙ c.in_ok-behind.ensures.reads (wanted.Value ∷ wanted.MoreValues ∷ rest) ∙ c.in_err-next.ensures.sticks misfit wanted.Value refl (wanted.MoreValues ∷ rest))

pub loop-rest-preserved : goal.loop-rest-preserved
loop-rest-preserved c =
    let more = c.in_ok-push-2.ensures.items
    in let old = c.loop-rest.items.items
    in record {
      spelled = rw more
          (c.loop-rest.invariant.spelled
          ∙ ap (λ ts. numbers old ++ ts) (c.in_ok-behind.ensures.spelled ∙ ap (λ ts. comma ++ ts) c.in_ok-next.ensures.spelled)
          ∙ sym (append_assoc (numbers old) (comma ++ numbers (c.in_ok-next.next ∷ [])) (tokens_in c.in_ok-next.after.now))
          ∙ ap (λ ts. ts ++ tokens_in c.in_ok-next.after.now) (sym (numbers_push old c.in_ok-next.next c.loop-rest.invariant.grammar)));
      grammar = rw more (still_numbers old c.in_ok-next.next);
      reads = λ rest. c.loop-rest.invariant.reads rest ∙ reads_comma (tokens_in c.loop-rest.rest.now) rest (sym c.is_mark.ensures ∙ c.loop-rest-test.true)
          ∙ c.in_ok-behind.ensures.reads (wanted.Value ∷ wanted.MoreValues ∷ rest) ∙ c.in_ok-next.ensures.reads wanted.Value refl (wanted.MoreValues ∷ rest);
      shorter = omega (arith, c.loop-rest.invariant.shorter, c.in_ok-behind.ensures.shorter, c.in_ok-next.ensures.shorter);
    }

pub returns-clause-reads : goal.returns-clause-reads
returns-clause-reads c = λ rest. c.loop-rest.invariant.reads rest ∙ no_value (tokens_in c.loop-rest.rest.now) rest (sym c.is_mark.ensures ∙ c.loop-rest-test.false)
