use Rattle.std.proofs.Common.{◌∷◌, ◌++◌, ◌-◌, refl, sym, ap, ◌∙◌, append_assoc, arith}
use Rattle.std.proofs.lemmas.Result.{err_from_is_err_and}
use Rattle.std.specs.Str.{byte}
use Rattle.kernel_text.specs.declared.senses.Wanted.TheVariants as wanted
use Rattle.kernel_text.specs.Grammar.{expression, operator}
use Rattle.kernel_text.specs.Lexemes.{token_of}
use Rattle.kernel_text.specs.Readings.{opens_bracket}
use Rattle.kernel_text.specs.Views.{expression_of}
use Rattle.kernel_text.specs.Built.{tokens_in}
use Rattle.kernel_text.proofs.Continuing.{reads_number, reads_variable, reads_item, reads_group, sticks_at_term, term_at_end, reads_more}
use Rattle.kernel_text.proofs.expressions.+expression.Goals as goal

-- ---- an expression

pub expression-returns-in_err-right-clause-sticks : goal.expression-returns-in_err-right-clause-sticks
expression-returns-in_err-right-clause-sticks t c =
    let p = err_from_is_err_and c.from_residual-in_err-right.result c.from_residual-in_err-right.ensures.1
    in rw (p.1, p.2)
    (λ misfit room rest. c.loop-op.invariant.reads room rest
    ∙ reads_more room (tokens_in c.loop-op.rest.now) c.in-Some.op (tokens_in c.in-Some.after.now) rest c.in-Some.ensures.spelled
    ∙ c.in_err-right.ensures.sticks misfit (room - 1) (wanted.MoreTerms room ∷ rest))

pub expression-loop-op-preserved : goal.expression-loop-op-preserved
expression-loop-op-preserved t c =
    let left = c.in_ok-new.ensures.ok
    in let right = c.in_ok-new-2.ensures.ok
    in record {
      spelled = rw (left, right)
          (c.loop-op.invariant.spelled
          ∙ ap (λ ts. expression (expression_of c.loop-op.left) ++ ts) (c.in-Some.ensures.spelled ∙ ap (λ ts. operator c.in-Some.op ∷ ts) c.in_ok-right.ensures.spelled)
          ∙ sym (append_assoc (expression (expression_of c.loop-op.left)) (operator c.in-Some.op ∷ expression (expression_of c.in_ok-right.right)) (tokens_in c.in_ok-right.after.now)));
      grammar =
          (let whole = c.loop-op.invariant.grammar in let last = c.in_ok-right.ensures.term in let single = c.in_ok-right.ensures.grammar in rw (left, right) (rw (whole, last, single) refl));
      reads = λ room rest. c.loop-op.invariant.reads room rest
          ∙ reads_more room (tokens_in c.loop-op.rest.now) c.in-Some.op (tokens_in c.in-Some.after.now) rest c.in-Some.ensures.spelled
          ∙ c.in_ok-right.ensures.reads (room - 1) (wanted.MoreTerms room ∷ rest);
      shorter = omega (arith, c.in_ok-right.ensures.shorter, c.in-Some.ensures.shorter, c.loop-op.invariant.shorter);
    }

pub expression-returns-clause-reads : goal.expression-returns-clause-reads
expression-returns-clause-reads t c = λ room rest. c.loop-op.invariant.reads room rest ∙ c.in_default.ensures.none room rest

-- ---- a term

pub term-returns-in_default-clause-sticks : goal.term-returns-in_default-clause-sticks
term-returns-in_default-clause-sticks t c = λ misfit room rest. term_at_end room (tokens_in c.args.tokens.now) rest c.in_default.ensures.none

pub term-returns-then-is_number-clause-reads : goal.term-returns-then-is_number-clause-reads
term-returns-then-is_number-clause-reads t c = λ room rest.
    reads_number room (tokens_in c.args.tokens.now) (token_of c.in-Some.t) (tokens_in c.in-Some.rest.now) rest c.in-Some.ensures.some (sym c.is_number.ensures ∙ c.if-is_number.true)

pub term-returns-then-not-opens_bracket-clause-reads : goal.term-returns-then-not-opens_bracket-clause-reads
term-returns-then-not-opens_bracket-clause-reads t c = λ room rest.
    reads_variable room (tokens_in c.args.tokens.now) (token_of c.in-Some.t) (tokens_in c.in-Some.rest.now) rest c.in-Some.ensures.some (sym c.is_name.ensures ∙ c.if-is_name.true)
    (ap opens_bracket (sym c.peek.ensures) ∙ sym c.opens_bracket.ensures ∙ c.if-not-opens_bracket.true)

pub term-returns-in_err-rest-clause-sticks : goal.term-returns-in_err-rest-clause-sticks
term-returns-in_err-rest-clause-sticks t c =
    let p = err_from_is_err_and c.from_residual-in_err-rest.result c.from_residual-in_err-rest.ensures.1
    in rw (p.1, p.2)
    (λ misfit room rest. reads_item room (tokens_in c.args.tokens.now) (token_of c.in-Some.t) (tokens_in c.in-Some.rest.now) rest c.in-Some.ensures.some (sym c.is_name.ensures ∙ c.if-is_name.true)
    (ap opens_bracket (sym c.peek.ensures) ∙ sym c.opens_bracket.ensures ∙ c.if-not-opens_bracket.false)
    ∙ c.in_err-rest.ensures.sticks (wanted.Term room ∷ wanted.MoreTerms room ∷ wanted.Mark (byte "]") ∷ rest))

pub term-returns-in_err-index-clause-sticks : goal.term-returns-in_err-index-clause-sticks
term-returns-in_err-index-clause-sticks t c =
    let p = err_from_is_err_and c.from_residual-in_err-index.result c.from_residual-in_err-index.ensures.1
    in rw (p.1, p.2)
    (λ misfit room rest. reads_item room (tokens_in c.args.tokens.now) (token_of c.in-Some.t) (tokens_in c.in-Some.rest.now) rest c.in-Some.ensures.some (sym c.is_name.ensures ∙ c.if-is_name.true)
    (ap opens_bracket (sym c.peek.ensures) ∙ sym c.opens_bracket.ensures ∙ c.if-not-opens_bracket.false)
    ∙ c.in_ok-rest.ensures.reads (wanted.Term room ∷ wanted.MoreTerms room ∷ wanted.Mark (byte "]") ∷ rest)
    ∙ c.in_err-index.ensures.sticks misfit room (wanted.Mark (byte "]") ∷ rest))

pub term-returns-in_err-rest-2-clause-sticks : goal.term-returns-in_err-rest-2-clause-sticks
term-returns-in_err-rest-2-clause-sticks t c =
    let p = err_from_is_err_and c.from_residual-in_err-rest-2.result c.from_residual-in_err-rest-2.ensures.1
    in rw (p.1, p.2)
    (λ misfit room rest. reads_item room (tokens_in c.args.tokens.now) (token_of c.in-Some.t) (tokens_in c.in-Some.rest.now) rest c.in-Some.ensures.some (sym c.is_name.ensures ∙ c.if-is_name.true)
    (ap opens_bracket (sym c.peek.ensures) ∙ sym c.opens_bracket.ensures ∙ c.if-not-opens_bracket.false)
    ∙ c.in_ok-rest.ensures.reads (wanted.Term room ∷ wanted.MoreTerms room ∷ wanted.Mark (byte "]") ∷ rest)
    ∙ c.in_ok-index.ensures.reads room (wanted.Mark (byte "]") ∷ rest)
    ∙ c.in_err-rest-2.ensures.sticks rest)

pub term-returns-then-is_name-clause-reads : goal.term-returns-then-is_name-clause-reads
term-returns-then-is_name-clause-reads t c = λ room rest.
    reads_item room (tokens_in c.args.tokens.now) (token_of c.in-Some.t) (tokens_in c.in-Some.rest.now) rest c.in-Some.ensures.some (sym c.is_name.ensures ∙ c.if-is_name.true)
    (ap opens_bracket (sym c.peek.ensures) ∙ sym c.opens_bracket.ensures ∙ c.if-not-opens_bracket.false)
    ∙ c.in_ok-rest.ensures.reads (wanted.Term room ∷ wanted.MoreTerms room ∷ wanted.Mark (byte "]") ∷ rest)
    ∙ c.in_ok-index.ensures.reads room (wanted.Mark (byte "]") ∷ rest)
    ∙ c.in_ok-rest-2.ensures.reads rest

pub term-returns-then-not-is_mark-clause-sticks : goal.term-returns-then-not-is_mark-clause-sticks
term-returns-then-not-is_mark-clause-sticks t c = λ misfit room rest.
    sticks_at_term room (tokens_in c.args.tokens.now) (token_of c.in-Some.t) (tokens_in c.in-Some.rest.now) rest c.in-Some.ensures.some (sym c.is_number.ensures ∙ c.if-is_number.false) (sym c.is_name.ensures ∙ c.if-is_name.false)
    (sym c.is_mark.ensures ∙ c.if-not-is_mark.true)

pub term-returns-in_err-inner-clause-sticks : goal.term-returns-in_err-inner-clause-sticks
term-returns-in_err-inner-clause-sticks t c =
    let p = err_from_is_err_and c.from_residual-in_err-inner.result c.from_residual-in_err-inner.ensures.1
    in rw (p.1, p.2)
    (λ misfit room rest. reads_group room (tokens_in c.args.tokens.now) (token_of c.in-Some.t) (tokens_in c.in-Some.rest.now) rest c.in-Some.ensures.some (sym c.is_mark.ensures ∙ c.if-not-is_mark.false)
    ∙ c.in_err-inner.ensures.sticks misfit room (wanted.Mark (byte ")") ∷ rest))

pub term-returns-in_err-rest-3-clause-sticks : goal.term-returns-in_err-rest-3-clause-sticks
term-returns-in_err-rest-3-clause-sticks t c =
    let p = err_from_is_err_and c.from_residual-in_err-rest-3.result c.from_residual-in_err-rest-3.ensures.1
    in rw (p.1, p.2)
    (λ misfit room rest. reads_group room (tokens_in c.args.tokens.now) (token_of c.in-Some.t) (tokens_in c.in-Some.rest.now) rest c.in-Some.ensures.some (sym c.is_mark.ensures ∙ c.if-not-is_mark.false)
    ∙ c.in_ok-inner.ensures.reads room (wanted.Mark (byte ")") ∷ rest)
    ∙ c.in_err-rest-3.ensures.sticks rest)

pub term-returns-clause-reads : goal.term-returns-clause-reads
term-returns-clause-reads t c = λ room rest.
    reads_group room (tokens_in c.args.tokens.now) (token_of c.in-Some.t) (tokens_in c.in-Some.rest.now) rest c.in-Some.ensures.some (sym c.is_mark.ensures ∙ c.if-not-is_mark.false)
    ∙ c.in_ok-inner.ensures.reads room (wanted.Mark (byte ")") ∷ rest)
    ∙ c.in_ok-rest-3.ensures.reads rest
