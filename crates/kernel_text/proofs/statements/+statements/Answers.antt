use Rattle.std.proofs.Common.{◌∷◌, ◌++◌, refl, sym, ap, ◌∙◌, append_assoc, arith}
use Rattle.std.proofs.lemmas.Result.{err_from_is_err_and}
use Rattle.kernel_text.specs.declared.senses.Wanted.TheVariants as wanted
use Rattle.kernel_text.specs.Lexemes.{token_of}
use Rattle.kernel_text.specs.Trees.{done}
use Rattle.kernel_text.specs.Grammar.{statements}
use Rattle.kernel_text.specs.Readings.{opens_bracket}
use Rattle.kernel_text.specs.Views.{with_statements}
use Rattle.kernel_text.specs.Built.{tokens_in, spelled_statement}
use Rattle.kernel_text.proofs.Phrases.{reads_store, reads_set, reads_print, reads_inc, reads_min, reads_for, statement_begins, last_statement, no_statement_here}
use Rattle.kernel_text.proofs.Bodies.{body_is, loop_spelled, loop_grammar}
use Rattle.kernel_text.proofs.Stacked.{spelled_more, grammar_more}
use Rattle.kernel_text.proofs.statements.+statements.Goals as goal

-- ---- a statement

pub statement-returns-in_default-clause-sticks : goal.statement-returns-in_default-clause-sticks
statement-returns-in_default-clause-sticks t c = λ misfit rest. statement_begins (tokens_in c.args.tokens.now) c.in_default.ensures.none c.requires

pub statement-returns-in_err-stored-clause-sticks : goal.statement-returns-in_err-stored-clause-sticks
statement-returns-in_err-stored-clause-sticks t c =
    let p = err_from_is_err_and c.from_residual-in_err-stored.result c.from_residual-in_err-stored.ensures.1
    in rw (p.1, p.2)
    (λ misfit rest. reads_store (tokens_in c.args.tokens.now) (token_of c.in-Some.t) (tokens_in c.in-Some.rest.now) rest c.in-Some.ensures.some (sym c.is_name.ensures ∙ c.if-is_name.true) (ap opens_bracket (sym c.peek.ensures) ∙ sym c.opens_bracket.ensures ∙ c.if-opens_bracket.true) ∙ c.in_err-stored.ensures.sticks misfit (wanted.Statements ∷ rest))

pub statement-returns-then-opens_bracket-clause-reads : goal.statement-returns-then-opens_bracket-clause-reads
statement-returns-then-opens_bracket-clause-reads t c = λ rest. reads_store (tokens_in c.args.tokens.now) (token_of c.in-Some.t) (tokens_in c.in-Some.rest.now) rest c.in-Some.ensures.some (sym c.is_name.ensures ∙ c.if-is_name.true) (ap opens_bracket (sym c.peek.ensures) ∙ sym c.opens_bracket.ensures ∙ c.if-opens_bracket.true) ∙ c.in_ok-stored.ensures.reads (wanted.Statements ∷ rest)

pub statement-returns-in_err-assigned-clause-sticks : goal.statement-returns-in_err-assigned-clause-sticks
statement-returns-in_err-assigned-clause-sticks t c =
    let p = err_from_is_err_and c.from_residual-in_err-assigned.result c.from_residual-in_err-assigned.ensures.1
    in rw (p.1, p.2)
    (λ misfit rest. reads_set (tokens_in c.args.tokens.now) (token_of c.in-Some.t) (tokens_in c.in-Some.rest.now) rest c.in-Some.ensures.some (sym c.is_name.ensures ∙ c.if-is_name.true) (ap opens_bracket (sym c.peek.ensures) ∙ sym c.opens_bracket.ensures ∙ c.if-opens_bracket.false) ∙ c.in_err-assigned.ensures.sticks misfit (wanted.Statements ∷ rest))

pub statement-returns-then-is_name-clause-reads : goal.statement-returns-then-is_name-clause-reads
statement-returns-then-is_name-clause-reads t c = λ rest. reads_set (tokens_in c.args.tokens.now) (token_of c.in-Some.t) (tokens_in c.in-Some.rest.now) rest c.in-Some.ensures.some (sym c.is_name.ensures ∙ c.if-is_name.true) (ap opens_bracket (sym c.peek.ensures) ∙ sym c.opens_bracket.ensures ∙ c.if-opens_bracket.false) ∙ c.in_ok-assigned.ensures.reads (wanted.Statements ∷ rest)

pub statement-returns-in_err-printed-clause-sticks : goal.statement-returns-in_err-printed-clause-sticks
statement-returns-in_err-printed-clause-sticks t c =
    let p = err_from_is_err_and c.from_residual-in_err-printed.result c.from_residual-in_err-printed.ensures.1
    in rw (p.1, p.2)
    (λ misfit rest. reads_print (tokens_in c.args.tokens.now) (token_of c.in-Some.t) (tokens_in c.in-Some.rest.now) rest c.in-Some.ensures.some (sym c.is_word.ensures ∙ c.if-is_word.true) ∙ c.in_err-printed.ensures.sticks misfit (wanted.Statements ∷ rest))

pub statement-returns-then-is_word-clause-reads : goal.statement-returns-then-is_word-clause-reads
statement-returns-then-is_word-clause-reads t c = λ rest. reads_print (tokens_in c.args.tokens.now) (token_of c.in-Some.t) (tokens_in c.in-Some.rest.now) rest c.in-Some.ensures.some (sym c.is_word.ensures ∙ c.if-is_word.true) ∙ c.in_ok-printed.ensures.reads (wanted.Statements ∷ rest)

pub statement-returns-in_err-incremented-clause-sticks : goal.statement-returns-in_err-incremented-clause-sticks
statement-returns-in_err-incremented-clause-sticks t c =
    let p = err_from_is_err_and c.from_residual-in_err-incremented.result c.from_residual-in_err-incremented.ensures.1
    in rw (p.1, p.2)
    (λ misfit rest. reads_inc (tokens_in c.args.tokens.now) (token_of c.in-Some.t) (tokens_in c.in-Some.rest.now) rest c.in-Some.ensures.some (sym c.is_word-2.ensures ∙ c.if-is_word-2.true) ∙ c.in_err-incremented.ensures.sticks misfit (wanted.Statements ∷ rest))

pub statement-returns-then-is_word-2-clause-reads : goal.statement-returns-then-is_word-2-clause-reads
statement-returns-then-is_word-2-clause-reads t c = λ rest. reads_inc (tokens_in c.args.tokens.now) (token_of c.in-Some.t) (tokens_in c.in-Some.rest.now) rest c.in-Some.ensures.some (sym c.is_word-2.ensures ∙ c.if-is_word-2.true) ∙ c.in_ok-incremented.ensures.reads (wanted.Statements ∷ rest)

pub statement-returns-in_err-lowered-clause-sticks : goal.statement-returns-in_err-lowered-clause-sticks
statement-returns-in_err-lowered-clause-sticks t c =
    let p = err_from_is_err_and c.from_residual-in_err-lowered.result c.from_residual-in_err-lowered.ensures.1
    in rw (p.1, p.2)
    (λ misfit rest. reads_min (tokens_in c.args.tokens.now) (token_of c.in-Some.t) (tokens_in c.in-Some.rest.now) rest c.in-Some.ensures.some (sym c.is_word-3.ensures ∙ c.if-is_word-3.true) ∙ c.in_err-lowered.ensures.sticks misfit (wanted.Statements ∷ rest))

pub statement-returns-then-is_word-3-clause-reads : goal.statement-returns-then-is_word-3-clause-reads
statement-returns-then-is_word-3-clause-reads t c = λ rest. reads_min (tokens_in c.args.tokens.now) (token_of c.in-Some.t) (tokens_in c.in-Some.rest.now) rest c.in-Some.ensures.some (sym c.is_word-3.ensures ∙ c.if-is_word-3.true) ∙ c.in_ok-lowered.ensures.reads (wanted.Statements ∷ rest)

pub statement-returns-in_err-repeated-clause-sticks : goal.statement-returns-in_err-repeated-clause-sticks
statement-returns-in_err-repeated-clause-sticks t c =
    let p = err_from_is_err_and c.from_residual-in_err-repeated.result c.from_residual-in_err-repeated.ensures.1
    in rw (p.1, p.2)
    (λ misfit rest. reads_for (tokens_in c.args.tokens.now) (token_of c.in-Some.t) (tokens_in c.in-Some.rest.now) rest c.in-Some.ensures.some (last_statement (tokens_in c.args.tokens.now) (token_of c.in-Some.t) (tokens_in c.in-Some.rest.now) c.in-Some.ensures.some c.requires (sym c.is_name.ensures ∙ c.if-is_name.false) (sym c.is_word.ensures ∙ c.if-is_word.false) (sym c.is_word-2.ensures ∙ c.if-is_word-2.false) (sym c.is_word-3.ensures ∙ c.if-is_word-3.false)) ∙ c.in_err-repeated.ensures.sticks misfit (wanted.Statements ∷ rest))

pub statement-returns-clause-reads : goal.statement-returns-clause-reads
statement-returns-clause-reads t c = λ rest. reads_for (tokens_in c.args.tokens.now) (token_of c.in-Some.t) (tokens_in c.in-Some.rest.now) rest c.in-Some.ensures.some (last_statement (tokens_in c.args.tokens.now) (token_of c.in-Some.t) (tokens_in c.in-Some.rest.now) c.in-Some.ensures.some c.requires (sym c.is_name.ensures ∙ c.if-is_name.false) (sym c.is_word.ensures ∙ c.if-is_word.false) (sym c.is_word-2.ensures ∙ c.if-is_word-2.false) (sym c.is_word-3.ensures ∙ c.if-is_word-3.false)) ∙ c.in_ok-repeated.ensures.reads (wanted.Statements ∷ rest)

-- ---- statements

pub statements-returns-then-not-begins_statement-clause-reads : goal.statements-returns-then-not-begins_statement-clause-reads
statements-returns-then-not-begins_statement-clause-reads t c = λ rest. no_statement_here (tokens_in c.args.tokens.now) rest (sym c.begins_statement.ensures ∙ c.if-not-begins_statement.true)

pub statements-returns-in_err-made-clause-sticks : goal.statements-returns-in_err-made-clause-sticks
statements-returns-in_err-made-clause-sticks t c =
    let p = err_from_is_err_and c.from_residual-in_err-made.result c.from_residual-in_err-made.ensures.1
    in rw (p.1, p.2)
    (λ misfit rest. c.loop-alloc.invariant.reads rest ∙ c.in_err-made.ensures.sticks misfit rest)

pub statements-loop-alloc-preserved : goal.statements-loop-alloc-preserved
statements-loop-alloc-preserved t c =
    let more = c.in_ok-push-2.ensures.items
    in let old = c.loop-alloc.items.items
    in record {
      spelled = rw more
          (c.loop-alloc.invariant.spelled
          ∙ ap (λ ts. statements (with_statements old done) ++ ts) c.in_ok-made.ensures.spelled
          ∙ sym (append_assoc (statements (with_statements old done)) (spelled_statement c.in_ok-made.made) (tokens_in c.in_ok-made.after.now))
          ∙ ap (λ ts. ts ++ tokens_in c.in_ok-made.after.now) (sym (spelled_more old c.in_ok-made.made)));
      grammar = (let before = c.loop-alloc.invariant.grammar in let here = c.in_ok-made.ensures.grammar in rw more (grammar_more old c.in_ok-made.made ∙ (rw (before, here) refl)));
      reads = λ rest. c.loop-alloc.invariant.reads rest ∙ c.in_ok-made.ensures.reads rest;
      shorter = omega (arith, c.loop-alloc.invariant.shorter, c.in_ok-made.ensures.shorter);
    }

pub statements-returns-clause-reads : goal.statements-returns-clause-reads
statements-returns-clause-reads t c = λ rest. c.loop-alloc.invariant.reads rest ∙ no_statement_here (tokens_in c.loop-alloc.rest.now) rest (sym c.begins_statement-in-loop-alloc.ensures ∙ c.loop-alloc-test.false)

-- ---- a loop

pub repeat-returns-clause-spelled : goal.repeat-returns-clause-spelled
repeat-returns-clause-spelled t c =
    loop_spelled c.in_ok-name.name c.in_ok-turns.turns (tokens_in c.args.tokens.now) (tokens_in c.in_ok-name.behind.now) (tokens_in c.in_ok-count.count.now) (tokens_in c.in_ok-turns.before.now)
    (tokens_in c.in_ok-inside.inside.now) (tokens_in c.in_ok-body.end.now) (tokens_in c.in_ok-rest.rest.now) _ (with_statements c.in_ok-body.body.items.items done)
    c.in_ok-name.ensures.spelled c.in_ok-count.ensures.spelled c.in_ok-turns.ensures.spelled c.in_ok-inside.ensures.spelled c.in_ok-body.ensures.spelled c.in_ok-rest.ensures.spelled (body_is c.in_ok-body.body)

pub repeat-returns-clause-grammar : goal.repeat-returns-clause-grammar
repeat-returns-clause-grammar t c =
    loop_grammar c.in_ok-name.name _ (with_statements c.in_ok-body.body.items.items done) (body_is c.in_ok-body.body) c.in_ok-name.ensures.grammar c.in_ok-body.ensures.grammar
