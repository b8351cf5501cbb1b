use Rattle.std.proofs.Common.{◌∷◌, sym, ◌∙◌}
use Rattle.std.proofs.lemmas.Result.{err_from_is_err_and}
use Rattle.kernel_text.specs.declared.senses.Wanted.TheVariants as wanted
use Rattle.kernel_text.specs.Lexemes.{token_of}
use Rattle.kernel_text.specs.Built.{tokens_in}
use Rattle.kernel_text.proofs.Phrases.{reads_table, reads_array, declaration_begins, last_declaration}
use Rattle.kernel_text.proofs.declarations.declaration.Goals as goal

pub returns-in_default-clause-sticks : goal.returns-in_default-clause-sticks
returns-in_default-clause-sticks c = λ misfit rest. declaration_begins (tokens_in c.args.tokens.now) c.in_default.ensures.none c.requires

pub returns-in_err-made-clause-sticks : goal.returns-in_err-made-clause-sticks
returns-in_err-made-clause-sticks c =
    let p = err_from_is_err_and c.from_residual.result c.from_residual.ensures.1
    in rw (p.1, p.2)
    (λ misfit rest. reads_table (tokens_in c.args.tokens.now) (token_of c.in-Some.t) (tokens_in c.in-Some.rest.now) rest c.in-Some.ensures.some (sym c.is_word.ensures ∙ c.if-is_word.true) ∙ c.in_err-made.ensures.sticks misfit (wanted.Declarations ∷ rest))

pub returns-then-is_word-clause-reads : goal.returns-then-is_word-clause-reads
returns-then-is_word-clause-reads c = λ rest. reads_table (tokens_in c.args.tokens.now) (token_of c.in-Some.t) (tokens_in c.in-Some.rest.now) rest c.in-Some.ensures.some (sym c.is_word.ensures ∙ c.if-is_word.true) ∙ c.in_ok-made.ensures.reads (wanted.Declarations ∷ rest)

pub returns-in_err-made-2-clause-sticks : goal.returns-in_err-made-2-clause-sticks
returns-in_err-made-2-clause-sticks c =
    let p = err_from_is_err_and c.from_residual-in_err-made-2.result c.from_residual-in_err-made-2.ensures.1
    in rw (p.1, p.2)
    (λ misfit rest. reads_array (tokens_in c.args.tokens.now) (token_of c.in-Some.t) (tokens_in c.in-Some.rest.now) rest c.in-Some.ensures.some (last_declaration (tokens_in c.args.tokens.now) (token_of c.in-Some.t) (tokens_in c.in-Some.rest.now) c.in-Some.ensures.some c.requires (sym c.is_word.ensures ∙ c.if-is_word.false)) ∙ c.in_err-made-2.ensures.sticks misfit (wanted.Declarations ∷ rest))

pub returns-clause-reads : goal.returns-clause-reads
returns-clause-reads c = λ rest. reads_array (tokens_in c.args.tokens.now) (token_of c.in-Some.t) (tokens_in c.in-Some.rest.now) rest c.in-Some.ensures.some (last_declaration (tokens_in c.args.tokens.now) (token_of c.in-Some.t) (tokens_in c.in-Some.rest.now) c.in-Some.ensures.some c.requires (sym c.is_word.ensures ∙ c.if-is_word.false)) ∙ c.in_ok-made-2.ensures.reads (wanted.Declarations ∷ rest)
