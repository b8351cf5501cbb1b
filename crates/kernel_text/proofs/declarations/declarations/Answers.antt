use Rattle.std.proofs.Common.{◌++◌, map, refl, sym, ap, ◌∙◌, append_assoc}
use Rattle.std.proofs.lemmas.Result.{err_from_is_err_and}
use Rattle.kernel_text.specs.Grammar.{declaration}
use Rattle.kernel_text.specs.Views.{declaration_of}
use Rattle.kernel_text.specs.Built.{tokens_in}
use Rattle.std.specs.Prelude.{flat_map}
use Rattle.kernel_text.proofs.Stacked.{declared_more, all_declared}
use Rattle.kernel_text.proofs.Phrases.{no_declaration_here}
use Rattle.kernel_text.proofs.declarations.declarations.Goals as goal

pub returns-then-not-begins_declaration-clause-reads : goal.returns-then-not-begins_declaration-clause-reads
returns-then-not-begins_declaration-clause-reads c = λ rest. no_declaration_here (tokens_in c.args.tokens.now) rest (sym c.begins_declaration.ensures ∙ c.if-not-begins_declaration.true)

pub returns-in_err-made-clause-sticks : goal.returns-in_err-made-clause-sticks
returns-in_err-made-clause-sticks c =
    let p = err_from_is_err_and c.from_residual-in_err-made.result c.from_residual-in_err-made.ensures.1
    in rw (p.1, p.2)
    (λ misfit rest. c.loop-alloc.invariant.reads rest ∙ c.in_err-made.ensures.sticks misfit rest)

pub loop-alloc-preserved : goal.loop-alloc-preserved
loop-alloc-preserved c =
    let more = c.in_ok-push-2.ensures.items
    in let old = c.loop-alloc.items.items
    in record {
      spelled = rw more
          (c.loop-alloc.invariant.spelled
          ∙ ap (λ ts. flat_map declaration (map declaration_of old) ++ ts) c.in_ok-made.ensures.spelled
          ∙ sym (append_assoc (flat_map declaration (map declaration_of old)) (declaration (declaration_of c.in_ok-made.made)) (tokens_in c.in_ok-made.after.now))
          ∙ ap (λ ts. ts ++ tokens_in c.in_ok-made.after.now) (sym (declared_more old c.in_ok-made.made)));
      grammar = (let before = c.loop-alloc.invariant.grammar in let here = c.in_ok-made.ensures.grammar in rw more (all_declared old c.in_ok-made.made ∙ (rw (before, here) refl)));
      reads = λ rest. c.loop-alloc.invariant.reads rest ∙ c.in_ok-made.ensures.reads rest;
    }

pub returns-clause-reads : goal.returns-clause-reads
returns-clause-reads c = λ rest. c.loop-alloc.invariant.reads rest ∙ no_declaration_here (tokens_in c.loop-alloc.rest.now) rest (sym c.begins_declaration-in-loop-alloc.ensures ∙ c.loop-alloc-test.false)
