use Rattle.std.proofs.Common.{◌∷◌, ◌<◌, [], length, ◌∙◌, rules}
use Rattle.std.proofs.lemmas.Result.{err_from_is_err_and}
use Rattle.kernel_text.specs.declared.senses.Wanted.TheVariants as wanted
use Rattle.kernel_text.proofs.Whole.{left_over}
use Rattle.kernel_text.proofs.parsing.build.Goals as goal

pub returns-in_err-stmts-clause-sticks : goal.returns-in_err-stmts-clause-sticks
returns-in_err-stmts-clause-sticks c =
    let p = err_from_is_err_and c.from_residual-in_err-stmts.result c.from_residual-in_err-stmts.ensures.1
    in rw (p.1, p.2)
    (λ misfit. c.in_ok-decls.ensures.reads (wanted.Statements ∷ []) ∙ c.in_err-stmts.ensures.sticks misfit [])

pub returns-then-not-is_empty-clause-sticks : goal.returns-then-not-is_empty-clause-sticks
returns-then-not-is_empty-clause-sticks c =
    let some : 0 < length c.in_ok-stmts.rest.now = search (rules, c.if-not-is_empty.true, c.is_empty.ensures)
    in λ misfit. c.in_ok-decls.ensures.reads (wanted.Statements ∷ []) ∙ c.in_ok-stmts.ensures.reads [] ∙ left_over c.in_ok-stmts.rest.now some
