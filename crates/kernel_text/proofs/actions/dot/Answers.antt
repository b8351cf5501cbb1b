use Rattle.std.proofs.Common.{◌∷◌, ◌++◌, refl, ◌∙◌}
use Rattle.std.proofs.lemmas.Result.{err_from_is_err_and}
use Rattle.kernel_text.specs.declared.senses.Wanted.TheVariants as wanted
use Rattle.kernel_text.specs.Readings.{comma, operands, ending}
use Rattle.kernel_text.proofs.actions.dot.Goals as goal

pub returns-in_err-d-clause-sticks : goal.returns-in_err-d-clause-sticks
returns-in_err-d-clause-sticks c =
    let p = err_from_is_err_and c.from_residual-in_err-d.result c.from_residual-in_err-d.ensures.1
    in rw (p.1, p.2)
    (λ misfit rest. c.in_ok-name.ensures.reads wanted.TableName refl (comma ++ operands ++ ending ++ rest)
    ∙ c.in_ok-a.ensures.reads (comma ++ wanted.Operand ∷ comma ++ wanted.Operand ∷ comma ++ wanted.Operand ∷ ending ++ rest)
    ∙ c.in_ok-b.ensures.reads (comma ++ wanted.Operand ∷ comma ++ wanted.Operand ∷ ending ++ rest)
    ∙ c.in_ok-c.ensures.reads (comma ++ wanted.Operand ∷ ending ++ rest)
    ∙ c.in_err-d.ensures.sticks misfit (ending ++ rest))

pub returns-in_err-rest-clause-sticks : goal.returns-in_err-rest-clause-sticks
returns-in_err-rest-clause-sticks c =
    let p = err_from_is_err_and c.from_residual-in_err-rest.result c.from_residual-in_err-rest.ensures.1
    in rw (p.1, p.2)
    (λ misfit rest. c.in_ok-name.ensures.reads wanted.TableName refl (comma ++ operands ++ ending ++ rest)
    ∙ c.in_ok-a.ensures.reads (comma ++ wanted.Operand ∷ comma ++ wanted.Operand ∷ comma ++ wanted.Operand ∷ ending ++ rest)
    ∙ c.in_ok-b.ensures.reads (comma ++ wanted.Operand ∷ comma ++ wanted.Operand ∷ ending ++ rest)
    ∙ c.in_ok-c.ensures.reads (comma ++ wanted.Operand ∷ ending ++ rest)
    ∙ c.in_ok-d.ensures.reads (ending ++ rest)
    ∙ c.in_err-rest.ensures.sticks rest)

pub returns-clause-reads : goal.returns-clause-reads
returns-clause-reads c = λ rest. c.in_ok-name.ensures.reads wanted.TableName refl (comma ++ operands ++ ending ++ rest)
    ∙ c.in_ok-a.ensures.reads (comma ++ wanted.Operand ∷ comma ++ wanted.Operand ∷ comma ++ wanted.Operand ∷ ending ++ rest)
    ∙ c.in_ok-b.ensures.reads (comma ++ wanted.Operand ∷ comma ++ wanted.Operand ∷ ending ++ rest)
    ∙ c.in_ok-c.ensures.reads (comma ++ wanted.Operand ∷ ending ++ rest)
    ∙ c.in_ok-d.ensures.reads (ending ++ rest)
    ∙ c.in_ok-rest.ensures.reads rest
