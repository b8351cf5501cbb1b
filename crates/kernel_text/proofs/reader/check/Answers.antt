use Rattle.std.proofs.Common.{◌+◌, drop, map, sym, ap, ◌∙◌}
use Rattle.std.proofs.lemmas.Result.{err_from_is_err_and}
use Rattle.kernel_text.specs.Lexemes.{placed_of}
use Rattle.kernel_text.specs.Known.{at_start}
use Rattle.kernel_text.specs.Senses.{next_token}
use Rattle.kernel_text.specs.Faults.{first_token_fault}
use Rattle.kernel_text.proofs.Steps.{fault_from}
use Rattle.kernel_text.proofs.reader.check.Goals as goal

pub returns-in_err-step-clause-fault : goal.returns-in_err-step-clause-fault
returns-in_err-step-clause-fault c =
    let p = err_from_is_err_and c.from_residual.result c.from_residual.ensures.1
    in let items = c.as_slice-items.result.now
    in rw (p.1, p.2)
    (λ other.
    ap (λ xs. first_token_fault c.args.tokens.now.end (map placed_of xs) at_start) (sym c.as_slice-items.ensures.value)
    ∙ sym c.loop-i.invariant
    ∙ fault_from c.args.tokens.now.end items c.loop-i.i _ (next_token c.token_at.result) c.loop-i.reader c.loop-i-test.true c.token_at.ensures
    ∙ c.in_err-step.ensures.fault other (first_token_fault c.args.tokens.now.end (map placed_of (drop (c.loop-i.i + 1) items))))
