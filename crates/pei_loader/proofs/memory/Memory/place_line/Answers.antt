use Rattle.std.proofs.Common.{sym, ◌∙◌}
use Rattle.std.proofs.lemmas.Result.{err_from_is_err_and}
use Rattle.pei_loader.proofs.Lines.{aligned_line, line_filled, line_free, one_more, word_fault}
use Rattle.pei_loader.proofs.Refusals.{fault_along}
use Rattle.pei_loader.proofs.memory.Memory.place_line.Goals as goal

pub returns-in_err-place_word-clause-refused : goal.returns-in_err-place_word-clause-refused
returns-in_err-place_word-clause-refused c =
    let p = err_from_is_err_and c.from_residual.result c.from_residual.ensures.1
    in rw (p.1, p.2) (fault_along c.in_err-place_word.field-0.0 _ _ (sym (aligned_line _ c.args.program.now c.args.i _ _ c.line-addr.ensures.found c.if-addr-ne0.false)) (word_fault _ _ _ _ _ _ _ _ c.in_err-place_word.field-0.0 c.loop-word.invariant.reached c.loop-word-test.true c.in_err-place_word.ensures.refused))

pub loop-word-preserved : goal.loop-word-preserved
loop-word-preserved c = record {
  entries = c.place_word.ensures.entries ∙ c.loop-word.invariant.entries;
  reached = one_more _ _ _ _ _ _ _ _ _ _ c.loop-word.invariant.reached c.loop-word-test.true c.in_ok-place_word.ensures.inside c.in_ok-place_word.ensures.ok c.in_ok-place_word.ensures.words c.in_ok-place_word.ensures.given;
}

pub returns-clause-filled : goal.returns-clause-filled
returns-clause-filled c =
    line_filled _ c.args.program.now c.args.i _ _ _ _ _ _ c.line-addr.ensures.found c.loop-word.invariant.reached c.loop-word-test.false

pub returns-clause-ok : goal.returns-clause-ok
returns-clause-ok c =
    line_free _ c.args.program.now c.args.i _ _ _ _ _ _ c.line-addr.ensures.found c.loop-word.invariant.reached c.loop-word-test.false
