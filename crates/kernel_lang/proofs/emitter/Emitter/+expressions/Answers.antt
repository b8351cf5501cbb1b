use Rattle.std.proofs.Common.{sym, ap, ◌∙◌}
use Rattle.kernel_text.specs.Trees.{binary}
use Rattle.kernel_text.specs.Views.{expression_of}
use Rattle.kernel_lang.specs.Code.{still}
use Rattle.kernel_lang.proofs.Waiting.{still_behind_both, when_ok}
use Rattle.kernel_lang.proofs.emitter.Emitter.+expressions.Goals as goal

pub into-returns-in_ok-rb-in-Binary-clause-waiting : goal.into-returns-in_ok-rb-in-Binary-clause-waiting
into-returns-in_ok-rb-in-Binary-clause-waiting t c =
    let f = c.args.names.now
    in let w = c.args.self.now.waiting
    in let o = c.in-Binary.op
    in let left = expression_of c.deref-in-Binary.result.now
    in let right = expression_of c.deref-in-Binary-2.result.now
    in when_ok c.emit-in-Binary.result
    (c.emit-in-Binary.ensures.waiting
    ∙ c.in_ok-rb-in-Binary.ensures.waiting
    ∙ ap (λ b. still f b right) c.in_ok-ra-in-Binary.ensures.waiting
    ∙ still_behind_both f w o left right
    ∙ ap (λ e. still f w (binary o (expression_of e) right)) c.deref-in-Binary.ensures
    ∙ ap (λ e. still f w (binary o (expression_of c.in-Binary.left.value) (expression_of e))) c.deref-in-Binary-2.ensures
    ∙ ap (λ e. still f w (expression_of e)) (sym c.in-Binary.is))
