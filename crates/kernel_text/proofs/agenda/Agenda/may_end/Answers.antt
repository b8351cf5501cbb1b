use Rattle.std.proofs.Common.{◌∙◌, ◌&&◌, suc, ap, sym, drop}
use Rattle.std.proofs.Math.Seq.{drop-cons}
use Rattle.std.proofs.lemmas.List.{drop_all}
use Rattle.kernel_text.specs.declared.senses.Wanted.TheVariants as wanted
use Rattle.kernel_text.specs.Readings.{may_end}
use Rattle.kernel_text.proofs.Agendas.{ends_reversed}
use Rattle.kernel_text.proofs.agenda.Agenda.may_end.Goals as goal

pub returns-then-not-is_optional : goal.returns-then-not-is_optional
returns-then-not-is_optional c =
    let here = ap may_end (drop-cons c.deref-wanted-items.result.now c.loop-wanted.wanted-index (wanted.Mark 0) c.loop-wanted-test.true)
    ∙ ap (λ b. b && may_end (drop (suc c.loop-wanted.wanted-index) c.deref-wanted-items.result.now)) (sym c.is_optional.ensures ∙ c.if-not-is_optional.true)
    in sym here ∙ c.loop-wanted.invariant ∙ ap may_end c.deref-wanted-items.ensures.value ∙ sym (ends_reversed c.self.inside.items.items) ∙ ap may_end c.self.view_is

pub returns : goal.returns
returns c =
    let here = ap may_end (drop_all c.loop-wanted.wanted-index c.deref-wanted-items.result.now c.loop-wanted-test.false)
    in sym here ∙ c.loop-wanted.invariant ∙ ap may_end c.deref-wanted-items.ensures.value ∙ sym (ends_reversed c.self.inside.items.items) ∙ ap may_end c.self.view_is
