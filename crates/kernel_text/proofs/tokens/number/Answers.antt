use Rattle.std.proofs.Common.{sym, ◌∙◌, ap, Some}
use Rattle.kernel_text.proofs.Fronts.{number_stands, number_runs_on}
use Rattle.kernel_text.specs.declared.faults.KernelKind.TheVariants as kind
use Rattle.kernel_text.specs.Characters.{fault_at}
use Rattle.kernel_text.specs.Tokens.{begins_word}
use Rattle.kernel_text.proofs.tokens.number.Goals as goal

pub returns-then-begins_word-clause-fault : goal.returns-then-begins_word-clause-fault
returns-then-begins_word-clause-fault c = λ more.
    number_runs_on c.args.at c.args.bytes.now c.in-Some.value c.digits_len-len.result more c.requires.number c.digits_len-len.ensures.len (sym c.in-Some.ensures)
    (ap begins_word (sym c.byte_at.ensures) ∙ sym c.begins_word.ensures ∙ c.if-begins_word.true)
    ∙ ap Some (ap (λ p. fault_at p kind.BadChar) (sym c.further.ensures) ∙ sym c.fault-then-begins_word.ensures)

pub returns-clause-ok : goal.returns-clause-ok
returns-clause-ok c =
    number_stands c.args.at c.args.bytes.now c.in-Some.value c.digits_len-len.result c.requires.some c.requires.number c.requires.digit c.requires.first c.digits_len-len.ensures.len c.digits_len-len.ensures.within
    (sym c.in-Some.ensures) (ap begins_word (sym c.byte_at.ensures) ∙ sym c.begins_word.ensures ∙ c.if-begins_word.false)
