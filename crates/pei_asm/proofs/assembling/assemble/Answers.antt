use Rattle.std.proofs.Common.{◌≡◌, None, sym, ap, ◌∙◌}
use Rattle.std.specs.Option.{option_or}
use Rattle.pei_asm.specs.Faults.{first_fault, unknown_label}
use Rattle.pei_asm.specs.Meaning.{lines_read, program_of}
use Rattle.pei_asm.proofs.Printables.{spelled_is_printable}
use Rattle.pei_asm.proofs.TextVerdicts.{without_fault}
use Rattle.pei_asm.proofs.assembling.assemble.Goals as goal

pub returns-in-Err-clause-fault : goal.returns-in-Err-clause-fault
returns-in-Err-clause-fault c = λ k. ap (λ o. option_or o (unknown_label (lines_read c.args.text.now) 1 (lines_read c.args.text.now))) (c.in-Err.ensures.fault k)

-- no line has a fault: what is left are the uses of labels
pub returns-in-Some-clause-fault : goal.returns-in-Some-clause-fault
returns-in-Some-clause-fault c =
    λ k. let text = c.args.text.now
    in ap (λ o. option_or o (unknown_label (lines_read text) 1 (lines_read text))) c.in-Ok.ensures.none
    ∙ ap (λ ls. unknown_label ls 1 ls) (sym c.in-Ok.ensures.lines) ∙ sym c.unknown_label.ensures.first ∙ c.in-Some.is

pub returns-clause-ok : goal.returns-clause-ok
returns-clause-ok c =
    let text = c.args.text.now
    in let none : first_fault text ≡ None =
    ap (λ o. option_or o (unknown_label (lines_read text) 1 (lines_read text))) c.in-Ok.ensures.none
    ∙ ap (λ ls. unknown_label ls 1 ls) (sym c.in-Ok.ensures.lines) ∙ sym c.unknown_label.ensures.first ∙ c.in_default.is
    in let same : c.in-Ok-program_of.program ≡ program_of (lines_read text) = c.in-Ok-program_of.ensures ∙ ap program_of c.in-Ok.ensures.lines
    in rw same (without_fault text none)

pub returns-clause-printable : goal.returns-clause-printable
returns-clause-printable c = spelled_is_printable c.args.text.now c.in-Ok-program_of.program (returns-clause-ok c)
