use Rattle.std.proofs.Common.{◌≡◌, Some, None, ap, sym, ◌∙◌}
use Rattle.pei_types.specs.MachineState.{look_in}
use Rattle.fabric.specs.Banks.{stall_in}
use Rattle.fabric.specs.Whole.{content_in}
use Rattle.fabric.proofs.BankRows.{lane_idles, lane_later, lane_waits, not_issued}
use Rattle.fabric.proofs.sections.Section.lane_stall.Goals as goal

pub returns-in_default : goal.returns-in_default
returns-in_default c =
    let i = c.self.inside
    in let here : look_in i.parts.state c.args.core c.args.lane ≡ None = rw (← c.self-inside.view_is) (sym c.look.ensures.found ∙ c.in_default.is)
    in rw (← c.self.view_is) (sym (ap stall_in (lane_idles c.laws.ensures i.parts i.journal i.bank i.image.value i.numbers.items c.self.invariant c.args.core c.args.lane c.args.look.now here)))

pub returns-in-Issued : goal.returns-in-Issued
returns-in-Issued c =
    let i = c.self.inside
    in let here : look_in i.parts.state c.args.core c.args.lane ≡ Some c.in-Some.pei = rw (← c.self-inside.view_is) (sym c.look.ensures.found ∙ c.in-Some.is)
    in rw (← c.self.view_is) (c.entry_stall.ensures ∙ sym (ap stall_in (lane_waits c.laws.ensures i.parts i.journal i.bank i.image.value i.numbers.items c.self.invariant c.args.core c.args.lane c.args.look.now c.in-Some.pei here c.in-Issued.is)))

pub returns-in_default-phase : goal.returns-in_default-phase
returns-in_default-phase c =
    let i = c.self.inside
    in let here : look_in i.parts.state c.args.core c.args.lane ≡ Some c.in-Some.pei = rw (← c.self-inside.view_is) (sym c.look.ensures.found ∙ c.in-Some.is)
    in rw (← c.self.view_is) (c.stall_of.ensures (content_in i.parts) ∙ sym (ap stall_in (lane_later c.laws.ensures i.parts i.journal i.bank i.image.value i.numbers.items c.self.invariant c.args.core c.args.lane c.args.look.now c.in-Some.pei here (not_issued c.in-Some.pei.phase c.in_default-phase.not-Issued))))
