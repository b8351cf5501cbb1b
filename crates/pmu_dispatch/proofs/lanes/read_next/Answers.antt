use Rattle.std.proofs.Common.{◌≡◌, Bool, true, false, refl, sym, ◌∙◌, ap}
use Rattle.pei_types.specs.MachineState.{letter_of}
use Rattle.pei_types.specs.Next.{want}
use Rattle.pei_types.specs.Operation.{is_writer}
use Rattle.pmu_dispatch.specs.Shown.{suffices}
use Rattle.pmu_dispatch.proofs.AccessRows.{message_is_made}
use Rattle.pmu_dispatch.proofs.LaneLooks.{peis_letter, peis_want}
use Rattle.pmu_dispatch.proofs.Messages.{message_want}
use Rattle.pmu_dispatch.proofs.lanes.read_next.Goals as goal

pub returns-then-suffices : goal.returns-then-suffices
returns-then-suffices c m s content taken =
    let p = c.args.pei.now
    in let enough : suffices (is_writer p.op) (letter_of m s p.id.core p.block) ≡ true
    = ap (suffices (is_writer p.op)) (sym (peis_letter m s c.args.looks.now p taken) ∙ sym c.own_letter.ensures) ∙ ap (λ (b : Bool). suffices b c.own_letter.result) (sym c.writes-modify.ensures) ∙ sym c.suffices.ensures ∙ c.if-suffices.true
    in rw enough refl

pub returns-else-suffices : goal.returns-else-suffices
returns-else-suffices c m s content taken =
    let p = c.args.pei.now
    in let lacks : suffices (is_writer p.op) (letter_of m s p.id.core p.block) ≡ false
    = ap (suffices (is_writer p.op)) (sym (peis_letter m s c.args.looks.now p taken) ∙ sym c.own_letter.ensures) ∙ ap (λ (b : Bool). suffices b c.own_letter.result) (sym c.writes-modify.ensures) ∙ sym c.suffices.ensures ∙ c.if-suffices.false
    in let wants = peis_want m s c.args.looks.now p taken c.want_next.result (is_writer p.op) (c.want_next.ensures m s taken.taken ∙ ap (want m s c.args.looks.now.own c.args.looks.now.block) c.writes-modify.ensures)
    in rw lacks (message_is_made c.want_next.result (want m s p.id.core p.block (is_writer p.op)) wants (message_want m s p.id.core p.block (is_writer p.op)))
