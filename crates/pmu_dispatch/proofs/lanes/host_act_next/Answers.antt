use Rattle.std.proofs.Common.{◌≡◌, true, false, not, ◌||◌, refl, sym, ◌∙◌, ap}
use Rattle.pei_types.specs.declared.operations.Letter.{Letter}
use Rattle.pei_types.specs.MachineState.{is_owned}
use Rattle.pei_types.specs.Next.{want, may_act}
use Rattle.pei_types.specs.Operation.{is_writer}
use Rattle.pmu_dispatch.proofs.AccessRows.{message_is_made}
use Rattle.pmu_dispatch.proofs.LaneLooks.{peis_letter, peis_want}
use Rattle.pmu_dispatch.proofs.Messages.{message_want}
use Rattle.pmu_dispatch.proofs.lanes.host_act_next.Goals as goal

pub returns-then-may_act : goal.returns-then-may_act
returns-then-may_act c m s content taken =
    let p = c.args.pei.now
    in let may : may_act m s p ≡ true
    = ap (λ (l : Letter). not (is_writer p.op) || is_owned l) (sym (peis_letter m s c.args.looks.now p taken)) ∙ sym c.may_act.ensures ∙ c.if-may_act.true
    in rw may refl

pub returns-else-may_act : goal.returns-else-may_act
returns-else-may_act c m s content taken =
    let p = c.args.pei.now
    in let may_not : may_act m s p ≡ false
    = ap (λ (l : Letter). not (is_writer p.op) || is_owned l) (sym (peis_letter m s c.args.looks.now p taken)) ∙ sym c.may_act.ensures ∙ c.if-may_act.false
    in let wants = peis_want m s c.args.looks.now p taken c.want_next.result true (c.want_next.ensures m s taken.taken)
    in rw may_not (message_is_made c.want_next.result (want m s p.id.core p.block true) wants (message_want m s p.id.core p.block true))
