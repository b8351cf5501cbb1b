use Rattle.std.proofs.Common.{◌≡◌, Some, None, refl, sym, ◌∙◌, ap, subst}
use Rattle.pei_types.specs.declared.identifiers.Lane.{Lane}
use Rattle.pei_types.specs.declared.machines.MachineSpec.{MachineSpec}
use Rattle.pei_types.specs.declared.events.EventKind.TheVariants as event
use Rattle.pei_types.specs.MachineState.{free_lane}
use Rattle.trace_check.specs.CheckerParts.{state_of}
use Rattle.trace_check.proofs.Moves.{Moves, issue_moves, moved_by}
use Rattle.trace_check.proofs.checker.Checker.apply_issue.Goals as goal

pub returns-in-Some : goal.returns-in-Some
returns-in-Some c a core seq number lane free =
    let v = c.args.self.now
    in let both : Some c.in-Some.lane ≡ Some lane = sym c.in-Some.is ∙ c.free_lane.ensures.lowest ∙ ap (λ (n : MachineSpec). free_lane n (state_of v) c.args.core) v.inflight_machine ∙ free
    in let same : c.in-Some.lane ≡ lane = cc both
    in moved_by v _ a _ refl refl refl v.bus_machine
    (subst (λ (l : Lane). Moves v.bus v.inflight v.monitor a (event.Issue seq l c.args.op c.args.block c.args.operands.now) v.bus c.issue.new.self v.monitor) same
    (issue_moves v.bus v.inflight v.monitor a c.args.core seq c.in-Some.lane c.args.op c.args.block c.args.operands.now c.issue.new.self core number c.issue.ensures.issued))

pub returns-in_default : goal.returns-in_default
returns-in_default c a core seq number lane free =
    let v = c.args.self.now
    in let both : None ≡ Some lane = sym c.in_default.is ∙ c.free_lane.ensures.lowest ∙ ap (λ (n : MachineSpec). free_lane n (state_of v) c.args.core) v.inflight_machine ∙ free
    in absurd (cc both)
