use Rattle.std.proofs.Common.{ℕ, ◌&&◌, ◌==◌, sym, ◌∙◌, ap}
use Rattle.std.specs.Prelude.{slice_index}
use Rattle.pei_types.specs.declared.identifiers.CoreId.{CoreId}
use Rattle.pei_types.specs.declared.machines.MachineSpec.{MachineSpec}
use Rattle.pei_types.specs.MachineState.{free_lane}
use Rattle.pei_types.specs.Guard.{guard, is_lane}
use Rattle.trace_check.specs.CheckerParts.{state_of}
use Rattle.trace_check.proofs.checker.Checker.is_answer_guarded.Goals as goal

pub returns-in-Issue : goal.returns-in-Issue
returns-in-Issue c a own =
    let v = c.args.self.now
    in let i = c.in-Issue
    in ap (λ t. t && (i.seq == c.issued.result)) (c.is_lane-is_free.ensures ∙ ap (λ o. is_lane o i.lane) (c.free_lane.ensures.lowest ∙ ap (λ (n : MachineSpec). free_lane n (state_of v) c.args.core) v.inflight_machine))
    ∙ ap (λ (n : ℕ). is_lane (free_lane v.machine (state_of v) c.args.core) i.lane && (i.seq == n)) c.issued.ensures
    ∙ ap (λ (d : CoreId). is_lane (free_lane v.machine (state_of v) d) i.lane && (i.seq == slice_index v.inflight.state.issues d.0)) (sym own)
    ∙ ap (guard v.machine (state_of v) a) (sym i.is)
