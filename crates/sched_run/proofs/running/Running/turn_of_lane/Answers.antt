use Rattle.pei_types.specs.Core.{core_config}
use Rattle.std.proofs.Common.{◌≡◌, ◌+◌, get_or, slice_set, Some, refl, sym, ap, subst, ◌∙◌, rules}
use Rattle.std.specs.Prelude.{slice_get, ◌<◌}
use Rattle.std.proofs.lemmas.Option.{slice_get-get_or}
use Rattle.pei_types.specs.declared.identifiers.CoreId.{CoreId}
use Rattle.pei_types.specs.Ends.{ends_of}
use Rattle.core_exec.specs.CoreView.{Standing}
use Rattle.fabric.specs.History.{History}
use Rattle.inflight.specs.OnTheWay.{IsLaneOf}
use Rattle.sched_run.specs.DefinedRun.{IsAt}
use Rattle.pei_types.specs.declared.machines.MachineSpec.{MachineSpec}
use Rattle.sched_run.specs.Steps.{TookIn, made_in, waited, with_made}
use Rattle.sched_run.proofs.LaneTurns.{grown, keeps_waiting, lane_turn_to, no_end, own}
use Rattle.sched_run.proofs.ActorTurns.{cores_event, goes_on, lane_of_actor, none_more}
use Rattle.sched_run.proofs.Ready.{ready}
use Rattle.sched_run.proofs.running.Running.turn_of_lane.Goals as goal

pub lane_turn-requires-clause-ready : goal.lane_turn-requires-clause-ready
lane_turn-requires-clause-ready c =
    let p = c.args.program.now
    in let v = c.args.self.now
    in let a = c.args.actor
    in let lane : IsLaneOf v.fabric.machine a.core a.lane = lane_of_actor v.fabric.machine a c.requires.actor c.requires.lane
    in ready c.whole_runs_are_legal-2.ensures c.holding_tells.ensures p v a c.requires.running lane

pub returns-in-Claimed-clause-machine : goal.returns-in-Claimed-clause-machine
returns-in-Claimed-clause-machine c =
    let p = c.args.program.now
    in let v = c.args.self.now
    in let a = c.args.actor
    in let made : c.lane_turn.new.fabric ≡ v.fabric = (c.lane_turn.ensures 0 0).made ∙ ap (λ s. with_made v.fabric (made_in s)) c.in-Claimed.is
    in ap (λ h. h.machine) made

pub returns-in-Claimed-clause-image : goal.returns-in-Claimed-clause-image
returns-in-Claimed-clause-image c =
    let p = c.args.program.now
    in let v = c.args.self.now
    in let a = c.args.actor
    in let made : c.lane_turn.new.fabric ≡ v.fabric = (c.lane_turn.ensures 0 0).made ∙ ap (λ s. with_made v.fabric (made_in s)) c.in-Claimed.is
    in ap (λ h. h.image) made

pub returns-in-Claimed-clause-running : goal.returns-in-Claimed-clause-running
returns-in-Claimed-clause-running c =
    let p = c.args.program.now
    in let v = c.args.self.now
    in let a = c.args.actor
    in let lane : IsLaneOf v.fabric.machine a.core a.lane = lane_of_actor v.fabric.machine a c.requires.actor c.requires.lane
    in let made : c.lane_turn.new.fabric ≡ v.fabric = (c.lane_turn.ensures 0 0).made ∙ ap (λ s. with_made v.fabric (made_in s)) c.in-Claimed.is
    in goes_on (record { grow = c.folds_grow.ensures; once = c.core_stops_once.ensures; whole = c.whole_runs_are_legal.ensures }) p v a c.requires.running c.requires.actor (record { fabric = c.lane_turn.new.fabric; desk = c.lane_turn.new.desk; cores = v.cores; ends = v.ends; stalls = v.stalls }) c.requires.room (ap (λ h. h.machine) made) (ap (λ h. h.image) made) (lane_turn_to (record { grow = c.folds_grow.ensures; once = c.core_stops_once.ensures; whole = c.whole_runs_are_legal.ensures }) p v a c.requires.running c.requires.actor c.requires.room c.requires.lane c.lane_turn.new.fabric c.lane_turn.new.desk c.lane_turn.result c.lane_turn.ensures (record { fabric = c.lane_turn.new.fabric; desk = c.lane_turn.new.desk; cores = v.cores; ends = v.ends; stalls = v.stalls }) refl refl (sym (ap (λ s. v.stalls + waited s) c.in-Claimed.is ∙ none_more v.stalls)))
    (subst (λ (h : History). (k : CoreId) (u : Standing) → k.0 < h.machine.cores → slice_get v.cores k.0 ≡ Some u → IsAt p h.machine h.image h.journal k u.state) (sym made) c.requires.running.cores)
    (c.requires.running.ends ∙ ap (λ (h : History). ends_of h.journal) (sym made))

pub returns-in-Claimed-clause-turn : goal.returns-in-Claimed-clause-turn
returns-in-Claimed-clause-turn c =
    let p = c.args.program.now
    in let v = c.args.self.now
    in let a = c.args.actor
    in (lane_turn_to (record { grow = c.folds_grow.ensures; once = c.core_stops_once.ensures; whole = c.whole_runs_are_legal.ensures }) p v a c.requires.running c.requires.actor c.requires.room c.requires.lane c.lane_turn.new.fabric c.lane_turn.new.desk c.lane_turn.result c.lane_turn.ensures (record { fabric = c.lane_turn.new.fabric; desk = c.lane_turn.new.desk; cores = v.cores; ends = v.ends; stalls = v.stalls }) refl refl (sym (ap (λ s. v.stalls + waited s) c.in-Claimed.is ∙ none_more v.stalls)))

pub returns-in-Waited-clause-machine : goal.returns-in-Waited-clause-machine
returns-in-Waited-clause-machine c =
    let p = c.args.program.now
    in let v = c.args.self.now
    in let a = c.args.actor
    in let made : c.lane_turn.new.fabric ≡ v.fabric = (c.lane_turn.ensures 0 0).made ∙ ap (λ s. with_made v.fabric (made_in s)) c.in-Waited.is
    in ap (λ h. h.machine) made

pub returns-in-Waited-clause-image : goal.returns-in-Waited-clause-image
returns-in-Waited-clause-image c =
    let p = c.args.program.now
    in let v = c.args.self.now
    in let a = c.args.actor
    in let made : c.lane_turn.new.fabric ≡ v.fabric = (c.lane_turn.ensures 0 0).made ∙ ap (λ s. with_made v.fabric (made_in s)) c.in-Waited.is
    in ap (λ h. h.image) made

pub returns-in-Waited-clause-running : goal.returns-in-Waited-clause-running
returns-in-Waited-clause-running c =
    let p = c.args.program.now
    in let v = c.args.self.now
    in let a = c.args.actor
    in let lane : IsLaneOf v.fabric.machine a.core a.lane = lane_of_actor v.fabric.machine a c.requires.actor c.requires.lane
    in let made : c.lane_turn.new.fabric ≡ v.fabric = (c.lane_turn.ensures 0 0).made ∙ ap (λ s. with_made v.fabric (made_in s)) c.in-Waited.is
    in goes_on (record { grow = c.folds_grow.ensures; once = c.core_stops_once.ensures; whole = c.whole_runs_are_legal.ensures }) p v a c.requires.running c.requires.actor (record { fabric = c.lane_turn.new.fabric; desk = c.lane_turn.new.desk; cores = v.cores; ends = v.ends; stalls = v.stalls + 1 }) c.requires.room (ap (λ h. h.machine) made) (ap (λ h. h.image) made) (lane_turn_to (record { grow = c.folds_grow.ensures; once = c.core_stops_once.ensures; whole = c.whole_runs_are_legal.ensures }) p v a c.requires.running c.requires.actor c.requires.room c.requires.lane c.lane_turn.new.fabric c.lane_turn.new.desk c.lane_turn.result c.lane_turn.ensures (record { fabric = c.lane_turn.new.fabric; desk = c.lane_turn.new.desk; cores = v.cores; ends = v.ends; stalls = v.stalls + 1 }) refl refl (sym (ap (λ s. v.stalls + waited s) c.in-Waited.is)))
    (subst (λ (h : History). (k : CoreId) (u : Standing) → k.0 < h.machine.cores → slice_get v.cores k.0 ≡ Some u → IsAt p h.machine h.image h.journal k u.state) (sym made) c.requires.running.cores)
    (c.requires.running.ends ∙ ap (λ (h : History). ends_of h.journal) (sym made))

pub returns-in-Waited-clause-turn : goal.returns-in-Waited-clause-turn
returns-in-Waited-clause-turn c =
    let p = c.args.program.now
    in let v = c.args.self.now
    in let a = c.args.actor
    in (lane_turn_to (record { grow = c.folds_grow.ensures; once = c.core_stops_once.ensures; whole = c.whole_runs_are_legal.ensures }) p v a c.requires.running c.requires.actor c.requires.room c.requires.lane c.lane_turn.new.fabric c.lane_turn.new.desk c.lane_turn.result c.lane_turn.ensures (record { fabric = c.lane_turn.new.fabric; desk = c.lane_turn.new.desk; cores = v.cores; ends = v.ends; stalls = v.stalls + 1 }) refl refl (sym (ap (λ s. v.stalls + waited s) c.in-Waited.is)))

pub take_in-requires : goal.take_in-requires
take_in-requires c =
    let p = c.args.program.now
    in let v = c.args.self.now
    in let a = c.args.actor
    in keeps_waiting (record { grow = c.folds_grow.ensures; once = c.core_stops_once.ensures; whole = c.whole_runs_are_legal.ensures }) p v a c.requires.running c.requires.actor c.requires.room c.requires.lane c.lane_turn.new.fabric c.lane_turn.new.desk c.lane_turn.result c.lane_turn.ensures c.in-Made.event c.in-Made.is

pub returns-in-Made-clause-machine : goal.returns-in-Made-clause-machine
returns-in-Made-clause-machine c =
    let p = c.args.program.now
    in let v = c.args.self.now
    in let a = c.args.actor
    in let made = grown (record { grow = c.folds_grow.ensures; once = c.core_stops_once.ensures; whole = c.whole_runs_are_legal.ensures }) p v a c.requires.running c.requires.actor c.requires.room c.requires.lane c.lane_turn.new.fabric c.lane_turn.new.desk c.lane_turn.result c.lane_turn.ensures c.in-Made.event c.in-Made.is
    in ap (λ h. h.machine) made

pub returns-in-Made-clause-image : goal.returns-in-Made-clause-image
returns-in-Made-clause-image c =
    let p = c.args.program.now
    in let v = c.args.self.now
    in let a = c.args.actor
    in let made = grown (record { grow = c.folds_grow.ensures; once = c.core_stops_once.ensures; whole = c.whole_runs_are_legal.ensures }) p v a c.requires.running c.requires.actor c.requires.room c.requires.lane c.lane_turn.new.fabric c.lane_turn.new.desk c.lane_turn.result c.lane_turn.ensures c.in-Made.event c.in-Made.is
    in ap (λ h. h.image) made

pub returns-in-Made-clause-running : goal.returns-in-Made-clause-running
returns-in-Made-clause-running c =
    let p = c.args.program.now
    in let v = c.args.self.now
    in let a = c.args.actor
    in let lane : IsLaneOf v.fabric.machine a.core a.lane = lane_of_actor v.fabric.machine a c.requires.actor c.requires.lane
    in let made = grown (record { grow = c.folds_grow.ensures; once = c.core_stops_once.ensures; whole = c.whole_runs_are_legal.ensures }) p v a c.requires.running c.requires.actor c.requires.room c.requires.lane c.lane_turn.new.fabric c.lane_turn.new.desk c.lane_turn.result c.lane_turn.ensures c.in-Made.event c.in-Made.is
    in let took = subst (λ (k : MachineSpec). TookIn p (core_config k) (get_or v.cores a.core.0 c.index-self-actor.result).state c.take_in.new.core.state (Some c.in-Made.event)) (c.machine-machine.ensures ∙ ap (λ h. h.machine) made) c.take_in.ensures
    in goes_on (record { grow = c.folds_grow.ensures; once = c.core_stops_once.ensures; whole = c.whole_runs_are_legal.ensures }) p v a c.requires.running c.requires.actor (record { fabric = c.lane_turn.new.fabric; desk = c.lane_turn.new.desk; cores = slice_set v.cores a.core.0 c.take_in.new.core; ends = v.ends; stalls = v.stalls }) c.requires.room (ap (λ h. h.machine) made) (ap (λ h. h.image) made) (lane_turn_to (record { grow = c.folds_grow.ensures; once = c.core_stops_once.ensures; whole = c.whole_runs_are_legal.ensures }) p v a c.requires.running c.requires.actor c.requires.room c.requires.lane c.lane_turn.new.fabric c.lane_turn.new.desk c.lane_turn.result c.lane_turn.ensures (record { fabric = c.lane_turn.new.fabric; desk = c.lane_turn.new.desk; cores = slice_set v.cores a.core.0 c.take_in.new.core; ends = v.ends; stalls = v.stalls }) refl refl (sym (ap (λ s. v.stalls + waited s) c.in-Made.is ∙ none_more v.stalls)))
    (subst (λ (h : History). (k : CoreId) (u : Standing) → k.0 < h.machine.cores → slice_get (slice_set v.cores a.core.0 c.take_in.new.core) k.0 ≡ Some u → IsAt p h.machine h.image h.journal k u.state) (sym made) (cores_event (record { grow = c.folds_grow.ensures; once = c.core_stops_once.ensures; whole = c.whole_runs_are_legal.ensures }) p v a c.requires.running c.requires.actor (get_or v.cores a.core.0 c.index-self-actor.result) (slice_get-get_or v.cores a.core.0 c.index-self-actor.result (search rules)) c.in-Made.event c.take_in.new.core (own (record { grow = c.folds_grow.ensures; once = c.core_stops_once.ensures; whole = c.whole_runs_are_legal.ensures }) p v a c.requires.running c.requires.actor c.requires.room c.requires.lane c.lane_turn.new.fabric c.lane_turn.new.desk c.lane_turn.result c.lane_turn.ensures c.in-Made.event c.in-Made.is) took))
    (no_end (record { grow = c.folds_grow.ensures; once = c.core_stops_once.ensures; whole = c.whole_runs_are_legal.ensures }) p v a c.requires.running c.requires.actor c.requires.room c.requires.lane c.lane_turn.new.fabric c.lane_turn.new.desk c.lane_turn.result c.lane_turn.ensures c.in-Made.event c.in-Made.is ∙ ap (λ (h : History). ends_of h.journal) (sym made))

pub returns-in-Made-clause-turn : goal.returns-in-Made-clause-turn
returns-in-Made-clause-turn c =
    let p = c.args.program.now
    in let v = c.args.self.now
    in let a = c.args.actor
    in (lane_turn_to (record { grow = c.folds_grow.ensures; once = c.core_stops_once.ensures; whole = c.whole_runs_are_legal.ensures }) p v a c.requires.running c.requires.actor c.requires.room c.requires.lane c.lane_turn.new.fabric c.lane_turn.new.desk c.lane_turn.result c.lane_turn.ensures (record { fabric = c.lane_turn.new.fabric; desk = c.lane_turn.new.desk; cores = slice_set v.cores a.core.0 c.take_in.new.core; ends = v.ends; stalls = v.stalls }) refl refl (sym (ap (λ s. v.stalls + waited s) c.in-Made.is ∙ none_more v.stalls)))
