use Rattle.std.proofs.Common.{◌≡◌, ◌+◌, get_or, slice_set, Some, sym, ap, subst, ◌∙◌, rules, arith}
use Rattle.std.proofs.lemmas.Option.{slice_get-get_or}
use Rattle.pei_types.specs.Core.{core_config, next_of}
use Rattle.pei_types.specs.Ends.{ends_of}
use Rattle.pei_types.specs.Schedule.{by_row}
use Rattle.std.specs.Prelude.{slice_get, ◌<◌}
use Rattle.pei_types.specs.declared.identifiers.CoreId.{CoreId}
use Rattle.core_exec.specs.CoreView.{Standing}
use Rattle.pei_types.proofs.Identities.{core_within}
use Rattle.fabric.specs.History.{History, program_of}
use Rattle.sched_run.specs.DefinedRun.{IsAt, run_in}
use Rattle.sched_run.specs.Steps.{TookIn, program_row, run_at, with_made}
use Rattle.sched_run.proofs.Stepped.{event_noted}
use Rattle.sched_run.proofs.ActorTurns.{asks, cores_event, cores_stall, ends_event, event_made, event_none, goes_on, program_turn_is}
use Rattle.sched_run.proofs.running.Running.turn_of_program.Goals as goal

pub program_turn-requires-clause-fence : goal.program_turn-requires-clause-fence
program_turn-requires-clause-fence c =
    let p = c.args.program.now
    in let v = c.args.self.now
    in let a = c.args.actor
    in asks (record { grow = c.folds_grow.ensures; once = c.core_stops_once.ensures; whole = c.whole_runs_are_legal.ensures }) p v a c.requires.running c.requires.actor (get_or v.cores a.core.0 c.index-self-actor.result) (slice_get-get_or v.cores a.core.0 c.index-self-actor.result (search rules))

pub note_end-requires : goal.note_end-requires
note_end-requires c =
    let p = c.args.program.now
    in let v = c.args.self.now
    in let a = c.args.actor
    in let row = event_made (program_of a.core) (program_row (next_of p (core_config v.fabric.machine) (get_or v.cores a.core.0 c.index-self-actor.result).state) v.fabric a.core) c.in-Some.event (sym c.program_turn.ensures.row ∙ c.in-Some.is)
    in let is : c.in-Some.event.actor ≡ a = row.1 ∙ ap (λ n. record { core = a.core; lane = record { 0 = n } }) (sym c.requires.program)
    in let made : c.program_turn.new.fabric ≡ with_made v.fabric (Some c.in-Some.event) = c.program_turn.ensures.made ∙ ap (with_made v.fabric) c.in-Some.is
    in let took = subst (λ o. TookIn p (core_config v.fabric.machine) (get_or v.cores a.core.0 c.index-self-actor.result).state c.program_turn.new.core.state o) c.in-Some.is c.program_turn.ensures.core
    in let core = ap (λ b. b.core.0) is
    in let inside = core_within v.fabric.machine a c.requires.actor
    in omega (arith, core, inside, v.fabric.machine.cores_in_limits.1)

pub returns-in-Some-clause-running : goal.returns-in-Some-clause-running
returns-in-Some-clause-running c =
    let p = c.args.program.now
    in let v = c.args.self.now
    in let a = c.args.actor
    in let row = event_made (program_of a.core) (program_row (next_of p (core_config v.fabric.machine) (get_or v.cores a.core.0 c.index-self-actor.result).state) v.fabric a.core) c.in-Some.event (sym c.program_turn.ensures.row ∙ c.in-Some.is)
    in let is : c.in-Some.event.actor ≡ a = row.1 ∙ ap (λ n. record { core = a.core; lane = record { 0 = n } }) (sym c.requires.program)
    in let made : c.program_turn.new.fabric ≡ with_made v.fabric (Some c.in-Some.event) = c.program_turn.ensures.made ∙ ap (with_made v.fabric) c.in-Some.is
    in let took = subst (λ o. TookIn p (core_config v.fabric.machine) (get_or v.cores a.core.0 c.index-self-actor.result).state c.program_turn.new.core.state o) c.in-Some.is c.program_turn.ensures.core
    in goes_on (record { grow = c.folds_grow.ensures; once = c.core_stops_once.ensures; whole = c.whole_runs_are_legal.ensures }) p v a c.requires.running c.requires.actor (record { fabric = c.program_turn.new.fabric; desk = c.note.new.self; cores = slice_set v.cores a.core.0 c.program_turn.new.core; ends = c.note_end.new.ends; stalls = v.stalls }) c.requires.room (ap (λ h. h.machine) made) (ap (λ h. h.image) made) (λ turns. ap (λ h. run_at h c.note.new.self (turns + 1) v.stalls) made ∙ event_noted v.fabric v.desk a turns v.stalls c.in-Some.event c.note.new.self is c.note.ensures ∙ sym (program_turn_is (record { grow = c.folds_grow.ensures; once = c.core_stops_once.ensures; whole = c.whole_runs_are_legal.ensures }) p v a c.requires.running c.requires.actor (get_or v.cores a.core.0 c.index-self-actor.result) (slice_get-get_or v.cores a.core.0 c.index-self-actor.result (search rules)) c.requires.program turns ∙ ap (by_row (run_in v turns) a) row.0))
    (subst (λ (h : History). (k : CoreId) (u : Standing) → k.0 < h.machine.cores → slice_get (slice_set v.cores a.core.0 c.program_turn.new.core) k.0 ≡ Some u → IsAt p h.machine h.image h.journal k u.state) (sym made) (cores_event (record { grow = c.folds_grow.ensures; once = c.core_stops_once.ensures; whole = c.whole_runs_are_legal.ensures }) p v a c.requires.running c.requires.actor (get_or v.cores a.core.0 c.index-self-actor.result) (slice_get-get_or v.cores a.core.0 c.index-self-actor.result (search rules)) c.in-Some.event c.program_turn.new.core is took))
    (ends_event (record { grow = c.folds_grow.ensures; once = c.core_stops_once.ensures; whole = c.whole_runs_are_legal.ensures }) p v a c.requires.running c.requires.actor c.in-Some.event c.note_end.new.ends is c.note_end.ensures ∙ ap (λ (h : History). ends_of h.journal) (sym made))

pub returns-in-Some-clause-turn : goal.returns-in-Some-clause-turn
returns-in-Some-clause-turn c =
    let p = c.args.program.now
    in let v = c.args.self.now
    in let a = c.args.actor
    in let row = event_made (program_of a.core) (program_row (next_of p (core_config v.fabric.machine) (get_or v.cores a.core.0 c.index-self-actor.result).state) v.fabric a.core) c.in-Some.event (sym c.program_turn.ensures.row ∙ c.in-Some.is)
    in let is : c.in-Some.event.actor ≡ a = row.1 ∙ ap (λ n. record { core = a.core; lane = record { 0 = n } }) (sym c.requires.program)
    in let made : c.program_turn.new.fabric ≡ with_made v.fabric (Some c.in-Some.event) = c.program_turn.ensures.made ∙ ap (with_made v.fabric) c.in-Some.is
    in let took = subst (λ o. TookIn p (core_config v.fabric.machine) (get_or v.cores a.core.0 c.index-self-actor.result).state c.program_turn.new.core.state o) c.in-Some.is c.program_turn.ensures.core
    in (λ turns. ap (λ h. run_at h c.note.new.self (turns + 1) v.stalls) made ∙ event_noted v.fabric v.desk a turns v.stalls c.in-Some.event c.note.new.self is c.note.ensures ∙ sym (program_turn_is (record { grow = c.folds_grow.ensures; once = c.core_stops_once.ensures; whole = c.whole_runs_are_legal.ensures }) p v a c.requires.running c.requires.actor (get_or v.cores a.core.0 c.index-self-actor.result) (slice_get-get_or v.cores a.core.0 c.index-self-actor.result (search rules)) c.requires.program turns ∙ ap (by_row (run_in v turns) a) row.0))

pub returns-in-None-clause-running : goal.returns-in-None-clause-running
returns-in-None-clause-running c =
    let p = c.args.program.now
    in let v = c.args.self.now
    in let a = c.args.actor
    in let row = event_none (program_of a.core) (program_row (next_of p (core_config v.fabric.machine) (get_or v.cores a.core.0 c.index-self-actor.result).state) v.fabric a.core) (sym c.program_turn.ensures.row ∙ c.in-None.is)
    in let made : c.program_turn.new.fabric ≡ v.fabric = c.program_turn.ensures.made ∙ ap (with_made v.fabric) c.in-None.is
    in let took = subst (λ o. TookIn p (core_config v.fabric.machine) (get_or v.cores a.core.0 c.index-self-actor.result).state c.program_turn.new.core.state o) c.in-None.is c.program_turn.ensures.core
    in goes_on (record { grow = c.folds_grow.ensures; once = c.core_stops_once.ensures; whole = c.whole_runs_are_legal.ensures }) p v a c.requires.running c.requires.actor (record { fabric = c.program_turn.new.fabric; desk = v.desk; cores = slice_set v.cores a.core.0 c.program_turn.new.core; ends = v.ends; stalls = v.stalls + 1 }) c.requires.room (ap (λ h. h.machine) made) (ap (λ h. h.image) made) (λ turns. ap (λ h. run_at h v.desk (turns + 1) (v.stalls + 1)) made ∙ sym (program_turn_is (record { grow = c.folds_grow.ensures; once = c.core_stops_once.ensures; whole = c.whole_runs_are_legal.ensures }) p v a c.requires.running c.requires.actor (get_or v.cores a.core.0 c.index-self-actor.result) (slice_get-get_or v.cores a.core.0 c.index-self-actor.result (search rules)) c.requires.program turns ∙ ap (by_row (run_in v turns) a) row.1))
    (subst (λ (h : History). (k : CoreId) (u : Standing) → k.0 < h.machine.cores → slice_get (slice_set v.cores a.core.0 c.program_turn.new.core) k.0 ≡ Some u → IsAt p h.machine h.image h.journal k u.state) (sym made) (cores_stall (record { grow = c.folds_grow.ensures; once = c.core_stops_once.ensures; whole = c.whole_runs_are_legal.ensures }) p v a c.requires.running c.requires.actor (get_or v.cores a.core.0 c.index-self-actor.result) (slice_get-get_or v.cores a.core.0 c.index-self-actor.result (search rules)) c.program_turn.new.core took))
    (c.requires.running.ends ∙ ap (λ (h : History). ends_of h.journal) (sym made))

pub returns-in-None-clause-turn : goal.returns-in-None-clause-turn
returns-in-None-clause-turn c =
    let p = c.args.program.now
    in let v = c.args.self.now
    in let a = c.args.actor
    in let row = event_none (program_of a.core) (program_row (next_of p (core_config v.fabric.machine) (get_or v.cores a.core.0 c.index-self-actor.result).state) v.fabric a.core) (sym c.program_turn.ensures.row ∙ c.in-None.is)
    in let made : c.program_turn.new.fabric ≡ v.fabric = c.program_turn.ensures.made ∙ ap (with_made v.fabric) c.in-None.is
    in let took = subst (λ o. TookIn p (core_config v.fabric.machine) (get_or v.cores a.core.0 c.index-self-actor.result).state c.program_turn.new.core.state o) c.in-None.is c.program_turn.ensures.core
    in (λ turns. ap (λ h. run_at h v.desk (turns + 1) (v.stalls + 1)) made ∙ sym (program_turn_is (record { grow = c.folds_grow.ensures; once = c.core_stops_once.ensures; whole = c.whole_runs_are_legal.ensures }) p v a c.requires.running c.requires.actor (get_or v.cores a.core.0 c.index-self-actor.result) (slice_get-get_or v.cores a.core.0 c.index-self-actor.result (search rules)) c.requires.program turns ∙ ap (by_row (run_in v turns) a) row.1))
