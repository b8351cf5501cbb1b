use Rattle.std.proofs.Common.{◌≡◌, ℕ, ◌<◌, ◌≤◌, true≢false, List, length, take, sym, ◌∙◌, subst, arith}
use Rattle.std.proofs.lemmas.List.{length-take-le}
use Rattle.std.proofs.lemmas.Option.{slice_get_within}
use Rattle.pei_types.specs.declared.events.Event.{Event}
use Rattle.trace_check.specs.CheckedFront.{Follows}
use Rattle.trace_check.proofs.Taking.{taken, fit_now, looks_now, issued_now, invariants_now, replies_first, actor_first, fits_now, clause_first, may_now, ready_now, follows_on}
use Rattle.trace_check.proofs.checker.Checker.take_event.Goals as goal

pub replies_rightly-requires-clause-fit : goal.replies_rightly-requires-clause-fit
replies_rightly-requires-clause-fit c = fit_now c.laws.ensures c.args.program.now c.args.self.now.machine c.args._image.now (take c.args.i c.args.journal.now.events) c.args.self.now c.requires.follows

pub replies_rightly-requires-clause-issued : goal.replies_rightly-requires-clause-issued
replies_rightly-requires-clause-issued c = issued_now c.laws.ensures c.args.program.now c.args.self.now.machine c.args._image.now (take c.args.i c.args.journal.now.events) c.args.self.now c.requires.follows

pub returns-then-not-replies_rightly-clause-fails : goal.returns-then-not-replies_rightly-clause-fails
returns-then-not-replies_rightly-clause-fails c =
    replies_first c.laws.ensures c.args.program.now c.args.self.now.machine c.args._image.now (take c.args.i c.args.journal.now.events) c.args.self.now c.requires.follows c.args.event.now.actor c.args.event.now.kind (λ h. true≢false (sym (c.replies_rightly.ensures.1 h) ∙ c.if-not-replies_rightly.true))

pub returns-then-not-is_actor-clause-fails : goal.returns-then-not-is_actor-clause-fails
returns-then-not-is_actor-clause-fails c =
    actor_first c.laws.ensures c.args.program.now c.args.self.now.machine c.args._image.now (take c.args.i c.args.journal.now.events) c.args.self.now c.requires.follows c.args.event.now.actor c.args.event.now.kind (c.replies_rightly.ensures.0 c.if-not-replies_rightly.false) (sym c.is_actor.ensures ∙ c.if-not-is_actor.true)

pub first_failure-requires-clause-fits : goal.first_failure-requires-clause-fits
first_failure-requires-clause-fits c = fits_now c.laws.ensures c.args.program.now c.args.self.now.machine c.args._image.now (take c.args.i c.args.journal.now.events) c.args.self.now c.requires.follows c.args.event.now c.run_core-next.new.cores c.run_core-next.result (sym c.is_actor.ensures ∙ c.if-not-is_actor.false) c.run_core-next.ensures

pub first_failure-requires-clause-act : goal.first_failure-requires-clause-act
first_failure-requires-clause-act c = looks_now c.laws.ensures c.args.program.now c.args.self.now.machine c.args._image.now (take c.args.i c.args.journal.now.events) c.args.self.now c.requires.follows

pub first_failure-requires-clause-invariants : goal.first_failure-requires-clause-invariants
first_failure-requires-clause-invariants c = invariants_now c.laws.ensures c.args.program.now c.args.self.now.machine c.args._image.now (take c.args.i c.args.journal.now.events) c.args.self.now c.requires.follows

pub returns-in-Some-clause-fails : goal.returns-in-Some-clause-fails
returns-in-Some-clause-fails c =
    let events = c.args.journal.now.events
    in let within : c.args.i < length events = slice_get_within events c.args.i c.args.event.now c.requires.here
    in clause_first c.laws.ensures c.args.program.now c.args.self.now.machine c.args._image.now (take c.args.i c.args.journal.now.events) c.args.self.now c.requires.follows c.args.event.now c.run_core-next.new.cores c.run_core-next.result (sym c.is_actor.ensures ∙ c.if-not-is_actor.false) c.run_core-next.ensures c.in-Some.clause c.args.i (sym (length-take-le c.args.i events (omega (arith, within)))) (c.replies_rightly.ensures.0 c.if-not-replies_rightly.false) c.in-Some.ensures.fails

pub go_on-requires-clause-may : goal.go_on-requires-clause-may
go_on-requires-clause-may c =
    let events = c.args.journal.now.events
    in let within : c.args.i < length events = slice_get_within events c.args.i c.args.event.now c.requires.here
    in let so_far : length (take c.args.i events) ≡ c.args.i = length-take-le c.args.i events (omega (arith, within))
    in let limit : c.args.self.now.machine.events ≤ 1048576 = c.args.self.now.machine.events_in_limits.1
    in may_now c.laws.ensures c.args.program.now c.args.self.now.machine c.args._image.now (take c.args.i c.args.journal.now.events) c.args.self.now c.requires.follows c.args.event.now c.run_core-next.new.cores c.run_core-next.result (sym c.is_actor.ensures ∙ c.if-not-is_actor.false) c.run_core-next.ensures (omega (arith, so_far, limit, c.in_default.ensures.none.0)) c.in_default.ensures.none.1

pub go_on-requires-clause-act : goal.go_on-requires-clause-act
go_on-requires-clause-act c = looks_now c.laws.ensures c.args.program.now c.args.self.now.machine c.args._image.now (take c.args.i c.args.journal.now.events) c.args.self.now c.requires.follows

pub go_on-requires-clause-invariants : goal.go_on-requires-clause-invariants
go_on-requires-clause-invariants c = invariants_now c.laws.ensures c.args.program.now c.args.self.now.machine c.args._image.now (take c.args.i c.args.journal.now.events) c.args.self.now c.requires.follows

pub go_on-requires-clause-ready : goal.go_on-requires-clause-ready
go_on-requires-clause-ready c = ready_now c.laws.ensures c.args.program.now c.args.self.now.machine c.args._image.now (take c.args.i c.args.journal.now.events) c.args.self.now c.requires.follows c.args.event.now c.run_core-next.new.cores c.run_core-next.result (sym c.is_actor.ensures ∙ c.if-not-is_actor.false) c.run_core-next.ensures c.in_default.ensures.none.1.answers

pub returns-clause-on : goal.returns-clause-on
returns-clause-on c =
    let events = c.args.journal.now.events
    in let m = c.args.self.now.machine
    in let within : c.args.i < length events = slice_get_within events c.args.i c.args.event.now c.requires.here
    in let so_far : length (take c.args.i events) ≡ c.args.i = length-take-le c.args.i events (omega (arith, within))
    in subst (λ (es : List Event). Follows c.args.program.now m c.args._image.now es c.go_on.new.self) (sym (taken events c.args.i c.args.event.now c.requires.here))
    (follows_on c.laws.ensures c.args.program.now c.args.self.now.machine c.args._image.now (take c.args.i c.args.journal.now.events) c.args.self.now c.requires.follows c.args.event.now c.run_core-next.new.cores c.run_core-next.result (sym c.is_actor.ensures ∙ c.if-not-is_actor.false) c.run_core-next.ensures c.go_on.new.self c.go_on.ensures.machine c.go_on.ensures.state c.go_on.ensures.content c.go_on.ensures.ended (c.go_on.ensures.cores c.args.program.now)
    (subst (λ (n : ℕ). n < m.events) (sym so_far) c.in_default.ensures.none.0) c.in_default.ensures.none.1)
