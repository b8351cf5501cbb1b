use Rattle.std.proofs.Common.{◌≡◌, ◌<◌, ◌^◌, ◌-◌, true, sym, ◌∙◌, ap, subst, refl}
use Rattle.std.specs.Prelude.{IsTrue}
use Rattle.pei_types.specs.declared.calls.Call.{Call}
use Rattle.pei_types.specs.Core.{Calls, after_answer, at_stop, core_config, next_of}
use Rattle.core_exec.specs.CoreView.{is_request}
use Rattle.shared_table.specs.Journal.{events}
use Rattle.shared_table.specs.Owes.{MayMake}
use Rattle.shared_table.specs.Parts.{seen}
use Rattle.host_run.specs.Own.{core_of, own_events}
use Rattle.host_run.proofs.EventSteps.{event_asks, event_claimed, event_issues, event_lane, event_may, event_others, event_turn}
use Rattle.host_run.proofs.Sent.{slot_crosses}
use Rattle.host_run.proofs.visits.Place.give_event.Goals as goal

pub give-requires-send-S : goal.give-requires-send-S
give-requires-send-S g c κs within = slot_crosses _ _ g.L.Run c.type_bounds.send-L

pub give-requires-clause-event : goal.give-requires-clause-event
give-requires-clause-event g c κs within =
    let b = c.args.held.value.bank.value
    in λ y there.
    subst (λ n. MayMake n c.args.seat.now.knows.side (events (seen b.bank c.args.seat.now)) y.event) (sym c.args.self.now.banks_are)
    (event_may c.laws.ensures g.L.Run.program g.L.Run.machine g.L.Run.image c.args.self.now.table.now.table c.args.seat.now c.args.run.now b c.args.stamp c.args.event.now c.args.held.value.machine c.args.held.value.image c.requires.slot c.requires.log c.requires.keeps c.requires.core c.requires.row c.requires.entering c.is_in_order.ensures.rows c.is_in_order.ensures.fitting
    c.requires.ending y there)

pub give-requires-clause-others : goal.give-requires-clause-others
give-requires-clause-others g c κs within =
    event_others c.laws.ensures g.L.Run.program g.L.Run.machine g.L.Run.image c.args.self.now.table.now.table c.args.seat.now c.args.run.now c.args.held.value.bank.value c.args.stamp c.args.event.now c.args.held.value.machine c.args.held.value.image c.requires.slot c.requires.log c.requires.keeps c.requires.core c.requires.row c.requires.entering c.is_in_order.ensures.rows c.is_in_order.ensures.fitting

pub give-requires-clause-claims : goal.give-requires-clause-claims
give-requires-clause-claims g c κs within =
    event_claimed c.laws.ensures g.L.Run.program g.L.Run.machine g.L.Run.image c.args.self.now.table.now.table c.args.seat.now c.args.run.now c.args.held.value.bank.value c.args.stamp c.args.event.now c.args.held.value.machine c.args.held.value.image c.requires.slot c.requires.log c.requires.keeps c.requires.core c.requires.row c.requires.entering c.is_in_order.ensures.rows c.is_in_order.ensures.fitting

pub take_in-requires-clause-lane : goal.take_in-requires-clause-lane
take_in-requires-clause-lane g c =
    event_lane c.laws.ensures g.L.Run.program g.L.Run.machine g.L.Run.image c.args.self.now.table.now.table c.args.seat.now c.args.run.now c.args.held.value.bank.value c.args.stamp c.args.event.now c.args.held.value.machine c.args.held.value.image c.requires.slot c.requires.log c.requires.keeps c.requires.core c.requires.row c.requires.entering c.is_in_order.ensures.rows c.is_in_order.ensures.fitting

pub take_in-requires-clause-issues : goal.take_in-requires-clause-issues
take_in-requires-clause-issues g c =
    event_issues c.laws.ensures g.L.Run.program g.L.Run.machine g.L.Run.image c.args.self.now.table.now.table c.args.seat.now c.args.run.now c.args.held.value.bank.value c.args.stamp c.args.event.now c.args.held.value.machine c.args.held.value.image c.requires.slot c.requires.log c.requires.keeps c.requires.core c.requires.row c.requires.entering c.is_in_order.ensures.rows c.is_in_order.ensures.fitting
    c.requires.above c.requires.below

pub take_in-requires-clause-asks : goal.take_in-requires-clause-asks
take_in-requires-clause-asks g c = λ on.
    let there =
    event_asks c.laws.ensures g.L.Run.program g.L.Run.machine g.L.Run.image c.args.self.now.table.now.table c.args.seat.now c.args.run.now c.args.held.value.bank.value c.args.stamp c.args.event.now c.args.held.value.machine c.args.held.value.image c.requires.slot c.requires.log c.requires.keeps c.requires.core c.requires.row c.requires.entering c.is_in_order.ensures.rows c.is_in_order.ensures.fitting
    on
    in (
      there.0,
      ap (λ p. next_of p (core_config c.args.self.now.spec.now) c.args.run.now.core.state) c.args.self.now.program_is
          ∙ ap (λ m. next_of g.L.Run.program (core_config m) c.args.run.now.core.state) c.args.self.now.machine_is
          ∙ there.1,
      there.2,
    )

pub returns-then-not-run-clause-turn : goal.returns-then-not-run-clause-turn
returns-then-not-run-clause-turn g c =
    let in_it = c.take_in.ensures
    in event_turn c.laws.ensures g.L.Run.program g.L.Run.machine g.L.Run.image c.args.self.now.table.now.table c.args.seat.now c.args.run.now c.args.held.value.bank.value c.args.stamp c.args.event.now c.args.held.value.machine c.args.held.value.image c.requires.slot c.requires.log c.requires.keeps c.requires.core c.requires.row c.requires.entering c.is_in_order.ensures.rows c.is_in_order.ensures.fitting
    c.give.new.seat _ c.give.ensures c.requires.above c.is_in_order.ensures.rising c.requires.missed c.requires.home
    (in_it.core
    ∙ ap (λ p. after_answer p (at_stop p (core_config c.args.self.now.spec.now) c.args.run.now.core.state) c.args.event.now.kind) c.args.self.now.program_is
    ∙ ap (λ m. after_answer g.L.Run.program (at_stop g.L.Run.program (core_config m) c.args.run.now.core.state) c.args.event.now.kind) c.args.self.now.machine_is)
    in_it.end (in_it.keeps g.L.Run.machine (core_of c.args.seat.now) (own_events c.args.seat.now)) in_it.fence in_it.lanes in_it.spent in_it.cleared

pub returns-else-not-run-clause-turn : goal.returns-else-not-run-clause-turn
returns-else-not-run-clause-turn g c =
    let in_it = c.take_in.ensures
    in event_turn c.laws.ensures g.L.Run.program g.L.Run.machine g.L.Run.image c.args.self.now.table.now.table c.args.seat.now c.args.run.now c.args.held.value.bank.value c.args.stamp c.args.event.now c.args.held.value.machine c.args.held.value.image c.requires.slot c.requires.log c.requires.keeps c.requires.core c.requires.row c.requires.entering c.is_in_order.ensures.rows c.is_in_order.ensures.fitting
    c.give.new.seat _ c.give.ensures c.requires.above c.is_in_order.ensures.rising c.requires.missed c.requires.home
    (in_it.core
    ∙ ap (λ p. after_answer p (at_stop p (core_config c.args.self.now.spec.now) c.args.run.now.core.state) c.args.event.now.kind) c.args.self.now.program_is
    ∙ ap (λ m. after_answer g.L.Run.program (at_stop g.L.Run.program (core_config m) c.args.run.now.core.state) c.args.event.now.kind) c.args.self.now.machine_is)
    in_it.end (in_it.keeps g.L.Run.machine (core_of c.args.seat.now) (own_events c.args.seat.now)) in_it.fence in_it.lanes in_it.spent in_it.cleared
