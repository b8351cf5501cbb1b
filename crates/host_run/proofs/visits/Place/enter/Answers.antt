use Rattle.std.proofs.Common.{◌≡◌, ℕ, true, false, sym, ◌∙◌, ap, subst, Some, None, refl, IfSome}
use Rattle.pei_types.specs.declared.calls.Call.{Call}
use Rattle.pei_types.specs.declared.machines.MachineSpec.{MachineSpec}
use Rattle.bank_laws.specs.Rows.{IsRowIn, bank_look}
use Rattle.fabric.specs.Banks.{BankHistory}
use Rattle.shared_table.specs.Journal.{events}
use Rattle.shared_table.specs.Parts.{seen}
use Rattle.host_run.specs.ThreadInvariant.{FencesAtHome}
use Rattle.host_run.specs.Own.{KeepsEvents, core_of, own_events, own_state}
use Rattle.host_run.proofs.LaneEvents.{is_drawn, visit_ends, visit_entering, visit_home, visit_new, visit_row, visit_free}
use Rattle.host_run.proofs.visits.Place.enter.Goals as goal

pub enter-event-requires-clause-free : goal.enter-event-requires-clause-free
enter-event-requires-clause-free g c =
    visit_free c.laws.ensures g.L.Run.program g.L.Run.machine g.L.Run.image c.args.self.now.table.now.table c.bank_of-bank.result c.hold-held.result.value.bank.value c.in-Some.stamp c.args.seat.now c.draw.new.seat c.args.run.now c.hold-held.new.run
    (is_drawn g.L.Run.program g.L.Run.machine g.L.Run.image c.args.self.now.table.now.table c.bank_of-bank.result c.hold-held.result.value.bank.value c.in-Some.stamp c.args.seat.now c.hold-held.new.seat c.draw.new.seat c.args.run.now c.hold-held.new.run c.hold-held.result.value.machine c.hold-held.result.value.image c.hold-held.ensures.bank c.hold-held.ensures.slot c.hold-held.ensures.seat c.hold-held.ensures.claims c.hold-held.ensures.run c.draw.result c.in-Some.is c.draw.ensures.some c.draw.ensures.keeps c.draw.ensures.seat c.draw.ensures.claims) c.args.self.now.core c.requires.core c.args.look.now
    (c.requires.look)
    c.args.lane c.requires.lane.0 c.requires.lane.1 c.args.pei c.requires.pei.0 c.requires.pei.1 c.requires.pei.2 c.requires.held

pub enter-event-requires-clause-new : goal.enter-event-requires-clause-new
enter-event-requires-clause-new g c =
    visit_new c.laws.ensures g.L.Run.program g.L.Run.machine g.L.Run.image c.args.self.now.table.now.table c.bank_of-bank.result c.hold-held.result.value.bank.value c.in-Some.stamp c.args.seat.now c.draw.new.seat c.args.run.now c.hold-held.new.run
    (is_drawn g.L.Run.program g.L.Run.machine g.L.Run.image c.args.self.now.table.now.table c.bank_of-bank.result c.hold-held.result.value.bank.value c.in-Some.stamp c.args.seat.now c.hold-held.new.seat c.draw.new.seat c.args.run.now c.hold-held.new.run c.hold-held.result.value.machine c.hold-held.result.value.image c.hold-held.ensures.bank c.hold-held.ensures.slot c.hold-held.ensures.seat c.hold-held.ensures.claims c.hold-held.ensures.run c.draw.result c.in-Some.is c.draw.ensures.some c.draw.ensures.keeps c.draw.ensures.seat c.draw.ensures.claims) c.args.self.now.core c.requires.core c.args.look.now
    (c.requires.look)

pub give_event-requires-clause-row : goal.give_event-requires-clause-row
give_event-requires-clause-row g c κs within =
    subst (λ j. IsRowIn g.L.Run.program g.L.Run.machine g.L.Run.image j (events (seen j c.draw.new.seat)) (own_events c.draw.new.seat) c.enter-event.result) (sym (ap (λ (h : BankHistory). h.bank) c.enter-event.ensures.log ∙ c.hold-held.ensures.bank))
    (visit_row c.laws.ensures g.L.Run.program g.L.Run.machine g.L.Run.image c.args.self.now.table.now.table c.bank_of-bank.result c.hold-held.result.value.bank.value c.in-Some.stamp c.args.seat.now c.draw.new.seat c.args.run.now c.hold-held.new.run
    (is_drawn g.L.Run.program g.L.Run.machine g.L.Run.image c.args.self.now.table.now.table c.bank_of-bank.result c.hold-held.result.value.bank.value c.in-Some.stamp c.args.seat.now c.hold-held.new.seat c.draw.new.seat c.args.run.now c.hold-held.new.run c.hold-held.result.value.machine c.hold-held.result.value.image c.hold-held.ensures.bank c.hold-held.ensures.slot c.hold-held.ensures.seat c.hold-held.ensures.claims c.hold-held.ensures.run c.draw.result c.in-Some.is c.draw.ensures.some c.draw.ensures.keeps c.draw.ensures.seat c.draw.ensures.claims) c.args.self.now.core c.requires.core c.args.look.now
    (c.requires.look)
    c.args.lane c.requires.lane.0 c.requires.lane.1 c.args.pei c.requires.pei.0 c.requires.pei.1 true c.requires.pei.2 c.enter-event.result c.enter-event.ensures.actor c.enter-event.ensures.row)

pub give_event-requires-clause-entering : goal.give_event-requires-clause-entering
give_event-requires-clause-entering g c κs within =
    visit_entering c.laws.ensures g.L.Run.program g.L.Run.machine g.L.Run.image c.args.self.now.table.now.table c.bank_of-bank.result c.hold-held.result.value.bank.value c.in-Some.stamp c.args.seat.now c.draw.new.seat c.args.run.now c.hold-held.new.run
    (is_drawn g.L.Run.program g.L.Run.machine g.L.Run.image c.args.self.now.table.now.table c.bank_of-bank.result c.hold-held.result.value.bank.value c.in-Some.stamp c.args.seat.now c.hold-held.new.seat c.draw.new.seat c.args.run.now c.hold-held.new.run c.hold-held.result.value.machine c.hold-held.result.value.image c.hold-held.ensures.bank c.hold-held.ensures.slot c.hold-held.ensures.seat c.hold-held.ensures.claims c.hold-held.ensures.run c.draw.result c.in-Some.is c.draw.ensures.some c.draw.ensures.keeps c.draw.ensures.seat c.draw.ensures.claims) c.args.self.now.core c.requires.core c.args.look.now
    (c.requires.look)
    c.args.lane c.requires.lane.0 c.requires.lane.1 c.args.pei c.requires.pei.0 c.requires.pei.1 true c.requires.pei.2 c.enter-event.result c.enter-event.ensures.actor c.enter-event.ensures.row
    (λ on. c.requires.held)

pub give_event-requires-clause-home : goal.give_event-requires-clause-home
give_event-requires-clause-home g c κs within =
    subst (λ j. FencesAtHome (core_of c.draw.new.seat) (record { bank = j; event = c.enter-event.result })) (sym (ap (λ (h : BankHistory). h.bank) c.enter-event.ensures.log ∙ c.hold-held.ensures.bank))
    (visit_home c.laws.ensures g.L.Run.program g.L.Run.machine g.L.Run.image c.args.self.now.table.now.table c.bank_of-bank.result c.hold-held.result.value.bank.value c.in-Some.stamp c.args.seat.now c.draw.new.seat c.args.run.now c.hold-held.new.run
    (is_drawn g.L.Run.program g.L.Run.machine g.L.Run.image c.args.self.now.table.now.table c.bank_of-bank.result c.hold-held.result.value.bank.value c.in-Some.stamp c.args.seat.now c.hold-held.new.seat c.draw.new.seat c.args.run.now c.hold-held.new.run c.hold-held.result.value.machine c.hold-held.result.value.image c.hold-held.ensures.bank c.hold-held.ensures.slot c.hold-held.ensures.seat c.hold-held.ensures.claims c.hold-held.ensures.run c.draw.result c.in-Some.is c.draw.ensures.some c.draw.ensures.keeps c.draw.ensures.seat c.draw.ensures.claims) c.args.self.now.core c.requires.core c.args.look.now
    (c.requires.look)
    c.args.lane c.requires.lane.0 c.requires.lane.1 c.args.pei c.requires.pei.0 c.requires.pei.1 true c.requires.pei.2 c.enter-event.result c.enter-event.ensures.actor c.enter-event.ensures.row)

pub give_event-requires-clause-ending : goal.give_event-requires-clause-ending
give_event-requires-clause-ending g c κs within =
    visit_ends c.laws.ensures g.L.Run.program g.L.Run.machine g.L.Run.image c.args.self.now.table.now.table c.bank_of-bank.result c.hold-held.result.value.bank.value c.in-Some.stamp c.args.seat.now c.draw.new.seat c.args.run.now c.hold-held.new.run
    (is_drawn g.L.Run.program g.L.Run.machine g.L.Run.image c.args.self.now.table.now.table c.bank_of-bank.result c.hold-held.result.value.bank.value c.in-Some.stamp c.args.seat.now c.hold-held.new.seat c.draw.new.seat c.args.run.now c.hold-held.new.run c.hold-held.result.value.machine c.hold-held.result.value.image c.hold-held.ensures.bank c.hold-held.ensures.slot c.hold-held.ensures.seat c.hold-held.ensures.claims c.hold-held.ensures.run c.draw.result c.in-Some.is c.draw.ensures.some c.draw.ensures.keeps c.draw.ensures.seat c.draw.ensures.claims) c.args.self.now.core c.requires.core c.args.look.now
    (c.requires.look)
    c.args.lane c.requires.lane.0 c.requires.lane.1 c.args.pei c.requires.pei.0 c.requires.pei.1 true c.requires.pei.2 c.enter-event.result c.enter-event.ensures.actor c.enter-event.ensures.row
