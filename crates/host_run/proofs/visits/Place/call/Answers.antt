use Rattle.std.proofs.Common.{◌≡◌, ℕ, ◌<◌, sym, ◌∙◌, ap, subst, Some, None}
use Rattle.std.specs.Prelude.{IfSome}
use Rattle.pei_types.specs.declared.calls.Call.{Call}
use Rattle.pei_types.specs.declared.calls.Call.TheVariants as calls
use Rattle.pei_types.specs.declared.machines.MachineSpec.{MachineSpec}
use Rattle.pei_types.specs.Calls.{CallFits}
use Rattle.pei_types.specs.Core.{Calls, core_config}
use Rattle.bank_laws.specs.Rows.{IsCallOf, IsRowIn, bank_look}
use Rattle.fabric.specs.Banks.{AsksWhileFenced, BankHistory, IsHome, waits_of}
use Rattle.fabric.specs.Looks.{open_fence}
use Rattle.shared_table.specs.Journal.{events}
use Rattle.shared_table.specs.Parts.{seen}
use Rattle.host_run.specs.ThreadInvariant.{FencesAtHome}
use Rattle.host_run.specs.Own.{KeepsEvents, core_of, own_events, own_state}
use Rattle.host_run.proofs.LaneEvents.{asks_fenced, fences_rightly, is_drawn, of_some, visit_call_ends, visit_call_entering, visit_call_home, visit_call_row, visit_fence, visit_lane, visit_new, visit_number}
use Rattle.host_run.proofs.visits.Place.call.Goals as goal

pub bank_of_call-bank-requires : goal.bank_of_call-bank-requires
bank_of_call-bank-requires g c =
    subst (λ (m : MachineSpec). CallFits m.blocks c.args.call.now) (sym c.args.self.now.machine_is) (c.laws.ensures.fits g.L.Run.program (core_config g.L.Run.machine) c.args.run.now.core.state c.args.call.now c.requires.call)

pub call-event-requires-clause-may : goal.call-event-requires-clause-may
call-event-requires-clause-may g c = record {
  core = subst (λ (m : MachineSpec). c.args.self.now.core.0 < m.cores) (sym c.hold-held.result.value.machine) c.args.self.now.core_is;
  goes = c.waits.ensures.goes c.if-waits.false;
  fits = subst (λ (m : MachineSpec). CallFits m.blocks c.args.call.now) (sym c.hold-held.result.value.machine) (c.laws.ensures.fits g.L.Run.program (core_config g.L.Run.machine) c.args.run.now.core.state c.args.call.now c.requires.call);
  asks = subst (λ o. AsksWhileFenced o c.args.call.now) (sym c.look-look.ensures.fence) (asks_fenced c.args.run.now.own.fence c.args.call.now (c.args.run.now.own.cleared ≡ g.L.Run.machine.banks) c.requires.fence);
  here = subst (λ k. IsCallOf c.hold-held.result.value.bank.value.machine k (Calls c.args.call.now)) (sym c.hold-held.ensures.bank) (subst (λ m. IsCallOf m c.bank_of_call-bank.result (Calls c.args.call.now)) (c.args.self.now.machine_is ∙ sym c.hold-held.result.value.machine) c.bank_of_call-bank.ensures.here);
  home = subst (λ k. IsHome k c.args.call.now) (sym c.hold-held.ensures.bank) c.bank_of_call-bank.ensures.home;
  lane =
      visit_lane c.laws.ensures g.L.Run.program g.L.Run.machine g.L.Run.image c.args.self.now.table.now.table c.bank_of_call-bank.result c.hold-held.result.value.bank.value c.in-Some.stamp c.args.seat.now c.draw.new.seat c.args.run.now c.hold-held.new.run
      (is_drawn g.L.Run.program g.L.Run.machine g.L.Run.image c.args.self.now.table.now.table c.bank_of_call-bank.result c.hold-held.result.value.bank.value c.in-Some.stamp c.args.seat.now c.hold-held.new.seat c.draw.new.seat c.args.run.now c.hold-held.new.run c.hold-held.result.value.machine c.hold-held.result.value.image c.hold-held.ensures.bank c.hold-held.ensures.slot c.hold-held.ensures.seat c.hold-held.ensures.claims c.hold-held.ensures.run c.draw.result c.in-Some.is c.draw.ensures.some c.draw.ensures.keeps c.draw.ensures.seat c.draw.ensures.claims) c.args.self.now.core c.requires.core c.look-look.result
      (c.look-look.ensures.look g.L.Run.machine (own_events c.args.seat.now) (subst (λ d. KeepsEvents g.L.Run.machine d (own_events c.args.seat.now) c.args.run.now.own) (sym c.requires.core) c.requires.turn.keeps.peis.kept) (ap (λ (x : MachineSpec). x.buffer) c.args.self.now.machine_is) ∙ ap (bank_look g.L.Run.machine (own_state g.L.Run.machine c.args.seat.now)) c.requires.core);
  number =
      visit_number c.laws.ensures g.L.Run.program g.L.Run.machine g.L.Run.image c.args.self.now.table.now.table c.bank_of_call-bank.result c.hold-held.result.value.bank.value c.in-Some.stamp c.args.seat.now c.draw.new.seat c.args.run.now c.hold-held.new.run
      (is_drawn g.L.Run.program g.L.Run.machine g.L.Run.image c.args.self.now.table.now.table c.bank_of_call-bank.result c.hold-held.result.value.bank.value c.in-Some.stamp c.args.seat.now c.hold-held.new.seat c.draw.new.seat c.args.run.now c.hold-held.new.run c.hold-held.result.value.machine c.hold-held.result.value.image c.hold-held.ensures.bank c.hold-held.ensures.slot c.hold-held.ensures.seat c.hold-held.ensures.claims c.hold-held.ensures.run c.draw.result c.in-Some.is c.draw.ensures.some c.draw.ensures.keeps c.draw.ensures.seat c.draw.ensures.claims) c.args.self.now.core c.requires.core c.look-look.result
      (c.look-look.ensures.look g.L.Run.machine (own_events c.args.seat.now) (subst (λ d. KeepsEvents g.L.Run.machine d (own_events c.args.seat.now) c.args.run.now.own) (sym c.requires.core) c.requires.turn.keeps.peis.kept) (ap (λ (x : MachineSpec). x.buffer) c.args.self.now.machine_is) ∙ ap (bank_look g.L.Run.machine (own_state g.L.Run.machine c.args.seat.now)) c.requires.core)
      c.args.call.now;
  fence = fences_rightly c.hold-held.result.value.bank.value c.args.self.now.core c.look-look.result c.args.call.now (λ is.
      visit_fence c.laws.ensures g.L.Run.program g.L.Run.machine g.L.Run.image c.args.self.now.table.now.table c.bank_of_call-bank.result c.hold-held.result.value.bank.value c.in-Some.stamp c.args.seat.now c.draw.new.seat c.args.run.now c.hold-held.new.run
      (is_drawn g.L.Run.program g.L.Run.machine g.L.Run.image c.args.self.now.table.now.table c.bank_of_call-bank.result c.hold-held.result.value.bank.value c.in-Some.stamp c.args.seat.now c.hold-held.new.seat c.draw.new.seat c.args.run.now c.hold-held.new.run c.hold-held.result.value.machine c.hold-held.result.value.image c.hold-held.ensures.bank c.hold-held.ensures.slot c.hold-held.ensures.seat c.hold-held.ensures.claims c.hold-held.ensures.run c.draw.result c.in-Some.is c.draw.ensures.some c.draw.ensures.keeps c.draw.ensures.seat c.draw.ensures.claims) c.args.self.now.core c.requires.core c.look-look.result
      (c.look-look.ensures.look g.L.Run.machine (own_events c.args.seat.now) (subst (λ d. KeepsEvents g.L.Run.machine d (own_events c.args.seat.now) c.args.run.now.own) (sym c.requires.core) c.requires.turn.keeps.peis.kept) (ap (λ (x : MachineSpec). x.buffer) c.args.self.now.machine_is) ∙ ap (bank_look g.L.Run.machine (own_state g.L.Run.machine c.args.seat.now)) c.requires.core)
      c.args.call.now c.bank_of_call-bank.ensures.home
      (λ begin on. of_some (λ n. waits_of c.hold-held.result.value.bank.value n ≡ None) c.look-look.result.fence begin (subst (λ x. IfSome (open_fence c.look-look.result x) (λ n. waits_of c.hold-held.result.value.bank.value n ≡ None)) is (c.waits.ensures.fence c.if-waits.false)) on)
      is);
}

pub call-event-requires-clause-new : goal.call-event-requires-clause-new
call-event-requires-clause-new g c =
    visit_new c.laws.ensures g.L.Run.program g.L.Run.machine g.L.Run.image c.args.self.now.table.now.table c.bank_of_call-bank.result c.hold-held.result.value.bank.value c.in-Some.stamp c.args.seat.now c.draw.new.seat c.args.run.now c.hold-held.new.run
    (is_drawn g.L.Run.program g.L.Run.machine g.L.Run.image c.args.self.now.table.now.table c.bank_of_call-bank.result c.hold-held.result.value.bank.value c.in-Some.stamp c.args.seat.now c.hold-held.new.seat c.draw.new.seat c.args.run.now c.hold-held.new.run c.hold-held.result.value.machine c.hold-held.result.value.image c.hold-held.ensures.bank c.hold-held.ensures.slot c.hold-held.ensures.seat c.hold-held.ensures.claims c.hold-held.ensures.run c.draw.result c.in-Some.is c.draw.ensures.some c.draw.ensures.keeps c.draw.ensures.seat c.draw.ensures.claims) c.args.self.now.core c.requires.core c.look-look.result
    (c.look-look.ensures.look g.L.Run.machine (own_events c.args.seat.now) (subst (λ d. KeepsEvents g.L.Run.machine d (own_events c.args.seat.now) c.args.run.now.own) (sym c.requires.core) c.requires.turn.keeps.peis.kept) (ap (λ (x : MachineSpec). x.buffer) c.args.self.now.machine_is) ∙ ap (bank_look g.L.Run.machine (own_state g.L.Run.machine c.args.seat.now)) c.requires.core)

pub give_event-requires-clause-row : goal.give_event-requires-clause-row
give_event-requires-clause-row g c κs within =
    subst (λ j. IsRowIn g.L.Run.program g.L.Run.machine g.L.Run.image j (events (seen j c.draw.new.seat)) (own_events c.draw.new.seat) c.call-event.result) (sym (ap (λ (h : BankHistory). h.bank) c.call-event.ensures.log ∙ c.hold-held.ensures.bank))
    (visit_call_row c.laws.ensures g.L.Run.program g.L.Run.machine g.L.Run.image c.args.self.now.table.now.table c.bank_of_call-bank.result c.hold-held.result.value.bank.value c.in-Some.stamp c.args.seat.now c.draw.new.seat c.args.run.now c.hold-held.new.run
    (is_drawn g.L.Run.program g.L.Run.machine g.L.Run.image c.args.self.now.table.now.table c.bank_of_call-bank.result c.hold-held.result.value.bank.value c.in-Some.stamp c.args.seat.now c.hold-held.new.seat c.draw.new.seat c.args.run.now c.hold-held.new.run c.hold-held.result.value.machine c.hold-held.result.value.image c.hold-held.ensures.bank c.hold-held.ensures.slot c.hold-held.ensures.seat c.hold-held.ensures.claims c.hold-held.ensures.run c.draw.result c.in-Some.is c.draw.ensures.some c.draw.ensures.keeps c.draw.ensures.seat c.draw.ensures.claims) c.args.self.now.core c.requires.core c.look-look.result
    (c.look-look.ensures.look g.L.Run.machine (own_events c.args.seat.now) (subst (λ d. KeepsEvents g.L.Run.machine d (own_events c.args.seat.now) c.args.run.now.own) (sym c.requires.core) c.requires.turn.keeps.peis.kept) (ap (λ (x : MachineSpec). x.buffer) c.args.self.now.machine_is) ∙ ap (bank_look g.L.Run.machine (own_state g.L.Run.machine c.args.seat.now)) c.requires.core)
    c.args.call.now c.bank_of_call-bank.ensures.home (subst (λ m. IsCallOf m c.bank_of_call-bank.result (Calls c.args.call.now)) c.args.self.now.machine_is c.bank_of_call-bank.ensures.here) c.requires.call c.call-event.result c.call-event.ensures.actor c.call-event.ensures.row)

pub give_event-requires-clause-entering : goal.give_event-requires-clause-entering
give_event-requires-clause-entering g c κs within =
    visit_call_entering c.laws.ensures g.L.Run.program g.L.Run.machine g.L.Run.image c.args.self.now.table.now.table c.bank_of_call-bank.result c.hold-held.result.value.bank.value c.in-Some.stamp c.args.seat.now c.draw.new.seat c.args.run.now c.hold-held.new.run
    (is_drawn g.L.Run.program g.L.Run.machine g.L.Run.image c.args.self.now.table.now.table c.bank_of_call-bank.result c.hold-held.result.value.bank.value c.in-Some.stamp c.args.seat.now c.hold-held.new.seat c.draw.new.seat c.args.run.now c.hold-held.new.run c.hold-held.result.value.machine c.hold-held.result.value.image c.hold-held.ensures.bank c.hold-held.ensures.slot c.hold-held.ensures.seat c.hold-held.ensures.claims c.hold-held.ensures.run c.draw.result c.in-Some.is c.draw.ensures.some c.draw.ensures.keeps c.draw.ensures.seat c.draw.ensures.claims) c.args.self.now.core c.requires.core c.look-look.result
    (c.look-look.ensures.look g.L.Run.machine (own_events c.args.seat.now) (subst (λ d. KeepsEvents g.L.Run.machine d (own_events c.args.seat.now) c.args.run.now.own) (sym c.requires.core) c.requires.turn.keeps.peis.kept) (ap (λ (x : MachineSpec). x.buffer) c.args.self.now.machine_is) ∙ ap (bank_look g.L.Run.machine (own_state g.L.Run.machine c.args.seat.now)) c.requires.core)
    c.args.call.now c.bank_of_call-bank.ensures.home (subst (λ m. IsCallOf m c.bank_of_call-bank.result (Calls c.args.call.now)) c.args.self.now.machine_is c.bank_of_call-bank.ensures.here) c.requires.call c.call-event.result c.call-event.ensures.actor c.call-event.ensures.row

pub give_event-requires-clause-home : goal.give_event-requires-clause-home
give_event-requires-clause-home g c κs within =
    subst (λ j. FencesAtHome (core_of c.draw.new.seat) (record { bank = j; event = c.call-event.result })) (sym (ap (λ (h : BankHistory). h.bank) c.call-event.ensures.log ∙ c.hold-held.ensures.bank))
    (visit_call_home c.laws.ensures g.L.Run.program g.L.Run.machine g.L.Run.image c.args.self.now.table.now.table c.bank_of_call-bank.result c.hold-held.result.value.bank.value c.in-Some.stamp c.args.seat.now c.draw.new.seat c.args.run.now c.hold-held.new.run
    (is_drawn g.L.Run.program g.L.Run.machine g.L.Run.image c.args.self.now.table.now.table c.bank_of_call-bank.result c.hold-held.result.value.bank.value c.in-Some.stamp c.args.seat.now c.hold-held.new.seat c.draw.new.seat c.args.run.now c.hold-held.new.run c.hold-held.result.value.machine c.hold-held.result.value.image c.hold-held.ensures.bank c.hold-held.ensures.slot c.hold-held.ensures.seat c.hold-held.ensures.claims c.hold-held.ensures.run c.draw.result c.in-Some.is c.draw.ensures.some c.draw.ensures.keeps c.draw.ensures.seat c.draw.ensures.claims) c.args.self.now.core c.requires.core c.look-look.result
    (c.look-look.ensures.look g.L.Run.machine (own_events c.args.seat.now) (subst (λ d. KeepsEvents g.L.Run.machine d (own_events c.args.seat.now) c.args.run.now.own) (sym c.requires.core) c.requires.turn.keeps.peis.kept) (ap (λ (x : MachineSpec). x.buffer) c.args.self.now.machine_is) ∙ ap (bank_look g.L.Run.machine (own_state g.L.Run.machine c.args.seat.now)) c.requires.core)
    c.args.call.now c.bank_of_call-bank.ensures.home (subst (λ m. IsCallOf m c.bank_of_call-bank.result (Calls c.args.call.now)) c.args.self.now.machine_is c.bank_of_call-bank.ensures.here) c.requires.call c.call-event.result c.call-event.ensures.actor c.call-event.ensures.row)

pub give_event-requires-clause-ending : goal.give_event-requires-clause-ending
give_event-requires-clause-ending g c κs within =
    visit_call_ends c.laws.ensures g.L.Run.program g.L.Run.machine g.L.Run.image c.args.self.now.table.now.table c.bank_of_call-bank.result c.hold-held.result.value.bank.value c.in-Some.stamp c.args.seat.now c.draw.new.seat c.args.run.now c.hold-held.new.run
    (is_drawn g.L.Run.program g.L.Run.machine g.L.Run.image c.args.self.now.table.now.table c.bank_of_call-bank.result c.hold-held.result.value.bank.value c.in-Some.stamp c.args.seat.now c.hold-held.new.seat c.draw.new.seat c.args.run.now c.hold-held.new.run c.hold-held.result.value.machine c.hold-held.result.value.image c.hold-held.ensures.bank c.hold-held.ensures.slot c.hold-held.ensures.seat c.hold-held.ensures.claims c.hold-held.ensures.run c.draw.result c.in-Some.is c.draw.ensures.some c.draw.ensures.keeps c.draw.ensures.seat c.draw.ensures.claims) c.args.self.now.core c.requires.core c.look-look.result
    (c.look-look.ensures.look g.L.Run.machine (own_events c.args.seat.now) (subst (λ d. KeepsEvents g.L.Run.machine d (own_events c.args.seat.now) c.args.run.now.own) (sym c.requires.core) c.requires.turn.keeps.peis.kept) (ap (λ (x : MachineSpec). x.buffer) c.args.self.now.machine_is) ∙ ap (bank_look g.L.Run.machine (own_state g.L.Run.machine c.args.seat.now)) c.requires.core)
    c.args.call.now c.bank_of_call-bank.ensures.home (subst (λ m. IsCallOf m c.bank_of_call-bank.result (Calls c.args.call.now)) c.args.self.now.machine_is c.bank_of_call-bank.ensures.here) c.requires.call c.call-event.result c.call-event.ensures.actor c.call-event.ensures.row
    (λ begin on. (of_some (λ _. (c.args.call.now ≡ calls.Fence) × (c.args.run.now.own.cleared ≡ g.L.Run.machine.banks)) c.args.run.now.own.fence begin c.requires.fence (sym c.look-look.ensures.fence ∙ on)).1)
