use Rattle.std.proofs.Common.{List, ◌<◌, IsTrue, subst, sym}
use Rattle.std.specs.List.{AllByRecursion}
use Rattle.pei_types.specs.declared.events.Event.{Event}
use Rattle.pei_types.specs.declared.stamps.Stamped.{Stamped}
use Rattle.pei_types.specs.Calls.{is_actor_of}
use Rattle.pei_types.specs.Legal.{EachEvent}
use Rattle.coherence_laws.specs.Holdings.{Holdings}
use Rattle.bank_laws.specs.Kept.{BankInOrder, FitsInBank}
use Rattle.bank_laws.specs.Rows.{IsRowOfBank}
use Rattle.fabric.specs.Banks.{BankHistory, events_of}
use Rattle.fabric.specs.ValidEvents.{EventFits}
use Rattle.fabric.proofs.Stampings.{log_events}
use Rattle.fabric.proofs.sections.Section.is_in_order.Goals as goal

pub returns-clause-order : goal.returns-clause-order
returns-clause-order c =
    let i = c.self.inside
    in subst (λ (v : BankHistory). (h : Holdings) × BankInOrder v.machine v.image (events_of v) h) c.self.view_is
    (subst (λ (es : List Event). (h : Holdings) × BankInOrder i.parts.machine i.image.value es h) (sym (log_events i.journal.events i.journal.stamps c.self.invariant.stamped)) c.self.invariant.order)

pub returns-clause-rows : goal.returns-clause-rows
returns-clause-rows c =
    let i = c.self.inside
    in subst (λ (v : BankHistory). EachEvent (IsRowOfBank v.machine v.image v.bank) (events_of v)) c.self.view_is
    (subst (λ (es : List Event). EachEvent (IsRowOfBank i.parts.machine i.image.value i.bank) es) (sym (log_events i.journal.events i.journal.stamps c.self.invariant.stamped)) c.self.invariant.rows)

pub returns-clause-fitting : goal.returns-clause-fitting
returns-clause-fitting c =
    let i = c.self.inside
    in subst (λ (v : BankHistory). EachEvent (λ before e. FitsInBank v.machine before e.actor e.kind) (events_of v)) c.self.view_is
    (subst (λ (es : List Event). EachEvent (λ before e. FitsInBank i.parts.machine before e.actor e.kind) es) (sym (log_events i.journal.events i.journal.stamps c.self.invariant.stamped)) c.self.invariant.fitting)

pub returns-clause-actors : goal.returns-clause-actors
returns-clause-actors c =
    let i = c.self.inside
    in subst (λ (v : BankHistory). AllByRecursion (λ (e : Event). IsTrue (is_actor_of v.machine e.actor)) (events_of v)) c.self.view_is
    (subst (λ (es : List Event). AllByRecursion (λ (e : Event). IsTrue (is_actor_of i.parts.machine e.actor)) es) (sym (log_events i.journal.events i.journal.stamps c.self.invariant.stamped)) c.self.invariant.actors)

pub returns-clause-within : goal.returns-clause-within
returns-clause-within c = subst (λ (v : BankHistory). AllByRecursion (λ (x : Stamped). x.stamp < v.machine.events) v.log) c.self.view_is c.self.invariant.within

pub returns-clause-fits : goal.returns-clause-fits
returns-clause-fits c =
    let i = c.self.inside
    in subst (λ (v : BankHistory). AllByRecursion (EventFits v.machine.blocks) (events_of v)) c.self.view_is
    (subst (λ (es : List Event). AllByRecursion (EventFits i.parts.machine.blocks) es) (sym (log_events i.journal.events i.journal.stamps c.self.invariant.stamped)) c.self.invariant.fits)
