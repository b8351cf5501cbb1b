use Rattle.std.proofs.Common.{◌≡◌, Some, option_map, ap, sym, subst, ◌∙◌}
use Rattle.pei_types.specs.declared.inflight_looks.PeiLook.{PeiLook}
use Rattle.pei_types.specs.declared.events.EventKind.{EventKind}
use Rattle.pei_types.specs.declared.events.EventKind.TheVariants as event
use Rattle.pei_types.specs.Next.{Makes}
use Rattle.journal.specs.Recorded.{pushed}
use Rattle.fabric.specs.Banks.{with_event}
use Rattle.fabric.specs.History.{lane_of}
use Rattle.fabric.specs.KeptBank.{history_of}
use Rattle.fabric.proofs.BankGoing.{Adds, bank_room, keeps_after}
use Rattle.fabric.proofs.BankRows.{asks_in}
use Rattle.fabric.proofs.BankSteps.{enter_adds, free_in, history_next}
use Rattle.fabric.proofs.sections.Section.enter.Goals as goal

pub enter_in-kind-requires-clause-issued : goal.enter_in-kind-requires-clause-issued
enter_in-kind-requires-clause-issued c =
    let i = c.self.inside
    in let asks = asks_in c.laws.ensures i.parts i.journal i.bank i.image.value i.numbers.items c.self.invariant c.args.core c.args.lane c.args.look.now c.requires.asks (rw (← c.self.view_is) at c.requires.goes)
    in ap (option_map (λ (p : PeiLook). p.phase)) asks.here ∙ ap Some asks.waiting

pub enter_in-kind-requires-clause-free : goal.enter_in-kind-requires-clause-free
enter_in-kind-requires-clause-free c =
    let i = c.self.inside
    in free_in c.laws.ensures i.parts i.journal i.bank i.image.value i.numbers.items c.self.invariant c.args.core c.args.lane (rw (← c.self.view_is) at c.requires.free)

pub push_stamped-requires : goal.push_stamped-requires
push_stamped-requires c =
    let i = c.self.inside
    in bank_room i.parts i.journal i.bank i.image.value i.numbers.items c.args.stamp c.self.invariant (rw (← c.self.view_is) at c.requires.new) (rw (← c.self.view_is) at c.requires.below)

pub invariant_of-self : goal.invariant_of-self
invariant_of-self c =
    let i = c.self.inside
    in let asks = asks_in c.laws.ensures i.parts i.journal i.bank i.image.value i.numbers.items c.self.invariant c.args.core c.args.lane c.args.look.now c.requires.asks (rw (← c.self.view_is) at c.requires.goes)
    in let kind : c.enter_in-kind.result ≡ event.Enter asks.pei.id.seq = c.enter_in-kind.ensures.kind asks.pei asks.here
    in keeps_after c.laws.ensures i.parts c.enter_in-kind.new.self i.journal c.push_stamped.new.self i.bank i.image.value i.numbers.items c.note.new.numbers.items (lane_of c.args.core c.args.lane) c.enter_in-kind.result c.args.stamp c.self.invariant
    (subst (λ (x : EventKind). Adds i.parts i.journal i.bank i.image.value (lane_of c.args.core c.args.lane) x c.args.stamp) (sym kind)
    (enter_adds c.laws.ensures i.parts i.journal i.bank i.image.value i.numbers.items c.self.invariant c.args.core c.args.lane c.args.look.now c.args.stamp (rw (← c.self.view_is) at c.requires.lane) asks (rw (← c.self.view_is) at c.requires.free) (rw (← c.self.view_is) at c.requires.new) (rw (← c.self.view_is) at c.requires.below)))
    c.enter_in-kind.ensures.moved (c.push_stamped.ensures ∙ ap (λ a. pushed i.journal c.args.stamp (record { actor = a; kind = c.enter_in-kind.result })) c.lane_of.ensures) c.note.ensures

pub returns-clause-row : goal.returns-clause-row
returns-clause-row c =
    let i = c.self.inside
    in let asks = asks_in c.laws.ensures i.parts i.journal i.bank i.image.value i.numbers.items c.self.invariant c.args.core c.args.lane c.args.look.now c.requires.asks (rw (← c.self.view_is) at c.requires.goes)
    in rw (← c.self.view_is) (asks.row ∙ ap Makes (sym (c.enter_in-kind.ensures.kind asks.pei asks.here)))

pub returns-clause-log : goal.returns-clause-log
returns-clause-log c =
    let i = c.self.inside
    in rw (← c.self.view_is)
    (history_next i.parts c.enter_in-kind.new.self i.journal c.push_stamped.new.self i.bank i.image.value (lane_of c.args.core c.args.lane) c.enter_in-kind.result c.args.stamp c.self.invariant.stamped c.enter_in-kind.ensures.moved (c.push_stamped.ensures ∙ ap (λ a. pushed i.journal c.args.stamp (record { actor = a; kind = c.enter_in-kind.result })) c.lane_of.ensures)
    ∙ ap (λ a. with_event (history_of i.parts i.journal i.bank i.image.value) c.args.stamp (record { actor = a; kind = c.enter_in-kind.result })) (sym c.lane_of.ensures))
