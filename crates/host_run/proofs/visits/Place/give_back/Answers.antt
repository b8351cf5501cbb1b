use Rattle.host_run.proofs.Sent.{slot_crosses}
use Rattle.std.proofs.Common.{◌≡◌, ◌++◌, ◌∷◌, [], true, ap, sym, subst, ◌∙◌}
use Rattle.shared_table.specs.Actives.{active_in}
use Rattle.shared_table.specs.Claims.{earlier_left}
use Rattle.shared_table.specs.Diaries.{Claimed}
use Rattle.shared_table.specs.Journal.{events}
use Rattle.shared_table.specs.Parts.{claims, slot_given}
use Rattle.host_run.proofs.Giving.{kept_claimed}
use Rattle.host_run.proofs.TurnSteps.{given_clear, given_keeps, no_more}
use Rattle.host_run.proofs.visits.Place.give_back.Goals as goal

pub give-requires-clause-event : goal.give-requires-clause-event
give-requires-clause-event g c κs within = λ x is. absurd (no_more c.args.held.value.bank.value.log x (is ∙ ap (λ xs. xs ++ x ∷ []) c.requires.slot.seen_is))

pub give-requires-clause-claims : goal.give-requires-clause-claims
give-requires-clause-claims g c κs within =
    subst (λ xs. Claimed xs (claims c.args.seat.now)) (sym c.requires.slot.active_is)
    (kept_claimed g.L.Run.machine c.args.seat.now c.args.run.now.own c.requires.keeps.lanes c.requires.keeps.actives c.args.held.value.bank.value.bank)

pub returns-clause-keeps : goal.returns-clause-keeps
returns-clause-keeps g c =
    given_keeps c.laws.ensures g.L.Run.program g.L.Run.machine g.L.Run.image c.args.self.now.table.now.table c.args.seat.now c.give.new.seat c.args.held.value.bank.value.bank (active_in g.L.Run.machine.directory (events c.args.held.value.bank.value.log))
    (c.give.ensures ∙ ap (λ xs. slot_given c.args.seat.now c.args.held.value.bank.value.bank xs (active_in g.L.Run.machine.directory (events c.args.held.value.bank.value.log))) (sym c.requires.slot.seen_is)) c.requires.slot.active_is
    c.args.run.now.core c.args.run.now.own c.args.run.now.end c.requires.keeps

pub returns-clause-cleared : goal.returns-clause-cleared
returns-clause-cleared g c = λ at begin on left.
    given_clear c.laws.ensures g.L.Run.program g.L.Run.machine g.L.Run.image c.args.self.now.table.now.table c.args.seat.now c.give.new.seat c.args.held.value.bank.value.bank (active_in g.L.Run.machine.directory (events c.args.held.value.bank.value.log))
    (c.give.ensures ∙ ap (λ xs. slot_given c.args.seat.now c.args.held.value.bank.value.bank xs (active_in g.L.Run.machine.directory (events c.args.held.value.bank.value.log))) (sym c.requires.slot.seen_is)) c.requires.slot.active_is
    c.args.run.now.core c.args.run.now.own c.args.run.now.end c.requires.slot.below c.requires.keeps begin on at (subst (λ xs. earlier_left begin xs ≡ true) (sym c.requires.slot.seen_is) left)

pub give-requires-send-S : goal.give-requires-send-S
give-requires-send-S g c κs within = slot_crosses _ _ g.L.Run c.type_bounds.send-L
