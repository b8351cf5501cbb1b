use Rattle.std.proofs.Common.{ℕ, refl, sym, ◌∙◌, ap}
use Rattle.host_run.specs.declared.own_peis.OwnPeis.{OwnPeis}
use Rattle.host_run.proofs.TurnSteps.{cleared_turn}
use Rattle.host_run.proofs.visits.Place.clear.Goals as goal

pub returns-then-clear-clause-goes : goal.returns-then-clear-clause-goes
returns-then-clear-clause-goes g c =
    let at = ap (λ (o : OwnPeis). o.cleared) c.hold-held.ensures.run.1 ∙ sym (c.hold-held.ensures.bank ∙ c.from.ensures)
    in cleared_turn c.laws.ensures g.L.Run.program g.L.Run.machine g.L.Run.image c.args.self.now.table.now.table c.args.seat.now c.give_back.new.seat c.hold-held.new.run _ c.hold-held.result.value.bank.value.bank c.give_back.ensures.rest (c.give_back.ensures.counts.0 ∙ c.hold-held.ensures.missed)
    (c.give_back.ensures.cleared at c.args.begin (ap (λ (o : OwnPeis). o.fence) c.hold-held.ensures.run.1 ∙ c.requires.fence) (c.is_cleared-clear.ensures c.if-clear.true)) at refl refl refl
