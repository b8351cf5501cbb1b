use Rattle.std.proofs.Common.{Some, sym, ◌∙◌}
use Rattle.coherence_bus.proofs.Looks.{no_victim, some_victim}
use Rattle.coherence_bus.proofs.MessageEffects.{mark_is}
use Rattle.coherence_bus.proofs.bus.Bus.llc_victim.Goals as goal

pub returns-in-Some : goal.returns-in-Some
returns-in-Some c =
    let letters = rw (← c.self.view_is) at c.letters.ensures
    in let mark = c.mark.ensures ∙ sym (mark_is c.laws.ensures c.self.inside c.self.invariant c.in-Some.block)
    in rw (← c.self.view_is) ((λ j. Some (record { block = c.in-Some.block; letters = letters j; mark = mark j })) ∙ some_victim c.laws.ensures c.self.inside c.self.invariant c.args.b c.in-Some.block (sym c.room_for.ensures ∙ c.in-Some.is))

pub returns-in-None : goal.returns-in-None
returns-in-None c = rw (← c.self.view_is) (no_victim c.laws.ensures c.self.inside c.self.invariant c.args.b (sym c.room_for.ensures ∙ c.in-None.is))
