use Rattle.std.proofs.Common.{sym, ◌∙◌}
use Rattle.coherence_bus.proofs.Looks.{own_victim}
use Rattle.coherence_bus.proofs.MessageEffects.{mark_is}
use Rattle.coherence_bus.proofs.bus.Bus.want_looks.Goals as goal

pub returns : goal.returns
returns c =
    let letters = rw (← c.self.view_is) at c.letters.ensures
    in let mark = c.mark.ensures ∙ sym (mark_is c.laws.ensures c.self.inside c.self.invariant c.args.b)
    in let victim = rw (← c.self.view_is) at c.llc_victim.ensures
    in let own = c.room_for.ensures ∙ own_victim c.laws.ensures c.self.inside c.self.invariant c.args.own c.index.result.now _ c.args.b (rw (← c.self.view_is) at c.requires) c.index.ensures
    in rw (← c.self.view_is) (λ j. record { block = c.args.b; own = c.args.own; letters = letters j; mark = mark j; sealed = c.args.sealed; llc_victim = victim j; l1_victim = own j })
