use Rattle.std.proofs.Common.{sym, ap, ◌∙◌}
use Rattle.pei_types.specs.MachineState.{is_i}
use Rattle.coherence_bus.proofs.MessageEffects.{letter_is, not_i}
use Rattle.coherence_bus.proofs.bus.Bus.grant_to_write.Goals as goal

pub grant-requires-clause-lacks : goal.grant-requires-clause-lacks
grant-requires-clause-lacks c =
    rw (← c.self.view_is) (ap is_i (letter_is c.laws.ensures c.self.inside c.self.invariant c.args.own c.index.result.now _ c.args.b (rw (← c.self.view_is) at c.requires.own) c.index.ensures ∙ sym c.letter.ensures ∙ c.in-I.is))

pub raise-requires-clause-has : goal.raise-requires-clause-has
raise-requires-clause-has c =
    rw (← c.self.view_is) (ap is_i (letter_is c.laws.ensures c.self.inside c.self.invariant c.args.own c.index.result.now _ c.args.b (rw (← c.self.view_is) at c.requires.own) c.index.ensures ∙ sym c.letter.ensures) ∙ not_i c.letter.result c.in_default.not-I)
