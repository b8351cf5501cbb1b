use Rattle.std.proofs.Common.{sym, ap, ◌∙◌}
use Rattle.pei_types.specs.MachineState.{is_owned}
use Rattle.coherence_bus.proofs.AccessEffects.{written}
use Rattle.coherence_bus.proofs.MessageEffects.{letter_is}
use Rattle.coherence_bus.proofs.bus.Bus.host_write.Goals as goal

pub hit_write-requires : goal.hit_write-requires
hit_write-requires c =
    ap is_owned (sym (letter_is c.laws.ensures c.self.inside c.self.invariant c.args.own c.index_mut.result.now _ c.args.b (rw (← c.self.view_is) at c.requires.own) c.index_mut.ensures.value)) ∙ (rw (← c.self.view_is) at c.requires.owned)

pub invariant_of-self : goal.invariant_of-self
invariant_of-self c =
    let t = written c.laws.ensures c.self.inside c.self.invariant c.args.own c.index_mut.result.now c.hit_write.new.self _ c.args.b c.args.block.now (rw (← c.self.view_is) at c.requires.own) c.index_mut.ensures.value (rw (← c.self.view_is) at c.requires.owned) c.hit_write.ensures
    in record { sizes = t.sizes; coheres = t.coheres }

pub returns : goal.returns
returns c =
    let t = written c.laws.ensures c.self.inside c.self.invariant c.args.own c.index_mut.result.now c.hit_write.new.self _ c.args.b c.args.block.now (rw (← c.self.view_is) at c.requires.own) c.index_mut.ensures.value (rw (← c.self.view_is) at c.requires.owned) c.hit_write.ensures
    in rw (← c.self.view_is) t.shows
