use Rattle.std.proofs.Common.{sym, ap, ◌∙◌}
use Rattle.pei_types.specs.MachineState.{is_i}
use Rattle.coherence_bus.proofs.AccessEffects.{copy_seen, touched}
use Rattle.coherence_bus.proofs.MessageEffects.{letter_is}
use Rattle.coherence_bus.proofs.bus.Bus.host_read.Goals as goal

pub hit_read-requires : goal.hit_read-requires
hit_read-requires c =
    ap is_i (sym (letter_is c.laws.ensures c.self.inside c.self.invariant c.args.own c.index_mut.result.now _ c.args.b (rw (← c.self.view_is) at c.requires.own) c.index_mut.ensures.value)) ∙ (rw (← c.self.view_is) at c.requires.present)

pub invariant_of-self : goal.invariant_of-self
invariant_of-self c =
    let t = touched c.laws.ensures c.self.inside c.self.invariant c.args.own c.index_mut.result.now c.hit_read.new.self _ c.args.b (rw (← c.self.view_is) at c.requires.own) c.index_mut.ensures.value (rw (← c.self.view_is) at c.requires.present) c.hit_read.ensures.touched
    in record { sizes = t.sizes; coheres = t.coheres }

pub returns-clause-content : goal.returns-clause-content
returns-clause-content c =
    rw (← c.self.view_is) (c.hit_read.ensures.content ∙ copy_seen c.laws.ensures c.self.inside c.self.invariant c.args.own c.index_mut.result.now _ c.args.b (rw (← c.self.view_is) at c.requires.own) c.index_mut.ensures.value (rw (← c.self.view_is) at c.requires.present))

pub returns-clause-touched : goal.returns-clause-touched
returns-clause-touched c =
    let t = touched c.laws.ensures c.self.inside c.self.invariant c.args.own c.index_mut.result.now c.hit_read.new.self _ c.args.b (rw (← c.self.view_is) at c.requires.own) c.index_mut.ensures.value (rw (← c.self.view_is) at c.requires.present) c.hit_read.ensures.touched
    in rw (← c.self.view_is) t.shows
