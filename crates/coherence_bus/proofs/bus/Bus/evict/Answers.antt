use Rattle.coherence_bus.proofs.MessageEffects.{is_clean_here, evicted}
use Rattle.coherence_bus.proofs.bus.Bus.evict.Goals as goal

pub remove-requires : goal.remove-requires
remove-requires c = is_clean_here c.laws.ensures c.self.inside c.self.invariant c.args.b (record { 0 = 0 }) (rw (← c.self.view_is) at c.requires)

pub invariant_of-self : goal.invariant_of-self
invariant_of-self c =
    let t = evicted c.laws.ensures c.self.inside c.self.invariant c.args.b c.remove.new.self (rw (← c.self.view_is) at c.requires) c.remove.ensures.lines
    in record { sizes = t.sizes; coheres = t.coheres }

pub returns : goal.returns
returns c =
    let t = evicted c.laws.ensures c.self.inside c.self.invariant c.args.b c.remove.new.self (rw (← c.self.view_is) at c.requires) c.remove.ensures.lines
    in rw (← c.self.view_is) t.shows
