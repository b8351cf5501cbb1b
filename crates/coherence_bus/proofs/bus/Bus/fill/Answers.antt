use Rattle.std.proofs.Common.{◌∙◌, ap}
use Rattle.pei_types.specs.declared.identifiers.Block.{Block}
use Rattle.llc.specs.Cache.{with_line}
use Rattle.coherence_bus.proofs.MessageEffects.{is_absent_here, room_here, filled}
use Rattle.coherence_bus.proofs.bus.Bus.fill.Goals as goal

pub install-requires-clause-absent : goal.install-requires-clause-absent
install-requires-clause-absent c = is_absent_here c.laws.ensures c.self.inside c.self.invariant c.args.b (record { 0 = 0 }) (rw (← c.self.view_is) at c.requires.guard)

pub install-requires-clause-room : goal.install-requires-clause-room
install-requires-clause-room c = room_here c.laws.ensures c.self.inside c.self.invariant c.args.b (record { 0 = 0 }) (rw (← c.self.view_is) at c.requires.guard)

pub invariant_of-self : goal.invariant_of-self
invariant_of-self c =
    let t = filled c.laws.ensures c.self.inside c.self.invariant c.args.b c.install.new.self (rw (← c.self.view_is) at c.requires.inside) (rw (← c.self.view_is) at c.requires.guard) (c.install.ensures.lines ∙ ap (λ (x : Block). record (with_line c.self.inside.llc c.args.b x) { slots = c.install.new.self.slots }) c.read-content.ensures)
    in record { sizes = t.sizes; coheres = t.coheres }

pub returns : goal.returns
returns c =
    let t = filled c.laws.ensures c.self.inside c.self.invariant c.args.b c.install.new.self (rw (← c.self.view_is) at c.requires.inside) (rw (← c.self.view_is) at c.requires.guard) (c.install.ensures.lines ∙ ap (λ (x : Block). record (with_line c.self.inside.llc c.args.b x) { slots = c.install.new.self.slots }) c.read-content.ensures)
    in rw (← c.self.view_is) t.shows
