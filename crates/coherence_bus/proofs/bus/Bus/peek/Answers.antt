use Rattle.std.proofs.Common.{◌<◌, true, false, sym, ap, ◌∙◌, arith}
use Rattle.pei_types.specs.MachineState.{is_absent, is_i}
use Rattle.coherence_bus.proofs.AccessEffects.{copy_seen, modified_has, peeked}
use Rattle.coherence_bus.proofs.MessageEffects.{core_at, has_core, letter_is}
use Rattle.coherence_bus.proofs.bus.Bus.peek.Goals as goal

pub index-requires : goal.index-requires
index-requires c =
    let there = modified_has c.laws.ensures c.self.inside c.self.invariant c.in-Some.core c.args.b (rw (← c.self.view_is) at (sym c.modifier.ensures ∙ c.in-Some.is))
    in omega (arith, core_at c.laws.ensures c.self.inside c.self.invariant c.in-Some.core (has_core c.laws.ensures c.self.inside c.self.invariant c.in-Some.core c.args.b there), c.self.inside.caches.ok.0)

pub line-requires : goal.line-requires
line-requires c =
    let there = modified_has c.laws.ensures c.self.inside c.self.invariant c.in-Some.core c.args.b (rw (← c.self.view_is) at (sym c.modifier.ensures ∙ c.in-Some.is))
    in ap is_i (sym (letter_is c.laws.ensures c.self.inside c.self.invariant c.in-Some.core c.index.result.now _ c.args.b (has_core c.laws.ensures c.self.inside c.self.invariant c.in-Some.core c.args.b there) c.index.ensures)) ∙ there

pub returns-in-Some : goal.returns-in-Some
returns-in-Some c =
    let there = modified_has c.laws.ensures c.self.inside c.self.invariant c.in-Some.core c.args.b (rw (← c.self.view_is) at (sym c.modifier.ensures ∙ c.in-Some.is))
    in rw (← c.self.view_is) (c.line.ensures ∙ copy_seen c.laws.ensures c.self.inside c.self.invariant c.in-Some.core c.index.result.now _ c.args.b (has_core c.laws.ensures c.self.inside c.self.invariant c.in-Some.core c.args.b there) c.index.ensures there)

pub read-requires : goal.read-requires
read-requires c =
    let inside : c.args.b.0 < c.self.inside.machine.blocks = rw (← c.self.view_is) at c.requires
    in omega (arith, inside, c.self.invariant.sizes.blocks)

pub returns-then-is_absent : goal.returns-then-is_absent
returns-then-is_absent c =
    let inside : c.args.b.0 < c.self.inside.machine.blocks = rw (← c.self.view_is) at c.requires
    in rw (← c.self.view_is) (c.read.ensures ∙ peeked c.laws.ensures c.self.inside c.self.invariant c.args.b true inside (rw (← c.self.view_is) at (sym c.modifier.ensures ∙ c.in_default.is)) (ap is_absent (sym c.mark.ensures) ∙ sym c.is_absent.ensures ∙ c.if-is_absent.true))

pub returns-else-is_absent : goal.returns-else-is_absent
returns-else-is_absent c =
    let inside : c.args.b.0 < c.self.inside.machine.blocks = rw (← c.self.view_is) at c.requires
    in rw (← c.self.view_is) (c.line-else-is_absent.ensures ∙ peeked c.laws.ensures c.self.inside c.self.invariant c.args.b false inside (rw (← c.self.view_is) at (sym c.modifier.ensures ∙ c.in_default.is)) (ap is_absent (sym c.mark.ensures) ∙ sym c.is_absent.ensures ∙ c.if-is_absent.false))
