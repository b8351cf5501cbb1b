use Rattle.std.proofs.Common.{◌∙◌, ap, arith}
use Rattle.pei_types.specs.MachineState.{is_absent}
use Rattle.stack_vaults.specs.Blocks.{with_block}
use Rattle.coherence_bus.proofs.MessageEffects.{is_dirty_here, present_within, cleaned}
use Rattle.coherence_bus.proofs.bus.Bus.clean.Goals as goal

pub clean-content-requires : goal.clean-content-requires
clean-content-requires c = is_dirty_here c.laws.ensures c.self.inside c.self.invariant c.args.b (record { 0 = 0 }) (rw (← c.self.view_is) at c.requires)

pub write-requires : goal.write-requires
write-requires c =
    let dirty = is_dirty_here c.laws.ensures c.self.inside c.self.invariant c.args.b (record { 0 = 0 }) (rw (← c.self.view_is) at c.requires)
    in omega (arith, present_within c.laws.ensures c.self.inside c.self.invariant c.args.b (ap is_absent dirty), c.self.invariant.sizes.blocks)

pub invariant_of-self : goal.invariant_of-self
invariant_of-self c =
    let t = cleaned c.laws.ensures c.self.inside c.self.invariant c.args.b c.clean-content.new.self c.write.new.self (rw (← c.self.view_is) at c.requires) c.clean-content.ensures.cleaned (c.write.ensures ∙ ap (with_block c.self.inside.vaults c.args.b) c.clean-content.ensures.content)
    in record { sizes = t.sizes; coheres = t.coheres }

pub returns : goal.returns
returns c =
    let t = cleaned c.laws.ensures c.self.inside c.self.invariant c.args.b c.clean-content.new.self c.write.new.self (rw (← c.self.view_is) at c.requires) c.clean-content.ensures.cleaned (c.write.ensures ∙ ap (with_block c.self.inside.vaults c.args.b) c.clean-content.ensures.content)
    in rw (← c.self.view_is) t.shows
