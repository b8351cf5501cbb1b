use Rattle.std.proofs.Common.{ap, ◌∙◌}
use Rattle.pei_types.specs.Operation.{reply_of}
use Rattle.coherence_bus.proofs.AccessEffects.{executed, vault_seen}
use Rattle.coherence_bus.proofs.bus.Bus.vault_act.Goals as goal

pub invariant_of-self : goal.invariant_of-self
invariant_of-self c =
    let t = executed c.laws.ensures c.self.inside c.self.invariant c.args.b c.args.op c.args.operands.now c.act.new.self (rw (← c.self.view_is) at c.requires.there) (rw (← c.self.view_is) at c.requires.current) c.act.ensures.block
    in record { sizes = t.sizes; coheres = t.coheres }

pub returns-clause-reply : goal.returns-clause-reply
returns-clause-reply c =
    rw (← c.self.view_is) (c.act.ensures.reply ∙ ap (reply_of c.args.op c.args.operands.now) (vault_seen c.laws.ensures c.self.inside c.self.invariant c.args.b c.args.op (rw (← c.self.view_is) at c.requires.there) (rw (← c.self.view_is) at c.requires.current)))

pub returns-clause-block : goal.returns-clause-block
returns-clause-block c =
    let t = executed c.laws.ensures c.self.inside c.self.invariant c.args.b c.args.op c.args.operands.now c.act.new.self (rw (← c.self.view_is) at c.requires.there) (rw (← c.self.view_is) at c.requires.current) c.act.ensures.block
    in rw (← c.self.view_is) t.shows
