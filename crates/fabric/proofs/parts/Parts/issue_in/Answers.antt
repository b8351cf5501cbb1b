use Rattle.fabric.proofs.PartMoves.{issue_after, issue_joins}
use Rattle.fabric.proofs.parts.Parts.issue_in.Goals as goal

pub invariant_of-self : goal.invariant_of-self
invariant_of-self c =
    let i = c.self.inside
    in issue_joins c.part_laws.ensures i.machine i.bus i.inflight i.monitor c.self.invariant c.args.core c.args.lane c.args.look.now.issues c.args.op c.args.block c.args.operands.now c.issue_as.new.self (rw (← c.self.view_is) at c.requires.may.lane) (rw (← c.self.view_is) at c.requires.may.free) (rw (← c.self.view_is) at c.requires.may.fresh) (rw (← c.self.view_is) at c.requires.fits) c.issue_as.ensures

pub returns-clause-moved : goal.returns-clause-moved
returns-clause-moved c =
    let i = c.self.inside
    in rw (← c.self.view_is) (issue_after c.part_laws.ensures i.machine i.bus i.inflight i.monitor c.self.invariant c.args.core c.args.lane c.args.look.now.issues c.args.op c.args.block c.args.operands.now c.issue_as.new.self c.issue_as.ensures)
