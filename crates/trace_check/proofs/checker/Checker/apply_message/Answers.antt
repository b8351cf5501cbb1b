use Rattle.std.proofs.Common.{refl}
use Rattle.trace_check.proofs.Moves.{granted_of, accessed, accessed_sizes, grant_moves, grants_nothing, guard_alone, message_moves, moved_by}
use Rattle.trace_check.proofs.checker.Checker.apply_message.Goals as goal

pub message-requires-clause-guard : goal.message-requires-clause-guard
message-requires-clause-guard c =
    let v = c.args.self.now
    in guard_alone v.machine v.bus v.inflight v.monitor c.args.actor c.args.kind.now v.bus_machine c.requires.message c.requires.guarded

pub returns-in-GrantS : goal.returns-in-GrantS
returns-in-GrantS c =
    let v = c.args.self.now
    in let sets = v.monitor_sizes
    in moved_by v _ c.args.actor c.args.kind.now refl refl refl v.bus_machine
    (grant_moves v.bus v.inflight v.monitor c.args.actor c.args.actor.core c.args.kind.now c.in-GrantS.block c.message.new.self c.llc_access.new.self refl (granted_of c.args.kind.now c.in-GrantS.block c.in-GrantS.is) c.message.ensures
    (accessed c.state_follows.ensures v.machine v.bus v.inflight v.monitor c.llc_access.new.self c.in-GrantS.block sets.0 sets.1 v.bus_machine c.llc_access.ensures))

pub returns-in_default : goal.returns-in_default
returns-in_default c =
    let v = c.args.self.now
    in moved_by v _ c.args.actor c.args.kind.now refl refl refl v.bus_machine
    (message_moves v.bus v.inflight v.monitor c.args.actor c.args.actor.core c.args.kind.now c.message.new.self refl c.requires.message (grants_nothing c.args.kind.now c.in_default.not-GrantS c.in_default.not-GrantE c.in_default.not-GrantM) c.message.ensures)

pub invariant_of-self-in-GrantS-clause-monitor_sizes : goal.invariant_of-self-in-GrantS-clause-monitor_sizes
invariant_of-self-in-GrantS-clause-monitor_sizes c =
    let v = c.args.self.now
    in accessed_sizes c.state_follows.ensures v.machine v.bus v.inflight v.monitor c.llc_access.new.self c.in-GrantS.block v.monitor_sizes.0 v.monitor_sizes.1 c.llc_access.ensures
