use Rattle.pei_types.specs.declared.identifiers.BlockNo.{BlockNo}
use Rattle.pei_types.specs.declared.events.EventKind.TheVariants as event
use Rattle.trace_check.specs.CheckerParts.{state_of}
use Rattle.trace_check.proofs.Messages.{guard_at}
use Rattle.trace_check.proofs.checker.Checker.is_message_guarded.Goals as goal

pub returns-in-Invalidate : goal.returns-in-Invalidate
returns-in-Invalidate c =
    let v = c.args.self.now
    in guard_at v.machine (state_of v) (λ (b : BlockNo). event.Invalidate c.in-Invalidate.core b) c.args.own c.in-Invalidate.block c.looks.result c.args.kind.now c.may_lose.result c.looks.ensures.own c.looks.ensures.block c.in-Invalidate.is (λ a own. c.may_lose.ensures v.machine (state_of v) c.looks.ensures.taken c.requires.invariants a)

pub returns-in-Downgrade : goal.returns-in-Downgrade
returns-in-Downgrade c =
    let v = c.args.self.now
    in guard_at v.machine (state_of v) (λ (b : BlockNo). event.Downgrade c.in-Downgrade.core b) c.args.own c.in-Downgrade.block c.looks-in-Downgrade.result c.args.kind.now c.may_share.result c.looks-in-Downgrade.ensures.own c.looks-in-Downgrade.ensures.block c.in-Downgrade.is (λ a own. c.may_share.ensures v.machine (state_of v) c.looks-in-Downgrade.ensures.taken c.requires.invariants a)

pub returns-in-EvictL1 : goal.returns-in-EvictL1
returns-in-EvictL1 c =
    let v = c.args.self.now
    in guard_at v.machine (state_of v) (λ (b : BlockNo). event.EvictL1 c.in-EvictL1.core b) c.args.own c.in-EvictL1.block c.looks-in-EvictL1.result c.args.kind.now c.may_evict.result c.looks-in-EvictL1.ensures.own c.looks-in-EvictL1.ensures.block c.in-EvictL1.is (c.may_evict.ensures v.machine (state_of v) c.looks-in-EvictL1.ensures.taken c.requires.invariants)

pub returns-in-Clean : goal.returns-in-Clean
returns-in-Clean c =
    let v = c.args.self.now
    in guard_at v.machine (state_of v) (λ (b : BlockNo). event.Clean b) c.args.own c.in-Clean.block c.looks-in-Clean.result c.args.kind.now c.may_clean.result c.looks-in-Clean.ensures.own c.looks-in-Clean.ensures.block c.in-Clean.is (λ a own. c.may_clean.ensures v.machine (state_of v) c.looks-in-Clean.ensures.taken c.requires.invariants a)

pub returns-in-EvictLlc : goal.returns-in-EvictLlc
returns-in-EvictLlc c =
    let v = c.args.self.now
    in guard_at v.machine (state_of v) (λ (b : BlockNo). event.EvictLlc b) c.args.own c.in-EvictLlc.block c.looks-in-EvictLlc.result c.args.kind.now c.may_go.result c.looks-in-EvictLlc.ensures.own c.looks-in-EvictLlc.ensures.block c.in-EvictLlc.is (λ a own. c.may_go.ensures v.machine (state_of v) c.looks-in-EvictLlc.ensures.taken c.requires.invariants a)

pub returns-in-Fill : goal.returns-in-Fill
returns-in-Fill c =
    let v = c.args.self.now
    in guard_at v.machine (state_of v) (λ (b : BlockNo). event.Fill b) c.args.own c.in-Fill.block c.looks-in-Fill.result c.args.kind.now c.may_fill.result c.looks-in-Fill.ensures.own c.looks-in-Fill.ensures.block c.in-Fill.is (λ a own. c.may_fill.ensures a)

pub returns-in-GrantS : goal.returns-in-GrantS
returns-in-GrantS c =
    let v = c.args.self.now
    in guard_at v.machine (state_of v) (λ (b : BlockNo). event.GrantS b) c.args.own c.in-GrantS.block c.looks-in-GrantS.result c.args.kind.now c.may_grant_shared.result c.looks-in-GrantS.ensures.own c.looks-in-GrantS.ensures.block c.in-GrantS.is c.may_grant_shared.ensures

pub returns-in-GrantE : goal.returns-in-GrantE
returns-in-GrantE c =
    let v = c.args.self.now
    in guard_at v.machine (state_of v) (λ (b : BlockNo). event.GrantE b) c.args.own c.in-GrantE.block c.looks-in-GrantE.result c.args.kind.now c.may_grant_alone.result c.looks-in-GrantE.ensures.own c.looks-in-GrantE.ensures.block c.in-GrantE.is c.may_grant_alone.ensures

pub returns-in-GrantM : goal.returns-in-GrantM
returns-in-GrantM c =
    let v = c.args.self.now
    in guard_at v.machine (state_of v) (λ (b : BlockNo). event.GrantM b) c.args.own c.in-GrantM.block c.looks-in-GrantM.result c.args.kind.now c.may_grant_to_write.result c.looks-in-GrantM.ensures.own c.looks-in-GrantM.ensures.block c.in-GrantM.is c.may_grant_to_write.ensures
