use Rattle.std.proofs.Common.{◌≡◌, true, refl, sym, subst}
use Rattle.pei_types.specs.declared.events.EventKind.{EventKind}
use Rattle.trace_check.specs.CheckerParts.{Moved, state_of}
use Rattle.pei_types.specs.declared.events.EventKind.TheVariants as event
use Rattle.pei_types.specs.Guard.{guard}
use Rattle.trace_check.proofs.Moves.{issue_lane, issue_number}
use Rattle.trace_check.proofs.checker.Checker.apply_answer.Goals as goal

pub returns-in-Load : goal.returns-in-Load
returns-in-Load c = subst (λ (k : EventKind). Moved c.args.self.now c.apply_load.new.self c.args.actor k) (sym c.in-Load.is) (c.apply_load.ensures c.args.actor c.in-Load.value refl)

pub returns-in-Store : goal.returns-in-Store
returns-in-Store c = subst (λ (k : EventKind). Moved c.args.self.now c.apply_store.new.self c.args.actor k) (sym c.in-Store.is) (c.apply_store.ensures c.args.actor refl)

pub returns-in-Issue : goal.returns-in-Issue
returns-in-Issue c =
    let v = c.args.self.now
    in let i = c.in-Issue
    in let guarded : guard v.machine (state_of v) c.args.actor (event.Issue i.seq i.lane i.op i.block i.operands) ≡ true = subst (λ (k : EventKind). guard v.machine (state_of v) c.args.actor k ≡ true) i.is c.requires.may.guarded
    in subst (λ (k : EventKind). Moved v c.apply_issue.new.self c.args.actor k) (sym i.is)
    (c.apply_issue.ensures c.args.actor refl i.seq (issue_number v.machine (state_of v) c.args.actor i.seq i.lane i.op i.block i.operands guarded) i.lane (issue_lane v.machine (state_of v) c.args.actor i.seq i.lane i.op i.block i.operands guarded))

pub returns-in-FenceBegin : goal.returns-in-FenceBegin
returns-in-FenceBegin c = subst (λ (k : EventKind). Moved c.args.self.now c.begin_fence.new.self c.args.actor k) (sym c.in-FenceBegin.is) (c.begin_fence.ensures c.args.actor refl)

pub returns-in-FenceEnd : goal.returns-in-FenceEnd
returns-in-FenceEnd c = subst (λ (k : EventKind). Moved c.args.self.now c.end_fence.new.self c.args.actor k) (sym c.in-FenceEnd.is) (c.end_fence.ensures c.args.actor refl)
