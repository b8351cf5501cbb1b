use Rattle.pei_types.specs.declared.events.EventKind.TheVariants as event
use Rattle.host_run.proofs.Keeping.{by_kind, not_empty, on_begin, on_end, on_enter, on_issue, on_leave, on_other, plain_after, plain_fence, plain_kind}
use Rattle.host_run.proofs.own_peis.OwnPeis.note.Goals as goal

pub returns-in-Issue-clause-keeps : goal.returns-in-Issue-clause-keeps
returns-in-Issue-clause-keeps c = λ m core own k next it same.
    let l = c.laws.ensures
    in let e = c.args.event.now
    in let x = c.in-Issue
    in by_kind m core own e (event.Issue x.seq x.lane x.op x.block x.operands) _ x.is (λ n i. on_issue l.cores l.merge l.issues m core own c.args.self.now k e.actor x.seq x.lane x.op x.block x.operands c.mode.result c.mode.ensures n same) next it

pub returns-in-Some-clause-keeps : goal.returns-in-Some-clause-keeps
returns-in-Some-clause-keeps c = λ m core own k next it same.
    let l = c.laws.ensures
    in let e = c.args.event.now
    in by_kind m core own e (event.Enter c.in-Enter.seq) _ c.in-Enter.is (λ n i. on_enter l.cores l.merge l.issues m core own c.args.self.now k e.actor c.in-Enter.seq c.in-Some.pei i same c.in-Some.is) next it

pub returns-in_default-lanes-clause-keeps : goal.returns-in_default-lanes-clause-keeps
returns-in_default-lanes-clause-keeps c = λ m core own k next it same.
    let l = c.laws.ensures
    in let e = c.args.event.now
    in by_kind m core own e (event.Enter c.in-Enter.seq) _ c.in-Enter.is (λ n i. let there = not_empty l.cores l.merge l.issues m core own c.args.self.now k e.actor c.in-Enter.seq i same in absurd (c.in_default-lanes.not-Some there.0 there.1)) next it

pub returns-in-Leave-clause-keeps : goal.returns-in-Leave-clause-keeps
returns-in-Leave-clause-keeps c = λ m core own k next it same.
    let l = c.laws.ensures
    in let e = c.args.event.now
    in by_kind m core own e (event.Leave c.in-Leave.seq) _ c.in-Leave.is (λ n i. on_leave l.cores l.merge l.issues m core own c.args.self.now k e.actor c.in-Leave.seq _ i same) next it

pub returns-in-FenceBegin-clause-keeps : goal.returns-in-FenceBegin-clause-keeps
returns-in-FenceBegin-clause-keeps c = λ m core own k next it same.
    let l = c.laws.ensures
    in let e = c.args.event.now
    in by_kind m core own e event.FenceBegin _ c.in-FenceBegin.is (λ n i. on_begin l.cores l.merge l.issues m core own c.args.self.now k e.actor c.args.stamp same) next it

pub returns-in-FenceEnd-clause-keeps : goal.returns-in-FenceEnd-clause-keeps
returns-in-FenceEnd-clause-keeps c = λ m core own k next it same.
    let l = c.laws.ensures
    in let e = c.args.event.now
    in by_kind m core own e event.FenceEnd _ c.in-FenceEnd.is (λ n i. on_end l.cores l.merge l.issues m core own c.args.self.now k e.actor same) next it

pub returns-in_default : goal.returns-in_default
returns-in_default c =
    let l = c.laws.ensures
    in let e = c.args.event.now
    in let d = c.in_default
    in let plain = plain_kind e.kind d.not-Issue d.not-FenceBegin d.not-FenceEnd d.not-Enter d.not-Leave
    in let o = c.args.self.now
    in let after = plain_after e.actor e.kind o.lanes o.spent o.cleared plain
    in record {
      keeps = λ m core own k next it same. on_other l.cores l.merge l.issues m core own c.args.self.now k e.actor e.kind plain it same;
      fence = plain_fence e.kind c.args.self.now.fence (record { stamp = c.args.stamp; event = e }) plain;
      lanes = after.0;
      spent = after.1;
      cleared = after.2;
    }
