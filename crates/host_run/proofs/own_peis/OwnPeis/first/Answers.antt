use Rattle.std.proofs.Common.{◌≡◌, ◌<◌, ◌+◌, suc, take, length, slice_index_or, None, sym, subst, arith, rules}
use Rattle.std.proofs.Math.Seq.{take-suc}
use Rattle.host_run.proofs.Firsts.{Found, past_lane}
use Rattle.host_run.proofs.own_peis.OwnPeis.first.Goals as goal

pub loop-lane-preserved : goal.loop-lane-preserved
loop-lane-preserved c =
    let lanes = c.args.self.now.lanes
    in let i = c.loop-lane.lane
    in let here : i < length lanes = search rules
    in let next : suc i ≡ i + 1 = omega arith
    in subst (λ n. Found (take n lanes) c.args.unentered c.lower-found.result) next
    (subst (λ xs. Found xs c.args.unentered c.lower-found.result) (sym (take-suc lanes i None here))
    (rw c.lower-found.ensures (past_lane (take i lanes) (slice_index_or lanes i None) c.args.unentered c.loop-lane.found c.loop-lane.invariant)))
