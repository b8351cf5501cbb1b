use Rattle.std.proofs.Common.{refl}
use Rattle.trace_check.proofs.Moves.{begin_moves, moved_by}
use Rattle.trace_check.proofs.checker.Checker.begin_fence.Goals as goal

pub returns : goal.returns
returns c a core =
    let v = c.args.self.now
    in moved_by v _ a _ refl refl refl v.bus_machine (begin_moves v.bus v.inflight v.monitor a c.args.core c.fence_begin.new.self core c.fence_begin.ensures)
