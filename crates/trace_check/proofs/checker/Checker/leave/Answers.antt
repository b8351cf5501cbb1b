use Rattle.std.proofs.Common.{refl}
use Rattle.trace_check.proofs.Moves.{leave_moves, moved_by}
use Rattle.trace_check.proofs.checker.Checker.leave.Goals as goal

pub returns : goal.returns
returns c =
    let v = c.args.self.now
    in let t = c.requires.there
    in moved_by v _ _ _ refl refl refl v.bus_machine (leave_moves v.bus v.inflight v.monitor c.args.pei.now t.here t.named c.leave.new.self c.leave.ensures)
