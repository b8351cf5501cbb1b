use Rattle.std.proofs.Common.{refl}
use Rattle.trace_check.proofs.Moves.{read_moves, moved_by}
use Rattle.trace_check.proofs.checker.Checker.read.Goals as goal

pub returns : goal.returns
returns c =
    let v = c.args.self.now
    in let t = c.requires.there
    in moved_by v _ _ _ refl refl refl v.bus_machine (read_moves v.bus v.inflight v.monitor c.args.pei.now t.here t.named _ c.host_read.new.self c.host_read-2.new.self c.host_read.ensures.touched c.host_read-2.ensures)
