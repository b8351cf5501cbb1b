use Rattle.std.proofs.Common.{refl}
use Rattle.trace_check.proofs.Moves.{load_moves, moved_by}
use Rattle.trace_check.proofs.checker.Checker.apply_load.Goals as goal

pub returns : goal.returns
returns c a value core =
    let v = c.args.self.now
    in moved_by v _ a _ refl refl refl v.bus_machine (load_moves v.bus v.inflight v.monitor a c.args.core c.args.addr value c.load.result c.load.new.self core c.load.ensures.touched)
