use Rattle.std.proofs.Common.{refl}
use Rattle.trace_check.proofs.Moves.{enter_moves, moved_by}
use Rattle.trace_check.proofs.checker.Checker.enter.Goals as goal

pub returns : goal.returns
returns c =
    let v = c.args.self.now
    in let t = c.requires.there
    in moved_by v _ _ _ refl refl refl v.bus_machine (enter_moves v.bus v.inflight v.monitor c.args.pei.now t.here t.named c.enter.new.self c.enter.ensures)
