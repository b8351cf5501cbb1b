use Rattle.std.proofs.Common.{refl}
use Rattle.trace_check.proofs.Moves.{store_moves, moved_by}
use Rattle.trace_check.proofs.checker.Checker.apply_store.Goals as goal

pub returns : goal.returns
returns c a core =
    let v = c.args.self.now
    in moved_by v _ a _ refl refl refl v.bus_machine (store_moves v.bus v.inflight v.monitor a c.args.core c.args.addr c.args.value c.store.new.self core c.store.ensures)
