use Rattle.std.proofs.Common.{refl}
use Rattle.trace_check.proofs.Moves.{place_moves, moved_by, placed_by, placed_sizes}
use Rattle.trace_check.proofs.checker.Checker.place.Goals as goal

pub invariant_of-self-clause-monitor_sizes : goal.invariant_of-self-clause-monitor_sizes
invariant_of-self-clause-monitor_sizes c =
    let v = c.args.self.now
    in placed_sizes c.state_follows.ensures v.machine v.bus v.inflight v.monitor c.place_by.new.monitor c.args.pei.now.block v.monitor_sizes.0 v.monitor_sizes.1 c.place_by.ensures

pub returns : goal.returns
returns c =
    let v = c.args.self.now
    in let t = c.requires.there
    in let sets = v.monitor_sizes
    in moved_by v _ _ _ refl refl refl v.bus_machine
    (place_moves v.bus v.inflight v.monitor c.args.pei.now t.here t.named c.args.place c.place.new.self c.place_by.new.monitor
    (placed_by c.state_follows.ensures v.machine v.bus v.inflight v.monitor c.place_by.new.monitor c.args.pei.now.block sets.0 sets.1 v.bus_machine c.place_by.ensures) c.place.ensures)
