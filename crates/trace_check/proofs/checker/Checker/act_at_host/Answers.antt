use Rattle.std.proofs.Common.{refl}
use Rattle.trace_check.proofs.Moves.{host_acts, moved_by, acted_read}
use Rattle.trace_check.proofs.checker.Checker.act_at_host.Goals as goal

pub returns : goal.returns
returns c reply =
    let v = c.args.self.now
    in let t = c.requires.there
    in moved_by v _ _ _ refl refl refl v.bus_machine
    (host_acts v.bus v.inflight v.monitor c.args.pei.now t.here t.named reply c.write_back.new.bus c.acted.new.self c.requires.phase c.write_back.ensures
    (acted_read v.bus v.inflight v.monitor c.args.pei.now c.acted.new.self t.here c.requires.phase c.acted.ensures.host))
