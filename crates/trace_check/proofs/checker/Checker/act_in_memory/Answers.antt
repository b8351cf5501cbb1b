use Rattle.std.proofs.Common.{refl}
use Rattle.trace_check.proofs.Moves.{memory_acts, moved_by, acted_headed}
use Rattle.trace_check.proofs.checker.Checker.act_in_memory.Goals as goal

pub returns : goal.returns
returns c reply =
    let v = c.args.self.now
    in let t = c.requires.there
    in moved_by v _ _ _ refl refl refl v.bus_machine
    (memory_acts v.bus v.inflight v.monitor c.args.pei.now t.here t.named reply c.vault_act.new.self c.acted.new.self c.requires.head.0 c.vault_act.ensures.block
    (acted_headed v.machine v.bus v.inflight v.monitor c.args.pei.now c.acted.new.self t.here v.bus_machine v.inflight_machine c.requires.head c.acted.ensures.memory))
