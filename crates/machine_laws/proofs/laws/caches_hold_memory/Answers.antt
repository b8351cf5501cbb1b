use Rattle.machine_laws.proofs.Caches.{memory_alone, memory_written, memory_executed}
use Rattle.machine_laws.proofs.laws.caches_hold_memory.Goals as goal

pub returns : goal.returns
returns c =
    record {
      invariants = c.invariants_are_kept.ensures.caches;
      alone = memory_alone;
      written = memory_written c.lines_follow.ensures c.writes_are_kept.ensures;
      executed = memory_executed c.writes_are_kept.ensures;
    }
