use Rattle.std.proofs.Common.{◌≡◌, ◌<◌}
use Rattle.coherence_bus.proofs.tests.messages_come_before_accesses.Given as goal

-- the machine is the small one, and the row's core and address are its own
abbrev pub invariant-loop-message : goal.invariant-loop-message
invariant-loop-message g l = (l.bus.machine.cores ≡ 2) × (l.bus.machine.blocks ≡ 128) × (l.own.0 < 2) × (l.addr < 8192)

abbrev pub invariant-loop-own : goal.invariant-loop-own
invariant-loop-own g l = (l.bus.machine.cores ≡ 2) × (l.bus.machine.blocks ≡ 128)
