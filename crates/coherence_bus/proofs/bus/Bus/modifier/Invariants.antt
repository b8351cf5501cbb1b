use Rattle.std.proofs.Common.{◌≡◌, ◌-◌, map, find}
use Rattle.std.specs.List.{range_with_len}
use Rattle.pei_types.specs.MachineState.{cores_of, is_ahead, letter_of}
use Rattle.coherence_bus.specs.Hierarchy.{state_of}
use Rattle.coherence_bus.proofs.bus.Bus.modifier.Given as goal

-- the first core with a modified copy is the first from this number on
abbrev pub invariant-loop-core : goal.invariant-loop-core
invariant-loop-core l =
    find (λ c. is_ahead (letter_of l.fn.self.machine (state_of l.fn.self) c l.b)) (cores_of l.fn.self.machine)
    ≡ find (λ c. is_ahead (letter_of l.fn.self.machine (state_of l.fn.self) c l.b)) (map (λ n. record { 0 = n }) (range_with_len l.core (l.fn.self.machine.cores - l.core)))
