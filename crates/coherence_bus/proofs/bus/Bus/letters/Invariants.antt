use Rattle.std.proofs.Common.{◌≡◌, ◌≤◌, ◌-◌, ◌++◌, map, replicate}
use Rattle.std.specs.List.{range_with_len}
use Rattle.pei_types.specs.declared.operations.Letter.TheVariants as letter
use Rattle.pei_types.specs.MachineState.{letter_of}
use Rattle.coherence_bus.specs.Hierarchy.{state_of}
use Rattle.coherence_bus.proofs.bus.Bus.letters.Given as goal

-- the letters of the cores up to this number, and I for all others
abbrev pub invariant-loop-core : goal.invariant-loop-core
invariant-loop-core l =
    (l.core ≤ l.fn.self.machine.cores)
    × (l.letters ≡ map (λ n. letter_of l.fn.self.machine (state_of l.fn.self) (record { 0 = n }) l.b) (range_with_len 0 l.core) ++ replicate (8 - l.core) letter.I)
