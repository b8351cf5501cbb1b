use Rattle.std.proofs.Common.{◌≡◌, ◌<◌, ◌+◌, false}
use Rattle.pei_types.specs.declared.identifiers.Lane.{Lane}
use Rattle.pei_types.specs.MachineState.{look_in}
use Rattle.trace_check.specs.InState.{waits_in}
use Rattle.trace_check.specs.CheckerParts.{state_of}
use Rattle.trace_check.proofs.checker.Checker.waits_for_own.Given as goal

-- no lane so far has such a PEI
abbrev pub invariant-loop-place : goal.invariant-loop-place
invariant-loop-place l = (k : Lane) → 0 < k.0 → k.0 < l.place + 1 → waits_in l.block l.store (look_in (state_of l.self) l.core k) ≡ false
