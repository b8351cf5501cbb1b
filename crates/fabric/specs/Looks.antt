-- What a core's thread keeps of its core.
use Rattle.std.specs.Prelude.{ℕ, ◌+◌, ◌%◌, ◌^◌, ◌==◌, Bool, List, [], Option, Some, None}
use Rattle.pei_types.specs.declared.identifiers.PeiId.{PeiId}
use Rattle.pei_types.specs.declared.machines.MachineSpec.{MachineSpec}
use Rattle.pei_types.specs.declared.calls.Call.{Call}
use Rattle.pei_types.specs.declared.calls.Call.TheVariants as call
use Rattle.pei_types.specs.Next as next
use Rattle.fabric.specs.declared.looks.CoreLook.{CoreLook}

-- a fence that is on, for the rows of a bank, waits for nobody: that the earlier writers have left is asked of all banks
abbrev pub fence_seen : Option ℕ → Option (List PeiId)
fence_seen None = None
fence_seen (Some begin) = Some []

-- the look as the rows of a bank see it
abbrev pub seen : CoreLook → next.CoreLook
seen look =
    record {
      free = look.free;
      issues = look.issues;
      first_unentered = look.first_unentered;
      first_unfinished = look.first_unfinished;
      fence = fence_seen look.fence;
    }

-- whether the bits of all banks are set
abbrev pub is_clear : MachineSpec → CoreLook → Bool
is_clear m look = look.cleared % 2 ^ m.banks + 1 == 2 ^ m.banks

-- the stamp of the fence that a call finds on
abbrev pub open_fence : CoreLook → Call → Option ℕ
open_fence look call.Fence = look.fence
open_fence look _ = None
