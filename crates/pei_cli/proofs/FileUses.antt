-- What calls on one file after another did with each of them.
use Rattle.std.proofs.Common.{◌≡◌, ◌≢◌, ℕ, List, Option, sym, ◌∙◌, ap}
use Rattle.std.proofs.Math.Path.{fun_ext}
use Rattle.pei_io.specs.declared.files.Which.{Which}
use Rattle.pei_io.specs.Outside.{LeavesOthers}
use Rattle.pei_cli.specs.Uses.{file_state, file_use}

-- a call on another file leaves a file as it is
state_kept : {F : Type 0} (held : F → Which → List ℕ → Option (List ℕ)) (left name : F → Which → Option (List ℕ)) (taken faults : F → Which → ℕ) (w v : Which) (old new : F) → v ≢ w → LeavesOthers held left name taken faults w old new → file_state left name taken faults new v ≡ file_state left name taken faults old v
state_kept held left name taken faults w v old new other leaves =
    ap (λ l. record { left = l; name = name new v; taken = taken new v; faults = faults new v }) (leaves.same_left v other)
    ∙ ap (λ n. record { left = left old v; name = n; taken = taken new v; faults = faults new v }) (leaves.same_name v other)
    ∙ ap (λ n. record { left = left old v; name = name old v; taken = n; faults = faults new v }) (leaves.same_taken v other)
    ∙ ap (λ n. record { left = left old v; name = name old v; taken = taken old v; faults = n }) (leaves.same_faults v other)

-- a later call on another file leaves what was done
pub use_after : {F : Type 0} (held : F → Which → List ℕ → Option (List ℕ)) (left name : F → Which → Option (List ℕ)) (taken faults : F → Which → ℕ) (w v : Which) (old mid new : F) → v ≢ w → LeavesOthers held left name taken faults w mid new → file_use held left name taken faults old mid v ≡ file_use held left name taken faults old new v
use_after held left name taken faults w v old mid new other leaves =
    ap (λ s. record { held = held old v; before = file_state left name taken faults old v; now = s }) (sym (state_kept held left name taken faults w v mid new other leaves))

-- an earlier call on another file leaves what is done
pub use_before : {F : Type 0} (held : F → Which → List ℕ → Option (List ℕ)) (left name : F → Which → Option (List ℕ)) (taken faults : F → Which → ℕ) (w v : Which) (old mid new : F) → v ≢ w → LeavesOthers held left name taken faults w old mid → file_use held left name taken faults mid new v ≡ file_use held left name taken faults old new v
use_before held left name taken faults w v old mid new other leaves =
    ap (λ h. record { held = h; before = file_state left name taken faults mid v; now = file_state left name taken faults new v }) (fun_ext (leaves.same_held v))
    ∙ ap (λ s. record { held = held old v; before = s; now = file_state left name taken faults new v }) (state_kept held left name taken faults w v old mid other leaves)
