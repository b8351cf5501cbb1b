-- What calls do to outside objects.
use Rattle.std.specs.Prelude.{◌≡◌, ◌≢◌, ◌⊎◌, ℕ, ◌-◌, ◌^◌, ◌<◌, ◌≤◌, min, List, ◌++◌, take, drop, length, Option, Some, IfSome, Result, Ok, Err}
use Rattle.pei_io.specs.declared.files.Which.{Which}
use Rattle.pei_io.specs.declared.files.Failed.{Failed}

-- a count of faults rose, or stands at its end
abbrev pub Rose : ℕ → ℕ → Type 0
Rose before now = (before < now) ⊎ (now ≡ 2 ^ 64 - 1)

-- a count that stands still at its end
abbrev pub counted : ℕ → ℕ
counted n = min n (2 ^ 64 - 1)

-- ---- files

-- A call on one file leaves the others as they were, and what files hold.
pub record LeavesOthers {F : Type 0} (held : F → Which → List ℕ → Option (List ℕ)) (left name : F → Which → Option (List ℕ)) (taken faults : F → Which → ℕ) (which : Which) (old new : F) : Type 0 where
  pub same_held : (w : Which) (file : List ℕ) → held new w file ≡ held old w file
  pub same_left : (w : Which) → w ≢ which → left new w ≡ left old w
  pub same_name : (w : Which) → w ≢ which → name new w ≡ name old w
  pub same_taken : (w : Which) → w ≢ which → taken new w ≡ taken old w
  pub same_faults : (w : Which) → w ≢ which → faults new w ≡ faults old w

-- n bytes go from the front of what is left to the front of a buffer
abbrev pub Takes : ℕ → List ℕ → Option (List ℕ) → Option (List ℕ) → Type 0
Takes n buffer before now = IfSome before (λ bytes. (n ≤ length bytes) × (take n buffer ≡ take n bytes) × (now ≡ Some (drop n bytes)))

-- ---- sinks

-- these bytes were written behind what was there, where that is told
abbrev pub Added : List ℕ → Option (List ℕ) → Option (List ℕ) → Type 0
Added bytes before now = IfSome before (λ written. now ≡ Some (written ++ bytes))

-- how a write of a text ended: all of it was written, or a front of it and the count of faults rose
abbrev pub Writes : List ℕ → Option (List ℕ) → Option (List ℕ) → ℕ → ℕ → Result (Unit {0}) Failed → Type 0
Writes text before now faults faults_now (Ok done) = Added text before now × (faults ≤ faults_now)
Writes text before now faults faults_now (Err failed) =
    ((n : ℕ) × (n ≤ length text) × Added (take n text) before now) × Rose faults faults_now × (faults ≤ faults_now)
