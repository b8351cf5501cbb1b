-- Marks of the places that a program names.
use Rattle.std.specs.Prelude.{◌≡◌, ℕ, ◌+◌, Bool, false, ◌||◌, List, length, slice_index_or}
use Rattle.pei_types.specs.Program.{Listing}
use Rattle.pei_asm.specs.Canonical.{is_named}

abbrev pub is_marked : List Bool → ℕ → Bool
is_marked places k = slice_index_or places k false

-- the places that pass a test are marked beside those that were
pub record Marks (before after : List Bool) (test : ℕ → Bool) : Type 0 where
  pub size : length after ≡ length before
  pub each : (k : ℕ) → is_marked after k ≡ (is_marked before k || test k)

-- just the places that the program names are marked
pub record HasNamed (p : Listing) (places : List Bool) : Type 0 where
  pub size : length places ≡ length p.instrs + 1
  pub each : (k : ℕ) → is_marked places k ≡ is_named p k
