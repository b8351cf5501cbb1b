-- Where a stamp would stand among others.
use Rattle.std.specs.Prelude.{◌≡◌, ◌⊎◌, ℕ, ◌+◌, ◌<◌, ◌≤◌, List, length, slice_get, Some}

-- the stamp before a place is smaller, where one is before it
abbrev pub IsAboveLast : List ℕ → ℕ → ℕ → Type 0
IsAboveLast stamps stamp place = (place ≡ 0) ⊎ ((last p : ℕ) × (place ≡ last + 1) × (slice_get stamps last ≡ Some p) × (p < stamp))

-- the stamp at a place is larger, where one is there
abbrev pub IsBelowNext : List ℕ → ℕ → ℕ → Type 0
IsBelowNext stamps stamp place = (length stamps ≤ place) ⊎ ((q : ℕ) × (slice_get stamps place ≡ Some q) × (stamp < q))
