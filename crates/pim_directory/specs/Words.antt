-- What it takes to pack an entry's claims into one word, and to change them there.
use Rattle.std.specs.Prelude.{◌≡◌, ℕ, ◌/◌, ◌%◌, ◌<◌, List, slice_get, Some}
use Rattle.pei_types.specs.Claims.{Claims}
use Rattle.pei_types.specs.declared.operations.Mode.{Mode}
use Rattle.pei_types.specs.declared.operations.Mode.TheVariants as mode

-- Each count fits its bits: the readers 0 to 7, the writer 8, the waiting writers 16 to 23.
abbrev pub IsPacked : Claims → Type 0
IsPacked c = (c.readers < 256) × (c.writers < 2) × (c.waiting < 256)

-- A claim may be asked for: a reader's where there is room for one more, a writer's where a writer waits.
abbrev pub IsReady : Claims → Mode → Type 0
IsReady c mode.Reader = c.readers < 255
IsReady c mode.Writer = 0 < c.waiting

-- a claim of this mode is held
abbrev pub IsHeld : Claims → Mode → Type 0
IsHeld c mode.Reader = 0 < c.readers
IsHeld c mode.Writer = 0 < c.writers

-- the claims that a word packs
abbrev pub claims_of_word : ℕ → Claims
claims_of_word w = record { readers = w % 256; writers = w / 256 % 256; waiting = w / 65536 }

-- each word packs the claims of an entry
abbrev pub AllPacked : List ℕ → Type 0
AllPacked words = (i : ℕ) (w : ℕ) → slice_get words i ≡ Some w → IsPacked (claims_of_word w)
