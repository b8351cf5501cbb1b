-- What a cache is seen as, and what it keeps true of itself.
use Rattle.std.specs.Prelude.{◌≡◌, ℕ, ◌%◌, false, List, length, replicate, Option, Some, slice_index_or}
use Rattle.pei_types.specs.declared.operations.Letter.TheVariants as letter
use Rattle.pei_types.specs.MachineState.{is_i}
use Rattle.set_lists.specs.Placed.{Placed, IsListed, IsPlaced, key_at}
use Rattle.set_lists.specs.Laws.{held}
use Rattle.pei_types.specs.declared.lines.CopyLine.{CopyLine}
use Rattle.mesi_l1.specs.declared.L1.TheInside.{Inside}
use Rattle.mesi_l1.specs.Cache.{Cache}

-- what a slot has where no line was ever put
abbrev pub blank : CopyLine
blank = record { block = record { 0 = 0 }; letter = letter.I; content = record { 0 = replicate 8 0 } }

abbrev pub line_at : List CopyLine → ℕ → CopyLine
line_at lines slot = slice_index_or lines slot blank

-- the cache with these tags and lines
abbrev pub cache_of : Placed → List CopyLine → Cache
cache_of tags lines = record { ways = tags.ways; sets = held (line_at lines) tags.lists; slots = tags.keys }

-- a line of a set: its key is its block's number, which belongs there, and it is a copy
pub record IsLine (sets set : ℕ) (kept : Option ℕ) (x : CopyLine) : Type 0 where
  pub key : kept ≡ Some x.block.0
  pub home : x.block.0 % sets ≡ set
  pub copy : is_i x.letter ≡ false

-- there is a line for each slot, and each slot that is not free has its line
pub record IsKept (tags : Placed) (lines : List CopyLine) : Type 0 where
  pub room : length lines ≡ length tags.keys
  pub placed : IsPlaced tags
  pub each : (set slot : ℕ) → IsListed tags set slot → IsLine (length tags.lists) set (key_at tags.keys slot) (line_at lines slot)

abbrev pub shown : Inside → Cache
shown i = cache_of i.tags i.lines.items

abbrev pub IsInOrder : Inside → Type 0
IsInOrder i = IsKept i.tags i.lines.items
