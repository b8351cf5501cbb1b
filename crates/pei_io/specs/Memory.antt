-- Objects in memory.
use Rattle.pei_io.specs.Outside.{counted}
use Rattle.std.specs.Prelude.{ℕ, min, List, [], drop, length, Option, Some, None}

-- a file in memory: its bytes, the name under which it was opened, how far it was read, and how many calls on it failed
pub record MemoryFile : Type 0 where
  pub content : List ℕ
  pub name : Option (List ℕ)
  pub position : ℕ
  pub faults : ℕ

-- the bytes left: none where it is not open
abbrev pub left_if : Option (List ℕ) → List ℕ → List ℕ
left_if None bytes = []
left_if (Some name) bytes = bytes

abbrev pub left_of : MemoryFile → List ℕ
left_of f = left_if f.name (drop f.position f.content)

-- how many bytes a read moves
abbrev pub read_len : ℕ → ℕ → List ℕ → ℕ
read_len most room left = min (min (length left) room) most

-- how many bytes were read of it
abbrev pub taken_if : Option (List ℕ) → ℕ → ℕ
taken_if None position = 0
taken_if (Some name) position = counted position

abbrev pub taken_of : MemoryFile → ℕ
taken_of f = taken_if f.name f.position

-- a file of these bytes that is not open
abbrev pub unopened : List ℕ → MemoryFile
unopened content = record { content = content; name = None; position = 0; faults = 0 }
