-- What the locality monitor is seen as, and what each call makes of it.
use Rattle.std.specs.Prelude.{ℕ, ◌/◌, ◌%◌, List, [], length, find, replicate, Option}
use Rattle.pei_types.specs.declared.identifiers.BlockNo.{BlockNo}
use Rattle.pei_types.specs.declared.operations.Place.{Place}
use Rattle.pei_types.specs.Blocks.{fold_of}
use Rattle.pei_types.specs.Monitor.{MonitorEntry, has_tag, after_access, after_placement, place_by}
use Rattle.pei_types.specs.Recency.{change_at, list_at}

-- how many entries a set has room for, and the entries of each set, the most recent first
pub record Table : Type 0 where
  pub ways : ℕ
  pub sets : List (List MonitorEntry)

abbrev pub empty_table : ℕ → ℕ → Table
empty_table sets ways = record { ways = ways; sets = replicate sets [] }

-- the set of a block, its partial tag there, and the entry that it has
abbrev pub set_of : Table → BlockNo → ℕ
set_of v b = b.0 % length v.sets

abbrev pub tag_of : Table → BlockNo → ℕ
tag_of v b = fold_of (b.0 / length v.sets) 10

abbrev pub entry_of : Table → BlockNo → Option MonitorEntry
entry_of v b = find (has_tag (tag_of v b)) (list_at v.sets (set_of v b))

-- the table after an access of the last-level cache, and after a placement
abbrev pub with_access : Table → BlockNo → Table
with_access v b = record v { sets = change_at v.sets (set_of v b) (after_access v.ways (tag_of v b)) }

abbrev pub with_placement : Table → BlockNo → Table
with_placement v b = record v { sets = change_at v.sets (set_of v b) (after_placement v.ways (tag_of v b)) }

-- where a PEI on a block is placed
abbrev pub place_of : Table → BlockNo → Place
place_of v b = place_by (entry_of v b)
