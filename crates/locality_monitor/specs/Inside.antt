-- What the monitor is seen as, and what it keeps true of itself.
use Rattle.std.specs.Prelude.{◌≡◌, ℕ, false, List, length, Some, slice_index_or}
use Rattle.pei_types.specs.Monitor.{MonitorEntry}
use Rattle.set_lists.specs.Placed.{Placed, IsListed, IsPlaced, key_at}
use Rattle.set_lists.specs.Laws.{held}
use Rattle.locality_monitor.specs.declared.Monitor.TheInside.{Inside}
use Rattle.locality_monitor.specs.Table.{Table}

-- what a slot has where no entry was ever put
abbrev pub blank : MonitorEntry
blank = record { tag = 0; flag = false }

abbrev pub entry_at : List MonitorEntry → ℕ → MonitorEntry
entry_at entries slot = slice_index_or entries slot blank

-- the monitor with these tags and entries
abbrev pub table_of : Placed → List MonitorEntry → Table
table_of tags entries = record { ways = tags.ways; sets = held (entry_at entries) tags.lists }

-- there is an entry for each slot, and the key of each slot that is not free is its entry's tag
pub record IsKept (tags : Placed) (entries : List MonitorEntry) : Type 0 where
  pub room : length entries ≡ length tags.keys
  pub placed : IsPlaced tags
  pub each : (set slot : ℕ) → IsListed tags set slot → key_at tags.keys slot ≡ Some (entry_at entries slot).tag

abbrev pub shown : Inside → Table
shown i = table_of i.tags i.entries.items

abbrev pub IsInOrder : Inside → Type 0
IsInOrder i = IsKept i.tags i.entries.items
