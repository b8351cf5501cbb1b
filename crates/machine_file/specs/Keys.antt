-- The table of the keys of a machine file.
use Rattle.std.specs.Prelude.{ℕ, Bool, true, false, List, [], ◌∷◌, Option, Some, None, codes}
use Rattle.machine_file.specs.declared.keys.Key.{Key}
use Rattle.machine_file.specs.declared.keys.Key.TheVariants as key
use Rattle.pei_types.specs.declared.machines.MachineSpec.{MachineSpec}

-- A key for a number: its name in a file, its least and greatest number, the keys whose numbers it is not above either,
-- the number that stands where a file does not name it (none for a key that a file has to name), that of the built-in
-- machines (none where it differs), and whether it is a power of two.
pub record KeyRow : Type 0 where
  pub key : Key
  pub name : List ℕ
  pub least : ℕ
  pub greatest : ℕ
  pub at_most : List Key
  pub default : Option ℕ
  pub built_in : Option ℕ
  pub power_of_two : Bool

-- a row that no other key bounds
abbrev pub row : Key → List ℕ → ℕ → ℕ → Option ℕ → Option ℕ → Bool → KeyRow
row k name least greatest default built_in power_of_two =
    record { key = k; name = name; least = least; greatest = greatest; at_most = []; default = default; built_in = built_in; power_of_two = power_of_two }

-- the row where these keys bound it
abbrev pub bounded_by : List Key → KeyRow → KeyRow
bounded_by keys r = record r { at_most = keys }

-- The one table: the row of each key. The placement is no number, so its row has its name alone.
abbrev pub row_of : Key → KeyRow
row_of key.Cores = row key.Cores (codes "cores") 1 8 None None false
row_of key.Blocks = row key.Blocks (codes "blocks") 16 65536 None (Some 4096) false
row_of key.L1Sets = row key.L1Sets (codes "l1_sets") 1 64 (Some 64) (Some 4) true
row_of key.L1Ways = row key.L1Ways (codes "l1_ways") 1 8 (Some 4) (Some 2) false
row_of key.LlcSets = row key.LlcSets (codes "llc_sets") 1 1024 (Some 1024) (Some 16) true
row_of key.LlcWays = row key.LlcWays (codes "llc_ways") 1 16 (Some 16) (Some 4) false
row_of key.Vaults = row key.Vaults (codes "vaults") 1 16 (Some 16) (Some 4) true
row_of key.Queue = row key.Queue (codes "queue") 1 16 (Some 16) (Some 4) false
row_of key.Directory = row key.Directory (codes "directory") 2 2048 (Some 2048) (Some 64) true
row_of key.Buffer = row key.Buffer (codes "buffer") 1 4 (Some 4) (Some 4) false
row_of key.Banks = bounded_by (key.L1Sets ∷ key.LlcSets ∷ key.Vaults ∷ []) (row key.Banks (codes "banks") 1 8 (Some 1) (Some 1) true)
row_of key.Fuel = row key.Fuel (codes "fuel") 1 1000000 (Some 100000) (Some 10000) false
row_of key.Events = row key.Events (codes "events") 64 1048576 (Some 524288) (Some 262144) false
row_of key.Placement = row key.Placement (codes "placement") 0 0 None None false

-- the keys for numbers, in the order of the table
abbrev pub number_keys : List KeyRow
number_keys =
    row_of key.Cores
    ∷ row_of key.Blocks
    ∷ row_of key.L1Sets
    ∷ row_of key.L1Ways
    ∷ row_of key.LlcSets
    ∷ row_of key.LlcWays
    ∷ row_of key.Vaults
    ∷ row_of key.Queue
    ∷ row_of key.Directory
    ∷ row_of key.Buffer
    ∷ row_of key.Banks
    ∷ row_of key.Fuel
    ∷ row_of key.Events
    ∷ []

-- the name of the key for the placement
abbrev pub placement_name : List ℕ
placement_name = codes "placement"

-- the number that a machine has for a key
abbrev pub number_of : MachineSpec → Key → ℕ
number_of m key.Cores = m.cores
number_of m key.Blocks = m.blocks
number_of m key.L1Sets = m.l1_sets
number_of m key.L1Ways = m.l1_ways
number_of m key.LlcSets = m.llc_sets
number_of m key.LlcWays = m.llc_ways
number_of m key.Vaults = m.vaults
number_of m key.Queue = m.queue
number_of m key.Directory = m.directory
number_of m key.Buffer = m.buffer
number_of m key.Banks = m.banks
number_of m key.Fuel = m.fuel
number_of m key.Events = m.events
number_of m key.Placement = 0
