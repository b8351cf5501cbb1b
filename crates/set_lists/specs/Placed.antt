-- Sets of fixed slots: the key in each slot, and the slots of each set in the order of recency.
use Rattle.std.specs.Prelude.{◌≡◌, ℕ, ◌+◌, ◌*◌, ◌<◌, ◌≤◌, Bool, false, ◌==◌, IsTrue, nat_eq, List, [], ◌∷◌, length, replicate, Option, Some, None, slice_index_or, slice_set}
use Rattle.std.specs.List.{IsDistinct}
use Rattle.pei_types.specs.Recency.{change_at, list_at, without, victim}
use Rattle.link_list.specs.Linked.{has_node}

-- How many slots a set has, the key in each slot that is not free, and the slots of each set that are not free, the
-- most recent first.
pub record Placed : Type 0 where
  pub ways : ℕ
  pub keys : List (Option ℕ)
  pub lists : List (List ℕ)

-- sets whose slots are all free
abbrev pub all_free : ℕ → ℕ → Placed
all_free sets ways = record { ways = ways; keys = replicate (sets * ways) None; lists = replicate sets [] }

-- the key in a slot
abbrev pub key_at : List (Option ℕ) → ℕ → Option ℕ
key_at keys slot = slice_index_or keys slot None

abbrev pub is_key : ℕ → Option ℕ → Bool
is_key key None = false
is_key key (Some other) = other == key

-- whether a slot has a key
abbrev pub has_key : List (Option ℕ) → ℕ → ℕ → Bool
has_key keys key slot = is_key key (key_at keys slot)

-- a slot of a set that is not free
abbrev pub IsListed : Placed → ℕ → ℕ → Type 0
IsListed v set slot = IsTrue (has_node (list_at v.lists set) slot)

-- a slot is the place of a key in a set
pub record IsAt (v : Placed) (set key slot : ℕ) : Type 0 where
  pub listed : IsListed v set slot
  pub kept : key_at v.keys slot ≡ Some key

-- a slot is one of a set's slots, which are a row of `ways`
pub record IsOfSet (ways set slot : ℕ) : Type 0 where
  pub first : set * ways ≤ slot
  pub last : slot < set * ways + ways

-- Each set has its own slots, a slot is in its set's list just where it has a key, and a key is once in a set. This
-- holds of all `SetLists`.
pub record IsPlaced (v : Placed) : Type 0 where
  pub some_sets : 0 < length v.lists
  pub some_ways : 0 < v.ways
  pub slots : length v.keys ≡ length v.lists * v.ways
  pub own : (set slot : ℕ) → IsListed v set slot → IsOfSet v.ways set slot
  pub distinct : (set : ℕ) → IsDistinct nat_eq (list_at v.lists set)
  pub apart : (set other slot : ℕ) → IsListed v set slot → IsListed v other slot → set ≡ other
  pub keyed : (set slot : ℕ) → IsListed v set slot → (key : ℕ) × (key_at v.keys slot ≡ Some key)
  pub listed : (slot key : ℕ) → key_at v.keys slot ≡ Some key → (set : ℕ) × IsListed v set slot
  pub once : (set key slot other : ℕ) → IsAt v set key slot → IsAt v set key other → slot ≡ other
  pub within : (set : ℕ) → length (list_at v.lists set) ≤ v.ways

-- a slot of a set becomes its most recent
abbrev pub touched : Placed → ℕ → ℕ → Placed
touched v set slot = record v { lists = change_at v.lists set (λ xs. slot ∷ without (nat_eq slot) xs) }

-- a key is put into a free slot of a set, as its most recent
abbrev pub inserted : Placed → ℕ → ℕ → ℕ → Placed
inserted v set slot key = record v { keys = slice_set v.keys slot (Some key); lists = change_at v.lists set (λ xs. slot ∷ xs) }

-- a slot of a set becomes free
abbrev pub removed : Placed → ℕ → ℕ → Placed
removed v set slot = record v { keys = slice_set v.keys slot None; lists = change_at v.lists set (without (nat_eq slot)) }

-- where a set is full, its least recent slot becomes free
abbrev pub without_victim : Placed → ℕ → Option ℕ → Placed
without_victim v set None = v
without_victim v set (Some slot) = removed v set slot

abbrev pub room_made : Placed → ℕ → Placed
room_made v set = without_victim v set (victim v.ways (list_at v.lists set))
