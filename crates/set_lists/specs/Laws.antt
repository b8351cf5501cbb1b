-- What the crates above may know of the lists of what slots hold: lines, or entries of a monitor.
use Rattle.std.specs.Prelude.{◌≡◌, ◌≢◌, ◌⊎◌, ℕ, ◌<◌, ◌≤◌, Bool, true, false, if◌then◌else◌, List, [], ◌∷◌, length, replicate, map, find, Some, None, option_map}
use Rattle.std.specs.List.{list_any}
use Rattle.pei_types.specs.Recency.{change_at, list_at, without, to_front, victim, with_new}
use Rattle.set_lists.specs.Placed.{Placed, IsAt, IsListed, IsPlaced, has_key, key_at, touched, inserted, removed, room_made}

-- what the slots of each list hold
abbrev pub held : {A : Type 0} → (ℕ → A) → List (List ℕ) → List (List A)
held hold lists = map (map hold) lists

-- a test finds in what a set's slots hold those that have a key
abbrev pub Tells : {A : Type 0} → Placed → ℕ → ℕ → (ℕ → A) → (A → Bool) → Type 0
Tells v set key hold test = (slot : ℕ) → IsListed v set slot → test (hold slot) ≡ has_key v.keys key slot

-- slots other than this one hold the same
abbrev pub SameElse : {A : Type 0} → Placed → ℕ → (ℕ → A) → (ℕ → A) → Type 0
SameElse v slot hold new_hold = (set other : ℕ) → IsListed v set other → other ≢ slot → new_hold other ≡ hold other

-- A key in a set: what is found, and what the lists of held things become where its slot is touched or removed, or
-- what it holds changes.
pub record FollowsKey {A : Type 0} (v : Placed) (set key slot : ℕ) (hold new_hold : ℕ → A) (test : A → Bool) : Type 0 where
  pub found : find test (map hold (list_at v.lists set)) ≡ Some (hold slot)
  pub there : list_any test (map hold (list_at v.lists set)) ≡ true
  pub moved : new_hold slot ≡ hold slot → held new_hold (touched v set slot).lists ≡ change_at (held hold v.lists) set (to_front test)
  pub renewed : held new_hold (touched v set slot).lists ≡ change_at (held hold v.lists) set (λ xs. new_hold slot ∷ without test xs)
  pub changed : (change : A → A) → new_hold slot ≡ change (hold slot) → held new_hold v.lists ≡ change_at (held hold v.lists) set (map (λ x. if test x then change x else x))
  pub taken : held new_hold (removed v set slot).lists ≡ change_at (held hold v.lists) set (without test)

-- Which slots are in the lists after each call, and how many lists there are.
pub record SlotsFollow : Type 0 where
  pub touching : (v : Placed) (set slot : ℕ) → IsListed v set slot → (other x : ℕ) → IsListed (touched v set slot) other x → IsListed v other x
  pub inserting : (v : Placed) → IsPlaced v → (set slot key : ℕ) → key_at v.keys slot ≡ None → (other x : ℕ) → IsListed (inserted v set slot key) other x → ((other ≡ set) × (x ≡ slot)) ⊎ (IsListed v other x × (x ≢ slot))
  pub removing : (v : Placed) → IsPlaced v → (set slot : ℕ) → IsListed v set slot → (other x : ℕ) → IsListed (removed v set slot) other x → IsListed v other x × (x ≢ slot)
  pub making_room : (v : Placed) → IsPlaced v → (set : ℕ) → (other x : ℕ) → IsListed (room_made v set) other x → IsListed v other x × (key_at (room_made v set).keys x ≡ key_at v.keys x)
  pub keys_room : (v : Placed) (set : ℕ) → length (room_made v set).keys ≡ length v.keys
  pub count_room : (v : Placed) (set : ℕ) → length (room_made v set).lists ≡ length v.lists
  pub count_touched : (v : Placed) (set slot : ℕ) → length (touched v set slot).lists ≡ length v.lists
  pub count_inserted : (v : Placed) (set slot key : ℕ) → length (inserted v set slot key).lists ≡ length v.lists
  pub count_removed : (v : Placed) (set slot : ℕ) → length (removed v set slot).lists ≡ length v.lists

pub record SetsFollow (A : Type 0) : Type 0 where
  pub follows : (v : Placed) → IsPlaced v → (set key slot : ℕ) (hold new_hold : ℕ → A) (test : A → Bool) → set < length v.lists → IsAt v set key slot → Tells v set key hold test → SameElse v slot hold new_hold
      → FollowsKey v set key slot hold new_hold test
  pub slots : SlotsFollow
  -- a key that is found, and one that is not there
  pub known : (v : Placed) (set key slot : ℕ) → find (has_key v.keys key) (list_at v.lists set) ≡ Some slot → IsAt v set key slot
  pub absent : (v : Placed) (set key : ℕ) (hold : ℕ → A) (test : A → Bool) → Tells v set key hold test → find (has_key v.keys key) (list_at v.lists set) ≡ None → find test (map hold (list_at v.lists set)) ≡ None
  pub lacks : (v : Placed) (set key : ℕ) (hold : ℕ → A) (test : A → Bool) → Tells v set key hold test → find (has_key v.keys key) (list_at v.lists set) ≡ None → list_any test (map hold (list_at v.lists set)) ≡ false
  -- and comes into a free slot
  pub put : (v : Placed) → IsPlaced v → (set key slot : ℕ) (hold new_hold : ℕ → A) → key_at v.keys slot ≡ None → SameElse v slot hold new_hold
      → held new_hold (inserted v set slot key).lists ≡ change_at (held hold v.lists) set (λ xs. new_hold slot ∷ xs)
  -- where room is made first, a new key drops the last of a full set
  pub renewed : (v : Placed) → IsPlaced v → (set key slot : ℕ) (hold new_hold : ℕ → A) → IsPlaced (room_made v set) → key_at (room_made v set).keys slot ≡ None → SameElse (room_made v set) slot hold new_hold
      → held new_hold (inserted (room_made v set) set slot key).lists ≡ change_at (held hold v.lists) set (with_new v.ways (new_hold slot))
  -- nothing is held in empty lists
  pub empty : (hold : ℕ → A) (sets : ℕ) → held hold (replicate sets []) ≡ replicate sets []
  -- changes that agree on the list that they change, and one that changes nothing
  pub agree : (f g : List A → List A) (lists : List (List A)) (set : ℕ) → f (list_at lists set) ≡ g (list_at lists set) → change_at lists set f ≡ change_at lists set g
  pub stays : (f : List A → List A) (lists : List (List A)) (set : ℕ) → f (list_at lists set) ≡ list_at lists set → change_at lists set f ≡ lists
  -- one list of what is held, how many lists there are, and the last of a full one
  pub at_set : (hold : ℕ → A) (lists : List (List ℕ)) (set : ℕ) → list_at (held hold lists) set ≡ map hold (list_at lists set)
  pub count : (hold : ℕ → A) (lists : List (List ℕ)) → length (held hold lists) ≡ length lists
  pub as_many : (hold : ℕ → A) (xs : List ℕ) → length (map hold xs) ≡ length xs
  pub last : (hold : ℕ → A) (ways : ℕ) (xs : List ℕ) → victim ways (map hold xs) ≡ option_map hold (victim ways xs)
  pub room : (ways : ℕ) (xs : List ℕ) → 0 < ways → length xs ≤ ways → victim ways xs ≡ None → length xs < ways
