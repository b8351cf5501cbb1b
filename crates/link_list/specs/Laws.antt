-- What the crates above may know of lists of nodes, and of what each call does to them.
use Rattle.std.specs.Prelude.{◌≡◌, ◌≢◌, ◌↔◌, ℕ, ◌+◌, ◌-◌, ◌<◌, ◌≤◌, Bool, IsTrue, false, nat_eq, List, [], ◌∷◌, ◌++◌, length, filter, map, take, Some, None, slice_get, Contains}
use Rattle.std.specs.List.{last_or}
use Rattle.pei_types.specs.Recency.{change_at, list_at, without, to_front}
use Rattle.link_list.specs.Linked.{Linked, IsWellFormed, has_node, list_of, pushed_front, pushed_back, unlinked, moved_front}

-- the nodes of a list, and the list of a node
pub record NodesAreListed : Type 0 where
  pub contains : (xs : List ℕ) (node : ℕ) → IsTrue (has_node xs node) ↔ Contains xs node
  pub place : (xs : List ℕ) (node : ℕ) → IsTrue (has_node xs node) → (place : ℕ) × (slice_get xs place ≡ Some node)
  pub at_place : (xs : List ℕ) (place node : ℕ) → slice_get xs place ≡ Some node → IsTrue (has_node xs node)
  pub found : (v : Linked) (node list : ℕ) → list_of v node ≡ Some list → (list < length v.lists) × IsTrue (has_node (list_at v.lists list) node)
  pub listed : (v : Linked) → IsWellFormed v → (node list : ℕ) → IsTrue (has_node (list_at v.lists list) node) → list_of v node ≡ Some list
  pub absent : (v : Linked) (node : ℕ) → list_of v node ≡ None → (list : ℕ) → has_node (list_at v.lists list) node ≡ false
  pub free : (v : Linked) (node : ℕ) → ((list : ℕ) → has_node (list_at v.lists list) node ≡ false) → list_of v node ≡ None
  -- no node stands at two places
  pub once : (v : Linked) → IsWellFormed v → (node list place other_list other_place : ℕ) → slice_get (list_at v.lists list) place ≡ Some node → slice_get (list_at v.lists other_list) other_place ≡ Some node
      → (list ≡ other_list) × (place ≡ other_place)

-- each list after each call
pub record ListsChange : Type 0 where
  pub front_same : (v : Linked) (list node : ℕ) → list < length v.lists → list_at (pushed_front v list node).lists list ≡ node ∷ list_at v.lists list
  pub front_other : (v : Linked) (list node other : ℕ) → other ≢ list → list_at (pushed_front v list node).lists other ≡ list_at v.lists other
  pub back_same : (v : Linked) (list node : ℕ) → list < length v.lists → list_at (pushed_back v list node).lists list ≡ list_at v.lists list ++ node ∷ []
  pub back_other : (v : Linked) (list node other : ℕ) → other ≢ list → list_at (pushed_back v list node).lists other ≡ list_at v.lists other
  pub unlinked_each : (v : Linked) (node list : ℕ) → list_at (unlinked v node).lists list ≡ without (nat_eq node) (list_at v.lists list)
  pub unlinked_other : (v : Linked) → IsWellFormed v → (node list other : ℕ) → list_of v node ≡ Some list → other ≢ list → list_at (unlinked v node).lists other ≡ list_at v.lists other
  pub moved_each : (v : Linked) (node list : ℕ) → list_at (moved_front v node).lists list ≡ to_front (nat_eq node) (list_at v.lists list)
  pub moved_other : (v : Linked) → IsWellFormed v → (node list other : ℕ) → list_of v node ≡ Some list → other ≢ list → list_at (moved_front v node).lists other ≡ list_at v.lists other
  pub moved_one : (v : Linked) → IsWellFormed v → (node list : ℕ) → list_of v node ≡ Some list → (moved_front v node).lists ≡ change_at v.lists list (to_front (nat_eq node))
  -- two changes of a list are one
  pub twice : (change next_change : List ℕ → List ℕ) (lists : List (List ℕ)) (list : ℕ) → change_at (change_at lists list change) list next_change ≡ change_at lists list (λ xs. next_change (change xs))
  -- as many lists
  pub count_front : (v : Linked) (list node : ℕ) → length (pushed_front v list node).lists ≡ length v.lists
  pub count_back : (v : Linked) (list node : ℕ) → length (pushed_back v list node).lists ≡ length v.lists
  pub count_unlinked : (v : Linked) (node : ℕ) → length (unlinked v node).lists ≡ length v.lists
  pub count_moved : (v : Linked) (node : ℕ) → length (moved_front v node).lists ≡ length v.lists

-- the order of the other nodes stays
pub record OrderStays : Type 0 where
  pub unlinked_rest : (v : Linked) → IsWellFormed v → (node list : ℕ) (front back : List ℕ) → list_at v.lists list ≡ front ++ node ∷ back → list_at (unlinked v node).lists list ≡ front ++ back
  pub moved_rest : (v : Linked) → IsWellFormed v → (node list : ℕ) (front back : List ℕ) → list_at v.lists list ≡ front ++ node ∷ back → list_at (moved_front v node).lists list ≡ node ∷ (front ++ back)
  pub unlinked_back : (v : Linked) → IsWellFormed v → (node list : ℕ) → last_or None (list_at v.lists list) ≡ Some node
      → list_at (unlinked v node).lists list ≡ take (length (list_at v.lists list) - 1) (list_at v.lists list)
  -- the nodes that pass a test
  pub unlinked_filtered : (test : ℕ → Bool) (node : ℕ) (xs : List ℕ) → filter test (without (nat_eq node) xs) ≡ without (nat_eq node) (filter test xs)
  pub moved_filtered : (test : ℕ → Bool) (node : ℕ) (xs : List ℕ) → filter test (to_front (nat_eq node) xs) ≡ to_front (nat_eq node) (filter test xs)

-- the list of each node after each call
pub record MembersAfter : Type 0 where
  pub pushed_front_node : (v : Linked) → IsWellFormed v → (list node : ℕ) → list < length v.lists → node < v.nodes → list_of v node ≡ None → list_of (pushed_front v list node) node ≡ Some list
  pub pushed_front_other : (v : Linked) (list node other : ℕ) → other ≢ node → list_of (pushed_front v list node) other ≡ list_of v other
  pub pushed_back_node : (v : Linked) → IsWellFormed v → (list node : ℕ) → list < length v.lists → node < v.nodes → list_of v node ≡ None → list_of (pushed_back v list node) node ≡ Some list
  pub pushed_back_other : (v : Linked) (list node other : ℕ) → other ≢ node → list_of (pushed_back v list node) other ≡ list_of v other
  pub unlinked_node : (v : Linked) (node : ℕ) → list_of (unlinked v node) node ≡ None
  pub unlinked_other : (v : Linked) (node other : ℕ) → other ≢ node → list_of (unlinked v node) other ≡ list_of v other
  pub moved_front_each : (v : Linked) (node other : ℕ) → list_of (moved_front v node) other ≡ list_of v other

-- lengths, which are at most the number of nodes
pub record LengthsAfter : Type 0 where
  pub within : (v : Linked) → IsWellFormed v → (list : ℕ) → length (list_at v.lists list) ≤ v.nodes
  pub pushed_front_more : (v : Linked) (list node : ℕ) → list < length v.lists → length (list_at (pushed_front v list node).lists list) ≡ length (list_at v.lists list) + 1
  pub pushed_back_more : (v : Linked) (list node : ℕ) → list < length v.lists → length (list_at (pushed_back v list node).lists list) ≡ length (list_at v.lists list) + 1
  pub unlinked_less : (v : Linked) → IsWellFormed v → (node list : ℕ) → list_of v node ≡ Some list → length (list_at (unlinked v node).lists list) + 1 ≡ length (list_at v.lists list)
  pub moved_same : (v : Linked) (node list : ℕ) → length (list_at (moved_front v node).lists list) ≡ length (list_at v.lists list)

-- all stays well formed
pub record FormStays : Type 0 where
  pub pushed_front_formed : (v : Linked) → IsWellFormed v → (list node : ℕ) → list < length v.lists → node < v.nodes → list_of v node ≡ None → IsWellFormed (pushed_front v list node)
  pub pushed_back_formed : (v : Linked) → IsWellFormed v → (list node : ℕ) → list < length v.lists → node < v.nodes → list_of v node ≡ None → IsWellFormed (pushed_back v list node)
  pub unlinked_formed : (v : Linked) → IsWellFormed v → (node : ℕ) → IsWellFormed (unlinked v node)
  pub moved_front_formed : (v : Linked) → IsWellFormed v → (node : ℕ) → IsWellFormed (moved_front v node)

-- What the nodes of lists hold.
pub record HeldFollow (A : Type 0) : Type 0 where
  -- where a test finds what a node holds, it is left out, or goes to the front, with the node
  pub unlinked_held : (hold : ℕ → A) (test : A → Bool) (node : ℕ) (xs : List ℕ) → ((other : ℕ) → IsTrue (has_node xs other) → test (hold other) ≡ nat_eq node other)
      → map hold (without (nat_eq node) xs) ≡ without test (map hold xs)
  pub moved_held : (hold : ℕ → A) (test : A → Bool) (node : ℕ) (xs : List ℕ) → ((other : ℕ) → IsTrue (has_node xs other) → test (hold other) ≡ nat_eq node other)
      → map hold (to_front (nat_eq node) xs) ≡ to_front test (map hold xs)
  -- what one list holds changes, where what the others hold stays
  pub changed_held : (hold new_hold : ℕ → A) (lists : List (List ℕ)) (list : ℕ) (change : List ℕ → List ℕ) (change_held : List A → List A)
      → ((other : ℕ) → other ≢ list → map new_hold (list_at lists other) ≡ map hold (list_at lists other))
      → map new_hold (change (list_at lists list)) ≡ change_held (map hold (list_at lists list))
      → map (map new_hold) (change_at lists list change) ≡ change_at (map (map hold) lists) list change_held
  -- what is held elsewhere does not matter
  pub same_held : (hold other_hold : ℕ → A) (xs : List ℕ) → ((node : ℕ) → IsTrue (has_node xs node) → hold node ≡ other_hold node) → map hold xs ≡ map other_hold xs
