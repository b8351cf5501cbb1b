-- Lists of nodes, each node in one list at most.
use Rattle.std.specs.Prelude.{◌≡◌, ℕ, ◌<◌, Bool, IsTrue, IsSome, nat_eq, List, [], ◌∷◌, ◌++◌, map, reverse, Option, None, Some, if◌then◌else◌, slice_get}
use Rattle.std.specs.List.{list_any, position_from, IsDistinct}
use Rattle.pei_types.specs.Recency.{change_at, list_at, without, to_front}

-- how many nodes there are, and the nodes of each list in order, the front first
pub record Linked : Type 0 where
  pub nodes : ℕ
  pub lists : List (List ℕ)

-- whether a list has a node
abbrev pub has_node : List ℕ → ℕ → Bool
has_node xs node = list_any (nat_eq node) xs

-- the number of the list that has a node
abbrev pub list_of : Linked → ℕ → Option ℕ
list_of v node = position_from (λ xs. has_node xs node) 0 v.lists

-- a node is in a list
abbrev pub IsIn : Linked → ℕ → Type 0
IsIn v node = IsSome (list_of v node)

-- a node is in this list
abbrev pub IsOn : Linked → ℕ → ℕ → Type 0
IsOn v list node = (node < v.nodes) × (list_of v node ≡ Some list)

-- No node is twice in a list, or in two lists. This holds of all `Lists`.
pub record IsWellFormed (v : Linked) : Type 0 where
  pub in_range : (list node : ℕ) → IsTrue (has_node (list_at v.lists list) node) → node < v.nodes
  pub distinct : (list : ℕ) → IsDistinct nat_eq (list_at v.lists list)
  pub apart : (list other node : ℕ) → IsTrue (has_node (list_at v.lists list) node) → IsTrue (has_node (list_at v.lists other) node) → list ≡ other

-- a node that is in no list is put in front of a list
abbrev pub pushed_front : Linked → ℕ → ℕ → Linked
pushed_front v list node = record v { lists = change_at v.lists list (λ xs. node ∷ xs) }

-- a node that is in no list is put at the back of a list
abbrev pub pushed_back : Linked → ℕ → ℕ → Linked
pushed_back v list node = record v { lists = change_at v.lists list (λ xs. xs ++ node ∷ []) }

-- a node is taken out of its list
abbrev pub unlinked : Linked → ℕ → Linked
unlinked v node = record v { lists = map (without (nat_eq node)) v.lists }

-- a node goes to the front of its list
abbrev pub moved_front : Linked → ℕ → Linked
moved_front v node = record v { lists = map (to_front (nat_eq node)) v.lists }

-- the lists from back to front
abbrev pub reversed : Linked → Linked
reversed v = record v { lists = map reverse v.lists }

-- the node behind a node
abbrev pub follower : List ℕ → ℕ → Option ℕ
follower [] node = None
follower (x ∷ xs) node = if nat_eq node x then slice_get xs 0 else follower xs node

-- the nodes of a list from a node on
abbrev pub nodes_from : List ℕ → ℕ → List ℕ
nodes_from [] node = []
nodes_from (x ∷ xs) node = if nat_eq node x then x ∷ xs else nodes_from xs node

-- what is left of a list on a walk that has come to a node, or to the end
abbrev pub rest_from : List ℕ → Option ℕ → List ℕ
rest_from xs None = []
rest_from xs (Some node) = nodes_from xs node
