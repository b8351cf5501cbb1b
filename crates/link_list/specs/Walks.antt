-- Lists of nodes in an array that has for each node the one behind it.
use Rattle.std.specs.Prelude.{◌≡◌, ℕ, zero, suc, ◌<◌, IsTrue, List, [], ◌∷◌, map, length, Option, None, Some, slice_get, slice_set, slice_index_or}
use Rattle.pei_types.specs.Recency.{list_at}
use Rattle.link_list.specs.Linked.{Linked, IsWellFormed, has_node, list_of, follower, reversed}

-- the nodes from one on, so many at most
abbrev pub walk : List (Option ℕ) → ℕ → Option ℕ → List ℕ
walk behind zero from = []
walk behind (suc n) None = []
walk behind (suc n) (Some node) = node ∷ walk behind n (slice_index_or behind node None)

-- the lists that begin with these nodes
abbrev pub walked : List (Option ℕ) → List (Option ℕ) → List (List ℕ)
walked behind firsts = map (walk behind (length behind)) firsts

abbrev pub shown : List (Option ℕ) → List (Option ℕ) → Linked
shown behind firsts = record { nodes = length behind; lists = walked behind firsts }

-- the arrays have these lists
pub record Links (behind firsts : List (Option ℕ)) (lists : List (List ℕ)) : Type 0 where
  pub same_length : length firsts ≡ length lists
  pub first : (list : ℕ) → list < length lists → slice_index_or firsts list None ≡ slice_get (list_at lists list) 0
  pub next : (list node : ℕ) → IsTrue (has_node (list_at lists list) node) → slice_index_or behind node None ≡ follower (list_at lists list) node
  pub well_formed : IsWellFormed (record { nodes = length behind; lists = lists })

-- the arrays have the lists that are walked
abbrev pub IsChained : List (Option ℕ) → List (Option ℕ) → Type 0
IsChained behind firsts = Links behind firsts (walked behind firsts)

-- a node, or the beginning of a list, leads to a node: the nodes behind others
abbrev pub behind_led : List (Option ℕ) → Option ℕ → Option ℕ → List (Option ℕ)
behind_led behind None to = behind
behind_led behind (Some node) to = slice_set behind node to

-- and the first nodes
abbrev pub firsts_led : List (Option ℕ) → ℕ → Option ℕ → Option ℕ → List (Option ℕ)
firsts_led firsts list None to = slice_set firsts list to
firsts_led firsts list (Some node) to = firsts

-- The lists forward are the lists backward in reverse, and each node has the number of its list.
pub record IsTied (forward backward : Linked) (owners : List (Option ℕ)) : Type 0 where
  pub both_ways : backward ≡ reversed forward
  pub well_formed : IsWellFormed forward
  pub all_owned : length owners ≡ forward.nodes
  pub owned : (node : ℕ) → node < forward.nodes → slice_index_or owners node None ≡ list_of forward node
