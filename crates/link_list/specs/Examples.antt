-- Three nodes and two lists, worked out.
use Rattle.std.specs.Prelude.{◌≡◌, [], ◌∷◌, Some, None}
use Rattle.link_list.specs.Linked.{Linked, list_of, pushed_front, pushed_back, unlinked, moved_front, reversed, follower, rest_from}

-- three nodes, and list 0 with all of them
abbrev pub three : Linked
three = record { nodes = 3; lists = (2 ∷ 1 ∷ 0 ∷ []) ∷ [] ∷ [] }

pub record LinkRightly : Type 0 where
  pub pushes : pushed_back (pushed_front (pushed_front (record { nodes = 3; lists = [] ∷ [] ∷ [] }) 0 1) 0 2) 0 0 ≡ three
  pub pushes_to_another : pushed_front (unlinked three 2) 1 2 ≡ record { nodes = 3; lists = (1 ∷ 0 ∷ []) ∷ (2 ∷ []) ∷ [] }
  pub moves_the_back : moved_front three 0 ≡ record { nodes = 3; lists = (0 ∷ 2 ∷ 1 ∷ []) ∷ [] ∷ [] }
  pub moves_the_front : moved_front three 2 ≡ three
  pub takes_the_middle : unlinked three 1 ≡ record { nodes = 3; lists = (2 ∷ 0 ∷ []) ∷ [] ∷ [] }
  pub listed : list_of three 1 ≡ Some 0
  pub free : list_of (unlinked three 1) 1 ≡ None
  pub backward : reversed three ≡ record { nodes = 3; lists = (0 ∷ 1 ∷ 2 ∷ []) ∷ [] ∷ [] }
  pub behind : follower (2 ∷ 1 ∷ 0 ∷ []) 2 ≡ Some 1
  pub behind_the_back : follower (2 ∷ 1 ∷ 0 ∷ []) 0 ≡ None
  pub left : rest_from (2 ∷ 1 ∷ 0 ∷ []) (Some 1) ≡ 1 ∷ 0 ∷ []
