-- What the sets are seen as, and what they keep true of themselves.
use Rattle.std.specs.Prelude.{◌≡◌, ◌*◌, ◌≤◌, length}
use Rattle.link_list.specs.Linked.{IsWellFormed}
use Rattle.set_lists.specs.Placed.{Placed, IsPlaced}
use Rattle.set_lists.specs.declared.SetLists.TheInside.{Inside}

abbrev pub shown : Inside → Placed
shown i = record { ways = i.ways; keys = i.keys.items; lists = i.order.lists }

-- the links are of the slots, and the sizes are within the limits of a machine
pub record IsInOrder (i : Inside) : Type 0 where
  pub count : length i.order.lists ≡ i.sets
  pub few_sets : i.sets ≤ 1024
  pub few_ways : i.ways ≤ 16
  pub nodes : i.order.nodes ≡ i.sets * i.ways
  pub formed : IsWellFormed i.order
  pub placed : IsPlaced (shown i)
