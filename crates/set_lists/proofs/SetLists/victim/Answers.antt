use Rattle.std.proofs.Common.{◌≡◌, Option, None, Some, true}
use Rattle.std.specs.Prelude.{ℕ, IfSome}
use Rattle.pei_types.specs.Recency.{list_at}
use Rattle.link_list.specs.Linked.{Linked, IsOn, has_node}
use Rattle.link_list.specs.Laws.{NodesAreListed}
use Rattle.set_lists.proofs.SetLists.victim.Goals as goal

on_list : NodesAreListed → (v : Linked) (set : ℕ) (r : Option ℕ) → IfSome r (λ slot. IsOn v set slot) → IfSome r (λ slot. has_node (list_at v.lists set) slot ≡ true)
on_list laws v set None h = tt
on_list laws v set (Some slot) h = (laws.found v slot set h.1).1

pub returns-then-is_full-clause-listed : goal.returns-then-is_full-clause-listed
returns-then-is_full-clause-listed c = rw (← c.self.view_is) (on_list c.nodes_are_listed.ensures c.self.inside.order c.args.set c.back.result c.back.ensures.on)
