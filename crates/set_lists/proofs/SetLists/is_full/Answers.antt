use Rattle.set_lists.specs.Inside.{shown}
use Rattle.set_lists.proofs.Finding.{full_is}
use Rattle.set_lists.proofs.SetLists.is_full.Goals as goal

pub returns-clause-full : goal.returns-clause-full
returns-clause-full c =
    rw (← c.self.view_is) (full_is (shown c.self.inside) c.self.invariant.placed c.args.set c.scan.result (rw c.deref.ensures.value at c.scan.ensures.found) (rw c.deref.ensures.value at c.scan.ensures.none) c.is_none.result c.is_none.ensures)
