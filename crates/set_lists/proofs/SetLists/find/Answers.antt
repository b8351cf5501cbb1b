use Rattle.set_lists.specs.Inside.{shown}
use Rattle.set_lists.proofs.Finding.{find_is}
use Rattle.set_lists.proofs.SetLists.find.Goals as goal

pub returns-clause-found : goal.returns-clause-found
returns-clause-found c =
    rw (← c.self.view_is) (find_is (shown c.self.inside) c.self.invariant.placed c.args.set c.args.key c.scan.result (rw c.deref.ensures.value at c.scan.ensures.found) (rw c.deref.ensures.value at c.scan.ensures.none)).0

pub returns-clause-at : goal.returns-clause-at
returns-clause-at c =
    rw (← c.self.view_is) (find_is (shown c.self.inside) c.self.invariant.placed c.args.set c.args.key c.scan.result (rw c.deref.ensures.value at c.scan.ensures.found) (rw c.deref.ensures.value at c.scan.ensures.none)).1
