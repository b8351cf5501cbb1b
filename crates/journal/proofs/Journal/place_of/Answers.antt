use Rattle.std.proofs.Common.{rules, ◌≡◌, ℕ, List, Err, subst, sym, get_or, ◌<◌, ◌≤◌, length}
use Rattle.std.specs.List.{AllByRecursion}
use Rattle.std.specs.Prelude.{◌≢◌}
use Rattle.std.proofs.lemmas.List.Sorted.{searched}
use Rattle.journal.proofs.Rising.{all_others, rises_at}
use Rattle.journal.proofs.Journal.place_of.Goals as goal

pub returns-in-Err-clause-none : goal.returns-in-Err-clause-none
returns-in-Err-clause-none c =
    let xs = c.deref.result.now
    in let same : xs ≡ c.args.self.now.stamps = search rules
    in let found = searched xs c.args.stamp (Err c.in-Err.field-0) c.in-Err.ensures.position (subst (λ (ys : List ℕ). (i j : ℕ) → i ≤ j → j < length ys → get_or ys i 0 ≤ get_or ys j 0) (sym same) (rises_at c.args.self.now.stamps c.requires))
    in subst (λ (ys : List ℕ). AllByRecursion (λ y. y ≢ c.args.stamp) ys) same (all_others xs c.args.stamp c.in-Err.field-0 found.1 found.2)
