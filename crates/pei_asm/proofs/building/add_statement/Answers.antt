use Rattle.std.proofs.Common.{◌≤◌, ℕ, List, arith, ◌∙◌}
use Rattle.pei_asm.specs.Places.{place_or_start}
use Rattle.pei_asm.specs.Stored.{stored}
use Rattle.pei_asm.proofs.Printables.{place_below}
use Rattle.pei_asm.proofs.SourceItems.{values_of_statement}
use Rattle.pei_asm.proofs.building.add_statement.Goals as goal

pub add_item-requires-clause-values : goal.add_item-requires-clause-values
add_item-requires-clause-values c =
    let lines = stored c.args.lines.now
    in let below : (text : List ℕ) → place_or_start lines text ≤ 65536 = λ text. omega (arith, place_below lines text, c.requires.stored.count, c.requires.stored.most)
    in let same = c.as_slice.ensures.value ∙ c.in_ok-values.ensures
    in rw same (values_of_statement (place_or_start lines) below c.args.statement.now c.requires.well_formed)
