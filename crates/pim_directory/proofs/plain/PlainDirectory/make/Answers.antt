use Rattle.std.proofs.Common.{map, ap, ◌∙◌}
use Rattle.pim_directory.specs.Words.{claims_of_word}
use Rattle.pim_directory.proofs.PackedTables.{map_zeros}
use Rattle.pim_directory.proofs.plain.PlainDirectory.make.Goals as goal

pub returns-in-Ok : goal.returns-in-Ok
returns-in-Ok c = ap (map claims_of_word) (c.in-Ok.ensures.items_if_clones_equal (λ y is. is)) ∙ map_zeros c.args.entries
