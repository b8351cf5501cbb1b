use Rattle.std.proofs.Common.{refl, arith}
use Rattle.pim_directory.proofs.PackedTables.{claims}
use Rattle.pim_directory.proofs.tests.grants_are_refused.Goals as goal

pub grant_word-requires : goal.grant_word-requires
grant_word-requires c within = (claims 0 0 1, (omega arith, omega arith, omega arith), refl, omega arith)

pub grant_word-requires-2 : goal.grant_word-requires-2
grant_word-requires-2 c within = (claims 0 1 0, (omega arith, omega arith, omega arith), refl, omega arith)

pub grant_word-requires-3 : goal.grant_word-requires-3
grant_word-requires-3 c within = (claims 1 0 1, (omega arith, omega arith, omega arith), refl, omega arith)

pub grant_word-requires-4 : goal.grant_word-requires-4
grant_word-requires-4 c within = (claims 0 1 1, (omega arith, omega arith, omega arith), refl, omega arith)
