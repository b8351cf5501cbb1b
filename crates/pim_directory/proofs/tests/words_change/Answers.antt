use Rattle.std.proofs.Common.{refl, arith}
use Rattle.pim_directory.proofs.PackedTables.{claims}
use Rattle.pim_directory.proofs.tests.words_change.Goals as goal

pub announce_word-requires : goal.announce_word-requires
announce_word-requires c within = (claims 0 0 0, (omega arith, omega arith, omega arith), refl, omega arith)

pub announce_word-requires-2 : goal.announce_word-requires-2
announce_word-requires-2 c within = (claims 0 1 1, (omega arith, omega arith, omega arith), refl, omega arith)

pub grant_word-requires : goal.grant_word-requires
grant_word-requires c within = (claims 0 0 0, (omega arith, omega arith, omega arith), refl, omega arith)

pub grant_word-requires-2 : goal.grant_word-requires-2
grant_word-requires-2 c within = (claims 7 0 0, (omega arith, omega arith, omega arith), refl, omega arith)

pub grant_word-requires-3 : goal.grant_word-requires-3
grant_word-requires-3 c within = (claims 0 0 1, (omega arith, omega arith, omega arith), refl, omega arith)

pub grant_word-requires-4 : goal.grant_word-requires-4
grant_word-requires-4 c within = (claims 0 0 2, (omega arith, omega arith, omega arith), refl, omega arith)

pub release_word-requires : goal.release_word-requires
release_word-requires c within = (claims 8 0 0, (omega arith, omega arith, omega arith), refl, omega arith)

pub release_word-requires-2 : goal.release_word-requires-2
release_word-requires-2 c within = (claims 0 1 1, (omega arith, omega arith, omega arith), refl, omega arith)
