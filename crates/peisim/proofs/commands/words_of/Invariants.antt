use Rattle.std.proofs.Common.{◌≡◌, ◌++◌, map, string_bytes}
use Rattle.std.specs.Vec.Iter.{into_iter_items}
use Rattle.peisim.proofs.commands.words_of.Given as goal

-- what was copied, with what is left, is the whole
abbrev pub invariant-loop-word : goal.invariant-loop-word
invariant-loop-word l = l.words.items ++ map string_bytes (into_iter_items l.word-iterator) ≡ map string_bytes (into_iter_items l.initial.word-iterator)
