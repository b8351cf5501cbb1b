use Rattle.std.proofs.Common.{◌≡◌, ◌%◌, ◌^◌, map, sum}
use Rattle.pei_types.specs.Texts.{addresses}
use Rattle.pei_types.specs.FlatMemory.{flat_word}
use Rattle.report.proofs.asks.sum_of_words.Given as goal

abbrev pub invariant-loop-i : goal.invariant-loop-i
invariant-loop-i l = l.total ≡ sum (map (flat_word l.fabric.image l.fabric.journal) (addresses l.addr l.i)) % 2 ^ 64
