use Rattle.std.proofs.Common.{◌≡◌, ◌+◌, length}
use Rattle.pei_cli.proofs.Digits.{rest_below}
use Rattle.pei_cli.proofs.words.decimal_up_to.Given as goal

abbrev pub invariant-loop-rest : goal.invariant-loop-rest
invariant-loop-rest l = rest_below (l.most + 1) l.value l.rest ≡ rest_below (l.most + 1) 0 l.word

abbrev pub decreases-loop-rest : goal.decreases-loop-rest
decreases-loop-rest l = length l.rest
