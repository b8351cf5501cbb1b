use Rattle.std.proofs.Common.{◌≡◌, ◌-◌, ◌*◌, drop}
use Rattle.pei_types.specs.Operation.{value_of_key}
use Rattle.pei_ops.proofs.bucket.value_of_key.Given as goal

-- the pairs that are left give what all give
abbrev pub invariant-loop-pair : goal.invariant-loop-pair
invariant-loop-pair l = value_of_key l.key (l.count - l.pair) (drop (2 * l.pair) l.words) ≡ value_of_key l.key l.count l.words
