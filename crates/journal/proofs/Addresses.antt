-- The address that an operation on a block works at, and the ranges of an issue's numbers.
use Rattle.std.proofs.Common.{◌≡◌, ℕ, ◌&&◌, ◌<◌, ◌≤◌, ◌/◌, ◌==◌, true, nat_lt, nat_le, length, arith, eqb-true}
use Rattle.std.specs.List.{list_all}
use Rattle.std.proofs.lemmas.Bool.{and_parts, ltb-true, leb-true, lt-ltb}
use Rattle.pei_types.specs.declared.identifiers.BlockNo.{BlockNo}
use Rattle.pei_types.specs.declared.identifiers.Lane.{Lane}
use Rattle.pei_types.specs.declared.events.EventKind.TheVariants as event
use Rattle.pei_types.specs.declared.operations.Op.{Op}
use Rattle.pei_types.specs.declared.operations.Op.TheVariants as op
use Rattle.pei_types.specs.declared.operations.Operands.{Operands}
use Rattle.journal.specs.Traces.{is_word, is_index, kind_in_ranges, op_in_ranges, operands_in_ranges}
use Rattle.journal.specs.Named.{op_address}

pub address_small : (o : Op) (b : BlockNo) → op_in_ranges o ≡ true → b.0 < 65536 → op_address o b < 4194304
address_small (op.Inc word) b fits low = let w : word < 8 = ltb-true word 8 fits in omega arith
address_small (op.Min word) b fits low = let w : word < 8 = ltb-true word 8 fits in omega arith
address_small op.Probe b fits low = omega arith
address_small op.Hist b fits low = omega arith
address_small op.Dot b fits low = omega arith

pub block_back : (o : Op) (b : BlockNo) → op_in_ranges o ≡ true → op_address o b / 64 ≡ b.0
block_back (op.Inc word) b fits = let w : word < 8 = ltb-true word 8 fits in omega arith
block_back (op.Min word) b fits = let w : word < 8 = ltb-true word 8 fits in omega arith
block_back op.Probe b fits = omega arith
block_back op.Hist b fits = omega arith
block_back op.Dot b fits = omega arith

-- the ranges of the numbers of an issue
pub record Ranged (seq : ℕ) (lane : Lane) (o : Op) (b : BlockNo) (operands : Operands) : Type 0 where
  pub numbered : is_index seq ≡ true
  pub within : nat_lt lane.0 5 ≡ true
  pub fits : op_in_ranges o ≡ true
  pub near : b.0 < 65536
  pub small : operands_in_ranges operands ≡ true
  pub four : length operands.0 ≡ 4

pub ranges : (seq : ℕ) (lane : Lane) (o : Op) (b : BlockNo) (operands : Operands) → kind_in_ranges (event.Issue seq lane o b operands) ≡ true → Ranged seq lane o b operands
ranges seq lane o b operands h =
    let p = and_parts (is_index seq && nat_le lane.0 4 && op_in_ranges o && nat_lt b.0 65536) (operands_in_ranges operands) h
    in let q = and_parts (is_index seq && nat_le lane.0 4 && op_in_ranges o) (nat_lt b.0 65536) p.0
    in let r = and_parts (is_index seq && nat_le lane.0 4) (op_in_ranges o) q.0
    in let t = and_parts (is_index seq) (nat_le lane.0 4) r.0
    in let low : lane.0 ≤ 4 = leb-true lane.0 4 t.1
    in record {
      numbered = t.0;
      within = lt-ltb lane.0 5 (omega (arith, low));
      fits = r.1;
      near = ltb-true b.0 65536 q.1;
      small = p.1;
      four = eqb-true _ _ (and_parts (length operands.0 == 4) (list_all is_word operands.0) p.1).0;
    }
