use Rattle.std.proofs.Common.{◌≡◌, ◌++◌, drop, map, true}
use Rattle.std.specs.List.{list_all}
use Rattle.asm_statements.specs.Lexemes.{placed_of}
use Rattle.asm_statements.specs.Mnemonics.{is_number_in_range, value_of}
use Rattle.pei_asm.specs.Places.{place_or_start}
use Rattle.asm_statements.specs.Statements.{tokens_alone}
use Rattle.pei_asm.specs.Stored.{stored}
use Rattle.pei_asm.proofs.building.values_of.Given as goal

abbrev pub invariant-loop-operand : goal.invariant-loop-operand
invariant-loop-operand l =
    record {
      in_range : list_all (λ t. is_number_in_range t.token) (map placed_of (drop l.operand-index l.operand-items)) ≡ true;
      so_far : l.values.items ++ map (value_of (place_or_start (stored l.lines))) (tokens_alone (map placed_of (drop l.operand-index l.operand-items)))
          ≡ map (value_of (place_or_start (stored l.lines))) (tokens_alone (map placed_of l.statement.operands.items));
    }
