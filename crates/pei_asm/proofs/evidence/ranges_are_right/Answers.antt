use Rattle.std.specs.Str.Lossy.{utf8_valid_len}
use Rattle.std.specs.Str.{is_utf8, chars}
use Rattle.std.specs.Char.{encode_utf8}
use Rattle.std.proofs.Common.{refl}
use Rattle.pei_asm.specs.Faults.{line_fault}
use Rattle.asm_statements.specs.Mnemonics.{register_names, table}
use Rattle.pei_asm.proofs.evidence.ranges_are_right.Goals as goal

pub returns : goal.returns
unfolding utf8_valid_len is_utf8 chars encode_utf8 register_names table line_fault
returns c =
    record {
      large = refl;
      largest = refl;
      low = refl;
      lowest = refl;
      large_hexadecimal = refl;
      large_address = refl;
      third_word = refl;
      before_register = refl;
      dot = refl;
      probe = refl;
      histogram = refl;
      last_registers = refl;
      both_ends = refl;
      in_addition = refl;
      in_load = refl;
      in_count = refl;
      first_of_two = refl;
      leading_zeros = refl;
      zeros_behind_x = refl;
      after_label = refl;
      operands_first = refl;
      dot_thirteen = refl;
      dot_fifteen = refl;
      probe_with_label = refl;
      before_entry = refl;
    }
