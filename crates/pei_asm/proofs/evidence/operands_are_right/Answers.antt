use Rattle.std.specs.Str.Lossy.{utf8_valid_len}
use Rattle.std.specs.Str.{is_utf8, chars}
use Rattle.std.specs.Char.{encode_utf8}
use Rattle.std.proofs.Common.{refl}
use Rattle.pei_asm.specs.Faults.{line_fault}
use Rattle.asm_statements.specs.Mnemonics.{register_names, table}
use Rattle.pei_asm.proofs.evidence.operands_are_right.Goals as goal

pub returns : goal.returns
unfolding utf8_valid_len is_utf8 chars encode_utf8 register_names table line_fault
returns c =
    record {
      none = refl;
      too_few = refl;
      too_many = refl;
      no_comma = refl;
      last_comma = refl;
      two_commas = refl;
      number_for_register = refl;
      leading_zero = refl;
      sixteen = refl;
      register_for_label = refl;
      dot_for_label = refl;
      two_tokens = refl;
      two_tokens_with_dot = refl;
      stray_star = refl;
      colon_behind = refl;
      core_eight = refl;
      large_core = refl;
      negative_core = refl;
      negative_address = refl;
      far_negative_address = refl;
      negative_count = refl;
      no_words = refl;
      stats = refl;
      minus_zero = refl;
      hexadecimal_core = refl;
      no_count = refl;
    }
