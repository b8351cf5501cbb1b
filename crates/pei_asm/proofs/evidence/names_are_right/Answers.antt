use Rattle.std.specs.Str.Lossy.{utf8_valid_len}
use Rattle.std.specs.Str.{is_utf8, chars}
use Rattle.std.specs.Char.{encode_utf8}
use Rattle.std.proofs.Common.{refl}
use Rattle.pei_asm.specs.Faults.{line_fault}
use Rattle.asm_statements.specs.Mnemonics.{register_names, table}
use Rattle.pei_asm.proofs.evidence.names_are_right.Goals as goal

pub returns : goal.returns
unfolding utf8_valid_len is_utf8 chars encode_utf8 register_names table line_fault
returns c =
    record {
      unknown = refl;
      register_as_label = refl;
      dot_as_label = refl;
      number = refl;
      star = refl;
      colon = refl;
      comma = refl;
      capital = refl;
      two_labels = refl;
      not_a_register = refl;
      directive = refl;
      underscore = refl;
      letter_more = refl;
      register_alone = refl;
      before_operands = refl;
      behind_comment_line = refl;
    }
