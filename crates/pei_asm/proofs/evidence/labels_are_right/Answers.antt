use Rattle.std.specs.Str.Lossy.{utf8_valid_len}
use Rattle.std.specs.Str.{is_utf8, chars}
use Rattle.std.specs.Char.{encode_utf8}
use Rattle.std.proofs.Common.{refl}
use Rattle.pei_asm.specs.Faults.{line_fault}
use Rattle.asm_statements.specs.Mnemonics.{register_names, table}
use Rattle.pei_asm.proofs.evidence.labels_are_right.Goals as goal

pub returns : goal.returns
unfolding utf8_valid_len is_utf8 chars encode_utf8 register_names table line_fault
returns c =
    record {
      twice = refl;
      before_unknown = refl;
      behind_bad_char = refl;
      unknown = refl;
      unknown_second = refl;
      unknown_entry = refl;
      other_fault_first = refl;
      behind = refl;
      of_mnemonic = refl;
      blank_before_colon = refl;
      letter_case = refl;
      third = refl;
      with_spaces = refl;
      before_operands = refl;
      before_number = refl;
      before_register_range = refl;
      before_entry = refl;
      of_mnemonic_twice = refl;
      first_faulty_line = refl;
      case_differs = refl;
      with_dots_and_digits = refl;
      unknown_in_each_branch = refl;
      unknown_core_entry = refl;
      first_in_order = refl;
      mnemonic_is_no_label = refl;
      double_label_before_unknown = refl;
    }
