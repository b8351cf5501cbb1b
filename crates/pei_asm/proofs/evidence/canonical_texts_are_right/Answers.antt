use Rattle.std.specs.Str.Lossy.{utf8_valid_len}
use Rattle.std.specs.Str.{is_utf8, chars}
use Rattle.std.specs.Char.{encode_utf8}
use Rattle.std.specs.Fmt.{digits}
use Rattle.std.proofs.Common.{refl, lit≤}
use Rattle.pei_asm.specs.Faults.{line_fault}
use Rattle.asm_statements.specs.Mnemonics.{register_names, table}
use Rattle.pei_asm.proofs.evidence.canonical_texts_are_right.Goals as goal

pub returns : goal.returns
unfolding utf8_valid_len is_utf8 chars encode_utf8 register_names table digits line_fault
returns c =
    record {
      of_nothing = refl;
      of_increment = refl;
      of_whole = refl;
      again = record { each = refl; sound = record { labels = refl; used = refl; entries = refl; room = lit≤ tt }; program = refl };
      each_again = record { each = refl; sound = record { labels = refl; used = refl; entries = refl; room = lit≤ tt }; program = refl };
      loop_again = record { each = refl; sound = record { labels = refl; used = refl; entries = refl; room = lit≤ tt }; program = refl };
    }
