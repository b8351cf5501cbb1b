use Rattle.std.specs.Str.Lossy.{utf8_valid_len}
use Rattle.std.specs.Str.{is_utf8, chars}
use Rattle.std.specs.Char.{encode_utf8}
use Rattle.std.proofs.Common.{refl, lit≤}
use Rattle.pei_asm.specs.Faults.{line_fault}
use Rattle.asm_statements.specs.Mnemonics.{register_names, table}
use Rattle.pei_asm.proofs.evidence.spellings_are_right.Goals as goal

pub returns : goal.returns
unfolding utf8_valid_len is_utf8 chars encode_utf8 register_names table line_fault
returns c =
    record {
      of_nothing = record { each = refl; sound = record { labels = refl; used = refl; entries = refl; room = lit≤ tt }; program = refl };
      of_blanks = record { each = refl; sound = record { labels = refl; used = refl; entries = refl; room = lit≤ tt }; program = refl };
      of_increment = record { each = refl; sound = record { labels = refl; used = refl; entries = refl; room = lit≤ tt }; program = refl };
      of_whole = record { each = refl; sound = record { labels = refl; used = refl; entries = refl; room = lit≤ tt }; program = refl };
      of_loop = record { each = refl; sound = record { labels = refl; used = refl; entries = refl; room = lit≤ tt }; program = refl };
      of_jump = record { each = refl; sound = record { labels = refl; used = refl; entries = refl; room = lit≤ tt }; program = refl };
      of_end = record { each = refl; sound = record { labels = refl; used = refl; entries = refl; room = lit≤ tt }; program = refl };
      of_each = record { each = refl; sound = record { labels = refl; used = refl; entries = refl; room = lit≤ tt }; program = refl };
    }
