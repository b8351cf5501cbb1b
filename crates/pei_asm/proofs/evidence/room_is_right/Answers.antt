use Rattle.std.specs.Str.Lossy.{utf8_valid_len}
use Rattle.std.specs.Str.{is_utf8, chars}
use Rattle.std.specs.Char.{encode_utf8}
use Rattle.std.proofs.Common.{refl}
use Rattle.pei_asm.specs.Faults.{line_fault}
use Rattle.asm_statements.specs.Mnemonics.{register_names, table}
use Rattle.pei_asm.proofs.evidence.room_is_right.Goals as goal

pub returns : goal.returns
unfolding utf8_valid_len is_utf8 chars encode_utf8 register_names table line_fault
returns c =
    record {
      last = refl;
      one_too_many = refl;
    }
