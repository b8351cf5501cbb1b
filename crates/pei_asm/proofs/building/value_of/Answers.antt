use Rattle.std.proofs.Common.{sym, ◌∙◌, ap}
use Rattle.asm_statements.specs.Lexemes.{token_of}
use Rattle.asm_statements.specs.Mnemonics.{value_of}
use Rattle.pei_asm.specs.Places.{place_or_start}
use Rattle.pei_asm.specs.Stored.{stored}
use Rattle.pei_asm.proofs.building.value_of.Goals as goal

pub returns-in-Number : goal.returns-in-Number
returns-in-Number c =
    let places = place_or_start (stored c.args.lines.now)
    in c.value_of_number.ensures places ∙ sym (ap (λ w. value_of places (token_of w)) c.in-Number.is)
