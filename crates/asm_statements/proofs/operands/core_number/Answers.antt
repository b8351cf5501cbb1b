use Rattle.std.proofs.Common.{sym, ◌∙◌, ap}
use Rattle.asm_statements.specs.Lexemes.{token_of}
use Rattle.asm_statements.specs.Mnemonics.{value_of}
use Rattle.asm_statements.proofs.operands.core_number.Goals as goal

pub returns-in-Number-clause-core : goal.returns-in-Number-clause-core
returns-in-Number-clause-core c = λ places. c.core.ensures.core places ∙ sym (ap (λ w. value_of places (token_of w)) c.in-Number.is)
