use Rattle.std.proofs.Common.{◌≡◌, length}
use Rattle.kernel_text.specs.Lexemes.{token_of}
use Rattle.kernel_text.specs.Readings.{read}
use Rattle.kernel_text.specs.Senses.{next_token}
use Rattle.kernel_text.proofs.agenda.Agenda.read.Given as goal

abbrev pub invariant-loop-wanted : goal.invariant-loop-wanted
invariant-loop-wanted l = read l.self (token_of l.t) (next_token l.next) ≡ read l.initial.self (token_of l.t) (next_token l.next)

abbrev pub decreases-loop-wanted : goal.decreases-loop-wanted
decreases-loop-wanted l = length l.self
