use Rattle.std.proofs.Common.{Bool, not, if◌then◌else◌, sym, ◌∙◌, ap}
use Rattle.pei_types.specs.MachineState.{is_i, is_owned, letter_of}
use Rattle.trace_check.proofs.Copies.{pei_letter}
use Rattle.trace_check.proofs.guards.letter_serves.Goals as goal

pub returns-then-writes : goal.returns-then-writes
returns-then-writes c m s are =
    c.is_owned.ensures ∙ ap is_owned (c.letter_in-letter.ensures ∙ pei_letter m s c.args.looks.now c.args.pei.now are)
    ∙ ap (λ (b : Bool). if b then is_owned (letter_of m s c.args.pei.now.id.core c.args.pei.now.block) else not (is_i (letter_of m s c.args.pei.now.id.core c.args.pei.now.block))) (sym c.if-writes.true ∙ c.writes.ensures)

pub returns-else-writes : goal.returns-else-writes
returns-else-writes c m s are =
    ap not (c.is_i.ensures ∙ ap is_i (c.letter_in-letter.ensures ∙ pei_letter m s c.args.looks.now c.args.pei.now are))
    ∙ ap (λ (b : Bool). if b then is_owned (letter_of m s c.args.pei.now.id.core c.args.pei.now.block) else not (is_i (letter_of m s c.args.pei.now.id.core c.args.pei.now.block))) (sym c.if-writes.false ∙ c.writes.ensures)
