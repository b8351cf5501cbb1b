use Rattle.std.proofs.Common.{arith, ◌≡◌, ◌∷◌, ◌+◌, ◌-◌, length, take, drop, sym, ap, ◌∙◌}
use Rattle.std.proofs.lemmas.List.{take_all, length-drop}
use Rattle.pei_asm.specs.Meaning.{lines_of}
use Rattle.pei_asm.proofs.LineSplits.{first_line_is, last_line_is}
use Rattle.pei_asm.proofs.reading.split_line.Goals as goal

pub returns-then-len-bytes-clause-lines : goal.returns-then-len-bytes-clause-lines
returns-then-len-bytes-clause-lines c =
    let text = c.args.bytes.now
    in let n = c.line_len-len.result
    in let same = c.line_len-len.ensures.len
    in let rest = drop (n + 1) text
    in let all : take (length text - (n + 1)) rest ≡ rest = take_all (length text - (n + 1)) rest (omega (arith, length-drop (n + 1) text))
    in first_line_is text (search (arith, c.if-len-bytes.true, same))
    ∙ ap (λ k. take k text ∷ lines_of (drop (k + 1) text)) (sym same) ∙ ap (λ r. take n text ∷ lines_of r) (sym all)

pub returns-else-len-bytes-clause-lines : goal.returns-else-len-bytes-clause-lines
returns-else-len-bytes-clause-lines c = last_line_is c.args.bytes.now (search (arith, c.if-len-bytes.false, c.line_len-len.ensures))
