use Rattle.std.proofs.Common.{rules, ◌≡◌, ◌∙◌, ◌++◌, List, ℕ, codes, decimal, ap, subst}
use Rattle.pei_io.specs.Outside.{Writes}
use Rattle.pei_cli.specs.FaultLines.{asm_word}
use Rattle.pei_cli.proofs.WritingOn.{placed_line}
use Rattle.pei_cli.proofs.faults.write_program_bad.Goals as goal

pub returns : goal.returns
returns g c =
    let f = c.args.fault.now
    in let row : c.as_bytes.result.now ≡ decimal f.line = search rules
    in let column : c.as_bytes-2.result.now ≡ decimal f.column = search rules
    in let kind : c.asm_word.result.now ≡ asm_word f.kind = search rules
    in subst (λ (t : List ℕ). Writes t (g.K.Sink.written c.args.sink.now) (g.K.Sink.written c.write_pieces.new.sink) (g.K.Sink.faults c.args.sink.now) (g.K.Sink.faults c.write_pieces.new.sink) c.write_pieces.result)
    (ap (λ x. codes "program bad " ++ (x ++ (codes ":" ++ (c.as_bytes-2.result.now ++ (codes " " ++ (c.asm_word.result.now ++ codes "\n")))))) row
    ∙ ap (λ x. codes "program bad " ++ (decimal f.line ++ (codes ":" ++ (x ++ (codes " " ++ (c.asm_word.result.now ++ codes "\n")))))) column
    ∙ ap (λ x. codes "program bad " ++ (decimal f.line ++ (codes ":" ++ (decimal f.column ++ (codes " " ++ (x ++ codes "\n")))))) kind
    ∙ placed_line (decimal f.line) (decimal f.column) (asm_word f.kind))
    c.write_pieces.ensures
