use Rattle.std.proofs.Common.{rules, ◌≡◌, ◌∙◌, ◌++◌, List, ℕ, codes, decimal, ap, subst}
use Rattle.pei_io.specs.Outside.{Writes}
use Rattle.pei_cli.specs.FaultLines.{kernel_word}
use Rattle.pei_cli.proofs.WritingOn.{kernel_line}
use Rattle.pei_cli.proofs.faults.write_kernel_bad.Goals as goal

pub returns : goal.returns
returns g c =
    let f = c.args.fault.now
    in let row : c.as_bytes.result.now ≡ decimal f.line = search rules
    in let column : c.as_bytes-2.result.now ≡ decimal f.column = search rules
    in let kind : c.kernel_word.result.now ≡ kernel_word f.kind = search rules
    in subst (λ (t : List ℕ). Writes t (g.K.Sink.written c.args.sink.now) (g.K.Sink.written c.write_pieces.new.sink) (g.K.Sink.faults c.args.sink.now) (g.K.Sink.faults c.write_pieces.new.sink) c.write_pieces.result)
    (ap (λ x. codes "kernel bad " ++ (x ++ (codes ":" ++ (c.as_bytes-2.result.now ++ (codes " " ++ (c.kernel_word.result.now ++ codes "\n")))))) row
    ∙ ap (λ x. codes "kernel bad " ++ (decimal f.line ++ (codes ":" ++ (x ++ (codes " " ++ (c.kernel_word.result.now ++ codes "\n")))))) column
    ∙ ap (λ x. codes "kernel bad " ++ (decimal f.line ++ (codes ":" ++ (decimal f.column ++ (codes " " ++ (x ++ codes "\n")))))) kind
    ∙ kernel_line (decimal f.line) (decimal f.column) (kernel_word f.kind))
    c.write_pieces.ensures
