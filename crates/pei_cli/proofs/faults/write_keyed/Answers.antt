use Rattle.std.proofs.Common.{rules, ◌≡◌, ◌∙◌, ◌++◌, List, ℕ, codes, ap, subst}
use Rattle.pei_io.specs.Outside.{Writes}
use Rattle.pei_cli.proofs.WritingOn.{line_with_key}
use Rattle.pei_cli.proofs.faults.write_keyed.Goals as goal

pub returns : goal.returns
returns g c =
    let told : c.as_bytes.result.now ≡ c.args.key.now = search rules
    in subst (λ (t : List ℕ). Writes t (g.K.Sink.written c.args.sink.now) (g.K.Sink.written c.write_pieces.new.sink) (g.K.Sink.faults c.args.sink.now) (g.K.Sink.faults c.write_pieces.new.sink) c.write_pieces.result)
    (ap (λ x. codes "machine bad " ++ (c.args.kind.now ++ (codes " " ++ (x ++ codes "\n")))) told ∙ line_with_key c.args.kind.now c.args.key.now)
    c.write_pieces.ensures
