use Rattle.std.proofs.Common.{List, ℕ, ◌++◌, codes, subst}
use Rattle.pei_io.specs.Outside.{Writes}
use Rattle.pei_cli.proofs.faults.write_too_long.Goals as goal

pub returns : goal.returns
returns g c =
    subst (λ (w : List ℕ). Writes (codes "input too long " ++ (w ++ codes "\n")) (g.K.Sink.written c.args.sink.now) (g.K.Sink.written c.write_pieces.new.sink) (g.K.Sink.faults c.args.sink.now) (g.K.Sink.faults c.write_pieces.new.sink) c.write_pieces.result)
    c.which_word.ensures c.write_pieces.ensures
