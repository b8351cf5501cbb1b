use Rattle.std.proofs.Common.{rules, ◌≡◌, ◌++◌, ℕ, List, Option, None, codes, subst, sym}
use Rattle.pei_io.specs.Outside.{Writes}
use Rattle.pei_cli.specs.FaultLines.{machine_kind, machine_line, told_key}
use Rattle.pei_cli.proofs.faults.write_machine_bad.Goals as goal

pub returns-in-None : goal.returns-in-None
returns-in-None g c =
    let none : told_key c.args.fault.now ≡ None = search rules
    in subst (λ (k : Option (List ℕ)). Writes (machine_line (machine_kind c.args.fault.now) k) (g.K.Sink.written c.args.sink.now) (g.K.Sink.written c.write_pieces.new.sink) (g.K.Sink.faults c.args.sink.now) (g.K.Sink.faults c.write_pieces.new.sink) c.write_pieces.result)
    (sym none)
    (subst (λ (w : List ℕ). Writes (codes "machine bad " ++ (w ++ codes "\n")) (g.K.Sink.written c.args.sink.now) (g.K.Sink.written c.write_pieces.new.sink) (g.K.Sink.faults c.args.sink.now) (g.K.Sink.faults c.write_pieces.new.sink) c.write_pieces.result)
    c.machine_kind-in-None.ensures c.write_pieces.ensures)
