use Rattle.std.proofs.Common.{◌≡◌, Bool, true, sym, ap, ◌∙◌}
use Rattle.pei_types.specs.MachineState.{look_in}
use Rattle.pei_types.specs.Next.{lane_row}
use Rattle.pei_types.specs.Turns.{is_entering}
use Rattle.fabric.specs.History.{lane_of}
use Rattle.fabric.specs.Whole.{content_in}
use Rattle.fabric.proofs.Again.{first_of_row, moved_is, not_entering}
use Rattle.fabric.proofs.parts.Parts.replay_lane.Goals as goal

pub enter-requires-clause-first : goal.enter-requires-clause-first
enter-requires-clause-first c =
    let v = c.args.self.now
    in let enters : is_entering c.args.kind.now ≡ true = ap is_entering c.in-Enter.is
    in first_of_row v.machine v.state (content_in v) c.args.core c.args.lane c.args.kind.now enters (ap (λ (g : Bool). lane_row v.machine v.state (content_in v) g (look_in v.state c.args.core c.args.lane)) (sym enters) ∙ c.requires.row)

pub returns-in_default : goal.returns-in_default
returns-in_default c =
    let v = c.args.self.now
    in let none = not_entering c.args.kind.now (λ seq. c.in_default.not-Enter seq)
    in c.lane.ensures.moved ∙ moved_is v (lane_of c.args.core c.args.lane) c.lane.result c.args.kind.now
    (c.lane.ensures.row ∙ ap (λ (g : Bool). lane_row v.machine v.state (content_in v) g (look_in v.state c.args.core c.args.lane)) (sym none) ∙ c.requires.row)
