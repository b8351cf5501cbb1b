use Rattle.std.proofs.Common.{ap, ap₂, ◌∙◌}
use Rattle.pei_types.specs.Core.{core_at_start}
use Rattle.core_exec.specs.CoreView.{Standing}
use Rattle.host_run.proofs.Sent.{slot_crosses}
use Rattle.host_run.proofs.Starting.{begins}
use Rattle.host_run.proofs.runs.run_core.Goals as goal

pub run-requires-clause-turn : goal.run-requires-clause-turn
run-requires-clause-turn g c κs within =
    let r = c.requires
    in let made = c.make-run.ensures
    in let its_core = ap (λ (n : _). record { 0 = n }) c.core-core.ensures
    in begins g.L.Run.program g.L.Run.machine g.L.Run.image c.args.table.now.table c.args.seat c.make-run.result r.seat.1 r.seat.0
    (ap (λ (s : Standing). s.state) made.core ∙ ap₂ core_at_start r.marker.2 its_core)
    made.own.0 made.own.1

pub core-core-requires-send-S : goal.core-core-requires-send-S
core-core-requires-send-S g c κs within = slot_crosses _ _ g.L.Run c.type_bounds.send-L
