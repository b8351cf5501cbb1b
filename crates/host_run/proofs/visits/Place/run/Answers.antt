use Rattle.std.proofs.Common.{◌≡◌, ap}
use Rattle.pei_types.specs.declared.identifiers.CoreId.{CoreId}
use Rattle.host_run.proofs.ClaimSteps.{ended_done}
use Rattle.host_run.proofs.visits.Place.run.Goals as goal

pub returns-then-is_released-clause-core : goal.returns-then-is_released-clause-core
returns-then-is_released-clause-core g c = ap (λ (n : CoreId). n.0) c.loop.invariant.2
