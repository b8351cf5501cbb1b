use Rattle.std.proofs.Common.{take}
use Rattle.host_run.proofs.Firsts.{Found}
use Rattle.host_run.proofs.own_peis.OwnPeis.first.Given as goal

-- what was found among the lanes before this one
abbrev pub invariant-loop-lane : goal.invariant-loop-lane
invariant-loop-lane l = Found (take l.lane l.self.lanes) l.unentered l.found
