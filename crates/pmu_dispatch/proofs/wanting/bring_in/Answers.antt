use Rattle.std.proofs.Common.{refl, sym, ◌∙◌}
use Rattle.pei_types.specs.MachineState.{llc_set}
use Rattle.pei_types.specs.Recency.{victim}
use Rattle.pmu_dispatch.specs.Shown.{victim_shown}
use Rattle.pmu_dispatch.proofs.Cores.{blocks_llc_victim}
use Rattle.pmu_dispatch.proofs.Mapped.{some_mapped}
use Rattle.pmu_dispatch.proofs.wanting.bring_in.Goals as goal
use Rattle.pei_types.proofs.Tests.{none_of_map}

pub returns-in-Some : goal.returns-in-Some
returns-in-Some c m s taken absent =
    let shown = sym (rw absent at (blocks_llc_victim m s c.args.looks.now taken)) ∙ c.in-Some.is
    in let line = some_mapped (victim_shown m s) (victim m.llc_ways (llc_set m s c.args.looks.now.block)) c.in-Some.victim shown
    in rw line.1 (c.evict.ensures m s line.0 line.2)

pub returns-in-None : goal.returns-in-None
returns-in-None c m s taken absent =
    let shown = sym (rw absent at (blocks_llc_victim m s c.args.looks.now taken)) ∙ c.in-None.is
    in rw (none_of_map (victim_shown m s) (victim m.llc_ways (llc_set m s c.args.looks.now.block)) shown) refl
