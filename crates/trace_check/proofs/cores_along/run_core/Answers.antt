use Rattle.std.proofs.Common.{refl, arith}
use Rattle.std.specs.Prelude.{slice_index_or}
use Rattle.trace_check.proofs.Along.{there_is}
use Rattle.trace_check.proofs.cores_along.run_core.Goals as goal

pub returns : goal.returns
returns c =
    (slice_index_or c.args.cores.now c.args.core.0 c.index-cores-core.result, there_is c.args.cores.now c.args.core.0 c.index-cores-core.result (omega (arith, c.requires.core, c.told-cores)), _, refl, c.next_call.ensures.stop, c.next_call.ensures.instr, c.next_call.ensures.next, c.next_call.ensures.ready)
