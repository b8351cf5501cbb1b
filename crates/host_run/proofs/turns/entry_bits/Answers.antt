use Rattle.pei_types.proofs.Logarithms.{log_between}
use Rattle.host_run.proofs.turns.entry_bits.Goals as goal

pub returns : goal.returns
returns c =
    log_between c.args.spec.now.directory c.ilog2.result c.args.spec.now.directory_in_limits.1 c.ilog2.ensures.power_le c.ilog2.ensures.next_power_gt
