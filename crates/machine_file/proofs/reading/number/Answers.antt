use Rattle.std.proofs.Common.{sym, ◌∙◌}
use Rattle.machine_file.proofs.Firsts.{default_power}
use Rattle.machine_file.proofs.reading.number.Goals as goal

pub returns-in-Some-default-clause-power : goal.returns-in-Some-default-clause-power
returns-in-Some-default-clause-power c = default_power c.args.key c.in-Some-default.default (sym c.row.ensures.default ∙ c.in-Some-default.is)
