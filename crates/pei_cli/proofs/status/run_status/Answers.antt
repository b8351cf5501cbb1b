use Rattle.std.proofs.Common.{rules, true, false}
use Rattle.pei_cli.proofs.Statuses.{status_ended, status_open}
use Rattle.pei_cli.proofs.status.run_status.Goals as goal

pub returns-then-all_halted : goal.returns-then-all_halted
returns-then-all_halted c = status_ended c.args.spec.now c.args.journal.now.events c.args.ends.now true c.requires (search rules) (search rules)

pub returns-else-all_halted : goal.returns-else-all_halted
returns-else-all_halted c = status_ended c.args.spec.now c.args.journal.now.events c.args.ends.now false c.requires (search rules) (search rules)

pub returns-then-len-spec : goal.returns-then-len-spec
returns-then-len-spec c = status_open c.args.spec.now c.args.journal.now.events c.args.ends.now true c.requires (search rules) (search rules)

pub returns-else-len-spec : goal.returns-else-len-spec
returns-else-len-spec c = status_open c.args.spec.now c.args.journal.now.events c.args.ends.now false c.requires (search rules) (search rules)
