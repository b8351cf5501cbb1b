use Rattle.trace_check.proofs.Messages.{go_shown}
use Rattle.trace_check.proofs.guards.may_go.Goals as goal

pub returns : goal.returns
returns c m s taken inv a = go_shown m s c.args.looks.now taken inv c.is_clean.result c.none_has.result c.is_clean.ensures c.none_has.ensures
