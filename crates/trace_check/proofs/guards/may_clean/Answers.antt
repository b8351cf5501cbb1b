use Rattle.trace_check.proofs.Messages.{clean_shown}
use Rattle.trace_check.proofs.guards.may_clean.Goals as goal

pub returns : goal.returns
returns c m s taken inv a = clean_shown m s c.args.looks.now taken inv c.is_dirty.result c.none_owns.result c.is_dirty.ensures c.none_owns.ensures
