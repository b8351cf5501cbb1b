use Rattle.std.proofs.Common.{◌∙◌, ap}
use Rattle.pei_types.specs.MachineState.{is_owned}
use Rattle.trace_check.proofs.Messages.{share_shown}
use Rattle.trace_check.proofs.guards.may_share.Goals as goal

pub returns : goal.returns
returns c m s taken inv a = share_shown m s c.args.looks.now taken inv c.args.core c.is_owned.result (c.is_owned.ensures ∙ ap is_owned c.letter_in.ensures)
