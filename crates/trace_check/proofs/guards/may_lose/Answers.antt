use Rattle.std.proofs.Common.{◌∙◌, ap}
use Rattle.pei_types.specs.MachineState.{is_i}
use Rattle.trace_check.proofs.Messages.{lose_shown}
use Rattle.trace_check.proofs.guards.may_lose.Goals as goal

pub returns : goal.returns
returns c m s taken inv a = lose_shown m s c.args.looks.now taken inv c.args.core c.is_i.result (c.is_i.ensures ∙ ap is_i c.letter_in.ensures)
