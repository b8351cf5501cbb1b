use Rattle.std.proofs.Common.{sym, ◌∙◌, ap}
use Rattle.std.specs.Prelude.{not, ◌&&◌, ◌==◌}
use Rattle.pei_types.specs.declared.identifiers.CoreId.{CoreId}
use Rattle.pei_types.specs.MachineState.{is_i, letter_of}
use Rattle.trace_check.proofs.Messages.{lose_shown}
use Rattle.trace_check.proofs.guards.may_evict.Goals as goal

pub returns : goal.returns
returns c m s taken inv a own =
    ap (λ t. (c.args.core.0 == c.args.looks.now.own.0) && t) (lose_shown m s c.args.looks.now taken inv c.args.core c.is_i.result (c.is_i.ensures ∙ ap is_i c.letter_in.ensures))
    ∙ ap (λ (d : CoreId). (c.args.core.0 == d.0) && not (is_i (letter_of m s c.args.core c.args.looks.now.block))) (sym own)
