use Rattle.std.proofs.Common.{sym, ◌∙◌, ap}
use Rattle.std.specs.Prelude.{not}
use Rattle.std.specs.List.{list_all}
use Rattle.pei_types.specs.declared.identifiers.CoreId.{CoreId}
use Rattle.pei_types.specs.declared.events.EventKind.TheVariants as event
use Rattle.pei_types.specs.MachineState.{is_owned}
use Rattle.pei_types.specs.Guard.{guard}
use Rattle.trace_check.specs.CheckerParts.{state_of}
use Rattle.trace_check.proofs.Messages.{shared_shown}
use Rattle.trace_check.proofs.checker.Checker.may_grant_shared.Goals as goal

pub returns : goal.returns
returns c a own =
    let v = c.args.self.now
    in shared_shown v.machine (state_of v) c.args.looks.now c.requires.looks c.requires.invariants c.may_come.result c.none_may_write.result c.may_come.ensures (c.none_may_write.ensures ∙ ap (list_all (λ l. not (is_owned l))) c.without-others.ensures)
    ∙ ap (λ (d : CoreId). guard v.machine (state_of v) (record { core = d; lane = a.lane }) (event.GrantS c.args.looks.now.block)) (sym own)
