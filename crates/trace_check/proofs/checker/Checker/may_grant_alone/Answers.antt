use Rattle.std.proofs.Common.{refl, sym, ◌∙◌, ap}
use Rattle.std.specs.List.{list_all}
use Rattle.pei_types.specs.declared.identifiers.CoreId.{CoreId}
use Rattle.pei_types.specs.declared.events.EventKind.TheVariants as event
use Rattle.pei_types.specs.MachineState.{is_i}
use Rattle.pei_types.specs.Guard.{guard}
use Rattle.trace_check.specs.CheckerParts.{state_of}
use Rattle.trace_check.proofs.Messages.{alone_shown}
use Rattle.trace_check.proofs.checker.Checker.may_grant_alone.Goals as goal

pub returns : goal.returns
returns c a own =
    let v = c.args.self.now
    in alone_shown v.machine (state_of v) c.args.looks.now c.requires.looks c.requires.invariants c.may_come.result c.none_has.result c.args.looks.now.sealed c.may_come.ensures (c.none_has.ensures ∙ ap (list_all is_i) c.without-others.ensures) refl
    ∙ ap (λ (d : CoreId). guard v.machine (state_of v) (record { core = d; lane = a.lane }) (event.GrantE c.args.looks.now.block)) (sym own)
