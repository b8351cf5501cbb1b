use Rattle.std.proofs.Common.{refl, sym, ◌∙◌, ap}
use Rattle.std.specs.List.{list_all}
use Rattle.pei_types.specs.declared.identifiers.CoreId.{CoreId}
use Rattle.pei_types.specs.declared.events.EventKind.TheVariants as event
use Rattle.pei_types.specs.MachineState.{is_i, is_owned}
use Rattle.pei_types.specs.Guard.{guard}
use Rattle.trace_check.specs.CheckerParts.{state_of}
use Rattle.trace_check.proofs.Others.{write_shown}
use Rattle.trace_check.proofs.Rows.{told_none}
use Rattle.trace_check.proofs.checker.Checker.may_grant_to_write.Goals as goal

pub returns : goal.returns
returns c a own =
    let v = c.args.self.now
    in let looks = c.args.looks.now
    in write_shown v.machine (state_of v) looks c.requires.looks c.requires.invariants c.is_i.result c.is_owned.result c.is_absent.result c.none_has-is_alone.result looks.sealed c.is_none.result
    (c.is_i.ensures ∙ ap is_i c.letter_in-letter.ensures) (c.is_owned.ensures ∙ ap is_owned c.letter_in-letter.ensures) c.is_absent.ensures (c.none_has-is_alone.ensures ∙ ap (list_all is_i) c.without.ensures) refl (told_none looks.l1_victim c.is_none.result c.is_none.ensures)
    ∙ ap (λ (d : CoreId). guard v.machine (state_of v) (record { core = d; lane = a.lane }) (event.GrantM looks.block)) (sym own)
