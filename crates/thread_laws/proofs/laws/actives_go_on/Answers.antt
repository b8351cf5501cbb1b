use Rattle.std.proofs.Common.{◌∙◌, sym, ap, subst}
use Rattle.pei_types.specs.Calls.{side_of}
use Rattle.pei_types.specs.MachineState.{state_after}
use Rattle.pei_types.specs.History.{entered_peis}
use Rattle.pei_types.specs.declared.events.EventKind.TheVariants as event
use Rattle.shared_table.specs.Diaries.{active_of}
use Rattle.shared_table.specs.Orderly.{FollowsOf}
use Rattle.thread_laws.proofs.Actives.{others_next, active_next, active_enters, active_leaves, active_keeps, idle_after}
use Rattle.thread_laws.proofs.BankLogs.{bank_follows}
use Rattle.thread_laws.proofs.Entering.{entered_next, follows_found}
use Rattle.thread_laws.proofs.Following.{tracked_anywhere}
use Rattle.thread_laws.proofs.Lanes.{bank_lanes}
use Rattle.thread_laws.proofs.laws.actives_go_on.Goals as goal

pub returns : goal.returns
returns c =
    let cores = c.cores_go_on.ensures
    in let are = c.actives_are_entered.ensures
    in record {
      entered = λ log e each h. let t = tracked_anywhere log each in entered_next log t.0 e.actor e.kind each h t.1;
      issued = λ log e seq h is. follows_found log e.actor (event.Enter seq) seq (subst (λ kind. FollowsOf (side_of kind) log e.actor kind) is h);
      enters = λ entries log e seq p each h is found. let t = tracked_anywhere log each in active_enters are entries log t.0 e seq p each h t.1 is found;
      leaves = λ entries log e seq each h is. let t = tracked_anywhere log each in active_leaves are entries log t.0 e seq each h t.1 is;
      keeps = λ entries log e each h enters leaves. let t = tracked_anywhere log each in active_keeps are entries log t.0 e each h t.1 enters leaves;
      others = λ entries log e d each h apart.
          let t = tracked_anywhere log each
          in ap (active_of d) (active_next are entries log t.0 e each h t.1) ∙ others_next entries log e.actor e.kind d (entered_peis log) h apart ∙ sym (ap (active_of d) (are entries log));
      idle = λ entries m image k log h e seq is order follows leaves.
          let both = bank_follows cores m image k log is
          in idle_after are entries log (state_after m log) e seq both.0 follows both.1 (bank_lanes m image log h order) leaves;
    }
