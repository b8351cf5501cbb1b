use Rattle.std.proofs.Common.{◌∙◌, sym, ap}
use Rattle.pei_types.specs.Blocks.{same_pei}
use Rattle.pei_types.specs.MachineState.{state_after}
use Rattle.pei_types.specs.History.{issued_peis}
use Rattle.pei_types.proofs.Identities.{same_pei_refl}
use Rattle.thread_laws.proofs.Own.{IsBelow, all_below, new_name, have_names, own_lanes}
use Rattle.thread_laws.proofs.OwnRows.{row_issues, handed_issues}
use Rattle.thread_laws.proofs.laws.own_issues_are_new.Goals as goal
use Rattle.history_laws.proofs.Lists.{each_of}

pub returns : goal.returns
returns c =
    let cores = c.cores_go_on.ensures
    in let merge = c.banks_merge.ensures
    in record {
      row = row_issues;
      handed = handed_issues;
      below = λ m own p each i. each_of (IsBelow (state_after m own).issues) (issued_peis own) p (all_below cores merge m own each) i;
      names = have_names cores merge;
      fresh = λ m own e p q each h is i same.
          let below = each_of (IsBelow (state_after m own).issues) (issued_peis own) q (all_below cores merge m own each) i
          in cc (sym (new_name m (state_after m own) e.actor e.kind p q h is below) ∙ ap (same_pei q.id) (sym same) ∙ same_pei_refl q.id);
      lanes = own_lanes cores;
    }
