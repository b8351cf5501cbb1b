use Rattle.pei_types.specs.MachineState.{state_after}
use Rattle.thread_laws.proofs.BankLogs.{bank_follows}
use Rattle.thread_laws.proofs.Lanes.{bank_lanes, entered_lanes, free_entry}
use Rattle.thread_laws.proofs.laws.entries_are_free.Goals as goal

pub returns : goal.returns
returns c =
    let cores = c.cores_go_on.ensures
    in record {
      lanes = bank_lanes;
      apart = λ m image k log h p q is order. entered_lanes log (state_after m log) (bank_follows cores m image k log is).1 (bank_lanes m image log h order) p q;
      free = λ m image k log h core l p claims is order. free_entry c.actives_are_entered.ensures m log (state_after m log) core l p claims (bank_follows cores m image k log is).1 (bank_lanes m image log h order);
    }
