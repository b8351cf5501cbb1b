use Rattle.pei_types.specs.declared.events.Event.{Event}
use Rattle.pei_types.specs.declared.machines.MachineSpec.{MachineSpec}
use Rattle.pei_types.specs.Legal.{Legal}
use Rattle.pei_types.specs.Program.{Listing, Contents}
use Rattle.std.proofs.Common.{List}
use Rattle.machine_laws.specs.InOrder.{RunInOrder}
use Rattle.machine_laws.proofs.Programs.{rows_are_legal, legal_goes_by_rows}
use Rattle.machine_laws.proofs.laws.rows_make_legal.Goals as goal

pub returns : goal.returns
returns c =
    let sound = c.legal_journals_are_sound.ensures
    in let keeps = c.invariants_are_kept.ensures
    in let order : (p : Listing) (m : MachineSpec) (image : Contents) (journal : List Event) → Legal p m image journal → RunInOrder p m image journal =
    λ p m image journal legal. record { run = sound.legal p m image journal legal; invariants = keeps.legal p m image journal legal }
    in record {
      legal = rows_are_legal c.rows_meet_all.ensures;
      rows = legal_goes_by_rows c.rows_meet_all.ensures order;
      order = order;
    }
