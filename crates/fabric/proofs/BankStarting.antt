-- A bank at the start of a run.
use Rattle.std.proofs.Common.{◌≡◌, ℕ, ◌*◌, List, [], length, refl, sym, subst}
use Rattle.std.specs.Prelude.{replicate}
use Rattle.pei_types.specs.declared.machines.MachineSpec.{MachineSpec}
use Rattle.pei_types.specs.MachineState.{start_state}
use Rattle.pei_types.specs.Program.{Contents}
use Rattle.coherence_laws.specs.Holdings.{start_holdings}
use Rattle.bank_laws.specs.Kept.{FitsInBank}
use Rattle.bank_laws.specs.Rows.{IsRowOfBank}
use Rattle.journal.specs.Recorded.{Recorded}
use Rattle.fabric.specs.KeptBank.{KeepsBank}
use Rattle.fabric.specs.Laws.{BankLaws}
use Rattle.fabric.specs.Whole.{Whole, whole_at_start}
use Rattle.fabric.proofs.Likeness.{alike_refl}
use Rattle.fabric.proofs.Starting.{block_is}
use Rattle.pei_types.proofs.Histories.{each_of_from}

pub keeps_bank_start : BankLaws → (m : MachineSpec) (image : Contents) (bank : ℕ) (parts : Whole) (journal : Recorded) (issued : List ℕ) → length image.words ≡ 8 * m.blocks → parts ≡ whole_at_start m image → journal ≡ record { events = []; stamps = []; room = m.events } → issued ≡ replicate 33 0 → KeepsBank parts journal bank image issued
keeps_bank_start laws m image bank parts journal issued whole is empty zeros =
    subst (λ (v : Whole). KeepsBank v journal bank image issued) (sym is) (subst (λ (j : Recorded). KeepsBank (whole_at_start m image) j bank image issued) (sym empty) (subst (λ ns. KeepsBank (whole_at_start m image) (record { events = []; stamps = []; room = m.events }) bank image ns) (sym zeros) (record {
      state = alike_refl (start_state m);
      memory = λ b. block_is m image b whole;
      room = refl;
      stamped = refl;
      order = (start_holdings m image, laws.goes.start m image);
      rows = each_of_from (IsRowOfBank m image bank) [] tt;
      fitting = each_of_from (λ before e. FitsInBank m before e.actor e.kind) [] tt;
      actors = tt;
      rising = tt;
      within = tt;
      fits = tt;
      lanes = refl;
      numbers = tt;
    })))
