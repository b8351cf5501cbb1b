-- The log with gaps.
use Rattle.std.proofs.Common.{◌≡◌, ℕ, List, Some, None, refl, sym, ◌∙◌, ap, take}
use Rattle.std.specs.Prelude.{replicate}
use Rattle.std.proofs.lemmas.Option.{same_Some}
use Rattle.pei_types.specs.declared.events.Event.{Event}
use Rattle.pei_types.specs.declared.operations.Op.{Op}
use Rattle.pei_types.specs.declared.operations.Op.TheVariants as op
use Rattle.pei_types.specs.History.{Pei, pei_of}
use Rattle.pei_types.proofs.Histories.{each_of_from}
use Rattle.shared_table.specs.Orderly.{Continues}
use Rattle.thread_laws.specs.Examples.{GapsAreFine, gap_log}

fresh : (before : List Event) (q : Pei) → pei_of before q.id ≡ None → (p : Pei) → Some q ≡ Some p → pei_of before p.id ≡ None
fresh before q none p same = ap (λ r. pei_of before r.id) (sym (same_Some q p same)) ∙ none

none_issued : {A : Type 0} (p : Pei) → None ≡ Some p → A
none_issued p same = absurd (cc same)

abbrev pei_issued : ℕ → ℕ → Op → ℕ → Pei
pei_issued seq l o b = record { id = record { core = record { 0 = 0 }; seq = seq }; lane = record { 0 = l }; op = o; block = record { 0 = b }; operands = record { 0 = replicate 4 0 } }

pub gaps_are_fine : GapsAreFine
gaps_are_fine =
    record {
      continues =
          each_of_from Continues gap_log ((tt, fresh (take 0 gap_log) (pei_issued 2 1 (op.Inc 0) 0) refl), (((refl, refl), λ p e. none_issued p e), ((tt, fresh (take 2 gap_log) (pei_issued 5 2 op.Probe 8) refl), (((refl, refl), λ p e. none_issued p e), (((refl, refl), λ p e. none_issued p e), (((refl, refl), λ p e. none_issued p e), (((refl, refl), λ p e. none_issued p e), (((refl, refl), λ p e. none_issued p e), tt))))))));
      state = refl;
      entered = refl;
      earlier = refl;
    }
