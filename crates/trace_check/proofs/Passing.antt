-- The pass through a journal.
use Rattle.std.proofs.Common.{◌≡◌, ℕ, zero, suc, ◌+◌, ◌<◌, ◌≤◌, ◌&&◌, Bool, List, ◌∷◌, ◌++◌, map, length, take, drop, get_or, slice_get, Some, is_some, refl, sym, ◌∙◌, ap, subst, arith}
use Rattle.std.specs.List.{list_all, range_with_len}
use Rattle.std.proofs.lemmas.List.{take-append-drop, take_all, length-take-le}
use Rattle.std.proofs.lemmas.Option.{slice_get_within, get_or_from_slice_get}
use Rattle.std.proofs.Math.Seq.{drop-cons}
use Rattle.pei_types.specs.declared.identifiers.CoreId.{CoreId}
use Rattle.pei_types.specs.declared.clauses.Clause.{Clause}
use Rattle.pei_types.specs.declared.events.Event.{Event}
use Rattle.pei_types.specs.declared.machines.MachineSpec.{MachineSpec}
use Rattle.pei_types.specs.Ends.{all_ended, end_of, ends_of}
use Rattle.pei_types.specs.Legal.{FailsFirst, Legal}
use Rattle.pei_types.specs.Program.{Listing, Contents}
use Rattle.trace_check.specs.declared.checker.Checker.{Checker}
use Rattle.trace_check.specs.CheckedFront.{Follows}
use Rattle.trace_check.specs.Verdicts.{FailsAt}

-- the event that fails, between those before it and those behind it
pub fails_there : (p : Listing) (m : MachineSpec) (image : Contents) (journal : List Event) (i : ℕ) (e : Event) (c : Clause) → slice_get journal i ≡ Some e → FailsFirst c p m image (take i journal) e → FailsAt p m image journal (i + 2) c
fails_there p m image journal i e c here fails =
    let within : i < length journal = slice_get_within journal i e here
    in let is : get_or journal i e ≡ e = get_or_from_slice_get journal i e e here
    in record {
      before = take i journal;
      event = e;
      rest = drop (suc i) journal;
      whole = sym (take-append-drop i journal) ∙ ap (λ xs. take i journal ++ xs) (drop-cons journal i e within ∙ ap (λ x. x ∷ drop (suc i) journal) is);
      number = ap (λ n. n + 2) (sym (length-take-le i journal (omega (arith, within))));
      first = fails;
    }

ended_in : (journal : List Event) (a n k : ℕ) → n ≤ k → list_all (λ b. b) (take n (map is_some (map (λ c. end_of journal (record { 0 = c })) (range_with_len a k)))) ≡ list_all (λ (c : CoreId). is_some (end_of journal c)) (map (λ c. record { 0 = c }) (range_with_len a n))
ended_in journal a zero k h = refl
ended_in journal a (suc n) zero h = absurd (omega (arith, h))
ended_in journal a (suc n) (suc k) h = ap (λ t. is_some (end_of journal (record { 0 = a })) && t) (ended_in journal (a + 1) n k (omega (arith, h)))

-- the events are all of them
pub all_followed : (p : Listing) (m : MachineSpec) (image : Contents) (journal : List Event) (i : ℕ) (v : Checker) (complete : Bool) → length journal ≤ i → Follows p m image (take i journal) v → complete ≡ list_all (λ b. b) (take v.machine.cores v.ended) → Legal p m image journal × (complete ≡ all_ended m journal)
all_followed p m image journal i v complete past follows is =
    let whole : take i journal ≡ journal = take_all i journal past
    in (
      subst (λ (js : List Event). Legal p m image js) whole follows.legal,
      is ∙ ap (λ (n : MachineSpec). list_all (λ b. b) (take n.cores v.ended)) follows.machine ∙ ap (λ (bs : List Bool). list_all (λ b. b) (take m.cores bs)) (follows.ended ∙ ap (λ (js : List Event). map is_some (ends_of js)) whole)
          ∙ ended_in journal 0 m.cores 8 m.cores_in_limits.1,
    )
