-- The status of a run, by the ends of its cores.
use Rattle.std.proofs.Common.{◌≡◌, ℕ, zero, suc, ◌+◌, ◌≤◌, ◌==◌, Bool, true, false, ◌&&◌, if◌then◌else◌, List, length, map, take, Option, is_some, refl, sym, ◌∙◌, ap, arith}
use Rattle.std.specs.List.{list_all, range_with_len}
use Rattle.pei_types.specs.declared.identifiers.CoreId.{CoreId}
use Rattle.pei_types.specs.declared.calls.EndKind.{EndKind}
use Rattle.pei_types.specs.declared.events.Event.{Event}
use Rattle.pei_types.specs.declared.machines.MachineSpec.{MachineSpec}
use Rattle.pei_types.specs.Ends.{end_of, ends_of, all_ended, all_halted, is_halt, status_of}

-- a test of the ends of the first cores
all_in : (journal : List Event) (test : Option EndKind → Bool) (a n k : ℕ) → n ≤ k → list_all test (take n (map (λ c. end_of journal (record { 0 = c })) (range_with_len a k))) ≡ list_all (λ (c : CoreId). test (end_of journal c)) (map (λ c. record { 0 = c }) (range_with_len a n))
all_in journal test a zero k h = refl
all_in journal test a (suc n) zero h = absurd (omega (arith, h))
all_in journal test a (suc n) (suc k) h = ap (λ t. test (end_of journal (record { 0 = a })) && t) (all_in journal test (a + 1) n k (omega (arith, h)))

-- the ends of the machine's cores, as a slice has them
ended_is : (m : MachineSpec) (journal : List Event) (ends : List (Option EndKind)) (b : Bool) → ends ≡ ends_of journal → b ≡ list_all is_some (take m.cores ends) → all_ended m journal ≡ b
ended_is m journal ends b same h = sym (all_in journal is_some 0 m.cores 8 m.cores_in_limits.1) ∙ ap (λ xs. list_all is_some (take m.cores xs)) (sym same) ∙ sym h

halted_is : (m : MachineSpec) (journal : List Event) (ends : List (Option EndKind)) (b : Bool) → ends ≡ ends_of journal → b ≡ list_all is_halt (take m.cores ends) → all_halted m journal ≡ b
halted_is m journal ends b same h = sym (all_in journal is_halt 0 m.cores 8 m.cores_in_limits.1) ∙ ap (λ xs. list_all is_halt (take m.cores xs)) (sym same) ∙ sym h

pub status_ended : (m : MachineSpec) (journal : List Event) (ends : List (Option EndKind)) (h : Bool) → ends ≡ ends_of journal → list_all is_some (take m.cores ends) ≡ true → list_all is_halt (take m.cores ends) ≡ h → (if h then 0 else 5) ≡ status_of m journal
status_ended m journal ends h same all halt =
    sym (ap (λ b. if b then (if all_halted m journal then 0 else 5) else (if length journal == m.events then 6 else 7)) (ended_is m journal ends true same (sym all))
    ∙ ap (λ b. if b then 0 else 5) (halted_is m journal ends h same (sym halt)))

pub status_open : (m : MachineSpec) (journal : List Event) (ends : List (Option EndKind)) (f : Bool) → ends ≡ ends_of journal → list_all is_some (take m.cores ends) ≡ false → (length journal == m.events) ≡ f → (if f then 6 else 7) ≡ status_of m journal
status_open m journal ends f same all full =
    sym (ap (λ b. if b then (if all_halted m journal then 0 else 5) else (if length journal == m.events then 6 else 7)) (ended_is m journal ends false same (sym all))
    ∙ ap (λ b. if b then 6 else 7) full)
