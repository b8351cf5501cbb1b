-- The first core whose letter passes, among the cores of the machine and among eight letters.
use Rattle.std.proofs.Common.{◌≡◌, ℕ, zero, suc, ◌+◌, ◌<◌, Bool, true, false, not, ◌&&◌, ◌||◌, ◌==◌, if◌then◌else◌, Option, Some, None, is_none, option_map, List, [], ◌∷◌, ◌++◌, map, find, replicate, refl, ap, ◌∙◌, arith, add-zero}
use Rattle.std.specs.List.{position_from, range_with_len, list_all}
use Rattle.std.specs.Prelude.{◌-◌, slice_set, slice_index_or}
use Rattle.std.proofs.lemmas.Bool.{eq-eqb, ne_eqb}
use Rattle.pei_types.specs.declared.identifiers.BlockNo.{BlockNo}
use Rattle.pei_types.specs.declared.identifiers.CoreId.{CoreId}
use Rattle.pei_types.specs.declared.machines.MachineSpec.{MachineSpec}
use Rattle.pei_types.specs.declared.operations.Letter.{Letter}
use Rattle.pei_types.specs.declared.operations.Letter.TheVariants as letter
use Rattle.pei_types.specs.Blocks.{same_core}
use Rattle.pei_types.specs.MachineState.{State, LlcLine, is_i, is_owned, is_sealed, letter_of, mark_of, cores_of, no_other_has}
use Rattle.pei_types.specs.Next.{holder, owner, other_holder, other_owner, l1_victim as own_victim}
use Rattle.pmu_dispatch.specs.Shown.{core_of, first_core, other_letters, eight_letters, victim_shown, llc_victim_shown, AreLooksOf}
use Rattle.pmu_dispatch.specs.declared.looks.Victim.{Victim}
use Rattle.pmu_dispatch.specs.declared.looks.WantLooks.{WantLooks}

-- n cores from core k on
abbrev cores_from : ℕ → ℕ → List CoreId
cores_from k n = map (λ c. record { 0 = c }) (range_with_len k n)

-- where no letter passes there is no core
none_passes : (test : Letter → Bool) → test letter.I ≡ false → (k r : ℕ) → position_from test k (replicate r letter.I) ≡ None
none_passes test fails k zero = refl
none_passes test fails k (suc r) = rw fails (none_passes test fails (k + 1) r)

-- the first core of eight letters, from core k on
abbrev first_core_from : (Letter → Bool) → ℕ → List Letter → Option CoreId
first_core_from test k letters = option_map core_of (position_from test k letters)

first_of : (test : Letter → Bool) → test letter.I ≡ false → (of : CoreId → Letter) (k n r : ℕ) → first_core_from test k (map of (cores_from k n) ++ replicate r letter.I) ≡ find (λ c. test (of c)) (cores_from k n)
first_of test fails of k zero r = rw (none_passes test fails k r) refl
first_of test fails of k (suc n) r =
    elim (test (of (record { 0 = k }))) as (λ (b : Bool).
    option_map core_of (if b then Some k else position_from test (k + 1) (map of (cores_from (k + 1) n) ++ replicate r letter.I))
    ≡ (if b then Some (record { 0 = k }) else find (λ c. test (of c)) (cores_from (k + 1) n))) [
      | true ↦ refl
      | false ↦ first_of test fails of (k + 1) n r
    ]

-- ---- all cores but one

abbrev but : (CoreId → Letter) → ℕ → CoreId → Letter
but of own c = if same_core c (record { 0 = own }) then letter.I else of c

but_below : (of : CoreId → Letter) (own k n : ℕ) → own < k → map (but of own) (cores_from k n) ≡ map of (cores_from k n)
but_below of own k zero below = refl
but_below of own k (suc n) below =
    let other : (k == own) ≡ false = ne_eqb k own (λ same. omega arith)
    in rw (other, but_below of own (k + 1) n (omega arith)) refl

but_one : (of : CoreId → Letter) (k j own n r : ℕ) → k + j ≡ own → j < n → slice_set (map of (cores_from k n) ++ replicate r letter.I) j letter.I ≡ map (but of own) (cores_from k n) ++ replicate r letter.I
but_one of k j own zero r is below = absurd (omega arith)
but_one of k zero own (suc n) r is below =
    let here : (k == own) ≡ true = eq-eqb k own (omega arith)
    in rw (here, but_below of own (k + 1) n (omega arith)) refl
but_one of k (suc j) own (suc n) r is below =
    let other : (k == own) ≡ false = ne_eqb k own (λ same. omega arith)
    in rw (other, but_one of (k + 1) j own n r (omega arith) (omega arith)) refl

passes_but : (test : Letter → Bool) → test letter.I ≡ false → (b : Bool) (l : Letter) → test (if b then letter.I else l) ≡ (not b && test l)
passes_but test fails true l = fails
passes_but test fails false l = refl

find_but : (test : Letter → Bool) → test letter.I ≡ false → (of : CoreId → Letter) (own : ℕ) (cores : List CoreId) → find (λ c. test (but of own c)) cores ≡ find (λ c. not (same_core c (record { 0 = own })) && test (of c)) cores
find_but test fails of own [] = refl
find_but test fails of own (c ∷ cores) = rw (passes_but test fails (same_core c (record { 0 = own })) (of c), find_but test fails of own cores) refl

first_of_others : (test : Letter → Bool) → test letter.I ≡ false → (of : CoreId → Letter) (own n r : ℕ) → own < n → first_core test (slice_set (map of (cores_from 0 n) ++ replicate r letter.I) own letter.I) ≡ find (λ c. not (same_core c (record { 0 = own })) && test (of c)) (cores_from 0 n)
first_of_others test fails of own n r below =
    rw (but_one of 0 own own n r (omega arith) below) (first_of test fails (but of own) 0 n r ∙ find_but test fails of own (cores_from 0 n))

-- ---- what the letters of a state show

pub holder_shown : (m : MachineSpec) (s : State) (b : BlockNo) → first_core (λ l. not (is_i l)) (eight_letters m s b) ≡ holder m s b
holder_shown m s b = first_of (λ l. not (is_i l)) refl (λ c. letter_of m s c b) 0 m.cores (8 - m.cores)

pub owner_shown : (m : MachineSpec) (s : State) (b : BlockNo) → first_core is_owned (eight_letters m s b) ≡ owner m s b
owner_shown m s b = first_of is_owned refl (λ c. letter_of m s c b) 0 m.cores (8 - m.cores)

pub other_holder_shown : (m : MachineSpec) (s : State) (c : CoreId) (b : BlockNo) → c.0 < m.cores → first_core (λ l. not (is_i l)) (slice_set (eight_letters m s b) c.0 letter.I) ≡ other_holder m s c b
other_holder_shown m s c b within = first_of_others (λ l. not (is_i l)) refl (λ d. letter_of m s d b) c.0 m.cores (8 - m.cores) within

pub other_owner_shown : (m : MachineSpec) (s : State) (c : CoreId) (b : BlockNo) → c.0 < m.cores → first_core is_owned (slice_set (eight_letters m s b) c.0 letter.I) ≡ other_owner m s c b
other_owner_shown m s c b within = first_of_others is_owned refl (λ d. letter_of m s d b) c.0 m.cores (8 - m.cores) within

-- the letter of a core of the machine
letter_at : (of : CoreId → Letter) (k j n r : ℕ) → j < n → slice_index_or (map of (cores_from k n) ++ replicate r letter.I) j letter.I ≡ of (record { 0 = k + j })
letter_at of k j zero r below = absurd (omega arith)
letter_at of k zero (suc n) r below = rw add-zero refl
letter_at of k (suc j) (suc n) r below =
    let next : k + 1 + j ≡ k + suc j = omega arith
    in letter_at of (k + 1) j n r (omega arith) ∙ ap (λ (i : ℕ). of (record { 0 = i })) next

pub letter_shown : (m : MachineSpec) (s : State) (c : CoreId) (b : BlockNo) → c.0 < m.cores → slice_index_or (eight_letters m s b) c.0 letter.I ≡ letter_of m s c b
letter_shown m s c b within = letter_at (λ d. letter_of m s d b) 0 c.0 m.cores (8 - m.cores) within ∙ ap (λ (i : ℕ). letter_of m s (record { 0 = i }) b) (omega arith)

-- no other core has a block where there is no first one
none_found : (own : CoreId) (of : CoreId → Letter) (cores : List CoreId) → list_all (λ d. same_core d own || is_i (of d)) cores ≡ is_none (find (λ d. not (same_core d own) && not (is_i (of d))) cores)
none_found own of [] = refl
none_found own of (c ∷ cores) =
    elim (same_core c own) as (λ (b : Bool).
    ((b || is_i (of c)) && list_all (λ d. same_core d own || is_i (of d)) cores)
    ≡ is_none (if not b && not (is_i (of c)) then Some c else find (λ d. not (same_core d own) && not (is_i (of d))) cores)) [
      | true ↦ none_found own of cores
      | false ↦
          elim (is_i (of c)) as (λ (b : Bool).
          (b && list_all (λ d. same_core d own || is_i (of d)) cores)
          ≡ is_none (if not b then Some c else find (λ d. not (same_core d own) && not (is_i (of d))) cores)) [
            | true ↦ none_found own of cores
            | false ↦ refl
          ]
    ]

pub no_other_shown : (m : MachineSpec) (s : State) (c : CoreId) (b : BlockNo) → no_other_has m s c b ≡ is_none (other_holder m s c b)
no_other_shown m s c b = none_found c (λ d. letter_of m s d b) (cores_of m)

-- ---- the same of looks that are taken from the state

pub victims_holder : (m : MachineSpec) (s : State) (line : LlcLine) (v : Victim) → v ≡ victim_shown m s line → first_core (λ l. not (is_i l)) v.letters ≡ holder m s line.block
victims_holder m s line v shown = rw shown (holder_shown m s line.block)

module _ (m : MachineSpec) (s : State) (looks : WantLooks) (taken : AreLooksOf m s looks) where
  pub blocks_holder : first_core (λ l. not (is_i l)) looks.letters ≡ holder m s looks.block
  blocks_holder = ap (λ (l : WantLooks). first_core (λ l. not (is_i l)) l.letters) taken.shown ∙ holder_shown m s looks.block

  pub blocks_owner : first_core is_owned looks.letters ≡ owner m s looks.block
  blocks_owner = ap (λ (l : WantLooks). first_core is_owned l.letters) taken.shown ∙ owner_shown m s looks.block

  pub blocks_other_holder : first_core (λ l. not (is_i l)) (other_letters looks) ≡ other_holder m s looks.own looks.block
  blocks_other_holder =
      ap (λ (l : WantLooks). first_core (λ l. not (is_i l)) (slice_set l.letters looks.own.0 letter.I)) taken.shown ∙ other_holder_shown m s looks.own looks.block taken.core

  pub blocks_other_owner : first_core is_owned (other_letters looks) ≡ other_owner m s looks.own looks.block
  blocks_other_owner =
      ap (λ (l : WantLooks). first_core is_owned (slice_set l.letters looks.own.0 letter.I)) taken.shown ∙ other_owner_shown m s looks.own looks.block taken.core

  pub blocks_letter : slice_index_or looks.letters looks.own.0 letter.I ≡ letter_of m s looks.own looks.block
  blocks_letter =
      ap (λ (l : WantLooks). slice_index_or l.letters looks.own.0 letter.I) taken.shown ∙ letter_shown m s looks.own looks.block taken.core

  pub blocks_mark : looks.mark ≡ mark_of m s looks.block
  blocks_mark = ap (λ (l : WantLooks). l.mark) taken.shown

  pub blocks_sealed : looks.sealed ≡ is_sealed s looks.block
  blocks_sealed = ap (λ (l : WantLooks). l.sealed) taken.shown

  pub blocks_llc_victim : looks.llc_victim ≡ llc_victim_shown m s looks.block
  blocks_llc_victim = ap (λ (l : WantLooks). l.llc_victim) taken.shown

  pub blocks_l1_victim : looks.l1_victim ≡ option_map (λ line. line.block) (own_victim m s looks.own looks.block)
  blocks_l1_victim = ap (λ (l : WantLooks). l.l1_victim) taken.shown
