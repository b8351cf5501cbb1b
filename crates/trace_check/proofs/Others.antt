-- The letters of all cores but one, and the guards of grants.
use Rattle.std.proofs.Common.{◌≡◌, ℕ, zero, suc, ◌+◌, ◌-◌, ◌<◌, ◌==◌, Bool, true, false, not, ◌&&◌, ◌||◌, List, [], ◌∷◌, ◌++◌, map, replicate, is_none, refl, sym, ◌∙◌, ap, arith}
use Rattle.std.specs.Prelude.{slice_index_or, slice_set}
use Rattle.std.specs.List.{list_all, range_with_len}
use Rattle.std.proofs.lemmas.Grind.{common_steps}
use Rattle.pei_types.specs.declared.identifiers.BlockNo.{BlockNo}
use Rattle.pei_types.specs.declared.identifiers.CoreId.{CoreId}
use Rattle.pei_types.specs.declared.machines.MachineSpec.{MachineSpec}
use Rattle.pei_types.specs.declared.operations.Letter.{Letter}
use Rattle.pei_types.specs.declared.operations.Letter.TheVariants as letter
use Rattle.pei_types.specs.Blocks.{same_core}
use Rattle.pei_types.specs.MachineState.{State, cores_of, is_absent, is_i, is_owned, is_sealed, letter_of, mark_of, no_other_has, no_other_owns}
use Rattle.pei_types.specs.Guard.{l1_has_room}
use Rattle.coherence_laws.specs.Invariants.{Invariants}
use Rattle.pmu_dispatch.specs.Shown.{AreLooksOf, eight_letters}
use Rattle.pmu_dispatch.specs.declared.looks.WantLooks.{WantLooks}
use Rattle.trace_check.specs.InState.{may_come}
use Rattle.trace_check.proofs.Copies.{all_lacking, and_true, mark_shown, own_letter}
use Rattle.trace_check.proofs.Rooms.{own_room}

core_at : ℕ → CoreId
core_at n = record { 0 = n }

-- cores behind one are other cores
others_behind : (test : Letter → Bool) (of : CoreId → Letter) (c k n : ℕ) → c < k → list_all test (map of (map (λ d. record { 0 = d }) (range_with_len k n))) ≡ list_all (λ d. same_core d (record { 0 = c }) || test (of d)) (map (λ d. record { 0 = d }) (range_with_len k n))
others_behind test of c k zero behind = refl
others_behind test of c k (suc n) behind =
    let apart : (k == c) ≡ false = grind (arith, common_steps)
    in ap (λ t. test (of (record { 0 = k })) && t) (others_behind test of c (k + 1) n (omega (arith, behind)))
    ∙ ap (λ t. (t || test (of (record { 0 = k }))) && list_all (λ d. same_core d (record { 0 = c }) || test (of d)) (map (λ d. record { 0 = d }) (range_with_len (k + 1) n))) (sym apart)

others_at : (test : Letter → Bool) → test letter.I ≡ true → (of : CoreId → Letter) (k j n r : ℕ) → j < n → list_all test (slice_set (map of (map (λ d. record { 0 = d }) (range_with_len k n)) ++ replicate r letter.I) j letter.I) ≡ list_all (λ d. same_core d (record { 0 = k + j }) || test (of d)) (map (λ d. record { 0 = d }) (range_with_len k n))
others_at test passes of k j zero r below = absurd (omega (arith, below))
others_at test passes of k zero (suc n) r below =
    let here : (k == k + 0) ≡ true = grind (arith, common_steps)
    in ap (λ t. t && list_all test (map of (map (λ d. record { 0 = d }) (range_with_len (k + 1) n)) ++ replicate r letter.I)) passes
    ∙ plain (map of (map (λ d. record { 0 = d }) (range_with_len (k + 1) n)))
    ∙ others_behind test of (k + 0) (k + 1) n (omega arith)
    ∙ ap (λ t. (t || test (of (record { 0 = k }))) && list_all (λ d. same_core d (record { 0 = k + 0 }) || test (of d)) (map (λ d. record { 0 = d }) (range_with_len (k + 1) n))) (sym here)
  where
    plain : (xs : List Letter) → list_all test (xs ++ replicate r letter.I) ≡ list_all test xs
    plain [] = all_lacking test passes r
    plain (x ∷ xs) = ap (λ t. test x && t) (plain xs)
others_at test passes of k (suc j) (suc n) r below =
    let next : k + 1 + j ≡ k + suc j = omega arith
    in let apart : (k == k + suc j) ≡ false = grind (arith, common_steps)
    in ap (λ t. test (of (record { 0 = k })) && t) (others_at test passes of (k + 1) j n r (omega (arith, below)) ∙ ap (λ (i : ℕ). list_all (λ d. same_core d (record { 0 = i }) || test (of d)) (map (λ d. record { 0 = d }) (range_with_len (k + 1) n))) next)
    ∙ ap (λ t. (t || test (of (record { 0 = k }))) && list_all (λ d. same_core d (record { 0 = k + suc j }) || test (of d)) (map (λ d. record { 0 = d }) (range_with_len (k + 1) n))) (sym apart)

others_shown : (test : Letter → Bool) → test letter.I ≡ true → (m : MachineSpec) (s : State) (c : CoreId) (b : BlockNo) → c.0 < m.cores → list_all test (slice_set (eight_letters m s b) c.0 letter.I) ≡ list_all (λ d. same_core d c || test (letter_of m s d b)) (cores_of m)
others_shown test passes m s c b within =
    others_at test passes (λ d. letter_of m s d b) 0 c.0 m.cores (8 - m.cores) within
    ∙ ap (λ (i : ℕ). list_all (λ d. same_core d (record { 0 = i }) || test (letter_of m s d b)) (cores_of m)) (omega arith)

-- what looks show of the cores beside the own
module _ (m : MachineSpec) (s : State) (looks : WantLooks) (taken : AreLooksOf m s looks) where
  pub no_other_shown : list_all is_i (slice_set looks.letters looks.own.0 letter.I) ≡ no_other_has m s looks.own looks.block
  no_other_shown = ap (λ (l : WantLooks). list_all is_i (slice_set l.letters looks.own.0 letter.I)) taken.shown ∙ others_shown is_i refl m s looks.own looks.block taken.core

  pub no_owner_shown : list_all (λ l. not (is_owned l)) (slice_set looks.letters looks.own.0 letter.I) ≡ no_other_owns m s looks.own looks.block
  no_owner_shown = ap (λ (l : WantLooks). list_all (λ x. not (is_owned x)) (slice_set l.letters looks.own.0 letter.I)) taken.shown ∙ others_shown (λ l. not (is_owned l)) refl m s looks.own looks.block taken.core

  pub sealed_shown : looks.sealed ≡ is_sealed s looks.block
  sealed_shown = ap (λ (l : WantLooks). l.sealed) taken.shown

  -- where there is no copy, there is room exactly where no line is given up
  room_where_none : Invariants m s → (lacks : Bool) → is_i (letter_of m s looks.own looks.block) ≡ lacks → (lacks && is_none looks.l1_victim) ≡ (lacks && l1_has_room m s looks.own looks.block)
  room_where_none inv true e = ap (λ (l : WantLooks). is_none l.l1_victim) taken.shown ∙ own_room m s looks.own looks.block inv e
  room_where_none inv false e = refl

  -- whether a copy may come
  pub come_shown : Invariants m s → (lacks absent none : Bool) → lacks ≡ is_i (slice_index_or looks.letters looks.own.0 letter.I) → absent ≡ is_absent looks.mark → none ≡ is_none looks.l1_victim → (lacks && not absent && none) ≡ may_come m s looks.own looks.block
  come_shown inv lacks absent none el ea en =
      let own : lacks ≡ is_i (letter_of m s looks.own looks.block) = el ∙ ap is_i (own_letter m s looks taken)
      in let there : absent ≡ is_absent (mark_of m s looks.block) = ea ∙ ap is_absent (mark_shown m s looks taken)
      in ap (λ t. lacks && not t && none) there
      ∙ ap (λ t. lacks && not (is_absent (mark_of m s looks.block)) && t) en
      ∙ swap lacks (not (is_absent (mark_of m s looks.block))) (is_none looks.l1_victim)
      ∙ ap (λ t. t && not (is_absent (mark_of m s looks.block))) (room_where_none inv lacks (sym own))
      ∙ sym (swap lacks (not (is_absent (mark_of m s looks.block))) (l1_has_room m s looks.own looks.block))
      ∙ ap (λ t. t && not (is_absent (mark_of m s looks.block)) && l1_has_room m s looks.own looks.block) own
    where
      swap : (x y z : Bool) → (x && y && z) ≡ ((x && z) && y)
      swap true true z = sym (and_true z)
      swap true false true = refl
      swap true false false = refl
      swap false y z = refl

  -- whether a core may be granted the block to write
  pub write_shown : Invariants m s → (lacks owned absent others sealed none : Bool) → lacks ≡ is_i (slice_index_or looks.letters looks.own.0 letter.I) → owned ≡ is_owned (slice_index_or looks.letters looks.own.0 letter.I) → absent ≡ is_absent looks.mark → others ≡ list_all is_i (slice_set looks.letters looks.own.0 letter.I) → sealed ≡ looks.sealed → none ≡ is_none looks.l1_victim → (not owned && not absent && others && not sealed && (not lacks || none)) ≡ (not (is_owned (letter_of m s looks.own looks.block)) && not (is_absent (mark_of m s looks.block)) && no_other_has m s looks.own looks.block && not (is_sealed s looks.block) && (not (is_i (letter_of m s looks.own looks.block)) || l1_has_room m s looks.own looks.block))
  write_shown inv lacks owned absent others sealed none el eo ea et es en =
      let own : lacks ≡ is_i (letter_of m s looks.own looks.block) = el ∙ ap is_i (own_letter m s looks taken)
      in let holds : owned ≡ is_owned (letter_of m s looks.own looks.block) = eo ∙ ap is_owned (own_letter m s looks taken)
      in let there : absent ≡ is_absent (mark_of m s looks.block) = ea ∙ ap is_absent (mark_shown m s looks taken)
      in let alone : others ≡ no_other_has m s looks.own looks.block = et ∙ no_other_shown
      in let seal : sealed ≡ is_sealed s looks.block = es ∙ sealed_shown
      in let room : (not lacks || none) ≡ (not (is_i (letter_of m s looks.own looks.block)) || l1_has_room m s looks.own looks.block) =
      ap (λ t. not lacks || t) en ∙ unless lacks (is_none looks.l1_victim) (l1_has_room m s looks.own looks.block) (room_where_none inv lacks (sym own)) ∙ ap (λ t. not t || l1_has_room m s looks.own looks.block) own
      in ap (λ t. not t && not absent && others && not sealed && (not lacks || none)) holds
      ∙ ap (λ t. not (is_owned (letter_of m s looks.own looks.block)) && not t && others && not sealed && (not lacks || none)) there
      ∙ ap (λ t. not (is_owned (letter_of m s looks.own looks.block)) && not (is_absent (mark_of m s looks.block)) && t && not sealed && (not lacks || none)) alone
      ∙ ap (λ t. not (is_owned (letter_of m s looks.own looks.block)) && not (is_absent (mark_of m s looks.block)) && no_other_has m s looks.own looks.block && not t && (not lacks || none)) seal
      ∙ ap (λ t. not (is_owned (letter_of m s looks.own looks.block)) && not (is_absent (mark_of m s looks.block)) && no_other_has m s looks.own looks.block && not (is_sealed s looks.block) && t) room
    where
      unless : (x y z : Bool) → (x && y) ≡ (x && z) → (not x || y) ≡ (not x || z)
      unless true y z h = h
      unless false y z h = refl
