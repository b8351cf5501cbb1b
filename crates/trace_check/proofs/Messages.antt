-- The guards of coherence messages, as looks at a state tell them.
use Rattle.std.proofs.Common.{◌≡◌, ℕ, zero, suc, ◌+◌, ◌-◌, ◌<◌, ◌≤◌, ⊎_elim, Bool, true, false, not, ◌&&◌, ◌||◌, if◌then◌else◌, List, [], ◌∷◌, ◌++◌, map, length, replicate, None, is_none, option_map, find, refl, sym, ◌∙◌, ap, arith}
use Rattle.std.specs.Prelude.{slice_index_or, slice_set}
use Rattle.std.specs.List.{list_all, range_with_len}
use Rattle.std.proofs.lemmas.Bool.{cases_lt}
use Rattle.pei_types.specs.declared.identifiers.Actor.{Actor}
use Rattle.pei_types.specs.declared.identifiers.BlockNo.{BlockNo}
use Rattle.pei_types.specs.declared.identifiers.CoreId.{CoreId}
use Rattle.pei_types.specs.declared.events.EventKind.{EventKind}
use Rattle.pei_types.specs.declared.machines.MachineSpec.{MachineSpec}
use Rattle.pei_types.specs.declared.operations.Letter.{Letter}
use Rattle.pei_types.specs.declared.operations.Letter.TheVariants as letter
use Rattle.pei_types.specs.Blocks.{l1_set_of}
use Rattle.pei_types.specs.MachineState.{Line, State, is_absent, is_ahead, is_clean, is_dirty, is_i, is_line_of, is_owned, letter_in, letter_of, llc_set, mark_of, writer_is_sealed, none_has, none_owns, no_other_has, no_other_owns, is_sealed}
use Rattle.pei_types.specs.Guard.{guard, l1_has_room, llc_has_room}
use Rattle.pei_types.specs.Recency.{list_at, victim}
use Rattle.coherence_laws.specs.Invariants.{Invariants}
use Rattle.pmu_dispatch.specs.Shown.{AreLooksOf, victim_shown}
use Rattle.pmu_dispatch.specs.declared.looks.WantLooks.{WantLooks}
use Rattle.trace_check.specs.InState.{may_come}
use Rattle.trace_check.proofs.Copies.{and_true, letter_shown, mark_shown, nobody_has, nobody_owns}
use Rattle.trace_check.proofs.Others.{no_other_shown, no_owner_shown, sealed_shown}
use Rattle.trace_check.proofs.Rooms.{none_kept, shared_room}

beyond : {A : Type 0} (xs : List A) (i : ℕ) (d : A) → length xs ≤ i → slice_index_or xs i d ≡ d
beyond [] i d h = refl
beyond (x ∷ xs) zero d h = absurd (omega (arith, h))
beyond (x ∷ xs) (suc i) d h = beyond xs i d (omega (arith, h))

all_i : (r j : ℕ) → slice_index_or (replicate r letter.I) j letter.I ≡ letter.I
all_i zero j = refl
all_i (suc r) zero = refl
all_i (suc r) (suc j) = all_i r j

letter_behind : (of : CoreId → Letter) (k j n r : ℕ) → n ≤ j → slice_index_or (map of (map (λ c. record { 0 = c }) (range_with_len k n)) ++ replicate r letter.I) j letter.I ≡ letter.I
letter_behind of k j zero r h = all_i r j
letter_behind of k zero (suc n) r h = absurd (omega (arith, h))
letter_behind of k (suc j) (suc n) r h = letter_behind of (k + 1) j n r (omega (arith, h))

no_core_no_copy : (m : MachineSpec) (s : State) (c : CoreId) (b : BlockNo) → Invariants m s → m.cores ≤ c.0 → letter_of m s c b ≡ letter.I
no_core_no_copy m s c b inv h =
    let cores = inv.sizes.cores
    in ap (λ (sets : List (List Line)). letter_in (find (is_line_of b) (list_at sets (l1_set_of m b)))) (beyond s.l1 c.0 [] (omega (arith, cores, h)))

-- the letter of any core, of the machine or not
module _ (m : MachineSpec) (s : State) (looks : WantLooks) (taken : AreLooksOf m s looks) (inv : Invariants m s) where
  any_letter : (c : CoreId) → slice_index_or looks.letters c.0 letter.I ≡ letter_of m s c looks.block
  any_letter c = ap (λ (l : WantLooks). slice_index_or l.letters c.0 letter.I) taken.shown ∙ ⊎_elim
      (λ (h : c.0 < m.cores). letter_shown m s c looks.block h)
      (λ (h : m.cores ≤ c.0). letter_behind (λ d. letter_of m s d looks.block) 0 c.0 m.cores (8 - m.cores) h ∙ sym (no_core_no_copy m s c looks.block inv h))
      (cases_lt c.0 m.cores)

  pub lose_shown : (c : CoreId) (lacks : Bool) → lacks ≡ is_i (slice_index_or looks.letters c.0 letter.I) → not lacks ≡ not (is_i (letter_of m s c looks.block))
  lose_shown c lacks e = ap not (e ∙ ap is_i (any_letter c))

  pub share_shown : (c : CoreId) (owned : Bool) → owned ≡ is_owned (slice_index_or looks.letters c.0 letter.I) → owned ≡ is_owned (letter_of m s c looks.block)
  share_shown c owned e = e ∙ ap is_owned (any_letter c)

  pub clean_shown : (dirty owns : Bool) → dirty ≡ is_dirty looks.mark → owns ≡ list_all (λ l. not (is_owned l || is_ahead l)) looks.letters → (dirty && owns) ≡ (is_dirty (mark_of m s looks.block) && none_owns m s looks.block)
  clean_shown dirty owns ed eo = ap (λ t. t && owns) (ed ∙ ap is_dirty (mark_shown m s looks taken)) ∙ ap (λ t. is_dirty (mark_of m s looks.block) && t) (eo ∙ nobody_owns m s looks taken)

  pub go_shown : (clean has : Bool) → clean ≡ is_clean looks.mark → has ≡ list_all is_i looks.letters → (clean && has) ≡ (is_clean (mark_of m s looks.block) && none_has m s looks.block)
  go_shown clean has ec eh = ap (λ t. t && has) (ec ∙ ap is_clean (mark_shown m s looks taken)) ∙ ap (λ t. is_clean (mark_of m s looks.block) && t) (eh ∙ nobody_has m s looks taken)

  room_where_absent : (absent : Bool) → is_absent (mark_of m s looks.block) ≡ absent → (absent && is_none (if absent then option_map (victim_shown m s) (victim m.llc_ways (llc_set m s looks.block)) else None)) ≡ (absent && llc_has_room m s looks.block)
  room_where_absent true e = none_kept (victim_shown m s) (victim m.llc_ways (llc_set m s looks.block)) ∙ shared_room m s looks.block inv e
  room_where_absent false e = refl

  swap : (x y z : Bool) → (x && y && z) ≡ ((x && z) && y)
  swap true true z = sym (and_true z)
  swap true false true = refl
  swap true false false = refl
  swap false y z = refl

  pub fill_shown : (absent sealed none : Bool) → absent ≡ is_absent looks.mark → sealed ≡ writer_is_sealed s looks.block → none ≡ is_none looks.llc_victim → (absent && not sealed && none) ≡ (is_absent (mark_of m s looks.block) && not (writer_is_sealed s looks.block) && llc_has_room m s looks.block)
  fill_shown absent sealed none ea es en =
      let there : absent ≡ is_absent (mark_of m s looks.block) = ea ∙ ap is_absent (mark_shown m s looks taken)
      in let shown : none ≡ is_none (if is_absent (mark_of m s looks.block) then option_map (victim_shown m s) (victim m.llc_ways (llc_set m s looks.block)) else None) = en ∙ ap (λ (l : WantLooks). is_none l.llc_victim) taken.shown
      in ap (λ t. t && not sealed && none) there
      ∙ ap (λ t. is_absent (mark_of m s looks.block) && not t && none) es
      ∙ ap (λ t. is_absent (mark_of m s looks.block) && not (writer_is_sealed s looks.block) && t) shown
      ∙ swap (is_absent (mark_of m s looks.block)) (not (writer_is_sealed s looks.block)) _
      ∙ ap (λ t. t && not (writer_is_sealed s looks.block)) (room_where_absent (is_absent (mark_of m s looks.block)) refl)
      ∙ sym (swap (is_absent (mark_of m s looks.block)) (not (writer_is_sealed s looks.block)) (llc_has_room m s looks.block))

  to_end : (x y z w : Bool) → ((x && y && w) && z) ≡ (x && y && z && w)
  to_end true true true w = and_true w
  to_end true true false true = refl
  to_end true true false false = refl
  to_end true false z w = refl
  to_end false y z w = refl

  pub shared_shown : (comes others : Bool) → comes ≡ may_come m s looks.own looks.block → others ≡ list_all (λ l. not (is_owned l)) (slice_set looks.letters looks.own.0 letter.I) → (comes && others) ≡ (is_i (letter_of m s looks.own looks.block) && not (is_absent (mark_of m s looks.block)) && no_other_owns m s looks.own looks.block && l1_has_room m s looks.own looks.block)
  shared_shown comes others ec eo =
      ap (λ t. t && others) ec ∙ ap (λ t. may_come m s looks.own looks.block && t) (eo ∙ no_owner_shown m s looks taken)
      ∙ to_end (is_i (letter_of m s looks.own looks.block)) (not (is_absent (mark_of m s looks.block))) (no_other_owns m s looks.own looks.block) (l1_has_room m s looks.own looks.block)

  pub alone_shown : (comes others sealed : Bool) → comes ≡ may_come m s looks.own looks.block → others ≡ list_all is_i (slice_set looks.letters looks.own.0 letter.I) → sealed ≡ looks.sealed → (comes && others && not sealed) ≡ (is_i (letter_of m s looks.own looks.block) && not (is_absent (mark_of m s looks.block)) && no_other_has m s looks.own looks.block && not (is_sealed s looks.block) && l1_has_room m s looks.own looks.block)
  alone_shown comes others sealed ec eo es =
      ap (λ t. t && others && not sealed) ec ∙ ap (λ t. may_come m s looks.own looks.block && t && not sealed) (eo ∙ no_other_shown m s looks taken) ∙ ap (λ t. may_come m s looks.own looks.block && no_other_has m s looks.own looks.block && not t) (es ∙ sealed_shown m s looks taken)
      ∙ over (is_i (letter_of m s looks.own looks.block)) (not (is_absent (mark_of m s looks.block))) (no_other_has m s looks.own looks.block) (not (is_sealed s looks.block)) (l1_has_room m s looks.own looks.block)
    where
      over : (x y z u w : Bool) → ((x && y && w) && z && u) ≡ (x && y && z && u && w)
      over true true true true true = refl
      over true true true true false = refl
      over true true true false true = refl
      over true true true false false = refl
      over true true false u true = refl
      over true true false u false = refl
      over true false z u w = refl
      over false y z u w = refl

-- looks at a core and a block are looks at them
pub guard_at : (m : MachineSpec) (s : State) (k : BlockNo → EventKind) (own : CoreId) (block : BlockNo) (looks : WantLooks) (kind : EventKind) (r : Bool) → looks.own ≡ own → looks.block ≡ block → kind ≡ k block → ((a : Actor) → a.core ≡ looks.own → r ≡ guard m s a (k looks.block)) → (a : Actor) → a.core ≡ own → r ≡ guard m s a kind
guard_at m s k own block looks kind r eo eb ek h a ea = h a (ea ∙ sym eo) ∙ ap (λ b. guard m s a (k b)) eb ∙ ap (guard m s a) (sym ek)
