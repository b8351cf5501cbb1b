-- Which evictions take the last line, and which placements are the policy's.
use Rattle.std.proofs.Common.{◌≡◌, ℕ, Bool, true, false, ◌||◌, ◌⊎◌, ◌↔◌, inl, inr, IsTrue, Option, Some, None, MatchOption, option_map, refl, sym, ◌∙◌, ap, subst, not}
use Rattle.std.proofs.lemmas.Bool.{and_parts}
use Rattle.pei_types.specs.declared.identifiers.Actor.{Actor}
use Rattle.pei_types.specs.declared.identifiers.BlockNo.{BlockNo}
use Rattle.pei_types.specs.declared.identifiers.CoreId.{CoreId}
use Rattle.pei_types.specs.declared.events.EventKind.{EventKind}
use Rattle.pei_types.specs.declared.events.EventKind.TheVariants as event
use Rattle.pei_types.specs.declared.inflight_looks.PeiLook.{PeiLook}
use Rattle.pei_types.specs.declared.machines.MachineSpec.{MachineSpec}
use Rattle.pei_types.specs.declared.operations.Place.{Place}
use Rattle.pei_types.specs.Blocks.{llc_set_of, same_block, same_core, tag_of}
use Rattle.pei_types.specs.MachineState.{Line, LlcLine, State, is_i, l1_set, letter_of, llc_set, look_in, look_of, pei_id}
use Rattle.pei_types.specs.Guard.{guard}
use Rattle.pei_types.specs.Monitor.{placement}
use Rattle.pei_types.specs.Recency.{list_at, victim}
use Rattle.pei_types.specs.StateClauses.{EvictsLast, PlacesByMonitor, clears_way_for}
use Rattle.pei_types.proofs.Identities.{same_core_is}
use Rattle.trace_check.specs.InState.{is_found}

last_copy_is : (o : Option Line) (b : BlockNo) → IsTrue (is_found (option_map (λ line. line.block) o) b) ↔ MatchOption o ⊥ (λ line. IsTrue (same_block line.block b))
last_copy_is None b = (λ h. cc h, λ h. absurd h)
last_copy_is (Some line) b = (λ h. h, λ h. h)

last_line_is : (o : Option LlcLine) (b : BlockNo) → IsTrue (is_found (option_map (λ line. line.block) o) b) ↔ MatchOption o ⊥ (λ line. IsTrue (same_block line.block b))
last_line_is None b = (λ h. cc h, λ h. absurd h)
last_line_is (Some line) b = (λ h. h, λ h. h)

-- ---- evictions from a private cache

pub own_core : (m : MachineSpec) (s : State) (a : Actor) (c : CoreId) (b : BlockNo) → guard m s a (event.EvictL1 c b) ≡ true → c ≡ a.core
own_core m s a c b h = same_core_is c a.core (and_parts (same_core c a.core) (not (is_i (letter_of m s c b))) h).0

pub own_evicted : (m : MachineSpec) (s : State) (a : Actor) (kind : EventKind) (c : CoreId) (b : BlockNo) (found : Option BlockNo) (r : Bool) → kind ≡ event.EvictL1 c b → found ≡ option_map (λ line. line.block) (victim m.l1_ways (l1_set m s c b)) → r ≡ is_found found b → IsTrue r ↔ EvictsLast m s a kind
own_evicted m s a kind c b found r is last told =
    let t = last_copy_is (victim m.l1_ways (l1_set m s c b)) b
    in let whole : r ≡ is_found (option_map (λ line. line.block) (victim m.l1_ways (l1_set m s c b))) b = told ∙ ap (λ o. is_found o b) last
    in subst (λ (k : EventKind). IsTrue r ↔ EvictsLast m s a k) (sym is) (λ h. t.0 (sym whole ∙ h), λ h. whole ∙ t.1 h)

-- ---- evictions from the last-level cache

either_true : (x y : Bool) → (x || y) ≡ true → (x ≡ true) ⊎ (y ≡ true)
either_true true y h = inl refl
either_true false y h = inr h

or_right : (x : Bool) → (x || true) ≡ true
or_right true = refl
or_right false = refl

pub line_evicted : (m : MachineSpec) (s : State) (a : Actor) (kind : EventKind) (b : BlockNo) (found : Option BlockNo) (r clears : Bool) → kind ≡ event.EvictLlc b → found ≡ option_map (λ line. line.block) (victim m.llc_ways (llc_set m s b)) → r ≡ is_found found b → clears ≡ clears_way_for b (look_in s a.core a.lane) → IsTrue (r || clears) ↔ EvictsLast m s a kind
line_evicted m s a kind b found r clears is last told way =
    let t = last_line_is (victim m.llc_ways (llc_set m s b)) b
    in let whole : r ≡ is_found (option_map (λ line. line.block) (victim m.llc_ways (llc_set m s b))) b = told ∙ ap (λ o. is_found o b) last
    in subst (λ (k : EventKind). IsTrue (r || clears) ↔ EvictsLast m s a k) (sym is) (
      λ h. by_left (either_true r clears h) t.0 whole,
      λ h. by_right h t.1 whole,
    )
  where
    by_left : (r ≡ true) ⊎ (clears ≡ true) → (IsTrue (is_found (option_map (λ line. line.block) (victim m.llc_ways (llc_set m s b))) b) → MatchOption (victim m.llc_ways (llc_set m s b)) ⊥ (λ line. IsTrue (same_block line.block b))) → r ≡ is_found (option_map (λ line. line.block) (victim m.llc_ways (llc_set m s b))) b → MatchOption (victim m.llc_ways (llc_set m s b)) ⊥ (λ line. IsTrue (same_block line.block b)) ⊎ IsTrue (clears_way_for b (look_in s a.core a.lane))
    by_left (inl h) t whole = inl (t (sym whole ∙ h))
    by_left (inr h) t whole = inr (sym way ∙ h)

    by_right : MatchOption (victim m.llc_ways (llc_set m s b)) ⊥ (λ line. IsTrue (same_block line.block b)) ⊎ IsTrue (clears_way_for b (look_in s a.core a.lane)) → (MatchOption (victim m.llc_ways (llc_set m s b)) ⊥ (λ line. IsTrue (same_block line.block b)) → IsTrue (is_found (option_map (λ line. line.block) (victim m.llc_ways (llc_set m s b))) b)) → r ≡ is_found (option_map (λ line. line.block) (victim m.llc_ways (llc_set m s b))) b → (r || clears) ≡ true
    by_right (inl h) t whole = ap (λ x. x || clears) (whole ∙ t h)
    by_right (inr h) t whole = ap (λ x. r || x) (way ∙ h) ∙ or_right r

-- ---- placements

pub placed_so : (m : MachineSpec) (s : State) (a : Actor) (kind : EventKind) (seq : ℕ) (to chosen : Place) (pei : PeiLook) (r : Bool) → kind ≡ event.Place seq to → look_of s (pei_id a seq) ≡ Some pei → chosen ≡ placement m.placement (tag_of m pei.block) (list_at s.monitor (llc_set_of m pei.block)) → IsTrue r ↔ (to ≡ chosen) → IsTrue r ↔ PlacesByMonitor m s a kind
placed_so m s a kind seq to chosen pei r is found choice same =
    let right : PeiLook → Type 0 = λ p. to ≡ placement m.placement (tag_of m p.block) (list_at s.monitor (llc_set_of m p.block))
    in subst (λ (k : EventKind). IsTrue r ↔ PlacesByMonitor m s a k) (sym is)
    (subst (λ (o : Option PeiLook). IsTrue r ↔ MatchOption o ⊥ right) (sym found) (λ h. same.0 h ∙ choice, λ h. same.1 (h ∙ sym choice)))
