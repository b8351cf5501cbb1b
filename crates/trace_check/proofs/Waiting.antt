-- The PEIs of a core that an access waits for, lane by lane and in the list of all.
use Rattle.std.proofs.Common.{◌≡◌, ℕ, zero, suc, ◌+◌, ◌<◌, ◌≤◌, ◌⊎◌, ⊎_elim, inl, inr, Bool, true, false, not, ◌&&◌, ◌||◌, if◌then◌else◌, true≢false, List, [], ◌∷◌, find, Option, Some, None, refl, sym, ◌∙◌, ap, subst, arith}
use Rattle.std.specs.List.{list_any}
use Rattle.std.proofs.lemmas.Bool.{and_parts}
use Rattle.pei_types.specs.declared.identifiers.BlockNo.{BlockNo}
use Rattle.pei_types.specs.declared.identifiers.CoreId.{CoreId}
use Rattle.pei_types.specs.declared.identifiers.Lane.{Lane}
use Rattle.pei_types.specs.declared.inflight_looks.PeiLook.{PeiLook}
use Rattle.pei_types.specs.declared.inflight_looks.Phase.TheVariants as phase
use Rattle.pei_types.specs.declared.machines.MachineSpec.{MachineSpec}
use Rattle.pei_types.specs.Blocks.{same_block, same_core, same_lane}
use Rattle.pei_types.specs.MachineState.{State, is_phase}
use Rattle.pei_types.specs.Operation.{is_writer}
use Rattle.pei_types.proofs.Identities.{same_core_is, same_lane_is}
use Rattle.pei_types.proofs.Tests.{same_self}
use Rattle.coherence_laws.specs.Sets.{Each, EachPair}
use Rattle.coherence_laws.specs.Invariants.{GoTogether, IsOnItsWay}
use Rattle.trace_check.specs.InState.{waits_in}

-- the PEI is in this lane of the core
abbrev is_in : CoreId → Lane → PeiLook → Bool
is_in c l p = same_core p.id.core c && same_lane p.lane l

-- an access waits for it
abbrev waits : BlockNo → Bool → PeiLook → Bool
waits b store p = same_block p.block b && (store || is_writer p.op) && not (is_phase p.phase phase.Acted)

abbrev is_waited_for : CoreId → BlockNo → Bool → PeiLook → Bool
is_waited_for c b store p = same_core p.id.core c && (same_block p.block b && (store || is_writer p.op)) && not (is_phase p.phase phase.Acted)

waits_of_core : (c : CoreId) (b : BlockNo) (store : Bool) (p : PeiLook) → same_core p.id.core c ≡ true → is_waited_for c b store p ≡ waits b store p
waits_of_core c b store p own = ap (λ t. t && (same_block p.block b && (store || is_writer p.op)) && not (is_phase p.phase phase.Acted)) own

-- one that a lane has is among all
pub waited_for : (c : CoreId) (l : Lane) (b : BlockNo) (store : Bool) (peis : List PeiLook) (o : Option PeiLook) → find (is_in c l) peis ≡ o → waits_in b store o ≡ true → list_any (is_waited_for c b store) peis ≡ true
waited_for c l b store peis None e h = absurd (cc h)
waited_for c l b store [] (Some p) e h = absurd (cc e)
waited_for c l b store (q ∷ peis) (Some p) e h = go (is_in c l q) refl e (waited_for c l b store peis (Some p))
  where
    or_true : (x : Bool) → (x || true) ≡ true
    or_true true = refl
    or_true false = refl

    go : (t : Bool) → is_in c l q ≡ t → (if t then Some q else find (is_in c l) peis) ≡ Some p → (find (is_in c l) peis ≡ Some p → waits_in b store (Some p) ≡ true → list_any (is_waited_for c b store) peis ≡ true) → list_any (is_waited_for c b store) (q ∷ peis) ≡ true
    go true here k rest =
        let same : p ≡ q = cc k
        in let own = (and_parts (same_core q.id.core c) (same_lane q.lane l) here).0
        in ap (λ t. t || list_any (is_waited_for c b store) peis) (waits_of_core c b store q own ∙ ap (waits b store) (sym same) ∙ h)
    go false here k rest = ap (λ t. is_waited_for c b store q || t) (rest k h) ∙ or_true (is_waited_for c b store q)

-- ---- none in any lane, so none at all

not_together : (m : MachineSpec) (c : CoreId) (p : PeiLook) (peis : List PeiLook) → same_core p.id.core c ≡ true → Each (GoTogether m p) peis → find (is_in c p.lane) peis ≡ None
not_together m c p [] own h = refl
not_together m c p (q ∷ peis) own h = go (same_core q.id.core c) (same_lane q.lane p.lane) refl refl (not_together m c p peis own h.1)
  where
    go : (x y : Bool) → same_core q.id.core c ≡ x → same_lane q.lane p.lane ≡ y → find (is_in c p.lane) peis ≡ None → (if x && y then Some q else find (is_in c p.lane) peis) ≡ None
    go true true of at rest =
        let core : p.id.core ≡ q.id.core = same_core_is p.id.core c own ∙ sym (same_core_is q.id.core c of)
        in let cores : same_core p.id.core q.id.core ≡ true = ap (λ (d : CoreId). same_core p.id.core d) (sym core) ∙ same_self p.id.core.0
        in let lane : q.lane ≡ p.lane = same_lane_is q.lane p.lane at
        in let lanes : same_lane p.lane q.lane ≡ true = ap (same_lane p.lane) lane ∙ same_self p.lane.0
        in absurd (true≢false (sym lanes ∙ h.0.lanes cores))
    go true false of at rest = rest
    go false y of at rest = rest

none_in_lanes : MachineSpec → CoreId → BlockNo → Bool → List PeiLook → Type 0
none_in_lanes m c b store peis = (l : Lane) → 0 < l.0 → l.0 ≤ m.buffer → waits_in b store (find (is_in c l) peis) ≡ false

pub none_waited_for : (m : MachineSpec) (s : State) (c : CoreId) (b : BlockNo) (store : Bool) (peis : List PeiLook) → EachPair (GoTogether m) peis → Each (IsOnItsWay m s) peis → ((l : Lane) → 0 < l.0 → l.0 ≤ m.buffer → waits_in b store (find (is_in c l) peis) ≡ false) → list_any (is_waited_for c b store) peis ≡ false
none_waited_for m s c b store [] together way none = refl
none_waited_for m s c b store (p ∷ peis) together way none = go (same_core p.id.core c) refl (none_waited_for m s c b store peis together.1 way.1)
  where
    skip : (l : Lane) → same_core p.id.core c ≡ false → find (is_in c l) (p ∷ peis) ≡ find (is_in c l) peis
    skip l other = ap (λ t. if t && same_lane p.lane l then Some p else find (is_in c l) peis) other

    by_lane : same_core p.id.core c ≡ true → (l : Lane) → 0 < l.0 → l.0 ≤ m.buffer → (y : Bool) → same_lane p.lane l ≡ y → waits_in b store (find (is_in c l) peis) ≡ false
    by_lane own l low high true at =
        let lane : p.lane ≡ l = same_lane_is p.lane l at
        in ap (waits_in b store) (subst (λ (k : Lane). find (is_in c k) peis ≡ None) lane (not_together m c p peis own together.0))
    by_lane own l low high false at =
        let passes : find (is_in c l) (p ∷ peis) ≡ find (is_in c l) peis = ap (λ t. if same_core p.id.core c && t then Some p else find (is_in c l) peis) at ∙ off (same_core p.id.core c)
        in ap (waits_in b store) (sym passes) ∙ none l low high
      where
        off : (x : Bool) → (if x && false then Some p else find (is_in c l) peis) ≡ find (is_in c l) peis
        off true = refl
        off false = refl

    go : (x : Bool) → same_core p.id.core c ≡ x → (((l : Lane) → 0 < l.0 → l.0 ≤ m.buffer → waits_in b store (find (is_in c l) peis) ≡ false) → list_any (is_waited_for c b store) peis ≡ false) → list_any (is_waited_for c b store) (p ∷ peis) ≡ false
    go true own rest =
        let lane : is_in c p.lane p ≡ true = ap (λ t. t && same_lane p.lane p.lane) own ∙ same_self p.lane.0
        in let here : find (is_in c p.lane) (p ∷ peis) ≡ Some p = ap (λ t. if t then Some p else find (is_in c p.lane) peis) lane
        in let quiet : waits b store p ≡ false = sym (ap (waits_in b store) here) ∙ none p.lane way.0.lane.0 way.0.lane.1
        in ap (λ t. t || list_any (is_waited_for c b store) peis) (waits_of_core c b store p own ∙ quiet)
        ∙ rest (λ l low high. by_lane own l low high (same_lane p.lane l) refl)
    go false other rest =
        ap (λ t. t && (same_block p.block b && (store || is_writer p.op)) && not (is_phase p.phase phase.Acted) || list_any (is_waited_for c b store) peis) other
        ∙ rest (λ l low high. ap (waits_in b store) (sym (skip l other)) ∙ none l low high)

-- ---- lane by lane

to_lane : ℕ → Lane
to_lane n = record { 0 = n }

pub one_lane_more : (f : Lane → Bool) (n : ℕ) → ((l : Lane) → 0 < l.0 → l.0 < n → f l ≡ false) → f (record { 0 = n }) ≡ false → (l : Lane) → 0 < l.0 → l.0 < n + 1 → f l ≡ false
unfolding to_lane
one_lane_more f n below here l low high = ⊎_elim (λ (h : l.0 < n). below l low h) (λ (h : l.0 ≡ n). ap (λ k. f (to_lane k)) h ∙ here) (either l.0 n high)
  where
    either : (a k : ℕ) → a < k + 1 → (a < k) ⊎ (a ≡ k)
    either zero zero h = inr refl
    either zero (suc k) h = inl (omega arith)
    either (suc a) zero h = absurd (omega (arith, h))
    either (suc a) (suc k) h = ⊎_elim (λ (x : a < k). inl (omega (arith, x))) (λ (x : a ≡ k). inr (ap suc x)) (either a k (omega (arith, h)))
