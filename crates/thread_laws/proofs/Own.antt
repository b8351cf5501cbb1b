-- The PEIs that a core's own events leave: their numbers, names and lanes.
use Rattle.std.proofs.Common.{◌≡◌, ◌⊎◌, inl, inr, ℕ, zero, suc, ◌<◌, ◌≤◌, Bool, true, false, not, ◌&&◌, if◌then◌else◌, List, [], ◌∷◌, ◌++◌, map, length, filter, Option, Some, None, is_none, slice_index, refl, sym, ◌∙◌, ap, ap₂, subst, arith}
use Rattle.std.specs.List.{cons_option, AllByRecursion}
use Rattle.pei_types.specs.declared.identifiers.Actor.{Actor}
use Rattle.pei_types.specs.declared.identifiers.CoreId.{CoreId}
use Rattle.pei_types.specs.declared.identifiers.Lane.{Lane}
use Rattle.pei_types.specs.declared.identifiers.PeiId.{PeiId}
use Rattle.pei_types.specs.declared.operations.Place.TheVariants as place
use Rattle.pei_types.specs.declared.inflight_looks.PeiLook.{PeiLook}
use Rattle.pei_types.specs.declared.inflight_looks.Phase.{Phase}
use Rattle.pei_types.specs.declared.inflight_looks.Phase.TheVariants as phase
use Rattle.pei_types.specs.declared.events.Event.{Event}
use Rattle.pei_types.specs.declared.events.EventKind.{EventKind}
use Rattle.pei_types.specs.declared.events.EventKind.TheVariants as event
use Rattle.pei_types.specs.declared.machines.MachineSpec.{MachineSpec}
use Rattle.pei_types.specs.Blocks.{same_core, same_lane, same_pei}
use Rattle.pei_types.specs.MachineState.{State, state_after, with_phase, look_in, lanes_of, pei_id}
use Rattle.pei_types.specs.History.{Pei, issued_peis, pei_issued_by}
use Rattle.pei_types.specs.Legal.{EachEvent}
use Rattle.pei_types.specs.Recency.{change_at}
use Rattle.pei_types.proofs.Identities.{same_core_is, same_lane_is, same_pei_is}
use Rattle.pei_types.proofs.Lists.{each_append, each_weaker, found_passes}
use Rattle.pei_types.proofs.Pushes.{issued_peis-push}
use Rattle.pei_types.proofs.Tests.{none_is, same_self}
use Rattle.history_laws.specs.EntryOrder.{LanesApart}
use Rattle.history_laws.specs.Members.{In}
use Rattle.coherence_laws.specs.Sets.{EachPair}
use Rattle.bank_laws.specs.Laws.{BanksMerge, CoresGoOn}
use Rattle.bank_laws.specs.Own.{new_look, next_peis, next_issues}
use Rattle.thread_laws.specs.OwnEvents.{IssuesBy, IssuesNext}
use Rattle.thread_laws.proofs.Following.{log_induction}
use Rattle.history_laws.proofs.Lists.{in_map, in_filter, find_None, in_push}

-- ---- counts

at_change_same : (xs : List ℕ) (i : ℕ) → i < length xs → slice_index (change_at xs i suc) i ≡ suc (slice_index xs i)
at_change_same [] i h = absurd (omega (arith, h))
at_change_same (x ∷ xs) zero h = refl
at_change_same (x ∷ xs) (suc i) h = at_change_same xs i (omega (arith, h))

no_less : (xs : List ℕ) (i j : ℕ) → slice_index xs j ≤ slice_index (change_at xs i suc) j
no_less [] i j = omega arith
no_less (x ∷ xs) zero zero = omega arith
no_less (x ∷ xs) zero (suc j) = omega arith
no_less (x ∷ xs) (suc i) zero = omega arith
no_less (x ∷ xs) (suc i) (suc j) = no_less xs i j

grows : (a : Actor) (kind : EventKind) (ns : List ℕ) (j : ℕ) → slice_index ns j ≤ slice_index (next_issues a kind ns) j
grows a (event.Issue seq lane o b operands) ns j = no_less ns a.core.0 j
grows a _ ns j = omega arith

-- each PEI that was issued has a number below its core's count
abbrev pub IsBelow : List ℕ → Pei → Type 0
IsBelow ns p = p.id.seq < slice_index ns p.id.core.0

new_below : (m : MachineSpec) (s : State) (a : Actor) (kind : EventKind) → length s.issues ≡ m.cores → IssuesBy m s a kind → AllByRecursion (IsBelow (next_issues a kind s.issues)) (cons_option (pei_issued_by a kind) [])
new_below m s a (event.Issue seq lane o b operands) size h =
    let within : a.core.0 < length s.issues = (let small = h.0 in omega (arith, small, size))
    in let more = at_change_same s.issues a.core.0 within
    in let is = h.1
    in (omega (arith, more, is), tt)
new_below m s a _ size h = tt

abbrev AllBelow : MachineSpec → List Event → Type 0
AllBelow m own = AllByRecursion (IsBelow (state_after m own).issues) (issued_peis own)

below_step : CoresGoOn → BanksMerge → (m : MachineSpec) (before : List Event) (e : Event) → IssuesNext m before e → AllBelow m before → AllBelow m (before ++ e ∷ [])
below_step cores merge m before e h g =
    let s : State = state_after m before
    in subst (λ ns. AllByRecursion (IsBelow ns) (issued_peis (before ++ e ∷ []))) (sym (cores.issues m before e))
    (subst (AllByRecursion (IsBelow (next_issues e.actor e.kind s.issues))) (sym (issued_peis-push before e))
    (each_append (IsBelow (next_issues e.actor e.kind s.issues)) (issued_peis before) (cons_option (pei_issued_by e.actor e.kind) [])
    (each_weaker (IsBelow s.issues) (IsBelow (next_issues e.actor e.kind s.issues)) (λ p less. let more = grows e.actor e.kind s.issues p.id.core.0 in omega (arith, less, more)) (issued_peis before) g)
    (new_below m s e.actor e.kind (merge.sizes m before).issues h)))

pub all_below : CoresGoOn → BanksMerge → (m : MachineSpec) (own : List Event) → EachEvent (IssuesNext m) own → AllBelow m own
all_below cores merge m own each = log_induction (IssuesNext m) (AllBelow m) tt (below_step cores merge m) own each

-- ---- names

-- a new issue has another name than those with numbers below the count
pub new_name : (m : MachineSpec) (s : State) (a : Actor) (kind : EventKind) (p q : Pei) → IssuesBy m s a kind → pei_issued_by a kind ≡ Some p → IsBelow s.issues q → same_pei q.id p.id ≡ false
new_name m s a (event.Issue seq lane o b operands) p q h is below = by (same_pei q.id p.id) refl
  where
    id_of : Option Pei → PeiId
    id_of (Some x) = x.id
    id_of None = pei_id a seq

    by : (t : Bool) → same_pei q.id p.id ≡ t → same_pei q.id p.id ≡ false
    by false e = e
    by true e =
        let one : q.id ≡ pei_id a seq = same_pei_is q.id p.id e ∙ sym (ap id_of is)
        in let less : seq < slice_index s.issues a.core.0 = subst (λ (i : PeiId). i.seq < slice_index s.issues i.core.0) one below
        in let same = h.1
        in absurd (omega (arith, less, same))
new_name m s a _ p q h is below = absurd (cc is)

abbrev pub Apart : Pei → Pei → Type 0
Apart p q = same_pei p.id q.id ≡ false

pairs_push : {A : Type 0} (R : A → A → Type 0) (xs : List A) (o : Option A) → EachPair R xs → AllByRecursion (λ x. AllByRecursion (R x) (cons_option o [])) xs → EachPair R (xs ++ cons_option o [])
pairs_push {A} R [] o h g = by o
  where
    by : (o : Option A) → EachPair R (cons_option o [])
    by None = tt
    by (Some x) = (tt, tt)
pairs_push R (x ∷ xs) o h g = (each_append (R x) xs (cons_option o []) h.0 g.0, pairs_push R xs o h.1 g.1)

abbrev HaveNames : MachineSpec → List Event → Type 0
HaveNames m own = AllBelow m own × EachPair Apart (issued_peis own)

names_step : CoresGoOn → BanksMerge → (m : MachineSpec) (before : List Event) (e : Event) → IssuesNext m before e → HaveNames m before → HaveNames m (before ++ e ∷ [])
names_step cores merge m before e h g = (
  below_step cores merge m before e h g.0,
  subst (EachPair Apart) (sym (issued_peis-push before e))
      (pairs_push Apart (issued_peis before) (pei_issued_by e.actor e.kind) g.1
      (each_weaker (IsBelow (state_after m before).issues) (λ q. AllByRecursion (Apart q) (cons_option (pei_issued_by e.actor e.kind) [])) (λ q below. by q below (pei_issued_by e.actor e.kind) refl) (issued_peis before) g.0)),
)
  where
    by : (q : Pei) → IsBelow (state_after m before).issues q → (o : Option Pei) → pei_issued_by e.actor e.kind ≡ o → AllByRecursion (Apart q) (cons_option o [])
    by q below None is = tt
    by q below (Some p) is = (new_name m (state_after m before) e.actor e.kind p q h is below, tt)

pub have_names : CoresGoOn → BanksMerge → (m : MachineSpec) (own : List Event) → EachEvent (IssuesNext m) own → EachPair Apart (issued_peis own)
have_names cores merge m own each = (log_induction (IssuesNext m) (HaveNames m) (tt, tt) (names_step cores merge m) own each).1

-- ---- lanes

-- no two of these PEIs of a core are in one lane
abbrev InLanes : List PeiLook → Type 0
InLanes ps = (p q : PeiLook) → In p ps → In q ps → same_core p.id.core q.id.core ≡ true → same_lane p.lane q.lane ≡ true → p ≡ q

moved_core : (id : PeiId) (ph : Phase) (p q : PeiLook) → same_core (with_phase id ph p).id.core (with_phase id ph q).id.core ≡ same_core p.id.core q.id.core
moved_core id ph p q = by (same_pei p.id id) (same_pei q.id id)
  where
    by : (a b : Bool) → same_core (if a then record p { phase = ph } else p).id.core (if b then record q { phase = ph } else q).id.core ≡ same_core p.id.core q.id.core
    by true true = refl
    by true false = refl
    by false true = refl
    by false false = refl

moved_lane : (id : PeiId) (ph : Phase) (p q : PeiLook) → same_lane (with_phase id ph p).lane (with_phase id ph q).lane ≡ same_lane p.lane q.lane
moved_lane id ph p q = by (same_pei p.id id) (same_pei q.id id)
  where
    by : (a b : Bool) → same_lane (if a then record p { phase = ph } else p).lane (if b then record q { phase = ph } else q).lane ≡ same_lane p.lane q.lane
    by true true = refl
    by true false = refl
    by false true = refl
    by false false = refl

moved_lanes : (id : PeiId) (ph : Phase) (ps : List PeiLook) → InLanes ps → InLanes (map (with_phase id ph) ps)
moved_lanes id ph ps h p q i j core lane =
    let x = in_map (with_phase id ph) ps p i
    in let y = in_map (with_phase id ph) ps q j
    in let same : x.0 ≡ y.0 = h x.0 y.0 x.1 y.1
    (sym (ap₂ (λ a b. same_core a.id.core b.id.core) x.2 y.2 ∙ moved_core id ph x.0 y.0) ∙ core)
    (sym (ap₂ (λ a b. same_lane a.lane b.lane) x.2 y.2 ∙ moved_lane id ph x.0 y.0) ∙ lane)
    in x.2 ∙ ap (with_phase id ph) same ∙ sym y.2

left_lanes : (keep : PeiLook → Bool) (ps : List PeiLook) → InLanes ps → InLanes (filter keep ps)
left_lanes keep ps h p q i j = h p q (in_filter keep ps p i).0 (in_filter keep ps q j).0

issued_lanes : (s : State) (c : CoreId) (l : Lane) (new : PeiLook) → new.id.core ≡ c → new.lane ≡ l → look_in s c l ≡ None → InLanes s.peis → InLanes (s.peis ++ new ∷ [])
issued_lanes s c l new own there none h p q i j core lane = by (in_push s.peis new p i) (in_push s.peis new q j)
  where
    free : (x : PeiLook) → In x s.peis → same_core x.id.core new.id.core ≡ true → same_lane x.lane new.lane ≡ true → ⊥
    free x k a b =
        let off : (same_core x.id.core c && same_lane x.lane l) ≡ false = find_None (λ y. same_core y.id.core c && same_lane y.lane l) s.peis x none k
        in cc (sym (ap₂ (λ d t. same_core x.id.core d && same_lane x.lane t) own there ∙ off) ∙ ap₂ (λ y z. y && z) a b)

    by : In p s.peis ⊎ (p ≡ new) → In q s.peis ⊎ (q ≡ new) → p ≡ q
    by (inl a) (inl b) = h p q a b core lane
    by (inl a) (inr b) = absurd (free p a (ap (λ x. same_core p.id.core x.id.core) (sym b) ∙ core) (ap (λ x. same_lane p.lane x.lane) (sym b) ∙ lane))
    by (inr a) (inl b) =
        absurd (free q b
        (ap (λ x. same_core q.id.core x.id.core) (sym a) ∙ ap (λ d. same_core d p.id.core) (sym (same_core_is p.id.core q.id.core core)) ∙ same_self p.id.core.0)
        (ap (λ x. same_lane q.lane x.lane) (sym a) ∙ ap (λ t. same_lane t p.lane) (sym (same_lane_is p.lane q.lane lane)) ∙ same_self p.lane.0))
    by (inr a) (inr b) = a ∙ sym b

next_lanes : (m : MachineSpec) (s : State) (a : Actor) (kind : EventKind) → IssuesBy m s a kind → InLanes s.peis → InLanes (next_peis a kind s.peis)
next_lanes m s a (event.Issue seq lane o b operands) h g =
    issued_lanes s a.core lane (new_look a seq lane o b operands) refl refl (none_is (look_in s a.core lane) (found_passes (λ l. is_none (look_in s a.core l)) (lanes_of m) lane h.2)) g
next_lanes m s a (event.Enter seq) h g = moved_lanes (pei_id a seq) phase.Entered s.peis g
next_lanes m s a (event.Place seq place.Host) h g = moved_lanes (pei_id a seq) phase.HostPlaced s.peis g
next_lanes m s a (event.Place seq place.Memory) h g = moved_lanes (pei_id a seq) phase.MemoryPlaced s.peis g
next_lanes m s a (event.Read seq) h g = moved_lanes (pei_id a seq) phase.Read s.peis g
next_lanes m s a (event.Seal seq vault) h g = moved_lanes (pei_id a seq) phase.Sealed s.peis g
next_lanes m s a (event.Act seq reply) h g = moved_lanes (pei_id a seq) phase.Acted s.peis g
next_lanes m s a (event.Leave seq) h g = left_lanes (λ p. not (same_pei p.id (pei_id a seq))) s.peis g
next_lanes m s a _ h g = g

pub own_lanes : CoresGoOn → (m : MachineSpec) (own : List Event) → EachEvent (IssuesNext m) own → LanesApart (state_after m own)
own_lanes cores m own each = log_induction (IssuesNext m) (λ past. InLanes (state_after m past).peis) (λ p q i. absurd i) step own each
  where
    step : (before : List Event) (e : Event) → IssuesNext m before e → InLanes (state_after m before).peis → InLanes (state_after m (before ++ e ∷ [])).peis
    step before e h g = subst InLanes (sym (cores.peis m before e)) (next_lanes m (state_after m before) e.actor e.kind h g)
