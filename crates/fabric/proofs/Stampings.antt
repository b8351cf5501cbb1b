-- The issue stamps that a bank keeps for its lanes.
use Rattle.std.proofs.Math.Dec.{eqb}
use Rattle.std.proofs.Common.{◌≡◌, ◌≢◌, ◌⊎◌, inl, inr, ℕ, ◌<◌, ◌≤◌, Bool, true, false, ◌&&◌, ◌||◌, List, [], ◌∷◌, ◌++◌, map, find, length, Option, Some, None, slice_set, refl, sym, ◌∙◌, ap, arith}
use Rattle.std.specs.Prelude.{nat_lt, not, if◌then◌else◌}
use Rattle.std.specs.List.{AllByRecursion, cons_option}
use Rattle.std.proofs.lemmas.Bool.Decides.{eqb_tells}
use Rattle.std.proofs.lemmas.List.Folds.{list_any-append}
use Rattle.std.proofs.lemmas.List.{get_or-set_same, get_or-set_other}
use Rattle.pei_types.specs.declared.identifiers.Actor.{Actor}
use Rattle.pei_types.specs.declared.identifiers.BlockNo.{BlockNo}
use Rattle.pei_types.specs.declared.identifiers.CoreId.{CoreId}
use Rattle.pei_types.specs.declared.operations.Op.{Op}
use Rattle.pei_types.specs.declared.operations.Operands.{Operands}
use Rattle.pei_types.specs.declared.identifiers.Lane.{Lane}
use Rattle.pei_types.specs.declared.identifiers.PeiId.{PeiId}
use Rattle.pei_types.specs.declared.inflight_looks.PeiLook.{PeiLook}
use Rattle.pei_types.specs.declared.inflight_looks.Phase.{Phase}
use Rattle.pei_types.specs.declared.inflight_looks.Phase.TheVariants as phase
use Rattle.pei_types.specs.declared.operations.Place.TheVariants as place
use Rattle.pei_types.specs.declared.events.Event.{Event}
use Rattle.pei_types.specs.declared.events.EventKind.{EventKind}
use Rattle.pei_types.specs.declared.events.EventKind.TheVariants as event
use Rattle.pei_types.specs.Blocks.{same_core, same_lane, same_pei}
use Rattle.pei_types.specs.MachineState.{pei_id, with_phase}
use Rattle.pei_types.specs.History.{Pei, pei_issued_by, pei_of, issued_peis}
use Rattle.pei_types.specs.declared.stamps.Stamped.{Stamped}
use Rattle.bank_laws.specs.Own.{next_peis}
use Rattle.coherence_laws.specs.Invariants.{IsAsIssued}
use Rattle.inflight.specs.OnTheWay.{number_place}
use Rattle.fabric.specs.Banks.{is_issue, is_issued_below, issues}
use Rattle.fabric.specs.IssueStamps.{HasStamp, HaveStamps, log_with}
use Rattle.pei_types.proofs.Identities.{same_pei_is, same_pei_refl, same_pei_sym}
use Rattle.pei_types.proofs.Lists.{each_append, each_both, each_filter, each_map, each_weaker, found_has, found_passes, none_pass}

-- ---- logs with stamps

pub log_push : (es : List Event) (ns : List ℕ) (e : Event) (n : ℕ) → length ns ≡ length es → log_with (es ++ e ∷ []) (ns ++ n ∷ []) ≡ log_with es ns ++ record { stamp = n; event = e } ∷ []
log_push [] [] e n h = refl
log_push [] (k ∷ ns) e n h = absurd (omega (arith, h))
log_push (x ∷ es) [] e n h = absurd (omega (arith, h))
log_push (x ∷ es) (k ∷ ns) e n h = ap (λ rest. record { stamp = k; event = x } ∷ rest) (log_push es ns e n (omega (arith, h)))

pub log_events : (es : List Event) (ns : List ℕ) → length ns ≡ length es → map (λ x. x.event) (log_with es ns) ≡ es
log_events [] ns h = refl
log_events (x ∷ es) [] h = absurd (omega (arith, h))
log_events (x ∷ es) (k ∷ ns) h = ap (λ rest. x ∷ rest) (log_events es ns (omega (arith, h)))

-- ---- no PEI of a new name is there

pub fresh_of : (log : List Event) (id : PeiId) (ps : List PeiLook) → AllByRecursion (IsAsIssued log) ps → pei_of log id ≡ None → find (λ p. same_pei p.id id) ps ≡ None
fresh_of log id ps all none = by (find (λ p. same_pei p.id id) ps) refl
  where
    by : (o : Option PeiLook) → find (λ p. same_pei p.id id) ps ≡ o → o ≡ None
    by None e = refl
    by (Some p) e =
        let there : IsAsIssued log p = found_has (IsAsIssued log) (λ q. same_pei q.id id) ps p all e
        in let name : p.id ≡ id = same_pei_is p.id id (found_passes (λ q. same_pei q.id id) ps p e)
        in absurd (cc (sym none ∙ ap (pei_of log) (sym name) ∙ there))

-- ---- issues in a log

-- whether an event issues a name, by what it issues
issues_by : (id : PeiId) (a : Actor) (kind : EventKind) → pei_issued_by a kind ≡ None → (same_core a.core id.core && is_issue id.seq kind) ≡ false
issues_by id a (event.Issue seq lane o b operands) h = absurd (cc h)
issues_by id a _ h = never (same_core a.core id.core)
  where
    never : (x : Bool) → (x && false) ≡ false
    never true = refl
    never false = refl

issued_is : (id : PeiId) (a : Actor) (kind : EventKind) (p : Pei) → pei_issued_by a kind ≡ Some p → (same_core a.core id.core && is_issue id.seq kind) ≡ same_pei p.id id
issued_is id a (event.Issue seq lane o b operands) p h = ap (λ (q : Option Pei). of q) h
  where
    of : Option Pei → Bool
    of None = false
    of (Some q) = same_pei q.id id
issued_is id a _ p h = absurd (cc h)

-- a log has no issue of a name that is new
pub none_issued : (id : PeiId) (log : List Stamped) (bound : ℕ) → pei_of (map (λ x. x.event) log) id ≡ None → is_issued_below log bound id ≡ false
none_issued id [] bound none = refl
none_issued id (x ∷ log) bound none = by (pei_issued_by x.event.actor x.event.kind) refl (none_issued id log bound)
  where
    test : Pei → Bool
    test = λ p. same_pei p.id id

    rest : List Pei
    rest = issued_peis (map (λ y. y.event) log)

    neither : (t u w : Bool) → t ≡ false → w ≡ false → ((t && u) || w) ≡ false
    neither t u w a b = rw (a, b) refl

    ends : issues id x.event ≡ false → find test rest ≡ None → (find test rest ≡ None → is_issued_below log bound id ≡ false) → is_issued_below (x ∷ log) bound id ≡ false
    ends unnamed h go = neither (issues id x.event) (nat_lt x.stamp bound) (is_issued_below log bound id) unnamed (go h)

    found_here : (p : Pei) → test p ≡ true → find test (p ∷ rest) ≡ Some p
    found_here p e = rw e refl

    found_later : (p : Pei) → test p ≡ false → find test (p ∷ rest) ≡ find test rest
    found_later p e = rw e refl

    decide : (p : Pei) (t : Bool) → test p ≡ t → find test (p ∷ rest) ≡ None → (test p ≡ false) × (find test rest ≡ None)
    decide p true e h = absurd (cc (sym (found_here p e) ∙ h))
    decide p false e h = (e, sym (found_later p e) ∙ h)

    by : (o : Option Pei) → pei_issued_by x.event.actor x.event.kind ≡ o → (find test rest ≡ None → is_issued_below log bound id ≡ false) → is_issued_below (x ∷ log) bound id ≡ false
    by None e go = ends (issues_by id x.event.actor x.event.kind e) (sym (ap (λ o. find test (cons_option o rest)) e) ∙ none) go
    by (Some p) e go =
        let d = decide p (test p) refl (sym (ap (λ o. find test (cons_option o rest)) e) ∙ none)
        in ends (issued_is id x.event.actor x.event.kind p e ∙ d.0) d.1 go

-- one more event
issued_push : (id : PeiId) (log : List Stamped) (x : Stamped) (bound : ℕ) → is_issued_below (log ++ x ∷ []) bound id ≡ (is_issued_below log bound id || ((issues id x.event && nat_lt x.stamp bound) || false))
issued_push id log x bound = list_any-append (λ y. issues id y.event && nat_lt y.stamp bound) log (x ∷ [])

same_log : (id : PeiId) (log : List Stamped) (x : Stamped) (bound : ℕ) → issues id x.event ≡ false → is_issued_below (log ++ x ∷ []) bound id ≡ is_issued_below log bound id
same_log id log x bound unnamed = issued_push id log x bound ∙ drop (issues id x.event) (nat_lt x.stamp bound) (is_issued_below log bound id) unnamed
  where
    drop : (t v u : Bool) → t ≡ false → (u || ((t && v) || false)) ≡ u
    drop t v true h = refl
    drop t v false h = rw h refl

new_log : (id : PeiId) (log : List Stamped) (x : Stamped) (bound : ℕ) → issues id x.event ≡ true → is_issued_below log bound id ≡ false → is_issued_below (log ++ x ∷ []) bound id ≡ nat_lt x.stamp bound
new_log id log x bound named none = issued_push id log x bound ∙ only (issues id x.event) (nat_lt x.stamp bound) (is_issued_below log bound id) named none
  where
    only : (t v u : Bool) → t ≡ true → u ≡ false → (u || ((t && v) || false)) ≡ v
    only t true u h k = rw (h, k) refl
    only t false u h k = rw (h, k) refl

-- ---- places of lanes

places_differ : (c d : CoreId) (k l : Lane) → 1 ≤ k.0 → k.0 ≤ 4 → 1 ≤ l.0 → l.0 ≤ 4 → (same_core c d && same_lane k l) ≡ false → number_place c k ≡ number_place d l → ⊥
places_differ c d k l k1 k4 l1 l4 other same = by (eqb_tells c.0 d.0) (eqb_tells k.0 l.0)
  where
    by : ((eqb c.0 d.0 ≡ true) × (c.0 ≡ d.0)) ⊎ ((eqb c.0 d.0 ≡ false) × (c.0 ≢ d.0)) → ((eqb k.0 l.0 ≡ true) × (k.0 ≡ l.0)) ⊎ ((eqb k.0 l.0 ≡ false) × (k.0 ≢ l.0)) → ⊥
    by (inl core) (inl lane) = absurd (cc (sym other, core.0, lane.0))
    by (inl core) (inr lane) = absurd (omega (arith, same, core.1, lane.1))
    by (inr core) lane = absurd (omega (arith, same, core.1, k1, k4, l1, l4))

-- ---- one more event

-- the lanes of PEIs on their way
abbrev pub InLanes : PeiId → Lane → Type 0
InLanes id lane = (1 ≤ lane.0) × (lane.0 ≤ 4)

keeps_old : (log : List Stamped) (numbers : List ℕ) (x : Stamped) (id : PeiId) (lane : Lane) → issues id x.event ≡ false → HasStamp log numbers id lane → HasStamp (log ++ x ∷ []) numbers id lane
keeps_old log numbers x id lane unnamed h = λ bound. same_log id log x bound unnamed ∙ h bound

keeps_other : (log : List Stamped) (numbers : List ℕ) (place n : ℕ) (id : PeiId) (lane : Lane) → (number_place id.core lane ≡ place → ⊥) → HasStamp log numbers id lane → HasStamp log (slice_set numbers place n) id lane
keeps_other log numbers place n id lane other h = λ bound. h bound ∙ ap (λ k. nat_lt k bound) (sym (get_or-set_other numbers place (number_place id.core lane) n 0 other))

-- a fact on names and lanes holds of the PEIs that an event leaves, where it issues none
named_alike : (P : PeiId → Lane → Type 0) (id : PeiId) (ph : Phase) (p : PeiLook) → P p.id p.lane → P (with_phase id ph p).id (with_phase id ph p).lane
named_alike P id ph p h = by (same_pei p.id id)
  where
    by : (t : Bool) → P (if t then record p { phase = ph } else p).id (if t then record p { phase = ph } else p).lane
    by true = h
    by false = h

named_phased : (P : PeiId → Lane → Type 0) (id : PeiId) (ph : Phase) (ps : List PeiLook) → AllByRecursion (λ p. P p.id p.lane) ps → AllByRecursion (λ p. P p.id p.lane) (map (with_phase id ph) ps)
named_phased P id ph ps h = each_map (λ p. P p.id p.lane) (λ p. P p.id p.lane) (with_phase id ph) (named_alike P id ph) ps h

named_next : (P : PeiId → Lane → Type 0) (a : Actor) (kind : EventKind) (ps : List PeiLook) → pei_issued_by a kind ≡ None → AllByRecursion (λ p. P p.id p.lane) ps → AllByRecursion (λ p. P p.id p.lane) (next_peis a kind ps)
named_next P a (event.Issue seq lane o b operands) ps none h = absurd (cc none)
named_next P a (event.Enter seq) ps none h = named_phased P (pei_id a seq) phase.Entered ps h
named_next P a (event.Place seq place.Host) ps none h = named_phased P (pei_id a seq) phase.HostPlaced ps h
named_next P a (event.Place seq place.Memory) ps none h = named_phased P (pei_id a seq) phase.MemoryPlaced ps h
named_next P a (event.Read seq) ps none h = named_phased P (pei_id a seq) phase.Read ps h
named_next P a (event.Seal seq vault) ps none h = named_phased P (pei_id a seq) phase.Sealed ps h
named_next P a (event.Act seq reply) ps none h = named_phased P (pei_id a seq) phase.Acted ps h
named_next P a (event.Leave seq) ps none h = each_filter (λ p. P p.id p.lane) (λ p. not (same_pei p.id (pei_id a seq))) ps h
named_next P a _ ps none h = h

pub stamps_next : (log : List Stamped) (numbers : List ℕ) (ps : List PeiLook) (a : Actor) (kind : EventKind) (n : ℕ) → pei_issued_by a kind ≡ None → HaveStamps log numbers ps → HaveStamps (log ++ record { stamp = n; event = record { actor = a; kind = kind } } ∷ []) numbers (next_peis a kind ps)
stamps_next log numbers ps a kind n none h =
    let x : Stamped = record { stamp = n; event = record { actor = a; kind = kind } }
    in named_next (HasStamp (log ++ x ∷ []) numbers) a kind ps none (each_weaker (λ p. HasStamp log numbers p.id p.lane) (λ p. HasStamp (log ++ x ∷ []) numbers p.id p.lane) (λ p k. keeps_old log numbers x p.id p.lane (issues_by p.id a kind none) k) ps h)

-- a PEI is in a lane other than this
abbrev pub IsElsewhere : Actor → Lane → PeiLook → Type 0
IsElsewhere a lane p = InLanes p.id p.lane × ((same_core p.id.core a.core && same_lane p.lane lane) ≡ false)

-- and has another name, and its stamp
abbrev pub IsOther : List Stamped → List ℕ → Actor → ℕ → Lane → PeiLook → Type 0
IsOther log numbers a seq lane p = (IsElsewhere a lane p × (same_pei p.id (pei_id a seq) ≡ false)) × HasStamp log numbers p.id p.lane

pub stamps_issue : (log : List Stamped) (numbers : List ℕ) (ps : List PeiLook) (a : Actor) (seq : ℕ) (lane : Lane) (o : Op) (b : BlockNo) (operands : Operands) (n : ℕ) → length numbers ≡ 33 → a.core.0 < 8 → 1 ≤ lane.0 → lane.0 ≤ 4 → AllByRecursion (λ p. InLanes p.id p.lane) ps → pei_of (map (λ x. x.event) log) (pei_id a seq) ≡ None → find (λ p. same_pei p.id (pei_id a seq)) ps ≡ None → find (λ p. same_core p.id.core a.core && same_lane p.lane lane) ps ≡ None → HaveStamps log numbers ps
    → HaveStamps (log ++ record { stamp = n; event = record { actor = a; kind = event.Issue seq lane o b operands } } ∷ []) (slice_set numbers (number_place a.core lane) n) (next_peis a (event.Issue seq lane o b operands) ps)
stamps_issue log numbers ps a seq lane o b operands n sized core first last lanes new fresh free h =
    each_append (λ p. HasStamp (log ++ x ∷ []) (slice_set numbers (number_place a.core lane) n) p.id p.lane) ps _ (each_weaker (IsOther log numbers a seq lane) (λ p. HasStamp (log ++ x ∷ []) (slice_set numbers (number_place a.core lane) n) p.id p.lane) old ps all) (added, tt)
  where
    e : Event
    e = record { actor = a; kind = event.Issue seq lane o b operands }

    x : Stamped
    x = record { stamp = n; event = e }

    all : AllByRecursion (IsOther log numbers a seq lane) ps
    all =
        each_both (λ p. IsElsewhere a lane p × (same_pei p.id (pei_id a seq) ≡ false)) (λ p. HasStamp log numbers p.id p.lane) ps
        (each_both (IsElsewhere a lane) (λ p. same_pei p.id (pei_id a seq) ≡ false) ps (each_both (λ p. InLanes p.id p.lane) (λ p. (same_core p.id.core a.core && same_lane p.lane lane) ≡ false) ps lanes (none_pass (λ p. same_core p.id.core a.core && same_lane p.lane lane) ps free)) (none_pass (λ p. same_pei p.id (pei_id a seq)) ps fresh))
        h

    no_issue : (id : PeiId) → same_pei id (pei_id a seq) ≡ false → issues id e ≡ false
    no_issue id other = same_pei_sym (pei_id a seq) id ∙ other

    old : (p : PeiLook) → IsOther log numbers a seq lane p → HasStamp (log ++ x ∷ []) (slice_set numbers (number_place a.core lane) n) p.id p.lane
    old p k =
        keeps_old log (slice_set numbers (number_place a.core lane) n) x p.id p.lane (no_issue p.id k.0.1)
        (keeps_other log numbers (number_place a.core lane) n p.id p.lane (λ same. places_differ p.id.core a.core p.lane lane k.0.0.0.0 k.0.0.0.1 first last k.0.0.1 same) k.1)

    within : number_place a.core lane < length numbers
    within = omega (arith, core, last, sized)

    added : HasStamp (log ++ x ∷ []) (slice_set numbers (number_place a.core lane) n) (pei_id a seq) lane
    added = λ bound.
        new_log (pei_id a seq) log x bound (same_pei_refl (pei_id a seq)) (none_issued (pei_id a seq) log bound new)
        ∙ ap (λ k. nat_lt k bound) (sym (get_or-set_same numbers (number_place a.core lane) n 0 within))
