-- The PEIs that a core's own events leave stand in the order of their numbers, each in a lane of its own.
use Rattle.std.proofs.Common.{◌≡◌, ◌⊎◌, inl, inr, ℕ, zero, suc, ◌+◌, ◌-◌, ◌<◌, ◌≤◌, Bool, true, false, not, ◌&&◌, cond, if◌then◌else◌, List, [], ◌∷◌, ◌++◌, map, find, filter, length, Option, Some, None, is_none, is_some, slice_index, slice_index_or, refl, sym, ◌∙◌, ap, ap₂, subst, arith}
use Rattle.std.specs.Prelude.{option_map, IfSome, IfNone}
use Rattle.std.specs.List.{AllByRecursion, range_with_len}
use Rattle.std.proofs.lemmas.Bool.{and_parts}
use Rattle.std.proofs.lemmas.List.{append_assoc, append-nil}
use Rattle.pei_types.specs.declared.identifiers.Actor.{Actor}
use Rattle.pei_types.specs.declared.identifiers.CoreId.{CoreId}
use Rattle.pei_types.specs.declared.identifiers.Lane.{Lane}
use Rattle.pei_types.specs.declared.identifiers.PeiId.{PeiId}
use Rattle.pei_types.specs.declared.operations.Place.TheVariants as place
use Rattle.pei_types.specs.declared.inflight_looks.PeiLook.{PeiLook}
use Rattle.pei_types.specs.declared.inflight_looks.Phase.{Phase}
use Rattle.pei_types.specs.declared.inflight_looks.Phase.TheVariants as phase
use Rattle.pei_types.specs.declared.events.Event.{Event}
use Rattle.pei_types.specs.declared.events.EventKind.{EventKind}
use Rattle.pei_types.specs.declared.events.EventKind.TheVariants as event
use Rattle.pei_types.specs.declared.machines.MachineSpec.{MachineSpec}
use Rattle.pei_types.specs.Blocks.{same_core, same_lane, same_pei}
use Rattle.pei_types.specs.MachineState.{State, state_after, with_phase, look_in, lanes_of, free_lane, is_phase, pei_id}
use Rattle.pei_types.specs.Legal.{EachEvent, EachFrom}
use Rattle.pei_types.specs.Next.{CoreLook}
use Rattle.pei_types.specs.Recency.{change_at}
use Rattle.pei_types.proofs.Histories.{from_of_each}
use Rattle.pei_types.proofs.Identities.{same_core_is}
use Rattle.pei_types.proofs.Lists.{each_append, each_weaker, each_filter}
use Rattle.history_laws.proofs.Lists.{each_of, find_agree, find_None, find_Some, in_map, map_in}
use Rattle.pei_types.proofs.Tests.{same_self}
use Rattle.history_laws.specs.EntryOrder.{LanesApart}
use Rattle.history_laws.specs.Members.{In}
use Rattle.coherence_laws.specs.Sets.{EachPair}
use Rattle.bank_laws.specs.Laws.{BanksMerge, CoresGoOn}
use Rattle.bank_laws.specs.Own.{new_look, next_peis, next_issues}
use Rattle.bank_laws.specs.Rows.{without_waits}
use Rattle.fabric.specs.Looks.{fence_seen}
use Rattle.thread_laws.specs.Laws.{OwnIssuesAreNew}
use Rattle.thread_laws.specs.OwnEvents.{IssuesBy, IssuesNext}
use Rattle.host_run.specs.declared.own_peis.OwnPei.{OwnPei}
use Rattle.host_run.specs.declared.own_peis.OwnPeis.{OwnPeis}
use Rattle.host_run.specs.Own.{AreOwnEvents, IsFirst, NoneCounts, as_own, counts, free_in, own_lanes, pei_in}
use Rattle.host_run.proofs.Firsts.{Found}

-- ---- lists

none_found : {A : Type 0} (p : A → Bool) (xs : List A) → ((x : A) → In x xs → p x ≡ false) → find p xs ≡ None
none_found p [] h = refl
none_found p (x ∷ xs) h = rw (h x (inl refl)) (none_found p xs (λ y i. h y (inr i)))

-- ---- numbers and lanes

abbrev pub Ascends : PeiLook → PeiLook → Type 0
Ascends p q = p.id.seq < q.id.seq

-- a number below n, in one of the lanes of a buffer
abbrev pub IsFit : ℕ → ℕ → PeiLook → Type 0
IsFit n buffer p = (p.id.seq < n) × (1 ≤ p.lane.0) × (p.lane.0 ≤ buffer)

abbrev pub AreInOrder : ℕ → ℕ → List PeiLook → Type 0
AreInOrder n buffer ps = EachPair Ascends ps × AllByRecursion (IsFit n buffer) ps

moved : (P : PeiId → Lane → Type 0) (id : PeiId) (ph : Phase) (p : PeiLook) → P p.id p.lane → P (with_phase id ph p).id (with_phase id ph p).lane
moved P id ph p h = by (same_pei p.id id)
  where
    by : (b : Bool) → P (if b then record p { phase = ph } else p).id (if b then record p { phase = ph } else p).lane
    by true = h
    by false = h

moved_order : (n buffer : ℕ) (id : PeiId) (ph : Phase) (ps : List PeiLook) → AreInOrder n buffer ps → AreInOrder n buffer (map (with_phase id ph) ps)
moved_order n buffer id ph [] h = (tt, tt)
moved_order n buffer id ph (p ∷ ps) h =
    let rest = moved_order n buffer id ph ps (h.0.1, h.1.1)
    in ((above ps h.0.0, rest.0), (moved (λ i l. (i.seq < n) × (1 ≤ l.0) × (l.0 ≤ buffer)) id ph p h.1.0, rest.1))
  where
    above : (qs : List PeiLook) → AllByRecursion (Ascends p) qs → AllByRecursion (Ascends (with_phase id ph p)) (map (with_phase id ph) qs)
    above [] k = tt
    above (q ∷ qs) k = (moved (λ i l. i.seq < (with_phase id ph q).id.seq) id ph p (moved (λ i l. p.id.seq < i.seq) id ph q k.0), above qs k.1)

left_pairs : (keep : PeiLook → Bool) (ps : List PeiLook) → EachPair Ascends ps → EachPair Ascends (filter keep ps)
left_pairs keep [] h = tt
left_pairs keep (p ∷ ps) h = by (keep p) (left_pairs keep ps h.1)
  where
    by : (b : Bool) → EachPair Ascends (filter keep ps) → EachPair Ascends (cond b (p ∷ filter keep ps) (filter keep ps))
    by true rest = (each_filter (Ascends p) keep ps h.0, rest)
    by false rest = rest

left_order : (n buffer : ℕ) (keep : PeiLook → Bool) (ps : List PeiLook) → AreInOrder n buffer ps → AreInOrder n buffer (filter keep ps)
left_order n buffer keep ps h = (left_pairs keep ps h.0, each_filter (IsFit n buffer) keep ps h.1)

pushed_pairs : (ps : List PeiLook) (x : PeiLook) → EachPair Ascends ps → AllByRecursion (λ p. p.id.seq < x.id.seq) ps → EachPair Ascends (ps ++ x ∷ [])
pushed_pairs [] x h k = (tt, tt)
pushed_pairs (p ∷ ps) x h k = (each_append (Ascends p) ps (x ∷ []) h.0 (k.0, tt), pushed_pairs ps x h.1 k.1)

pushed_order : (n buffer : ℕ) (ps : List PeiLook) (x : PeiLook) → x.id.seq ≡ n → 1 ≤ x.lane.0 → x.lane.0 ≤ buffer → AreInOrder n buffer ps → AreInOrder (suc n) buffer (ps ++ x ∷ [])
pushed_order n buffer ps x number low high h = (
  pushed_pairs ps x h.0 (each_weaker (IsFit n buffer) (λ p. p.id.seq < x.id.seq) (λ p k. let less = k.0 in omega (arith, less, number)) ps h.1),
  each_append (IsFit (suc n) buffer) ps (x ∷ []) (each_weaker (IsFit n buffer) (IsFit (suc n) buffer) (λ p k. let less = k.0 in (omega (arith, less), k.1, k.2)) ps h.1)
      ((omega (arith, number), low, high), tt),
)

pub at_change : (xs : List ℕ) (i : ℕ) → i < length xs → slice_index (change_at xs i suc) i ≡ suc (slice_index xs i)
at_change [] i h = absurd (omega (arith, h))
at_change (x ∷ xs) zero h = refl
at_change (x ∷ xs) (suc i) h = at_change xs i (omega (arith, h))

pub in_range : (start n i : ℕ) → In i (range_with_len start n) → (start ≤ i) × (i < start + n)
in_range start zero i h = absurd h
in_range start (suc n) i (inl e) = (omega (arith, e), omega (arith, e))
in_range start (suc n) i (inr h) = let r = in_range (start + 1) n i h in let low = r.0 in let high = r.1 in (omega (arith, low), omega (arith, high))

pub lane_fits : (m : MachineSpec) (s : State) (c : CoreId) (l : Lane) → free_lane m s c ≡ Some l → (1 ≤ l.0) × (l.0 ≤ m.buffer)
lane_fits m s c l h =
    let here = (find_Some (λ x. is_none (look_in s c x)) (lanes_of m) l h).0
    in let r = in_map (λ n. record { 0 = n }) (range_with_len 1 m.buffer) l here
    in let bounds = in_range 1 m.buffer r.0 r.1
    in let same : l.0 ≡ r.0 = ap (λ (x : Lane). x.0) r.2
    in let low = bounds.0
    in let high = bounds.1
    in (omega (arith, low, same), omega (arith, high, same))

next_order : (m : MachineSpec) (s : State) (c : CoreId) (a : Actor) (kind : EventKind) → a.core ≡ c → length s.issues ≡ m.cores → IssuesBy m s a kind → AreInOrder (slice_index s.issues c.0) m.buffer s.peis → AreInOrder (slice_index (next_issues a kind s.issues) c.0) m.buffer (next_peis a kind s.peis)
next_order m s c a (event.Issue seq lane o b operands) own size h g =
    let within : a.core.0 < length s.issues = (let small = h.0 in omega (arith, small, size))
    in let fits = lane_fits m s a.core lane h.2
    in let more : slice_index (change_at s.issues a.core.0 suc) a.core.0 ≡ suc (slice_index s.issues a.core.0) = at_change s.issues a.core.0 within
    in subst (λ (d : CoreId). AreInOrder (slice_index (change_at s.issues a.core.0 suc) d.0) m.buffer (s.peis ++ new_look a seq lane o b operands ∷ [])) own
    (subst (λ n. AreInOrder n m.buffer (s.peis ++ new_look a seq lane o b operands ∷ [])) (sym more)
    (pushed_order (slice_index s.issues a.core.0) m.buffer s.peis (new_look a seq lane o b operands) h.1 fits.0 fits.1
    (subst (λ (d : CoreId). AreInOrder (slice_index s.issues d.0) m.buffer s.peis) (sym own) g)))
next_order m s c a (event.Enter seq) own size h g = moved_order (slice_index s.issues c.0) m.buffer (pei_id a seq) phase.Entered s.peis g
next_order m s c a (event.Place seq place.Host) own size h g = moved_order (slice_index s.issues c.0) m.buffer (pei_id a seq) phase.HostPlaced s.peis g
next_order m s c a (event.Place seq place.Memory) own size h g = moved_order (slice_index s.issues c.0) m.buffer (pei_id a seq) phase.MemoryPlaced s.peis g
next_order m s c a (event.Read seq) own size h g = moved_order (slice_index s.issues c.0) m.buffer (pei_id a seq) phase.Read s.peis g
next_order m s c a (event.Seal seq vault) own size h g = moved_order (slice_index s.issues c.0) m.buffer (pei_id a seq) phase.Sealed s.peis g
next_order m s c a (event.Act seq reply) own size h g = moved_order (slice_index s.issues c.0) m.buffer (pei_id a seq) phase.Acted s.peis g
next_order m s c a (event.Leave seq) own size h g = left_order (slice_index s.issues c.0) m.buffer (λ p. not (same_pei p.id (pei_id a seq))) s.peis g
next_order m s c a _ own size h g = g

abbrev HasOrder : MachineSpec → CoreId → List Event → Type 0
HasOrder m c own = AreInOrder (slice_index (state_after m own).issues c.0) m.buffer (state_after m own).peis

pub have_order : CoresGoOn → BanksMerge → (m : MachineSpec) (c : CoreId) (own : List Event) → EachEvent (IssuesNext m) own → AllByRecursion (λ e. same_core e.actor.core c ≡ true) own → HasOrder m c own
have_order cores merge m c own each mine = go [] own (from_of_each (IssuesNext m) own each) mine (tt, tt)
  where
    step : (before : List Event) (e : Event) → IssuesNext m before e → same_core e.actor.core c ≡ true → HasOrder m c before → HasOrder m c (before ++ e ∷ [])
    step before e h core g =
        subst (λ ns. AreInOrder (slice_index ns c.0) m.buffer (state_after m (before ++ e ∷ [])).peis) (sym (cores.issues m before e))
        (subst (AreInOrder (slice_index (next_issues e.actor e.kind (state_after m before).issues) c.0) m.buffer) (sym (cores.peis m before e))
        (next_order m (state_after m before) c e.actor e.kind (same_core_is e.actor.core c core) (merge.sizes m before).issues h g))

    go : (past rest : List Event) → EachFrom (IssuesNext m) past rest → AllByRecursion (λ e. same_core e.actor.core c ≡ true) rest → HasOrder m c past → HasOrder m c (past ++ rest)
    go past [] h k g = subst (HasOrder m c) (sym (append-nil past)) g
    go past (e ∷ rest) h k g = subst (HasOrder m c) (append_assoc past (e ∷ []) rest) (go (past ++ e ∷ []) rest h.1 k.1 (step past e h.0 k.0 g))

-- ---- lanes

-- the PEIs of a state that are a core's, in order, and each in a lane of its own
pub record Lined (s : State) (c : CoreId) : Type 0 where
  pub n : ℕ
  pub order : AreInOrder n 4 s.peis
  pub apart : LanesApart s
  pub mine : AllByRecursion (λ p. same_core p.id.core c ≡ true) s.peis

in_four : (n : ℕ) → 1 ≤ n → n ≤ 4 → In n (range_with_len 1 4)
in_four zero low high = absurd (omega (arith, low))
in_four (suc zero) low high = inl refl
in_four (suc (suc zero)) low high = inr (inl refl)
in_four (suc (suc (suc zero))) low high = inr (inr (inl refl))
in_four (suc (suc (suc (suc zero)))) low high = inr (inr (inr (inl refl)))
in_four (suc (suc (suc (suc (suc n))))) low high = absurd (omega (arith, high))

-- a PEI is the one in its lane
at_its_lane : (s : State) (c : CoreId) → Lined s c → (p : PeiLook) → In p s.peis → look_in s c p.lane ≡ Some p
at_its_lane s c g p i = by (look_in s c p.lane) refl
  where
    core : same_core p.id.core c ≡ true
    core = each_of (λ (q : PeiLook). same_core q.id.core c ≡ true) s.peis p g.mine i

    passes : (same_core p.id.core c && same_lane p.lane p.lane) ≡ true
    passes = rw core (same_self p.lane.0)

    by : (o : Option PeiLook) → look_in s c p.lane ≡ o → o ≡ Some p
    by None e = absurd (cc (sym (find_None (λ q. same_core q.id.core c && same_lane q.lane p.lane) s.peis p e i) ∙ passes))
    by (Some q) e =
        let r = find_Some (λ x. same_core x.id.core c && same_lane x.lane p.lane) s.peis q e
        in let both = and_parts (same_core q.id.core c) (same_lane q.lane p.lane) r.1
        in let there = same_core_is q.id.core c both.0
        in let here = same_core_is p.id.core c core
        in let same : q ≡ p = g.apart q p r.0 i (ap₂ same_core there here ∙ same_self c.0) both.1
        in ap Some same

into_lanes : (s : State) (c : CoreId) → Lined s c → (p : PeiLook) → In p s.peis → In (Some (as_own p)) (own_lanes s c)
into_lanes s c g p i =
    let fit = each_of (IsFit g.n 4) s.peis p g.order.1 i
    in subst (λ o. In (option_map as_own o) (own_lanes s c)) (at_its_lane s c g p i)
    (map_in (λ l. option_map as_own (look_in s c (record { 0 = l }))) (range_with_len 1 4) p.lane.0 (in_four p.lane.0 fit.1 fit.2))

own_of : (o : Option PeiLook) (q : OwnPei) → Some q ≡ option_map as_own o → (p : PeiLook) × (o ≡ Some p) × (q ≡ as_own p)
own_of None q h = absurd (cc h)
own_of (Some p) q h = (p, refl, cc h)

out_of_lanes : (s : State) (c : CoreId) (q : OwnPei) → In (Some q) (own_lanes s c) → (p : PeiLook) × In p s.peis × (q ≡ as_own p)
out_of_lanes s c q i =
    let r = in_map (λ l. option_map as_own (look_in s c (record { 0 = l }))) (range_with_len 1 4) (Some q) i
    in let o = own_of (look_in s c (record { 0 = r.0 })) q r.2
    in (o.0, (find_Some (λ x. same_core x.id.core c && same_lane x.lane (record { 0 = r.0 })) s.peis o.0 o.1).0, o.2)

-- the first that passes has the lowest number of those
first_lowest : (test : PeiLook → Bool) (ps : List PeiLook) (p q : PeiLook) → EachPair Ascends ps → In p ps → test p ≡ true → find test ps ≡ Some q → q.id.seq ≤ p.id.seq
first_lowest test [] p q h i on found = absurd i
first_lowest test (x ∷ xs) p q h i on found = by (test x) refl i found (λ j f. first_lowest test xs p q h.1 j on f)
  where
    by : (b : Bool) → test x ≡ b → (p ≡ x) ⊎ In p xs → (if b then Some x else find test xs) ≡ Some q → (In p xs → find test xs ≡ Some q → q.id.seq ≤ p.id.seq) → q.id.seq ≤ p.id.seq
    by true e (inl same) f rest =
        let it : x ≡ q = cc f
        in rw (← it, same) (omega arith)
    by true e (inr j) f rest =
        let less : x.id.seq < p.id.seq = each_of (Ascends x) xs p h.0 j
        in let it : x ≡ q = cc f
        in rw (← it) (omega (arith, less))
    by false e (inl same) f rest = absurd (cc (sym e ∙ ap test (sym same) ∙ on))
    by false e (inr j) f rest = rest j f

-- what the lanes tell of the first PEI is what the state does
pub first_is : (s : State) (c : CoreId) (unentered : Bool) (test : PeiLook → Bool) (found : Option ℕ) → Lined s c → ((p : PeiLook) → In p s.peis → test p ≡ counts unentered (as_own p)) → Found (own_lanes s c) unentered found → option_map (λ n. record { core = c; seq = n }) found ≡ option_map (λ p. p.id) (find test s.peis)
first_is s c unentered test None g tests h =
    ap (option_map (λ (p : PeiLook). p.id)) (sym (none_found test s.peis (λ p i. tests p i ∙ h (as_own p) (into_lanes s c g p i))))
first_is s c unentered test (Some n) g tests h = by (find test s.peis) refl
  where
    r : (p : PeiLook) × In p s.peis × (h.pei ≡ as_own p)
    r = out_of_lanes s c h.pei h.there

    on : test r.0 ≡ true
    on = tests r.0 r.1 ∙ ap (counts unentered) (sym r.2) ∙ h.counted

    number : r.0.id.seq ≡ n
    number = ap (λ (q : OwnPei). q.seq) (sym r.2) ∙ h.number

    by : (o : Option PeiLook) → find test s.peis ≡ o → Some (record { core = c; seq = n }) ≡ option_map (λ p. p.id) o
    by None e = absurd (cc (sym (find_None test s.peis r.0 e r.1) ∙ on))
    by (Some q) e =
        let it = find_Some test s.peis q e
        in let low = first_lowest test s.peis r.0 q g.order.0 r.1 on e
        in let high : n ≤ q.id.seq = h.least (as_own q) (into_lanes s c g q it.0) (sym (tests q it.0) ∙ it.1)
        in let core : c ≡ q.id.core = sym (same_core_is q.id.core c (each_of (λ (x : PeiLook). same_core x.id.core c ≡ true) s.peis q g.mine it.0))
        in let seq : n ≡ q.id.seq = omega (arith, low, high, number)
        in ap₂ (λ (d : CoreId) k. Some (record { core = d; seq = k })) core seq

-- ---- the free lane

own_none : (o : Option PeiLook) → is_none (option_map as_own o) ≡ is_none o
own_none None = refl
own_none (Some p) = refl

pub free_is : (s : State) (c : CoreId) (o : OwnPeis) (buffer : ℕ) → o.lanes ≡ own_lanes s c → buffer ≤ 4 → free_in o buffer ≡ find (λ l. is_none (look_in s c l)) (map (λ l. record { 0 = l }) (range_with_len 1 buffer))
free_is s c o buffer same within = find_agree (λ l. is_none (pei_in o l.0)) (λ l. is_none (look_in s c l)) (map (λ l. record { 0 = l }) (range_with_len 1 buffer)) (by buffer within)
  where
    at : (l : ℕ) → slice_index_or (own_lanes s c) (l - 1) None ≡ option_map as_own (look_in s c (record { 0 = l })) → is_none (pei_in o l) ≡ is_none (look_in s c (record { 0 = l }))
    at l here = ap (λ xs. is_none (slice_index_or xs (l - 1) None)) same ∙ ap is_none here ∙ own_none (look_in s c (record { 0 = l }))

    by : (b : ℕ) → b ≤ 4 → AllByRecursion (λ l. is_none (pei_in o l.0) ≡ is_none (look_in s c l)) (map (λ l. record { 0 = l }) (range_with_len 1 b))
    by zero low = tt
    by (suc zero) low = (at 1 refl, tt)
    by (suc (suc zero)) low = (at 1 refl, (at 2 refl, tt))
    by (suc (suc (suc zero))) low = (at 1 refl, (at 2 refl, (at 3 refl, tt)))
    by (suc (suc (suc (suc zero)))) low = (at 1 refl, (at 2 refl, (at 3 refl, (at 4 refl, tt))))
    by (suc (suc (suc (suc (suc b))))) low = absurd (omega (arith, low))

-- ---- the whole look

pub lined : CoresGoOn → BanksMerge → OwnIssuesAreNew → (m : MachineSpec) (c : CoreId) (own : List Event) → AreOwnEvents m c own → m.buffer ≤ 4 → Lined (state_after m own) c
lined cores merge new m c own h small =
    let order = have_order cores merge m c own h.issues h.mine
    in let n = slice_index (state_after m own).issues c.0
    in record {
      n = n;
      order = (order.0, each_weaker (IsFit n m.buffer) (IsFit n 4) (λ p k. let high = k.2 in (k.0, k.1, omega (arith, high, small))) (state_after m own).peis order.1);
      apart = new.lanes m own h.issues;
      mine = cores.only m own c h.mine;
    }

pub found_of : (lanes : List (Option OwnPei)) (unentered : Bool) (o : Option ℕ) → IfSome o (λ n. IsFirst lanes unentered n) → IfNone o (NoneCounts lanes unentered) → Found lanes unentered o
found_of lanes unentered None some none = none
found_of lanes unentered (Some n) some none = some

not_not : (b : Bool) → b ≡ not (not b)
not_not true = refl
not_not false = refl

pub unentered_is : (s : State) (c : CoreId) → Lined s c → (p : PeiLook) → In p s.peis → (same_core p.id.core c && is_phase p.phase phase.Issued) ≡ counts true (as_own p)
unentered_is s c g p i = rw (each_of (λ (q : PeiLook). same_core q.id.core c ≡ true) s.peis p g.mine i) (not_not (is_phase p.phase phase.Issued))

pub unfinished_is : (s : State) (c : CoreId) → Lined s c → (p : PeiLook) → In p s.peis → same_core p.id.core c ≡ counts false (as_own p)
unfinished_is s c g p i = each_of (λ (q : PeiLook). same_core q.id.core c ≡ true) s.peis p g.mine i

pub fence_as_seen : (a : Option ℕ) (b : Option (List PeiId)) → is_some a ≡ is_some (without_waits b) → fence_seen a ≡ without_waits b
fence_as_seen None None h = refl
fence_as_seen None (Some waits) h = absurd (cc h)
fence_as_seen (Some begin) None h = absurd (cc h)
fence_as_seen (Some begin) (Some waits) h = refl

abbrev look_of : Option Lane → ℕ → Option PeiId → Option PeiId → Option (List PeiId) → CoreLook
look_of free issues unentered unfinished fence = record { free = free; issues = issues; first_unentered = unentered; first_unfinished = unfinished; fence = fence }

pub same_looks : {a b : Option Lane} {i j : ℕ} {p q x y : Option PeiId} {f g : Option (List PeiId)} → a ≡ b → i ≡ j → p ≡ q → x ≡ y → f ≡ g → look_of a i p x f ≡ look_of b j q y g
same_looks one two three four five = rw (one, two, three, four, five) refl
