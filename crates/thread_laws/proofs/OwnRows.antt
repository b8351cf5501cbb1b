-- The issues among the events that a core hands back.
use Rattle.std.proofs.Common.{◌≡◌, inl, inr, ℕ, zero, suc, ◌<◌, true, false, nat_lt, List, [], ◌∷◌, ◌++◌, map, filter, Option, Some, None, refl, sym, ◌∙◌, ap, ap₂, subst, arith}
use Rattle.std.proofs.lemmas.Bool.{lt-ltb, le-ltb}
use Rattle.std.proofs.lemmas.List.{append-nil, append_assoc, map-append}
use Rattle.std.proofs.lemmas.List.Elements.{filter-append}
use Rattle.std.proofs.lemmas.Option.{same_Some}
use Rattle.std.specs.Prelude.{⊤, slice_index}
use Rattle.pei_types.specs.declared.stamps.Stamped.{Stamped}
use Rattle.pei_types.specs.declared.calls.Call.{Call}
use Rattle.pei_types.specs.declared.calls.Call.TheVariants as call
use Rattle.pei_types.specs.declared.identifiers.Actor.{Actor}
use Rattle.pei_types.specs.declared.identifiers.Block.{Block}
use Rattle.pei_types.specs.declared.identifiers.BlockNo.{BlockNo}
use Rattle.pei_types.specs.declared.identifiers.Lane.{Lane}
use Rattle.pei_types.specs.declared.identifiers.PeiId.{PeiId}
use Rattle.pei_types.specs.declared.inflight_looks.PeiLook.{PeiLook}
use Rattle.pei_types.specs.declared.inflight_looks.Phase.{Phase}
use Rattle.pei_types.specs.declared.events.Event.{Event}
use Rattle.pei_types.specs.declared.events.EventKind.{EventKind}
use Rattle.pei_types.specs.declared.events.EventKind.TheVariants as event
use Rattle.pei_types.specs.declared.machines.MachineSpec.{MachineSpec}
use Rattle.pei_types.specs.Blocks.{block_of, word_of}
use Rattle.pei_types.specs.MachineState.{State, state_after, letter_of, is_i, is_owned, conflict, free_lane, look_in}
use Rattle.pei_types.specs.Core.{CoreNext, Calls, Busy, Ended, core_next, core_config}
use Rattle.pei_types.specs.FlatMemory.{flat_block}
use Rattle.pei_types.specs.Legal.{EachEvent, EachFrom}
use Rattle.pei_types.specs.Next.{Turn, Makes, Stalls, want, race_or, issue_row, fence_row, draining_or, call_row_by, pei_row_by}
use Rattle.pei_types.specs.Program.{Listing, Contents}
use Rattle.pei_types.specs.Recency.{list_at}
use Rattle.pei_types.specs.Turns.{is_entering}
use Rattle.pei_types.proofs.Histories.{each_of_from}
use Rattle.pei_types.proofs.Identities.{core_within}
use Rattle.history_laws.specs.Members.{In}
use Rattle.coherence_laws.specs.Sets.{Each}
use Rattle.bank_laws.specs.Logs.{Rises, HandsBack, events_below}
use Rattle.bank_laws.specs.Rows.{IsRowIn, bank_look, program_turn_in, pei_turn_in, turn_in}
use Rattle.thread_laws.specs.OwnEvents.{IssuesBy, IssuesNext}
use Rattle.thread_laws.proofs.Rows.{either, IsMessage, KindIsOf, TurnIsOf, want_sends, pei_is_of}

-- ---- a rising list, item by item

rises_front : (front : List Stamped) (x : Stamped) (rest : List Stamped) → Rises (front ++ x ∷ rest) → Each (λ y. y.stamp < x.stamp) front
rises_front [] x rest h = tt
rises_front (y ∷ front) x rest h = (at front x rest (λ z. y.stamp < z.stamp) h.0, rises_front front x rest h.1)
  where
    at : (front : List Stamped) (x : Stamped) (rest : List Stamped) (P : Stamped → Type 0) → Each P (front ++ x ∷ rest) → P x
    at [] x rest P k = k.0
    at (z ∷ front) x rest P k = at front x rest P k.1

rises_back : (front : List Stamped) (x : Stamped) (rest : List Stamped) → Rises (front ++ x ∷ rest) → Each (λ y. x.stamp < y.stamp) rest
rises_back [] x rest h = h.0
rises_back (y ∷ front) x rest h = rises_back front x rest h.1

all_below : (n : ℕ) (xs : List Stamped) → Each (λ y. y.stamp < n) xs → filter (λ y. nat_lt y.stamp n) xs ≡ xs
all_below n [] h = refl
all_below n (x ∷ xs) h = rw (lt-ltb x.stamp n h.0) (ap (λ ys. x ∷ ys) (all_below n xs h.1))

none_below : (n : ℕ) (xs : List Stamped) → Each (λ y. n < y.stamp) xs → filter (λ y. nat_lt y.stamp n) xs ≡ []
none_below n [] h = refl
none_below n (x ∷ xs) h = rw (le-ltb x.stamp n (let less = h.0 in omega (arith, less))) (none_below n xs h.1)

below_here : (front : List Stamped) (x : Stamped) (rest : List Stamped) → Rises (front ++ x ∷ rest) → events_below x.stamp (front ++ x ∷ rest) ≡ map (λ y. y.event) front
below_here front x rest h =
    ap (map (λ (y : Stamped). y.event))
    (filter-append (λ (y : Stamped). nat_lt y.stamp x.stamp) front (x ∷ rest)
    ∙ ap₂ (λ xs ys. xs ++ ys) (all_below x.stamp front (rises_front front x rest h)) (rw (le-ltb x.stamp x.stamp (omega arith)) (none_below x.stamp rest (rises_back front x rest h)))
    ∙ append-nil front)

in_back : {A : Type 0} (xs ys : List A) (x : A) → In x ys → In x (xs ++ ys)
in_back [] ys x i = i
in_back (y ∷ xs) ys x i = inr (in_back xs ys x i)

-- what holds of each item of a rising list behind those before it, holds of each of its events
each_from_items : (P : List Event → Event → Type 0) (mine : List Stamped) → Rises mine → ((x : Stamped) → In x mine → P (events_below x.stamp mine) x.event) → EachEvent P (map (λ x. x.event) mine)
each_from_items P mine rises h = each_of_from P (map (λ (x : Stamped). x.event) mine) (go [] mine refl)
  where
    go : (front rest : List Stamped) → mine ≡ front ++ rest → EachFrom P (map (λ x. x.event) front) (map (λ x. x.event) rest)
    go front [] same = tt
    go front (x ∷ rest) same = (
      subst (λ es. P es x.event) (ap (events_below x.stamp) same ∙ below_here front x rest (subst Rises same rises)) (h x (subst (In x) (sym same) (in_back front (x ∷ rest) x (inl refl)))),
      subst (λ es. EachFrom P es (map (λ y. y.event) rest)) (map-append (λ (y : Stamped). y.event) front (x ∷ [])) (go (front ++ x ∷ []) rest (same ∙ sym (append_assoc front (x ∷ []) rest))),
    )

-- ---- an issue that is a row

-- what an issue of a turn takes
abbrev Takes : MachineSpec → State → Actor → EventKind → Type 0
Takes m s a (event.Issue seq lane o b operands) = (seq ≡ slice_index s.issues a.core.0) × (free_lane m s a.core ≡ Some lane)
Takes m s a _ = ⊤

abbrev TurnTakes : MachineSpec → State → Actor → Turn → Type 0
TurnTakes m s a (Makes kind) = Takes m s a kind
TurnTakes m s a (Stalls cause) = ⊤

message_takes : (m : MachineSpec) (s : State) (a : Actor) (kind : EventKind) → IsMessage kind → Takes m s a kind
message_takes m s a (event.Issue seq lane o b operands) h = absurd (cc h)
message_takes m s a _ h = tt

pei_takes : (m : MachineSpec) (s : State) (a : Actor) (n : ℕ) (ph : Phase) (x : Turn) → TurnIsOf n ph x → TurnTakes m s a x
pei_takes m s a n ph (Stalls cause) h = tt
pei_takes m s a n ph (Makes kind) h = by kind h
  where
    by : (kind : EventKind) → KindIsOf n ph kind → Takes m s a kind
    by (event.Issue seq lane o b operands) k = absurd k
    by _ k = tt

race_takes : (m : MachineSpec) (s : State) (a : Actor) (o : Option PeiId) (pc : ℕ) (b : BlockNo) (kind : EventKind) → Takes m s a kind → Takes m s a (race_or o pc b kind)
race_takes m s a None pc b kind h = h
race_takes m s a (Some by) pc b kind h = tt

-- the row of a call, as the core looks after its own events
call_takes : (m : MachineSpec) (bank s : State) (content : BlockNo → Block) (a : Actor) (x : Call) → TurnTakes m s a (call_row_by (bank_look m s a.core) m bank content a.core x)
call_takes m bank s content a (call.Load pc addr) =
    race_takes m s a (conflict bank (block_of addr) false) pc (block_of addr) _
    (either (Takes m s a) (is_i (letter_of m bank a.core (block_of addr))) (want m bank a.core (block_of addr) false) (event.Load addr (slice_index (content (block_of addr)).0 (word_of addr)))
    (message_takes m s a (want m bank a.core (block_of addr) false) (want_sends m bank a.core (block_of addr) false)) tt)
call_takes m bank s content a (call.Store pc addr value) =
    race_takes m s a (conflict bank (block_of addr) true) pc (block_of addr) _
    (either (Takes m s a) (is_owned (letter_of m bank a.core (block_of addr))) (event.Store addr value) (want m bank a.core (block_of addr) true)
    tt (message_takes m s a (want m bank a.core (block_of addr) true) (want_sends m bank a.core (block_of addr) true)))
call_takes m bank s content a (call.Pei o b operands) = by (free_lane m s a.core) refl
  where
    by : (l : Option Lane) → free_lane m s a.core ≡ l → TurnTakes m s a (issue_row (slice_index s.issues a.core.0) o b operands l)
    by None e = tt
    by (Some l) e = (refl, e)
call_takes m bank s content a call.Fence = by (bank_look m s a.core).fence
  where
    by : (o : Option (List PeiId)) → TurnTakes m s a (fence_row o)
    by None = tt
    by (Some []) = tt
    by (Some (p ∷ ps)) = tt
call_takes m bank s content a (call.Out value) = tt
call_takes m bank s content a (call.End kind) = by (bank_look m s a.core).first_unfinished
  where
    by : (o : Option PeiId) → TurnTakes m s a (draining_or o (event.End kind))
    by None = tt
    by (Some p) = tt

pub row_issues : (p : Listing) (m : MachineSpec) (image : Contents) (k : ℕ) (log own : List Event) (e : Event) → IsRowIn p m image k log own e → IssuesNext m own e
row_issues p m image k log own e row = at e.kind (by e.actor.lane.0 row.row)
  where
    s : State
    s = state_after m own

    bank : State
    bank = state_after m log

    at : (kind : EventKind) → Takes m s e.actor kind → IssuesBy m s e.actor kind
    at (event.Issue seq lane o b operands) h = (core_within m e.actor row.actor, h.0, h.1)
    at _ h = tt

    program : (x : CoreNext) → program_turn_in m bank (bank_look m s e.actor.core) (flat_block image log) e.actor.core x ≡ Some (Makes e.kind) → Takes m s e.actor e.kind
    program (Calls x) h =
        subst (TurnTakes m s e.actor) (same_Some (call_row_by (bank_look m s e.actor.core) m bank (flat_block image log) e.actor.core x) (Makes e.kind) h) (call_takes m bank s (flat_block image log) e.actor x)
    program (Busy register pei) h = absurd (cc h)
    program (Ended how) h = absurd (cc h)

    lane : (o : Option PeiLook) → pei_turn_in m bank (bank_look m s e.actor.core) (flat_block image log) (is_entering e.kind) o ≡ Makes e.kind → Takes m s e.actor e.kind
    lane None h = absurd (cc h)
    lane (Some q) h =
        subst (TurnTakes m s e.actor) h
        (pei_takes m s e.actor q.id.seq q.phase (pei_row_by (bank_look m s e.actor.core) m bank (flat_block image log) (is_entering e.kind) q q.phase) (pei_is_of (bank_look m s e.actor.core) m bank (flat_block image log) (is_entering e.kind) q q.phase))

    by : (l : ℕ) → turn_in l (core_next p image (core_config m) e.actor.core own) m bank (bank_look m s e.actor.core) (flat_block image log) e.actor (is_entering e.kind) ≡ Some (Makes e.kind) → Takes m s e.actor e.kind
    by zero h = program (core_next p image (core_config m) e.actor.core own) h
    by (suc l) h =
        lane (look_in bank e.actor.core e.actor.lane)
        (same_Some (pei_turn_in m bank (bank_look m s e.actor.core) (flat_block image log) (is_entering e.kind) (look_in bank e.actor.core e.actor.lane)) (Makes e.kind) h)

pub handed_issues : (p : Listing) (m : MachineSpec) (image : Contents) (mine : List Stamped) (seen : List (List Stamped)) → Rises mine → HandsBack p m image mine seen → EachEvent (IssuesNext m) (map (λ x. x.event) mine)
handed_issues p m image mine seen rises hands =
    each_from_items (IssuesNext m) mine rises (λ x i. let r = hands x i in row_issues p m image r.0 (events_below x.stamp (list_at seen r.0)) (events_below x.stamp mine) x.event r.2)
