-- The PEIs that have entered and not left, by the log's `Enter` events and by the state.
use Rattle.std.proofs.Common.{◌≡◌, inl, inr, ℕ, Bool, true, false, not, ◌&&◌, ◌||◌, cond, if◌then◌else◌, List, [], ◌∷◌, ◌++◌, filter, filter_map, Option, Some, None, MatchOption, IsTrue, refl, sym, ◌∙◌, ap, ap₂, subst}
use Rattle.std.specs.List.{list_any, cons_option, AllByRecursion}
use Rattle.std.proofs.lemmas.Bool.{and_parts}
use Rattle.std.proofs.lemmas.List.{append-nil}
use Rattle.std.proofs.lemmas.List.Elements.{filter_map-append}
use Rattle.std.proofs.Math.Bool.{and-false}
use Rattle.pei_types.specs.declared.identifiers.Actor.{Actor}
use Rattle.pei_types.specs.declared.identifiers.PeiId.{PeiId}
use Rattle.pei_types.specs.declared.inflight_looks.PeiLook.{PeiLook}
use Rattle.pei_types.specs.declared.inflight_looks.Phase.{Phase}
use Rattle.pei_types.specs.declared.inflight_looks.Phase.TheVariants as phase
use Rattle.pei_types.specs.declared.events.Event.{Event}
use Rattle.pei_types.specs.declared.events.EventKind.{EventKind}
use Rattle.pei_types.specs.declared.events.EventKind.TheVariants as event
use Rattle.pei_types.specs.declared.machines.MachineSpec.{MachineSpec}
use Rattle.pei_types.specs.Blocks.{same_core, same_lane, same_pei}
use Rattle.pei_types.specs.Calls.{FollowsPei, follows_phase, side_of}
use Rattle.pei_types.specs.MachineState.{State, is_phase, entry_is_taken, pei_id}
use Rattle.pei_types.specs.Exclusion.{conflicts}
use Rattle.pei_types.specs.History.{Pei, issued_peis, pei_of, phase_of, is_enter, has_entered, has_left, unfinished_peis, entering, entered_peis}
use Rattle.pei_types.specs.Legal.{EachEvent}
use Rattle.pei_types.specs.Recency.{without}
use Rattle.pei_types.proofs.Identities.{same_lane_is, same_pei_is, same_pei_sym}
use Rattle.pei_types.proofs.Lists.{each_append, each_weaker, found_passes}
use Rattle.history_laws.specs.Members.{In}
use Rattle.history_laws.specs.TrackedPeis.{as_issued, is_past_issue, IsTracked}
use Rattle.bank_laws.specs.Across.{enters, leaves}
use Rattle.shared_table.specs.Orderly.{Continues, FollowsOf}
use Rattle.thread_laws.specs.Entered.{next_entered}
use Rattle.thread_laws.proofs.Lists.{any_in, some_in, alike}
use Rattle.thread_laws.proofs.Grows.{has_left-push, left_kept, pei_kept}
use Rattle.thread_laws.proofs.Following.{log_induction}
use Rattle.thread_laws.proofs.Tracks.{Tracks}
use Rattle.history_laws.proofs.Lists.{each_of, in_map, filter_in, find_Some}

-- ---- an event that enters

-- the name of the PEI that an event enters
enters_is : (id : PeiId) (a : Actor) (kind : EventKind) → (same_core a.core id.core && is_enter kind id.seq) ≡ true → (seq : ℕ) × (kind ≡ event.Enter seq) × (pei_id a seq ≡ id)
enters_is id a (event.Enter seq) h = (seq, refl, same_pei_is (pei_id a seq) id h)
enters_is id a _ h = absurd (cc (sym h ∙ and-false (same_core a.core id.core)))

pub picked_in : {A B : Type 0} (f : A → Option B) (xs : List A) (y : B) → In y (filter_map f xs) → (x : A) × In x xs × (f x ≡ Some y)
picked_in f [] y i = absurd i
picked_in {A} {B} f (x ∷ xs) y i = by (f x) refl i (picked_in f xs y)
  where
    by : (o : Option B) → f x ≡ o → In y (cons_option o (filter_map f xs)) → (In y (filter_map f xs) → (z : A) × In z xs × (f z ≡ Some y)) → (z : A) × In z (x ∷ xs) × (f z ≡ Some y)
    by None e j rest = let r = rest j in (r.0, inr r.1, r.2)
    by (Some z) e (inl same) rest = (x, inl refl, e ∙ ap Some (sym same))
    by (Some z) e (inr j) rest = let r = rest j in (r.0, inr r.1, r.2)

pub in_picked : {A B : Type 0} (f : A → Option B) (xs : List A) (x : A) (y : B) → In x xs → f x ≡ Some y → In y (filter_map f xs)
in_picked f [] x y i h = absurd i
in_picked f (z ∷ xs) x y (inl same) h = subst (λ o. In y (cons_option o (filter_map f xs))) (sym h ∙ ap f same) (inl refl)
in_picked {A} {B} f (z ∷ xs) x y (inr i) h = by (f z) (in_picked f xs x y i h)
  where
    by : (o : Option B) → In y (filter_map f xs) → In y (cons_option o (filter_map f xs))
    by None j = j
    by (Some w) j = inr j

-- a PEI of the state has not left
pub not_left : (log : List Event) (ls : List PeiLook) → Tracks log ls → (l : PeiLook) → In l ls → has_left log l.id ≡ false
not_left log ls g l i = by (has_left log l.id) refl
  where
    by : (b : Bool) → has_left log l.id ≡ b → has_left log l.id ≡ false
    by true h = absurd (cc (sym (each_of (IsTracked log) ls l g.tracked i).stands ∙ g.gone l.id h))
    by false h = h

-- a PEI of the state that is past its issue entered in the log, and did not leave
pub past_entered : (log : List Event) (ls : List PeiLook) → Tracks log ls → (l : PeiLook) → In l ls → is_past_issue l ≡ true → In (as_issued l) (entered_peis log)
past_entered log ls g l i past =
    let t : IsTracked log l = each_of (IsTracked log) ls l g.tracked i
    in let r = some_in (enters l.id) log (t.entered ∙ past)
    in let is = enters_is l.id r.0.actor r.0.kind r.2
    in let found : (if has_left log l.id then None else pei_of log l.id) ≡ Some (as_issued l) = ap (λ b. if b then None else pei_of log l.id) (not_left log ls g l i) ∙ t.found
    in in_picked (λ e. entering log e.actor e.kind) log r.0 (as_issued l) r.1
    (ap (entering log r.0.actor) is.1 ∙ ap (λ id. if has_left log id then None else pei_of log id) is.2 ∙ found)

-- and each that did is a PEI of the state, past its issue
pub entered_past : (log : List Event) (ls : List PeiLook) → Tracks log ls → (p : Pei) → In p (entered_peis log) → (l : PeiLook) × In l ls × (is_past_issue l ≡ true) × (as_issued l ≡ p)
entered_past log ls g p i =
    let r = picked_in (λ e. entering log e.actor e.kind) log p i
    in by r.0 r.1 r.0.kind refl r.2
  where
    by : (e : Event) → In e log → (kind : EventKind) → e.kind ≡ kind → entering log e.actor kind ≡ Some p → (l : PeiLook) × In l ls × (is_past_issue l ≡ true) × (as_issued l ≡ p)
    by e j (event.Enter seq) is h = at (has_left log (pei_id e.actor seq)) refl h
      where
        at : (b : Bool) → has_left log (pei_id e.actor seq) ≡ b → (if b then None else pei_of log (pei_id e.actor seq)) ≡ Some p → (l : PeiLook) × In l ls × (is_past_issue l ≡ true) × (as_issued l ≡ p)
        at true left q = absurd (cc q)
        at false left q =
            let seen = find_Some (λ x. same_pei x.id (pei_id e.actor seq)) (issued_peis log) p q
            in let named : p.id ≡ pei_id e.actor seq = same_pei_is p.id (pei_id e.actor seq) seen.1
            in let stays : In p (unfinished_peis log) = filter_in (λ x. not (has_left log x.id)) (issued_peis log) p seen.0 (ap (λ id. not (has_left log id)) named ∙ ap not left)
            in let x = in_map as_issued ls p (subst (In p) g.unfinished stays)
            in let own : pei_id e.actor seq ≡ x.0.id = sym named ∙ ap (λ y. y.id) x.2
            in let entered : has_entered log x.0.id ≡ true =
            any_in (enters x.0.id) log e j (ap (λ kind. same_core e.actor.core x.0.id.core && is_enter kind x.0.id.seq) is ∙ subst (λ id. same_pei (pei_id e.actor seq) id ≡ true) own (sym (same_pei_sym p.id (pei_id e.actor seq) ∙ ap (same_pei (pei_id e.actor seq)) named) ∙ seen.1))
            in (x.0, x.1, sym (each_of (IsTracked log) ls x.0 g.tracked x.1).entered ∙ entered, sym x.2)
    by e j _ is h = absurd (cc h)

-- whether an entry is taken is the same in both
pub taken_alike : (m : MachineSpec) (log : List Event) (s : State) (p : PeiLook) → Tracks log s.peis → entry_is_taken m s p ≡ list_any (λ q. conflicts m p.block p.op q.block q.op) (entered_peis log)
taken_alike m log s p g = alike (entry_is_taken m s p) (list_any (λ q. conflicts m p.block p.op q.block q.op) (entered_peis log)) there back
  where
    there : entry_is_taken m s p ≡ true → list_any (λ q. conflicts m p.block p.op q.block q.op) (entered_peis log) ≡ true
    there h =
        let r = some_in (λ l. not (is_phase l.phase phase.Issued) && conflicts m p.block p.op l.block l.op) s.peis h
        in let both = and_parts (not (is_phase r.0.phase phase.Issued)) (conflicts m p.block p.op r.0.block r.0.op) r.2
        in any_in (λ q. conflicts m p.block p.op q.block q.op) (entered_peis log) (as_issued r.0) (past_entered log s.peis g r.0 r.1 both.0) both.1

    back : list_any (λ q. conflicts m p.block p.op q.block q.op) (entered_peis log) ≡ true → entry_is_taken m s p ≡ true
    back h =
        let r = some_in (λ q. conflicts m p.block p.op q.block q.op) (entered_peis log) h
        in let x = entered_past log s.peis g r.0 r.1
        in any_in (λ l. not (is_phase l.phase phase.Issued) && conflicts m p.block p.op l.block l.op) s.peis x.0 x.1
        (ap₂ (λ a b. a && b) x.2 (ap (λ q. conflicts m p.block p.op q.block q.op) x.3 ∙ r.2))

-- ---- one more event

-- the PEI that an event has enter was issued
abbrev IsKnown : List Event → Actor → EventKind → Type 0
IsKnown log a (event.Enter seq) = (p : Pei) × (pei_of log (pei_id a seq) ≡ Some p)
IsKnown log a _ = Unit {0}

known_more : (log : List Event) (e : Event) (a : Actor) (kind : EventKind) → IsKnown log a kind → IsKnown (log ++ e ∷ []) a kind
known_more log e a (event.Enter seq) h = (h.0, pei_kept log e (pei_id a seq) h.0 h.1)
known_more log e a _ h = tt

matched : {A : Type 0} (P : A → Type 0) (o : Option A) → MatchOption o ⊥ P → (x : A) × (o ≡ Some x) × P x
matched P None h = absurd h
matched P (Some x) h = (x, refl, h)

-- the PEI that an event follows, as it was issued
pub follows_found : (log : List Event) (a : Actor) (kind : EventKind) (seq : ℕ) → FollowsPei log a kind seq → (p : Pei) × (pei_of log (pei_id a seq) ≡ Some p) × (p.id ≡ pei_id a seq) × (p.lane ≡ a.lane)
follows_found log a kind seq h =
    let r = matched (λ (p : Pei). IsTrue (same_lane p.lane a.lane)) (pei_of log (pei_id a seq)) h.0
    in (r.0, r.1, same_pei_is r.0.id (pei_id a seq) (found_passes (λ q. same_pei q.id (pei_id a seq)) (issued_peis log) r.0 r.1), same_lane_is r.0.lane a.lane r.2)

known_now : (log : List Event) (a : Actor) (kind : EventKind) → FollowsOf (side_of kind) log a kind → IsKnown log a kind
known_now log a (event.Enter seq) h = let r = follows_found log a (event.Enter seq) seq h in (r.0, r.1)
known_now log a _ h = tt

abbrev AllKnown : List Event → Type 0
AllKnown log = AllByRecursion (λ e. IsKnown log e.actor e.kind) log

all_known : (log : List Event) → EachEvent Continues log → AllKnown log
all_known log each = log_induction Continues AllKnown tt step log each
  where
    step : (before : List Event) (e : Event) → Continues before e → AllKnown before → AllKnown (before ++ e ∷ [])
    step before e h g =
        each_append (λ x. IsKnown (before ++ e ∷ []) x.actor x.kind) before (e ∷ [])
        (each_weaker (λ x. IsKnown before x.actor x.kind) (λ x. IsKnown (before ++ e ∷ []) x.actor x.kind) (λ x k. known_more before e x.actor x.kind k) before g)
        (known_more before e e.actor e.kind (known_now before e.actor e.kind h.0), tt)

picked_agree : {A B : Type 0} (f g : A → Option B) (xs : List A) → AllByRecursion (λ x. f x ≡ g x) xs → filter_map f xs ≡ filter_map g xs
picked_agree f g [] h = refl
picked_agree f g (x ∷ xs) h = ap₂ cons_option h.0 (picked_agree f g xs h.1)

abbrev if_kept : {B : Type 0} → (B → Bool) → Option B → Option B
if_kept keep None = None
if_kept keep (Some y) = if keep y then Some y else None

picked_kept : {A B : Type 0} (keep : B → Bool) (f g : A → Option B) (xs : List A) → AllByRecursion (λ x. g x ≡ if_kept keep (f x)) xs → filter_map g xs ≡ filter keep (filter_map f xs)
picked_kept keep f g [] h = refl
picked_kept {A} {B} keep f g (x ∷ xs) h = ap₂ cons_option h.0 (picked_kept keep f g xs h.1) ∙ by (f x)
  where
    at : (y : B) (b : Bool) → keep y ≡ b → cons_option (if b then Some y else None) (filter keep (filter_map f xs)) ≡ cond b (y ∷ filter keep (filter_map f xs)) (filter keep (filter_map f xs))
    at y true e = refl
    at y false e = refl

    by : (o : Option B) → cons_option (if_kept keep o) (filter keep (filter_map f xs)) ≡ filter keep (cons_option o (filter_map f xs))
    by None = refl
    by (Some y) = at y (keep y) refl

-- where the event has no PEI leave, the earlier ones enter as before
entering_kept : (log : List Event) (e : Event) → ((id : PeiId) → leaves id e ≡ false) → (a : Actor) (kind : EventKind) → IsKnown log a kind → entering (log ++ e ∷ []) a kind ≡ entering log a kind
entering_kept log e none a (event.Enter seq) k =
    ap₂ (λ b o. if b then None else o) (left_kept log e (pei_id a seq) (none (pei_id a seq))) (pei_kept log e (pei_id a seq) k.0 k.1 ∙ sym k.1)
entering_kept log e none a _ k = refl

entered_kept : (log : List Event) (e : Event) → EachEvent Continues log → ((id : PeiId) → leaves id e ≡ false) → filter_map (λ x. entering (log ++ e ∷ []) x.actor x.kind) log ≡ entered_peis log
entered_kept log e each none =
    picked_agree (λ x. entering (log ++ e ∷ []) x.actor x.kind) (λ x. entering log x.actor x.kind) log
    (each_weaker (λ x. IsKnown log x.actor x.kind) (λ x. entering (log ++ e ∷ []) x.actor x.kind ≡ entering log x.actor x.kind) (λ x k. entering_kept log e none x.actor x.kind k) log (all_known log each))

-- where it has one leave, the others enter as before
entering_left : (log : List Event) (b : Actor) (seq : ℕ) (a : Actor) (kind : EventKind) → IsKnown log a kind → entering (log ++ record { actor = b; kind = event.Leave seq } ∷ []) a kind ≡ if_kept (λ p. not (same_pei p.id (pei_id b seq))) (entering log a kind)
entering_left log b seq a (event.Enter n) k =
    ap₂ (λ t o. if t then None else o) (has_left-push log e id) (pei_kept log e id k.0 k.1) ∙ by (has_left log id) (same_pei (pei_id b seq) id) refl ∙ sym (ap (λ o. if_kept keep (if has_left log id then None else o)) k.1)
  where
    id : PeiId
    id = pei_id a n

    e : Event
    e = record { actor = b; kind = event.Leave seq }

    keep : Pei → Bool
    keep p = not (same_pei p.id (pei_id b seq))

    own : same_pei k.0.id (pei_id b seq) ≡ same_pei (pei_id b seq) id
    own = same_pei_sym k.0.id (pei_id b seq) ∙ ap (same_pei (pei_id b seq)) (same_pei_is k.0.id id (found_passes (λ q. same_pei q.id id) (issued_peis log) k.0 k.1))

    by : (left now : Bool) → same_pei (pei_id b seq) id ≡ now → (if left || now then None else Some k.0) ≡ if_kept keep (if left then None else Some k.0)
    by true now h = refl
    by false true h = sym (ap (λ t. if not t then Some k.0 else None) (own ∙ h))
    by false false h = sym (ap (λ t. if not t then Some k.0 else None) (own ∙ h))
entering_left log b seq a _ k = refl

abbrev made : Actor → EventKind → Event
made a kind = record { actor = a; kind = kind }

entered_push : (log : List Event) (e : Event) → entered_peis (log ++ e ∷ []) ≡ filter_map (λ x. entering (log ++ e ∷ []) x.actor x.kind) log ++ cons_option (entering (log ++ e ∷ []) e.actor e.kind) []
entered_push log e = filter_map-append (λ (x : Event). entering (log ++ e ∷ []) x.actor x.kind) log (e ∷ [])

-- an event that enters no PEI and has none leave
entered_same : (log : List Event) (a : Actor) (kind : EventKind) → EachEvent Continues log → ((id : PeiId) → leaves id (made a kind) ≡ false) → entering (log ++ made a kind ∷ []) a kind ≡ None → entered_peis (log ++ made a kind ∷ []) ≡ entered_peis log
entered_same log a kind each none nothing =
    entered_push log (made a kind) ∙ ap₂ (λ xs o. xs ++ cons_option o []) (entered_kept log (made a kind) each none) nothing ∙ append-nil (entered_peis log)

-- a PEI that is about to enter has not left
enter_not_left : (log : List Event) (ls : List PeiLook) (a : Actor) (seq : ℕ) → Tracks log ls → FollowsPei log a (event.Enter seq) seq → has_left log (pei_id a seq) ≡ false
enter_not_left log ls a seq g h = by (has_left log (pei_id a seq)) refl
  where
    by : (b : Bool) → has_left log (pei_id a seq) ≡ b → has_left log (pei_id a seq) ≡ false
    by true q = let r = matched (λ (ph : Phase). IsTrue (follows_phase ph (event.Enter seq))) (phase_of log (pei_id a seq)) h.1 in absurd (cc (sym r.1 ∙ g.gone (pei_id a seq) q))
    by false q = q

pub entered_next : (log : List Event) (ls : List PeiLook) (a : Actor) (kind : EventKind) → EachEvent Continues log → FollowsOf (side_of kind) log a kind → Tracks log ls → entered_peis (log ++ made a kind ∷ []) ≡ next_entered log a kind (entered_peis log)
entered_next log ls a (event.Enter seq) each h g =
    entered_push log e
    ∙ ap₂ (λ xs o. xs ++ cons_option o []) (entered_kept log e each none)
    (ap₂ (λ b o. if b then None else o) (left_kept log e id (none id) ∙ enter_not_left log ls a seq g h) (pei_kept log e id r.0 r.1 ∙ sym r.1))
  where
    e : Event
    e = made a (event.Enter seq)

    id : PeiId
    id = pei_id a seq

    none : (i : PeiId) → leaves i e ≡ false
    none i = and-false (same_core a.core i.core)

    r : (p : Pei) × (pei_of log (pei_id a seq) ≡ Some p) × (p.id ≡ pei_id a seq) × (p.lane ≡ a.lane)
    r = follows_found log a (event.Enter seq) seq h
entered_next log ls a (event.Leave seq) each h g =
    entered_push log (made a (event.Leave seq))
    ∙ ap (λ xs. xs ++ [])
    (picked_kept (λ p. not (same_pei p.id (pei_id a seq))) (λ x. entering log x.actor x.kind) (λ x. entering (log ++ made a (event.Leave seq) ∷ []) x.actor x.kind) log
    (each_weaker (λ x. IsKnown log x.actor x.kind) _ (λ x k. entering_left log a seq x.actor x.kind k) log (all_known log each)))
    ∙ append-nil (without (λ p. same_pei p.id (pei_id a seq)) (entered_peis log))
entered_next log ls a kind each h g = entered_same log a kind each (λ id. and-false (same_core a.core id.core)) refl
