-- How the active PEIs of a log change by one event.
use Rattle.std.proofs.Common.{◌≡◌, ◌≢◌, inl, inr, ℕ, eqb, Bool, true, false, not, cond, List, [], ◌∷◌, ◌++◌, map, Option, Some, None, MatchOption, IsTrue, refl, sym, ◌∙◌, ap, subst, eq-eqb, ne_eqb, eqb-true}
use Rattle.std.specs.List.{cons_option}
use Rattle.std.proofs.lemmas.List.{append-nil, map-append}
use Rattle.pei_types.specs.declared.identifiers.Actor.{Actor}
use Rattle.pei_types.specs.declared.identifiers.PeiId.{PeiId}
use Rattle.pei_types.specs.declared.inflight_looks.PeiLook.{PeiLook}
use Rattle.pei_types.specs.declared.inflight_looks.Phase.{Phase}
use Rattle.pei_types.specs.declared.inflight_looks.Phase.TheVariants as phase
use Rattle.pei_types.specs.declared.events.Event.{Event}
use Rattle.pei_types.specs.declared.events.EventKind.{EventKind}
use Rattle.pei_types.specs.declared.events.EventKind.TheVariants as event
use Rattle.pei_types.specs.Blocks.{same_core, same_lane, same_pei}
use Rattle.pei_types.specs.Calls.{FollowsPei, follows_phase, side_of}
use Rattle.pei_types.specs.MachineState.{State, is_phase, pei_id}
use Rattle.pei_types.specs.History.{Pei, issued_peis, pei_of, phase_of, has_left, entered_peis}
use Rattle.pei_types.specs.Legal.{EachEvent}
use Rattle.pei_types.specs.Recency.{without}
use Rattle.pei_types.proofs.Identities.{same_pei_is, same_pei_refl}
use Rattle.std.proofs.lemmas.Option.{same_Some}
use Rattle.history_laws.specs.EntryOrder.{LanesApart}
use Rattle.history_laws.specs.Members.{In}
use Rattle.history_laws.specs.TrackedPeis.{as_issued, IsTracked}
use Rattle.shared_table.specs.declared.claims.Active.{Active}
use Rattle.shared_table.specs.Actives.{ActivesAreEntered, active_pei, active_in}
use Rattle.shared_table.specs.Diaries.{active_of}
use Rattle.shared_table.specs.Orderly.{Continues, Follows, FollowsOf}
use Rattle.shared_table.specs.Own.{IsIdle}
use Rattle.thread_laws.specs.Entered.{next_entered}
use Rattle.thread_laws.proofs.Entering.{past_entered, entered_next, follows_found}
use Rattle.thread_laws.proofs.Lanes.{in_of_at, entered_lanes}
use Rattle.thread_laws.proofs.Tracks.{Tracks}
use Rattle.history_laws.proofs.Lists.{each_of, in_map, in_filter, filter_in, find_Some}

-- ---- the active PEIs of one core

active_of_cons : (d : ℕ) (a : Active) (xs ys : List Active) (b : Bool) → active_of d (xs ++ ys) ≡ active_of d xs ++ active_of d ys → cond b (a ∷ active_of d (xs ++ ys)) (active_of d (xs ++ ys)) ≡ cond b (a ∷ active_of d xs) (active_of d xs) ++ active_of d ys
active_of_cons d a xs ys true h = ap (λ l. a ∷ l) h
active_of_cons d a xs ys false h = h

active_of-append : (d : ℕ) (xs ys : List Active) → active_of d (xs ++ ys) ≡ active_of d xs ++ active_of d ys
active_of-append d [] ys = refl
active_of-append d (a ∷ xs) ys = active_of_cons d a xs ys (eqb a.core.0 d) (active_of-append d xs ys)

in_active_of : (d : ℕ) (xs : List Active) (a : Active) → In a (active_of d xs) → In a xs × (a.core.0 ≡ d)
in_active_of d [] a i = absurd i
in_active_of d (x ∷ xs) a i = by (eqb x.core.0 d) refl i (in_active_of d xs a)
  where
    by : (b : Bool) → eqb x.core.0 d ≡ b → In a (cond b (x ∷ active_of d xs) (active_of d xs)) → (In a (active_of d xs) → In a xs × (a.core.0 ≡ d)) → In a (x ∷ xs) × (a.core.0 ≡ d)
    by true e (inl same) rest = (inl same, ap (λ y. y.core.0) same ∙ eqb-true x.core.0 d e)
    by true e (inr j) rest = let r = rest j in (inr r.0, r.1)
    by false e j rest = let r = rest j in (inr r.0, r.1)

-- a PEI of another core, added or taken away
others_added : (entries d : ℕ) (p : Pei) (ps : List Pei) → d ≢ p.id.core.0 → active_of d (map (active_pei entries) (ps ++ p ∷ [])) ≡ active_of d (map (active_pei entries) ps)
others_added entries d p ps apart =
    ap (active_of d) (map-append (active_pei entries) ps (p ∷ []))
    ∙ active_of-append d (map (active_pei entries) ps) (active_pei entries p ∷ [])
    ∙ ap (λ xs. active_of d (map (active_pei entries) ps) ++ xs) (ap (λ b. cond b (active_pei entries p ∷ []) []) (ne_eqb p.id.core.0 d (λ e. apart (sym e))))
    ∙ append-nil (active_of d (map (active_pei entries) ps))

others_left : (entries d : ℕ) (id : PeiId) (ps : List Pei) → d ≢ id.core.0 → active_of d (map (active_pei entries) (without (λ p. same_pei p.id id) ps)) ≡ active_of d (map (active_pei entries) ps)
others_left entries d id [] apart = refl
others_left entries d id (p ∷ ps) apart = by (same_pei p.id id) refl (others_left entries d id ps apart)
  where
    rest : List Pei
    rest = without (λ q. same_pei q.id id) ps

    by : (b : Bool) → same_pei p.id id ≡ b → active_of d (map (active_pei entries) rest) ≡ active_of d (map (active_pei entries) ps) → active_of d (map (active_pei entries) (cond (not b) (p ∷ rest) rest)) ≡ active_of d (map (active_pei entries) (p ∷ ps))
    by true e h =
        let core : p.id.core.0 ≡ id.core.0 = ap (λ i. i.core.0) (same_pei_is p.id id e)
        in h ∙ sym (ap (λ b. cond b (active_pei entries p ∷ active_of d (map (active_pei entries) ps)) (active_of d (map (active_pei entries) ps))) (ne_eqb p.id.core.0 d (λ q. apart (sym q ∙ core))))
    by false e h = ap (λ xs. cond (eqb p.id.core.0 d) (active_pei entries p ∷ xs) xs) h

-- the PEIs of other cores after one event
pub others_next : (entries : ℕ) (log : List Event) (a : Actor) (kind : EventKind) (d : ℕ) (ps : List Pei) → FollowsOf (side_of kind) log a kind → d ≢ a.core.0 → active_of d (map (active_pei entries) (next_entered log a kind ps)) ≡ active_of d (map (active_pei entries) ps)
others_next entries log a (event.Enter seq) d ps h apart =
    let r = follows_found log a (event.Enter seq) seq h
    in ap (λ o. active_of d (map (active_pei entries) (ps ++ cons_option o []))) r.1 ∙ others_added entries d r.0 ps (λ e. apart (e ∙ ap (λ i. i.core.0) r.2))
others_next entries log a (event.Leave seq) d ps h apart = others_left entries d (pei_id a seq) ps apart
others_next entries log a _ d ps h apart = refl

-- ---- the active PEIs of the log

pub active_next : ActivesAreEntered → (entries : ℕ) (log : List Event) (ls : List PeiLook) (e : Event) → EachEvent Continues log → Follows log e → Tracks log ls → active_in entries (log ++ e ∷ []) ≡ map (active_pei entries) (next_entered log e.actor e.kind (entered_peis log))
active_next are entries log ls e each h g = are entries (log ++ e ∷ []) ∙ ap (map (active_pei entries)) (entered_next log ls e.actor e.kind each h g)

pub active_enters : ActivesAreEntered → (entries : ℕ) (log : List Event) (ls : List PeiLook) (e : Event) (seq : ℕ) (p : Pei) → EachEvent Continues log → Follows log e → Tracks log ls → e.kind ≡ event.Enter seq → pei_of log (pei_id e.actor seq) ≡ Some p → active_in entries (log ++ e ∷ []) ≡ active_in entries log ++ active_pei entries p ∷ []
active_enters are entries log ls e seq p each h g is found =
    active_next are entries log ls e each h g
    ∙ ap (λ kind. map (active_pei entries) (next_entered log e.actor kind (entered_peis log))) is
    ∙ ap (λ o. map (active_pei entries) (entered_peis log ++ cons_option o [])) found
    ∙ map-append (active_pei entries) (entered_peis log) (p ∷ [])
    ∙ ap (λ xs. xs ++ active_pei entries p ∷ []) (sym (are entries log))

pub active_leaves : ActivesAreEntered → (entries : ℕ) (log : List Event) (ls : List PeiLook) (e : Event) (seq : ℕ) → EachEvent Continues log → Follows log e → Tracks log ls → e.kind ≡ event.Leave seq → active_in entries (log ++ e ∷ []) ≡ map (active_pei entries) (without (λ p. same_pei p.id (pei_id e.actor seq)) (entered_peis log))
active_leaves are entries log ls e seq each h g is =
    active_next are entries log ls e each h g ∙ ap (λ kind. map (active_pei entries) (next_entered log e.actor kind (entered_peis log))) is

pub active_keeps : ActivesAreEntered → (entries : ℕ) (log : List Event) (ls : List PeiLook) (e : Event) → EachEvent Continues log → Follows log e → Tracks log ls → ((seq : ℕ) → e.kind ≢ event.Enter seq) → ((seq : ℕ) → e.kind ≢ event.Leave seq) → active_in entries (log ++ e ∷ []) ≡ active_in entries log
active_keeps are entries log ls e each h g enters leaves =
    active_next are entries log ls e each h g ∙ ap (map (active_pei entries)) (by e.kind refl) ∙ sym (are entries log)
  where
    by : (kind : EventKind) → e.kind ≡ kind → next_entered log e.actor kind (entered_peis log) ≡ entered_peis log
    by (event.Enter seq) is = absurd (enters seq is)
    by (event.Leave seq) is = absurd (leaves seq is)
    by _ is = refl

-- ---- behind a leave

-- where a PEI of the log stands in a phase, the state has it
look_found : (log : List Event) (ls : List PeiLook) → Tracks log ls → (id : PeiId) (p : Pei) (ph : Phase) → pei_of log id ≡ Some p → phase_of log id ≡ Some ph → (l : PeiLook) × In l ls × (as_issued l ≡ p) × (l.phase ≡ ph)
look_found log ls g id p ph found stands = by (has_left log p.id) refl
  where
    seen : In p (issued_peis log) × (same_pei p.id id ≡ true)
    seen = find_Some (λ q. same_pei q.id id) (issued_peis log) p found

    named : p.id ≡ id
    named = same_pei_is p.id id seen.1

    by : (b : Bool) → has_left log p.id ≡ b → (l : PeiLook) × In l ls × (as_issued l ≡ p) × (l.phase ≡ ph)
    by true h = absurd (cc (sym stands ∙ ap (phase_of log) (sym named) ∙ g.gone p.id h))
    by false h =
        let x = in_map as_issued ls p (subst (In p) g.unfinished (filter_in (λ q. not (has_left log q.id)) (issued_peis log) p seen.0 (ap not h)))
        in (x.0, x.1, sym x.2, same_Some x.0.phase ph (sym (each_of (IsTracked log) ls x.0 g.tracked x.1).stands ∙ ap (λ (q : Pei). phase_of log q.id) (sym x.2) ∙ ap (phase_of log) named ∙ stands))

leave_acted : (ph : Phase) (seq : ℕ) → IsTrue (follows_phase ph (event.Leave seq)) → not (is_phase ph phase.Issued) ≡ true
leave_acted phase.Acted seq h = refl
leave_acted _ seq h = absurd (cc h)

matched : {A : Type 0} (P : A → Type 0) (o : Option A) → MatchOption o ⊥ P → (x : A) × (o ≡ Some x) × P x
matched P None h = absurd h
matched P (Some x) h = (x, refl, h)

-- the PEI that leaves had entered
leaving_entered : (log : List Event) (ls : List PeiLook) (a : Actor) (seq : ℕ) → Tracks log ls → FollowsPei log a (event.Leave seq) seq → (p : Pei) × In p (entered_peis log) × (p.id ≡ pei_id a seq) × (p.lane ≡ a.lane)
leaving_entered log ls a seq g h =
    let r = follows_found log a (event.Leave seq) seq h
    in let ph = matched (λ (x : Phase). IsTrue (follows_phase x (event.Leave seq))) (phase_of log (pei_id a seq)) h.1
    in let l = look_found log ls g (pei_id a seq) r.0 ph.0 r.1 ph.1
    in (r.0, subst (λ p. In p (entered_peis log)) l.2 (past_entered log ls g l.0 l.1 (ap (λ x. not (is_phase x phase.Issued)) l.3 ∙ leave_acted ph.0 seq ph.2)), r.2, r.3)

pub idle_after : ActivesAreEntered → (entries : ℕ) (log : List Event) (s : State) (e : Event) (seq : ℕ) → EachEvent Continues log → Follows log e → Tracks log s.peis → LanesApart s → e.kind ≡ event.Leave seq → IsIdle (active_of e.actor.core.0 (active_in entries (log ++ e ∷ []))) e.actor.lane.0
idle_after are entries log s e seq each h g lanes is j a at same =
    let own = in_active_of e.actor.core.0 (active_in entries (log ++ e ∷ [])) a (in_of_at (active_of e.actor.core.0 (active_in entries (log ++ e ∷ []))) a j at)
    in let q = in_map (active_pei entries) (without (λ p. same_pei p.id (pei_id e.actor seq)) (entered_peis log)) a (subst (In a) (active_leaves are entries log s.peis e seq each h g is) own.0)
    in let kept = in_filter (λ p. not (same_pei p.id (pei_id e.actor seq))) (entered_peis log) q.0 q.1
    in let left = leaving_entered log s.peis e.actor seq g (subst (λ kind. FollowsOf (side_of kind) log e.actor kind) is h)
    in let core : same_core q.0.id.core left.0.id.core ≡ true = eq-eqb q.0.id.core.0 left.0.id.core.0 (sym (ap (λ x. x.core.0) q.2) ∙ own.1 ∙ sym (ap (λ i. i.core.0) left.2))
    in let lane : same_lane q.0.lane left.0.lane ≡ true = eq-eqb q.0.lane.0 left.0.lane.0 (sym (ap (λ x. x.lane.0) q.2) ∙ same ∙ sym (ap (λ l. l.0) left.3))
    in let one : q.0 ≡ left.0 = entered_lanes log s g lanes q.0 left.0 kept.0 left.1 core lane
    in cc (sym kept.1 ∙ ap (λ p. not (same_pei p.id (pei_id e.actor seq))) one ∙ ap (λ id. not (same_pei id (pei_id e.actor seq))) left.2 ∙ ap not (same_pei_refl (pei_id e.actor seq)))
