-- The PEIs on their way after a log whose events are each their PEI's next, one event after the other.
use Rattle.std.proofs.Common.{◌≡◌, ℕ, Bool, true, false, not, ◌&&◌, ◌||◌, if◌then◌else◌, List, [], ◌∷◌, ◌++◌, map, filter, find, fold, Option, Some, None, IsTrue, refl, sym, ◌∙◌, ap, ap₂, subst}
use Rattle.std.specs.List.{list_any, AllByRecursion}
use Rattle.std.proofs.lemmas.List.{map_push}
use Rattle.std.proofs.lemmas.List.Folds.{find-append}
use Rattle.std.proofs.lemmas.List.Elements.{filter-append, filter_agree}
use Rattle.std.proofs.lemmas.Option.{MatchOption-at_some, MatchOption-at_none}
use Rattle.std.proofs.lemmas.Bool.{not-true}
use Rattle.std.proofs.Math.Bool.{or-false, and-false}
use Rattle.pei_types.specs.declared.identifiers.Actor.{Actor}
use Rattle.pei_types.specs.declared.identifiers.Lane.{Lane}
use Rattle.pei_types.specs.declared.identifiers.BlockNo.{BlockNo}
use Rattle.pei_types.specs.declared.identifiers.PeiId.{PeiId}
use Rattle.pei_types.specs.declared.operations.Op.{Op}
use Rattle.pei_types.specs.declared.operations.Operands.{Operands}
use Rattle.pei_types.specs.declared.operations.Place.TheVariants as place
use Rattle.pei_types.specs.declared.inflight_looks.PeiLook.{PeiLook}
use Rattle.pei_types.specs.declared.inflight_looks.Phase.{Phase}
use Rattle.pei_types.specs.declared.inflight_looks.Phase.TheVariants as phase
use Rattle.pei_types.specs.declared.events.Event.{Event}
use Rattle.pei_types.specs.declared.events.EventKind.{EventKind}
use Rattle.pei_types.specs.declared.events.EventKind.TheVariants as event
use Rattle.pei_types.specs.Blocks.{same_core, same_lane, same_pei}
use Rattle.pei_types.specs.Calls.{FollowsPei, follows_phase, side_of}
use Rattle.pei_types.specs.MachineState.{is_phase, with_phase, pei_id}
use Rattle.pei_types.specs.History.{Pei, issued_peis, pei_issued_by, pei_of, phase_of, phase_after, is_about, seq_named, is_number, is_enter, is_act, is_leave, has_entered, has_acted, has_left, unfinished_peis}
use Rattle.pei_types.specs.Recency.{without}
use Rattle.pei_types.proofs.Identities.{same_pei_refl, same_pei_is, same_pei_sym}
use Rattle.pei_types.proofs.Lists.{each_map, each_weaker, each_append}
use Rattle.pei_types.proofs.Tests.{same_self}
use Rattle.history_laws.specs.TrackedPeis.{as_issued, IsTracked}
use Rattle.bank_laws.specs.Across.{enters, leaves}
use Rattle.bank_laws.specs.Own.{new_look, next_peis}
use Rattle.shared_table.specs.Orderly.{FollowsOf, IsFresh}
use Rattle.thread_laws.proofs.Grows.{acts, has_entered-push, has_acted-push, left_kept, entered_kept, acted_kept, phase_kept, phase_set, pei_kept, pei_more, issued_kept, issued_more, left_none, unfinished_kept, unfinished_left}
use Rattle.history_laws.proofs.Grows.{leaves_about, enters_about, acts_about}
use Rattle.history_laws.proofs.Lists.{any_push, each_kept, filter-map, any_none}
use Rattle.history_laws.proofs.Agree.{as_issued_moved}

-- These PEIs are on their way after the log: those issued that have not left, in the order of their issue, each as its events left
-- it. No event of the log is about a PEI that the log did not issue, and one that has left stands in no phase.
pub record Tracks (log : List Event) (ls : List PeiLook) : Type 0 where
  pub unfinished : unfinished_peis log ≡ map as_issued ls
  pub tracked : AllByRecursion (IsTracked log) ls
  pub named : (id : PeiId) → pei_of log id ≡ None → list_any (is_about id) log ≡ false
  pub gone : (id : PeiId) → has_left log id ≡ true → phase_of log id ≡ None

abbrev made : Actor → EventKind → Event
made a kind = record { actor = a; kind = kind }

-- ---- one PEI

tracked_kept : (log : List Event) (e : Event) (l : PeiLook) → is_about l.id e ≡ false → IsTracked log l → IsTracked (log ++ e ∷ []) l
tracked_kept log e l h t =
    record {
      stands = phase_kept log e l.id h ∙ t.stands;
      found = pei_kept log e l.id (as_issued l) t.found;
      entered = entered_kept log e l.id h ∙ t.entered;
      acted = acted_kept log e l.id h ∙ t.acted;
    }

-- the same PEI in another phase
abbrev moved : Phase → PeiLook → PeiLook
moved ph l = record l { phase = ph }

-- What an event that moves a PEI on to a phase does. It is no issue and no leave.
record Moves (kind : EventKind) (seq : ℕ) (ph : Phase) : Type 0 where
  names : seq_named kind ≡ Some seq
  after : phase_after kind ≡ Some ph
  issues : (a : Actor) → pei_issued_by a kind ≡ None
  leave : (n : ℕ) → is_leave kind n ≡ false
  enter : (from : Phase) → follows_phase from kind ≡ true → (not (is_phase from phase.Issued) || is_enter kind seq) ≡ not (is_phase ph phase.Issued)
  act : (from : Phase) → follows_phase from kind ≡ true → (is_phase from phase.Acted || is_act kind seq) ≡ is_phase ph phase.Acted

tracked_moved : (log : List Event) (a : Actor) (kind : EventKind) (seq : ℕ) (ph : Phase) (l : PeiLook) → Moves kind seq ph → l.id ≡ pei_id a seq → follows_phase l.phase kind ≡ true → IsTracked log l → IsTracked (log ++ made a kind ∷ []) (moved ph l)
tracked_moved log a kind seq ph l moves same follows t =
    let e : Event = made a kind
    in let about : is_about l.id e ≡ true = rw (same, moves.names) (same_pei_refl (pei_id a seq))
    in let core : same_core a.core l.id.core ≡ true = rw same (same_self a.core.0)
    in record {
      stands = phase_set log e l.id about ∙ moves.after;
      found = pei_kept log e l.id (as_issued l) t.found;
      entered = has_entered-push log e l.id ∙ rw (t.entered, core, same) (moves.enter l.phase follows);
      acted = has_acted-push log e l.id ∙ rw (t.acted, core, same) (moves.act l.phase follows);
    }

tracked_step : (log : List Event) (a : Actor) (kind : EventKind) (seq : ℕ) (ph : Phase) → Moves kind seq ph → FollowsPei log a kind seq → (l : PeiLook) → IsTracked log l → IsTracked (log ++ made a kind ∷ []) (with_phase (pei_id a seq) ph l)
tracked_step log a kind seq ph moves follows l t = by (same_pei l.id (pei_id a seq)) refl
  where
    by : (b : Bool) → same_pei l.id (pei_id a seq) ≡ b → IsTracked (log ++ made a kind ∷ []) (if b then moved ph l else l)
    by true h =
        let same = same_pei_is l.id (pei_id a seq) h
        in tracked_moved log a kind seq ph l moves same (MatchOption-at_some ⊥ (λ from. IsTrue (follows_phase from kind)) l.phase (ap (phase_of log) (sym same) ∙ t.stands) follows.1) t
    by false h = tracked_kept log (made a kind) l (rw moves.names (same_pei_sym (pei_id a seq) l.id ∙ h)) t

-- ---- events that issue nothing

-- whether the PEI that an event names is this one
about_is : (a : Actor) (kind : EventKind) (seq : ℕ) (id : PeiId) → seq_named kind ≡ Some seq → is_about id (made a kind) ≡ true → pei_id a seq ≡ id
about_is a kind seq id names h = same_pei_is (pei_id a seq) id (subst (λ o. (same_core a.core id.core && is_number o id.seq) ≡ true) names h)

no_pei : (log : List Event) (a : Actor) (kind : EventKind) (seq : ℕ) → FollowsPei log a kind seq → pei_of log (pei_id a seq) ≡ None → ⊥
no_pei log a kind seq follows none = MatchOption-at_none ⊥ (λ p. IsTrue (same_lane p.lane a.lane)) none follows.0

no_phase : (log : List Event) (a : Actor) (kind : EventKind) (seq : ℕ) → FollowsPei log a kind seq → phase_of log (pei_id a seq) ≡ None → ⊥
no_phase log a kind seq follows none = MatchOption-at_none ⊥ (λ ph. IsTrue (follows_phase ph kind)) none follows.1

named_kept : (log : List Event) (e : Event) → pei_issued_by e.actor e.kind ≡ None → ((id : PeiId) → is_about id e ≡ true → pei_of log id ≡ None → ⊥) → ((id : PeiId) → pei_of log id ≡ None → list_any (is_about id) log ≡ false) → (id : PeiId) → pei_of (log ++ e ∷ []) id ≡ None → list_any (is_about id) (log ++ e ∷ []) ≡ false
named_kept log e none names before id h =
    let was : pei_of log id ≡ None = sym (ap (find (λ q. same_pei q.id id)) (issued_kept log e none)) ∙ h
    in any_push (is_about id) log e ∙ ap₂ (λ x y. x || y) (before id was) (by was (is_about id e) refl)
  where
    by : pei_of log id ≡ None → (b : Bool) → is_about id e ≡ b → is_about id e ≡ false
    by was true q = absurd (names id q was)
    by was false q = q

gone_kept : (log : List Event) (e : Event) → ((id : PeiId) → leaves id e ≡ false) → ((id : PeiId) → is_about id e ≡ true → phase_of log id ≡ None → ⊥) → ((id : PeiId) → has_left log id ≡ true → phase_of log id ≡ None) → (id : PeiId) → has_left (log ++ e ∷ []) id ≡ true → phase_of (log ++ e ∷ []) id ≡ None
gone_kept log e none names before id h = by (is_about id e) refl
  where
    was : phase_of log id ≡ None
    was = before id (sym (left_kept log e id (none id)) ∙ h)

    by : (b : Bool) → is_about id e ≡ b → phase_of (log ++ e ∷ []) id ≡ None
    by true q = absurd (names id q was)
    by false q = phase_kept log e id q ∙ was

-- a PEI moves on
tracks_moved : (log : List Event) (ls : List PeiLook) (a : Actor) (kind : EventKind) (seq : ℕ) (ph : Phase) → Moves kind seq ph → FollowsPei log a kind seq → Tracks log ls → Tracks (log ++ made a kind ∷ []) (map (with_phase (pei_id a seq) ph) ls)
tracks_moved log ls a kind seq ph moves follows g =
    let e : Event = made a kind
    in let none_leaves : (id : PeiId) → leaves id e ≡ false = λ id. rw (moves.leave id.seq) (and-false (same_core a.core id.core))
    in record {
      unfinished = unfinished_kept log e (moves.issues a) none_leaves ∙ g.unfinished ∙ sym (as_issued_moved (pei_id a seq) ph ls);
      tracked = each_map (IsTracked log) (IsTracked (log ++ e ∷ [])) (with_phase (pei_id a seq) ph) (tracked_step log a kind seq ph moves follows) ls g.tracked;
      named = named_kept log e (moves.issues a) (λ id about none. no_pei log a kind seq follows (ap (pei_of log) (about_is a kind seq id moves.names about) ∙ none)) g.named;
      gone = gone_kept log e none_leaves (λ id about none. no_phase log a kind seq follows (ap (phase_of log) (about_is a kind seq id moves.names about) ∙ none)) g.gone;
    }

-- an event that is about no PEI
record IsQuiet (kind : EventKind) : Type 0 where
  names : seq_named kind ≡ None
  issues : (a : Actor) → pei_issued_by a kind ≡ None
  leave : (n : ℕ) → is_leave kind n ≡ false

tracks_quiet : (log : List Event) (ls : List PeiLook) (a : Actor) (kind : EventKind) → IsQuiet kind → Tracks log ls → Tracks (log ++ made a kind ∷ []) ls
tracks_quiet log ls a kind quiet g =
    let e : Event = made a kind
    in let none_leaves : (id : PeiId) → leaves id e ≡ false = λ id. rw (quiet.leave id.seq) (and-false (same_core a.core id.core))
    in let none_about : (id : PeiId) → is_about id e ≡ false = λ id. rw quiet.names (and-false (same_core a.core id.core))
    in record {
      unfinished = unfinished_kept log e (quiet.issues a) none_leaves ∙ g.unfinished;
      tracked = each_weaker (IsTracked log) (IsTracked (log ++ e ∷ [])) (λ l. tracked_kept log e l (none_about l.id)) ls g.tracked;
      named = named_kept log e (quiet.issues a) (λ id h. absurd (cc (sym h ∙ none_about id))) g.named;
      gone = gone_kept log e none_leaves (λ id h. absurd (cc (sym h ∙ none_about id))) g.gone;
    }

-- a PEI leaves
tracks_left : (log : List Event) (ls : List PeiLook) (a : Actor) (seq : ℕ) → FollowsPei log a (event.Leave seq) seq → Tracks log ls → Tracks (log ++ made a (event.Leave seq) ∷ []) (without (λ p. same_pei p.id (pei_id a seq)) ls)
tracks_left log ls a seq follows g =
    record {
      unfinished =
          unfinished_left log e refl ∙ ap (filter (λ p. not (leaves p.id e))) g.unfinished
          ∙ filter-map (λ p. not (leaves p.id e)) as_issued ls
          ∙ ap (map as_issued) (filter_agree (λ l. not (leaves l.id e)) (λ l. not (same_pei l.id (pei_id a seq))) (λ l. ap not (same_pei_sym (pei_id a seq) l.id)) ls);
      tracked =
          each_kept (IsTracked log) (IsTracked (log ++ e ∷ [])) (λ l. not (same_pei l.id (pei_id a seq))) ls
          (λ l h. tracked_kept log e l (same_pei_sym (pei_id a seq) l.id ∙ not-true (same_pei l.id (pei_id a seq)) h)) g.tracked;
      named = named_kept log e refl (λ id about none. no_pei log a (event.Leave seq) seq follows (ap (pei_of log) (about_is a (event.Leave seq) seq id refl about) ∙ none)) g.named;
      gone = λ id h. by id h (is_about id e) refl;
    }
  where
    e : Event
    e = made a (event.Leave seq)

    by : (id : PeiId) → has_left (log ++ e ∷ []) id ≡ true → (b : Bool) → is_about id e ≡ b → phase_of (log ++ e ∷ []) id ≡ None
    by id h true q = phase_set log e id q
    by id h false q = phase_kept log e id q ∙ g.gone id (sym (left_kept log e id q) ∙ h)

-- ---- an issue

-- what has no event about it stands in no phase, and has not entered, acted or left
phase_none : (id : PeiId) (log : List Event) (ph : Option Phase) → list_any (is_about id) log ≡ false → fold (λ x e. if is_about id e then phase_after e.kind else x) ph log ≡ ph
phase_none id [] ph h = refl
phase_none id (e ∷ log) ph h = by (is_about id e) refl h (phase_none id log)
  where
    by : (b : Bool) → is_about id e ≡ b → (b || list_any (is_about id) log) ≡ false → ((q : Option Phase) → list_any (is_about id) log ≡ false → fold (λ x y. if is_about id y then phase_after y.kind else x) q log ≡ q) → fold (λ x y. if is_about id y then phase_after y.kind else x) (if b then phase_after e.kind else ph) log ≡ ph
    by true q h rest = absurd (cc h)
    by false q h rest = rest ph h

not_left : (log : List Event) (id : PeiId) → list_any (is_about id) log ≡ false → has_left log id ≡ false
not_left log id h = any_none (leaves id) (is_about id) log (λ e. leaves_about e.kind (same_core e.actor.core id.core) id.seq) h

not_entered : (log : List Event) (id : PeiId) → list_any (is_about id) log ≡ false → has_entered log id ≡ false
not_entered log id h = any_none (enters id) (is_about id) log (λ e. enters_about e.kind (same_core e.actor.core id.core) id.seq) h

not_acted : (log : List Event) (id : PeiId) → list_any (is_about id) log ≡ false → has_acted log id ≡ false
not_acted log id h = any_none (acts id) (is_about id) log (λ e. acts_about e.kind (same_core e.actor.core id.core) id.seq) h

-- a PEI on its way is not the new one
tracked_other : (log : List Event) (id : PeiId) (l : PeiLook) → pei_of log id ≡ None → IsTracked log l → same_pei id l.id ≡ false
tracked_other log id l fresh t = by (same_pei id l.id) refl
  where
    by : (b : Bool) → same_pei id l.id ≡ b → same_pei id l.id ≡ false
    by true h = absurd (cc (sym t.found ∙ ap (pei_of log) (sym (same_pei_is id l.id h)) ∙ fresh))
    by false h = h

tracks_issued : (log : List Event) (ls : List PeiLook) (a : Actor) (seq : ℕ) (lane : Lane) (o : Op) (b : BlockNo) (operands : Operands) → pei_of log (pei_id a seq) ≡ None → Tracks log ls → Tracks (log ++ made a (event.Issue seq lane o b operands) ∷ []) (ls ++ new_look a seq lane o b operands ∷ [])
tracks_issued log ls a seq lane o b operands fresh g =
    record {
      unfinished =
          ap (filter (λ q. not (has_left (log ++ e ∷ []) q.id))) more
          ∙ filter-append (λ q. not (has_left (log ++ e ∷ []) q.id)) (issued_peis log) (as_issued l ∷ [])
          ∙ ap₂ (λ xs ys. xs ++ ys) (left_none log e (issued_peis log) none_leaves ∙ g.unfinished) (rw (left_kept log e id (none_leaves id) ∙ not_left log id unnamed) refl)
          ∙ sym (map_push as_issued ls l);
      tracked =
          each_append (IsTracked (log ++ e ∷ [])) ls (l ∷ [])
          (each_weaker (IsTracked log) (IsTracked (log ++ e ∷ [])) (λ k t. tracked_kept log e k (tracked_other log id k fresh t) t) ls g.tracked) (new, tt);
      named = λ i h. any_push (is_about i) log e ∙ name i h (same_pei id i) refl;
      gone = λ i h. left i (sym (left_kept log e i (none_leaves i)) ∙ h) (same_pei id i) refl;
    }
  where
    id : PeiId
    id = pei_id a seq

    e : Event
    e = made a (event.Issue seq lane o b operands)

    l : PeiLook
    l = new_look a seq lane o b operands

    unnamed : list_any (is_about id) log ≡ false
    unnamed = g.named id fresh

    none_leaves : (i : PeiId) → leaves i e ≡ false
    none_leaves i = and-false (same_core a.core i.core)

    more : issued_peis (log ++ e ∷ []) ≡ issued_peis log ++ as_issued l ∷ []
    more = issued_more log e (as_issued l) refl

    here : pei_of (log ++ e ∷ []) id ≡ Some (as_issued l)
    here = pei_more log e id ∙ find-append (λ q. same_pei q.id id) (issued_peis log) (as_issued l ∷ []) ∙ rw (fresh, same_pei_refl id) refl

    new : IsTracked (log ++ e ∷ []) l
    new =
        record {
          stands = phase_set log e id (same_pei_refl id);
          found = here;
          entered = has_entered-push log e id ∙ rw (not_entered log id unnamed) (and-false (same_core a.core a.core));
          acted = has_acted-push log e id ∙ rw (not_acted log id unnamed) (and-false (same_core a.core a.core));
        }

    name : (i : PeiId) → pei_of (log ++ e ∷ []) i ≡ None → (t : Bool) → same_pei id i ≡ t → (list_any (is_about i) log || same_pei id i) ≡ false
    name i h true q = absurd (cc (sym here ∙ ap (pei_of (log ++ e ∷ [])) (same_pei_is id i q) ∙ h))
    name i h false q = rw (q, or-false (list_any (is_about i) log)) (g.named i (was (pei_of log i) refl))
      where
        was : (t : Option Pei) → pei_of log i ≡ t → pei_of log i ≡ None
        was None k = k
        was (Some p) k = absurd (cc (sym (pei_kept log e i p k) ∙ h))

    left : (i : PeiId) → has_left log i ≡ true → (t : Bool) → same_pei id i ≡ t → phase_of (log ++ e ∷ []) i ≡ None
    left i h true q = absurd (cc (sym h ∙ ap (has_left log) (sym (same_pei_is id i q)) ∙ not_left log id unnamed))
    left i h false q = phase_kept log e i q ∙ g.gone i h

-- ---- any event

moves_enter : (seq : ℕ) → Moves (event.Enter seq) seq phase.Entered
moves_enter seq = record { names = refl; after = refl; issues = λ a. refl; leave = λ n. refl; enter = enter; act = act }
  where
    enter : (from : Phase) → follows_phase from (event.Enter seq) ≡ true → (not (is_phase from phase.Issued) || is_enter (event.Enter seq) seq) ≡ true
    enter phase.Issued h = same_self seq
    enter _ h = refl

    act : (from : Phase) → follows_phase from (event.Enter seq) ≡ true → (is_phase from phase.Acted || false) ≡ false
    act phase.Issued h = refl
    act _ h = absurd (cc h)

pub tracks_step : (log : List Event) (ls : List PeiLook) (a : Actor) (kind : EventKind) → FollowsOf (side_of kind) log a kind → IsFresh log (made a kind) → Tracks log ls → Tracks (log ++ made a kind ∷ []) (next_peis a kind ls)
tracks_step log ls a (event.Issue seq lane o b operands) follows fresh g = tracks_issued log ls a seq lane o b operands (fresh (as_issued (new_look a seq lane o b operands)) refl) g
tracks_step log ls a (event.Enter seq) follows fresh g = tracks_moved log ls a (event.Enter seq) seq phase.Entered (moves_enter seq) follows g
tracks_step log ls a (event.Place seq place.Host) follows fresh g = tracks_moved log ls a (event.Place seq place.Host) seq phase.HostPlaced (record { names = refl; after = refl; issues = λ c. refl; leave = λ n. refl; enter = enter; act = act }) follows g
  where
    enter : (from : Phase) → follows_phase from (event.Place seq place.Host) ≡ true → (not (is_phase from phase.Issued) || false) ≡ true
    enter phase.Entered h = refl
    enter _ h = absurd (cc h)

    act : (from : Phase) → follows_phase from (event.Place seq place.Host) ≡ true → (is_phase from phase.Acted || false) ≡ false
    act phase.Entered h = refl
    act _ h = absurd (cc h)
tracks_step log ls a (event.Place seq place.Memory) follows fresh g = tracks_moved log ls a (event.Place seq place.Memory) seq phase.MemoryPlaced (record { names = refl; after = refl; issues = λ c. refl; leave = λ n. refl; enter = enter; act = act }) follows g
  where
    enter : (from : Phase) → follows_phase from (event.Place seq place.Memory) ≡ true → (not (is_phase from phase.Issued) || false) ≡ true
    enter phase.Entered h = refl
    enter _ h = absurd (cc h)

    act : (from : Phase) → follows_phase from (event.Place seq place.Memory) ≡ true → (is_phase from phase.Acted || false) ≡ false
    act phase.Entered h = refl
    act _ h = absurd (cc h)
tracks_step log ls a (event.Read seq) follows fresh g = tracks_moved log ls a (event.Read seq) seq phase.Read (record { names = refl; after = refl; issues = λ c. refl; leave = λ n. refl; enter = enter; act = act }) follows g
  where
    enter : (from : Phase) → follows_phase from (event.Read seq) ≡ true → (not (is_phase from phase.Issued) || false) ≡ true
    enter phase.HostPlaced h = refl
    enter _ h = absurd (cc h)

    act : (from : Phase) → follows_phase from (event.Read seq) ≡ true → (is_phase from phase.Acted || false) ≡ false
    act phase.HostPlaced h = refl
    act _ h = absurd (cc h)
tracks_step log ls a (event.Seal seq vault) follows fresh g = tracks_moved log ls a (event.Seal seq vault) seq phase.Sealed (record { names = refl; after = refl; issues = λ c. refl; leave = λ n. refl; enter = enter; act = act }) follows g
  where
    enter : (from : Phase) → follows_phase from (event.Seal seq vault) ≡ true → (not (is_phase from phase.Issued) || false) ≡ true
    enter phase.MemoryPlaced h = refl
    enter _ h = absurd (cc h)

    act : (from : Phase) → follows_phase from (event.Seal seq vault) ≡ true → (is_phase from phase.Acted || false) ≡ false
    act phase.MemoryPlaced h = refl
    act _ h = absurd (cc h)
tracks_step log ls a (event.Act seq reply) follows fresh g = tracks_moved log ls a (event.Act seq reply) seq phase.Acted (record { names = refl; after = refl; issues = λ c. refl; leave = λ n. refl; enter = enter; act = act }) follows g
  where
    enter : (from : Phase) → follows_phase from (event.Act seq reply) ≡ true → (not (is_phase from phase.Issued) || false) ≡ true
    enter phase.Read h = refl
    enter phase.Sealed h = refl
    enter _ h = absurd (cc h)

    act : (from : Phase) → follows_phase from (event.Act seq reply) ≡ true → (is_phase from phase.Acted || is_act (event.Act seq reply) seq) ≡ true
    act phase.Acted h = refl
    act _ h = same_self seq
tracks_step log ls a (event.Leave seq) follows fresh g = tracks_left log ls a seq follows g
tracks_step log ls a kind follows fresh g = tracks_quiet log ls a kind (record { names = refl; issues = λ c. refl; leave = λ n. refl }) g
