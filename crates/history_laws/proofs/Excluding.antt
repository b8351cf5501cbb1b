-- Exclusion in the state and in the history.
use Rattle.std.proofs.Common.{◌≡◌, ◌↔◌, inl, inr, ℕ, Bool, true, false, not, ◌&&◌, ◌||◌, if◌then◌else◌, List, [], ◌∷◌, filter, filter_map, Option, Some, None, IsTrue, IfSome, refl, sym, ◌∙◌, ap, ap₂, subst, eqb-true}
use Rattle.std.specs.List.{list_all, list_any, cons_option}
use Rattle.std.proofs.lemmas.Bool.{not-true, and_parts}
use Rattle.std.proofs.lemmas.List.Folds.{list_all-map}
use Rattle.pei_types.specs.declared.identifiers.Actor.{Actor}
use Rattle.pei_types.specs.declared.inflight_looks.PeiLook.{PeiLook}
use Rattle.pei_types.specs.declared.events.Event.{Event}
use Rattle.pei_types.specs.declared.events.EventKind.{EventKind}
use Rattle.pei_types.specs.declared.events.EventKind.TheVariants as event
use Rattle.pei_types.specs.declared.machines.MachineSpec.{MachineSpec}
use Rattle.pei_types.specs.Blocks.{same_core, same_lane, same_pei}
use Rattle.pei_types.specs.Calls.{FollowsPei, follows_phase}
use Rattle.pei_types.specs.MachineState.{State, entry_is_taken, look_in, look_of, pei_id}
use Rattle.pei_types.specs.Exclusion.{conflicts, EntersAlone}
use Rattle.pei_types.specs.History.{pei_of, has_left, issued_peis, is_enter, active_peis, entered_peis, entering}
use Rattle.pei_types.proofs.Identities.{same_core_is, same_lane_is, same_pei_is}
use Rattle.pei_types.proofs.Lists.{all_true}
use Rattle.pei_types.proofs.Tests.{same_self}
use Rattle.history_laws.specs.EntryOrder.{LanesApart}
use Rattle.history_laws.specs.Fits.{EntersFree}
use Rattle.history_laws.specs.Members.{In}
use Rattle.history_laws.specs.TrackedPeis.{as_issued, is_past_issue, Agrees}
use Rattle.history_laws.proofs.Derived.{active_agrees, look_follows, look_tracked, look_unfinished}
use Rattle.history_laws.proofs.Lists.{each_of, find_first, find_Some, in_filter}

-- ---- active PEIs

-- none of those that pass t passes u, exactly where none passes both
none_of_kept : {A : Type 0} (t u : A → Bool) (xs : List A) → list_all (λ x. not (u x)) (filter t xs) ≡ not (list_any (λ x. t x && u x) xs)
none_of_kept t u [] = refl
none_of_kept {A} t u (x ∷ xs) = by (t x) (u x) refl refl (none_of_kept t u xs)
  where
    by : (b c : Bool) → t x ≡ b → u x ≡ c → list_all (λ y. not (u y)) (filter t xs) ≡ not (list_any (λ y. t y && u y) xs) → list_all (λ y. not (u y)) (filter t (x ∷ xs)) ≡ not (list_any (λ y. t y && u y) (x ∷ xs))
    by true true e f h = rw (e, f) refl
    by true false e f h = rw (e, f) h
    by false c e f h = rw e h

apart_agrees : (m : MachineSpec) (s : State) (journal : List Event) (l : PeiLook) → Agrees m s journal → list_all (λ q. not (conflicts m l.block l.op q.block q.op)) (active_peis journal) ≡ not (entry_is_taken m s l)
apart_agrees m s journal l g =
    ap (list_all (λ q. not (conflicts m l.block l.op q.block q.op))) (active_agrees m s journal g)
    ∙ list_all-map (λ q. not (conflicts m l.block l.op q.block q.op)) as_issued (filter is_past_issue s.peis)
    ∙ none_of_kept is_past_issue (λ q. conflicts m l.block l.op q.block q.op) s.peis

-- no active PEI of the history conflicts with a PEI exactly where its entry is not taken
pub exclusion_agrees : (m : MachineSpec) (s : State) (journal : List Event) (l : PeiLook) → Agrees m s journal → IsTrue (list_all (λ q. not (conflicts m l.block l.op q.block q.op)) (active_peis journal)) ↔ (entry_is_taken m s l ≡ false)
exclusion_agrees m s journal l g = (λ h. not-true (entry_is_taken m s l) (sym (apart_agrees m s journal l g) ∙ h), λ h. apart_agrees m s journal l g ∙ ap not h)

-- ---- PEIs that have entered, by their Enter events

enter_is : (kind : EventKind) (n : ℕ) → is_enter kind n ≡ true → kind ≡ event.Enter n
enter_is (event.Enter seq) n h = ap event.Enter (eqb-true seq n h)
enter_is _ n h = absurd (cc h)

in_filter_map : {A B : Type 0} (f : A → Option B) (xs : List A) (x : A) (y : B) → In x xs → f x ≡ Some y → In y (filter_map f xs)
in_filter_map f [] x y i h = absurd i
in_filter_map f (z ∷ xs) x y (inl e) h = rw (sym (ap f e) ∙ h) (inl refl)
in_filter_map {A} {B} f (z ∷ xs) x y (inr i) h = by (f z) (in_filter_map f xs x y i h)
  where
    by : (o : Option B) → In y (filter_map f xs) → In y (cons_option o (filter_map f xs))
    by None j = j
    by (Some w) j = inr j

-- an active PEI of the state is one of them
enters_there : (m : MachineSpec) (s : State) (journal : List Event) (l : PeiLook) → Agrees m s journal → In l s.peis → is_past_issue l ≡ true → In (as_issued l) (entered_peis journal)
enters_there m s journal l g i past =
    let t = look_tracked m s journal g l i
    in let r = any_event journal (t.entered ∙ past)
    in in_filter_map (λ e. entering journal e.actor e.kind) journal r.0 (as_issued l) r.1 (enters r.0 r.2)
  where
    names : Event → Bool
    names e = same_core e.actor.core l.id.core && is_enter e.kind l.id.seq

    any_event : (events : List Event) → list_any names events ≡ true → (e : Event) × In e events × (names e ≡ true)
    any_event [] h = absurd (cc h)
    any_event (e ∷ events) h = by (names e) refl h (any_event events)
      where
        by : (b : Bool) → names e ≡ b → (b || list_any names events) ≡ true → (list_any names events ≡ true → (x : Event) × In x events × (names x ≡ true)) → (x : Event) × In x (e ∷ events) × (names x ≡ true)
        by true q k rest = (e, inl refl, q)
        by false q k rest = let r = rest k in (r.0, inr r.1, r.2)

    stays : has_left journal l.id ≡ false
    stays = not-true (has_left journal l.id) (in_filter (λ p. not (has_left journal p.id)) (issued_peis journal) (as_issued l) (look_unfinished m s journal g l i)).1

    enters : (e : Event) → names e ≡ true → entering journal e.actor e.kind ≡ Some (as_issued l)
    enters e h =
        let both = and_parts (same_core e.actor.core l.id.core) (is_enter e.kind l.id.seq) h
        in ap (entering journal e.actor) (enter_is e.kind l.id.seq both.1)
        ∙ ap (λ c. entering journal (record { core = c; lane = e.actor.lane }) (event.Enter l.id.seq)) (same_core_is e.actor.core l.id.core both.0)
        ∙ ap (λ b. if b then None else pei_of journal l.id) stays ∙ (look_tracked m s journal g l i).found

pub entered_apart : (m : MachineSpec) (s : State) (journal : List Event) (l : PeiLook) → Agrees m s journal → IsTrue (list_all (λ q. not (conflicts m l.block l.op q.block q.op)) (entered_peis journal)) → entry_is_taken m s l ≡ false
entered_apart m s journal l g h = none_of s.peis (λ q i. i)
  where
    apart : (q : PeiLook) → In q s.peis → (b : Bool) → is_past_issue q ≡ b → (is_past_issue q && conflicts m l.block l.op q.block q.op) ≡ false
    apart q i false e = rw e refl
    apart q i true e =
        ap (λ b. b && conflicts m l.block l.op q.block q.op) e
        ∙ not-true (conflicts m l.block l.op q.block q.op)
        (each_of (λ p. not (conflicts m l.block l.op p.block p.op) ≡ true) (entered_peis journal) (as_issued q) (all_true (λ p. not (conflicts m l.block l.op p.block p.op)) (entered_peis journal) h) (enters_there m s journal q g i e))

    none_of : (ls : List PeiLook) → ((q : PeiLook) → In q ls → In q s.peis) → list_any (λ q. is_past_issue q && conflicts m l.block l.op q.block q.op) ls ≡ false
    none_of [] sub = refl
    none_of (q ∷ ls) sub = rw (apart q (sub q (inl refl)) (is_past_issue q) refl) (none_of ls (λ k j. sub k (inr j)))

-- ---- a PEI that is to enter

pub alone_agrees : (m : MachineSpec) (s : State) (journal : List Event) (a : Actor) (seq : ℕ) → Agrees m s journal → LanesApart s → FollowsPei journal a (event.Enter seq) seq → EntersAlone m journal a (event.Enter seq) ↔ EntersFree m s a (event.Enter seq)
alone_agrees m s journal a seq g apart follows = (free, alone)
  where
    r : (l : PeiLook) × (look_of s (pei_id a seq) ≡ Some l) × (same_lane l.lane a.lane ≡ true) × (follows_phase l.phase (event.Enter seq) ≡ true)
    r = look_follows m s journal g a (event.Enter seq) seq follows

    l : PeiLook
    l = r.0

    seen : In l s.peis × (same_pei l.id (pei_id a seq) ≡ true)
    seen = find_Some (λ q. same_pei q.id (pei_id a seq)) s.peis l r.1

    named : l.id ≡ pei_id a seq
    named = same_pei_is l.id (pei_id a seq) seen.1

    issued : pei_of journal (pei_id a seq) ≡ Some (as_issued l)
    issued = ap (pei_of journal) (sym named) ∙ (look_tracked m s journal g l seen.0).found

    in_lane : same_core l.id.core a.core ≡ true
    in_lane = ap (λ id. same_core id.core a.core) named ∙ same_self a.core.0

    -- the PEI is the one in the actor's lane
    own : (p : PeiLook) → look_in s a.core a.lane ≡ Some p → p ≡ l
    own p h =
        let found = find_Some (λ z. same_core z.id.core a.core && same_lane z.lane a.lane) s.peis p h
        in let both = and_parts (same_core p.id.core a.core) (same_lane p.lane a.lane) found.1
        in apart p l found.0 seen.0 (ap₂ (λ c d. same_core c d) (same_core_is p.id.core a.core both.0) (same_core_is l.id.core a.core in_lane) ∙ same_self a.core.0)
        (ap₂ (λ c d. same_lane c d) (same_lane_is p.lane a.lane both.1) (same_lane_is l.lane a.lane r.2) ∙ same_self a.lane.0)

    there : (y : PeiLook) × (look_in s a.core a.lane ≡ Some y)
    there = find_first (λ z. same_core z.id.core a.core && same_lane z.lane a.lane) s.peis l seen.0 (rw (in_lane, r.2) refl)

    here : look_in s a.core a.lane ≡ Some l
    here = there.1 ∙ ap Some (own there.0 there.1)

    free : EntersAlone m journal a (event.Enter seq) → EntersFree m s a (event.Enter seq)
    free h p i =
        subst (λ q. entry_is_taken m s q ≡ false) (sym (own p i))
        ((exclusion_agrees m s journal l g).0 (subst (λ o. IfSome o (λ q. IsTrue (list_all (λ z. not (conflicts m q.block q.op z.block z.op)) (active_peis journal)))) issued h))

    alone : EntersFree m s a (event.Enter seq) → EntersAlone m journal a (event.Enter seq)
    alone h = subst (λ o. IfSome o (λ q. IsTrue (list_all (λ z. not (conflicts m q.block q.op z.block z.op)) (active_peis journal)))) (sym issued) ((exclusion_agrees m s journal l g).1 (h l here))
