-- The state and the history agree after one more event.
use Rattle.std.proofs.Common.{◌≡◌, ◌⊎◌, inl, inr, ℕ, suc, ◌+◌, ◌<◌, ◌≤◌, Bool, true, false, not, ◌&&◌, ◌||◌, if◌then◌else◌, List, [], ◌∷◌, ◌++◌, map, length, filter, find, fold, Option, Some, None, option_map, MatchOption, IsTrue, get_or, nat_lt, ltb-true, ltb-false, slice_index, slice_set, AllPairs, refl, sym, ◌∙◌, ap, ap₂, subst, arith, eq-eqb}
use Rattle.std.specs.List.{list_any, cons_option, AllByRecursion}
use Rattle.std.proofs.lemmas.List.{map_push, length_push, length-map, append-nil, get_or-set_same, get_or-set_other, length-set}
use Rattle.std.proofs.lemmas.List.Folds.{find-append}
use Rattle.std.proofs.lemmas.List.Elements.{filter-append, filter_agree}
use Rattle.std.proofs.lemmas.List.Quantifiers.{all_pairs_push}
use Rattle.std.proofs.lemmas.Option.{MatchOption-at_some, MatchOption-at_none}
use Rattle.pei_types.specs.declared.identifiers.Actor.{Actor}
use Rattle.pei_types.specs.declared.identifiers.CoreId.{CoreId}
use Rattle.pei_types.specs.declared.identifiers.Lane.{Lane}
use Rattle.pei_types.specs.declared.identifiers.BlockNo.{BlockNo}
use Rattle.pei_types.specs.declared.identifiers.PeiId.{PeiId}
use Rattle.pei_types.specs.declared.operations.Op.{Op}
use Rattle.pei_types.specs.declared.operations.Operands.{Operands}
use Rattle.pei_types.specs.declared.operations.Place.TheVariants as place
use Rattle.pei_types.specs.declared.inflight_looks.PeiLook.{PeiLook}
use Rattle.pei_types.specs.declared.inflight_looks.Phase.{Phase}
use Rattle.pei_types.specs.declared.inflight_looks.Phase.TheVariants as phase
use Rattle.pei_types.specs.declared.events.Event.{Event}
use Rattle.pei_types.specs.declared.events.EventKind.{EventKind}
use Rattle.pei_types.specs.declared.events.EventKind.TheVariants as event
use Rattle.pei_types.specs.declared.machines.MachineSpec.{MachineSpec}
use Rattle.pei_types.specs.Blocks.{same_core, same_pei}
use Rattle.pei_types.specs.Calls.{follows_phase}
use Rattle.pei_types.specs.MachineState.{State, fence_of, is_phase, with_phase, pei_id, unfinished_writers}
use Rattle.pei_types.specs.History.{Pei, issued_peis, pei_issued_by, pei_of, phase_of, phase_after, is_about, seq_named, is_number, is_enter, is_act, is_leave, has_entered, has_acted, has_left, unfinished_peis, begins_fence, ends_fence, before_fence}
use Rattle.pei_types.specs.Operation.{is_writer}
use Rattle.pei_types.specs.Recency.{change_at, without}
use Rattle.history_laws.specs.TrackedPeis.{as_issued, issued_by, issue_count, fence_is_on, writers_awaited, fence_in, IsTracked, Agrees}
use Rattle.history_laws.specs.Members.{In}
use Rattle.history_laws.proofs.Lists.{any_none, each_kept, get_or_in, get_or-map_default, get_or-change_at_same, get_or-change_at_other, or_parts_cases, filter-map, filter-filter, map-map}
use Rattle.history_laws.proofs.Grows.{and-true, leaves, enters, acts, has_left-push, has_entered-push, has_acted-push, named-push, leaves_about, enters_about, acts_about, left_kept, entered_kept, acted_kept, phase_kept, phase_set, pei_kept, issued_kept, issued_more, left_none, left_more, unfinished_kept, unfinished_left, fence_is_on-push, before_fence_kept, before_fence_here, fence_kept}
use Rattle.std.proofs.lemmas.Bool.{not-true, and_parts, or_parts, or_right}
use Rattle.pei_types.proofs.Identities.{same_pei_refl, same_pei_is, same_pei_sym, same_core_is}
use Rattle.std.proofs.Math.Bool.{or-false, and-false}
use Rattle.pei_types.proofs.Lists.{length-change_at, each_map, each_weaker, each_append}
use Rattle.pei_types.proofs.Tests.{same_self}

-- ---- names

make_core : ℕ → CoreId
make_core c = record { 0 = c }

-- ---- what has no event about it

pub phase_none : (id : PeiId) (events : List Event) (ph : Option Phase) → list_any (is_about id) events ≡ false → fold (λ x e. if is_about id e then phase_after e.kind else x) ph events ≡ ph
phase_none id [] ph h = refl
phase_none id (e ∷ events) ph h = by (is_about id e) refl h (phase_none id events)
  where
    by : (b : Bool) → is_about id e ≡ b → (b || list_any (is_about id) events) ≡ false → ((q : Option Phase) → list_any (is_about id) events ≡ false → fold (λ x y. if is_about id y then phase_after y.kind else x) q events ≡ q) → fold (λ x y. if is_about id y then phase_after y.kind else x) (if b then phase_after e.kind else ph) events ≡ ph
    by true q g rest = absurd (cc g)
    by false q g rest = rest ph g

pei_step : (id : PeiId) (a : Actor) (kind : EventKind) (ps : List Pei) → find (λ q. same_pei q.id id) ps ≡ None → (same_core a.core id.core && is_number (seq_named kind) id.seq) ≡ false → find (λ q. same_pei q.id id) (cons_option (pei_issued_by a kind) ps) ≡ None
pei_step id a (event.Issue seq lane o block operands) ps rest h = rw h rest
pei_step id a _ ps rest h = rest

pub pei_none : (id : PeiId) (events : List Event) → list_any (is_about id) events ≡ false → pei_of events id ≡ None
pei_none id [] h = refl
pei_none id (e ∷ events) h =
    let both = or_parts (is_about id e) (list_any (is_about id) events) h
    in pei_step id e.actor e.kind (issued_peis events) (pei_none id events both.1) both.0

-- a PEI that was issued is named
named_step : (a : Actor) (kind : EventKind) (ps : List Pei) (p : Pei) → In p (cons_option (pei_issued_by a kind) ps) → ((same_core a.core p.id.core && is_number (seq_named kind) p.id.seq) ≡ true) ⊎ In p ps
named_step a (event.Issue seq lane o block operands) ps p (inl e) = inl (rw e (same_pei_refl (pei_id a seq)))
named_step a (event.Issue seq lane o block operands) ps p (inr i) = inr i
named_step a _ ps p i = inr i

pub issued_named : (events : List Event) (p : Pei) → In p (issued_peis events) → list_any (is_about p.id) events ≡ true
issued_named [] p i = absurd i
issued_named (e ∷ events) p i = by (named_step e.actor e.kind (issued_peis events) p i) (issued_named events p)
  where
    by : ((is_about p.id e ≡ true) ⊎ In p (issued_peis events)) → (In p (issued_peis events) → list_any (is_about p.id) events ≡ true) → (is_about p.id e || list_any (is_about p.id) events) ≡ true
    by (inl h) rest = rw h refl
    by (inr j) rest = or_right (is_about p.id e) (list_any (is_about p.id) events) (rest j)

-- a PEI whose phase is Acted has acted
acted_kind : (kind : EventKind) (b : Bool) (n : ℕ) → b ≡ true → phase_after kind ≡ Some phase.Acted → is_number (seq_named kind) n ≡ true → (b && is_act kind n) ≡ true
acted_kind (event.Act seq reply) b n t h k = rw t k
acted_kind (event.Place seq place.Host) b n t h k = absurd (cc h)
acted_kind (event.Place seq place.Memory) b n t h k = absurd (cc h)
acted_kind _ b n t h k = absurd (cc h)

acted_since : (id : PeiId) (events : List Event) (ph : Option Phase) → fold (λ x e. if is_about id e then phase_after e.kind else x) ph events ≡ Some phase.Acted → (ph ≡ Some phase.Acted) ⊎ (has_acted events id ≡ true)
acted_since id [] ph h = inl h
acted_since id (e ∷ events) ph h = by (acted_since id events (if is_about id e then phase_after e.kind else ph) h)
  where
    one : (b : Bool) → is_about id e ≡ b → (if b then phase_after e.kind else ph) ≡ Some phase.Acted → (ph ≡ Some phase.Acted) ⊎ ((acts id e || has_acted events id) ≡ true)
    one true q g =
        let both = and_parts (same_core e.actor.core id.core) (is_number (seq_named e.kind) id.seq) q
        in inr (rw (acted_kind e.kind (same_core e.actor.core id.core) id.seq both.0 g both.1) refl)
    one false q g = inl g

    by : ((if is_about id e then phase_after e.kind else ph) ≡ Some phase.Acted) ⊎ (has_acted events id ≡ true) → (ph ≡ Some phase.Acted) ⊎ ((acts id e || has_acted events id) ≡ true)
    by (inl g) = one (is_about id e) refl g
    by (inr g) = inr (or_right (acts id e) (has_acted events id) g)

pub acted_by_phase : (events : List Event) (id : PeiId) → phase_of events id ≡ Some phase.Acted → has_acted events id ≡ true
acted_by_phase events id h = by (acted_since id events None h)
  where
    by : (None ≡ Some phase.Acted) ⊎ (has_acted events id ≡ true) → has_acted events id ≡ true
    by (inl g) = absurd (cc g)
    by (inr g) = g

-- ---- one PEI

pub tracked_kept : (journal : List Event) (e : Event) (l : PeiLook) → is_about l.id e ≡ false → IsTracked journal l → IsTracked (journal ++ e ∷ []) l
tracked_kept journal e l h t =
    record {
      stands = phase_kept journal e l.id h ∙ t.stands;
      found = pei_kept journal e l.id (as_issued l) t.found;
      entered = entered_kept journal e l.id h ∙ t.entered;
      acted = acted_kept journal e l.id h ∙ t.acted;
    }

-- the same PEI in another phase
abbrev pub moved : Phase → PeiLook → PeiLook
moved ph l = record l { phase = ph }

-- What an event that moves a PEI on to a phase does. It is no issue and no leave, and no fence.
pub record Moves (kind : EventKind) (seq : ℕ) (ph : Phase) : Type 0 where
  pub names : seq_named kind ≡ Some seq
  pub after : phase_after kind ≡ Some ph
  pub issues : (a : Actor) → pei_issued_by a kind ≡ None
  pub leave : (n : ℕ) → is_leave kind n ≡ false
  pub enters : (from : Phase) → follows_phase from kind ≡ true → (not (is_phase from phase.Issued) || is_enter kind seq) ≡ not (is_phase ph phase.Issued)
  pub acts : (from : Phase) → follows_phase from kind ≡ true → (is_phase from phase.Acted || is_act kind seq) ≡ is_phase ph phase.Acted
  pub begins : (c : CoreId) (a : Actor) → begins_fence c (record { actor = a; kind = kind }) ≡ false
  pub ends : (c : CoreId) (a : Actor) → ends_fence c (record { actor = a; kind = kind }) ≡ false

tracked_moved : (journal : List Event) (a : Actor) (kind : EventKind) (seq : ℕ) (ph : Phase) (l : PeiLook) → Moves kind seq ph → l.id ≡ pei_id a seq → follows_phase l.phase kind ≡ true → IsTracked journal l → IsTracked (journal ++ record { actor = a; kind = kind } ∷ []) (moved ph l)
tracked_moved journal a kind seq ph l moves same follows t =
    let e : Event = record { actor = a; kind = kind }
    in let about : is_about l.id e ≡ true = rw (same, moves.names) (same_pei_refl (pei_id a seq))
    in let core : same_core a.core l.id.core ≡ true = rw same (same_self a.core.0)
    in record {
      stands = phase_set journal e l.id about ∙ moves.after;
      found = pei_kept journal e l.id (as_issued l) t.found;
      entered = has_entered-push journal e l.id ∙ rw (t.entered, core, same) (moves.enters l.phase follows);
      acted = has_acted-push journal e l.id ∙ rw (t.acted, core, same) (moves.acts l.phase follows);
    }

tracked_step : (journal : List Event) (a : Actor) (kind : EventKind) (seq : ℕ) (ph : Phase) → Moves kind seq ph → MatchOption (phase_of journal (pei_id a seq)) ⊥ (λ from. IsTrue (follows_phase from kind)) → (l : PeiLook) → IsTracked journal l → IsTracked (journal ++ record { actor = a; kind = kind } ∷ []) (with_phase (pei_id a seq) ph l)
tracked_step journal a kind seq ph moves follows l t = by (same_pei l.id (pei_id a seq)) refl
  where
    by : (b : Bool) → same_pei l.id (pei_id a seq) ≡ b → IsTracked (journal ++ record { actor = a; kind = kind } ∷ []) (if b then moved ph l else l)
    by true h =
        let same = same_pei_is l.id (pei_id a seq) h
        in tracked_moved journal a kind seq ph l moves same (MatchOption-at_some ⊥ (λ from. IsTrue (follows_phase from kind)) l.phase (ap (phase_of journal) (sym same) ∙ t.stands) follows) t
    by false h =
        tracked_kept journal (record { actor = a; kind = kind }) l (rw moves.names (same_pei_sym (pei_id a seq) l.id ∙ h)) t

-- ---- all PEIs

pub acted_stays : (journal : List Event) (e : Event) (id : PeiId) → has_acted journal id ≡ true → has_acted (journal ++ e ∷ []) id ≡ true
acted_stays journal e id h = has_acted-push journal e id ∙ rw h refl

pub left_stays : (journal : List Event) (e : Event) (id : PeiId) → has_left journal id ≡ true → has_left (journal ++ e ∷ []) id ≡ true
left_stays journal e id h = has_left-push journal e id ∙ rw h refl

counts_kept : (journal : List Event) (e : Event) (c : CoreId) → pei_issued_by e.actor e.kind ≡ None → issue_count c (journal ++ e ∷ []) ≡ issue_count c journal
counts_kept journal e c h = ap (λ ps. length (filter (λ p. same_core p.id.core c) ps)) (issued_kept journal e h)

-- an event that names only PEIs that were named before
unnamed_kept : (journal : List Event) (e : Event) → pei_issued_by e.actor e.kind ≡ None → ((id : PeiId) → is_about id e ≡ true → list_any (is_about id) journal ≡ true) → ((id : PeiId) → issue_count id.core journal ≤ id.seq → list_any (is_about id) journal ≡ false) → (id : PeiId) → issue_count id.core (journal ++ e ∷ []) ≤ id.seq → list_any (is_about id) (journal ++ e ∷ []) ≡ false
unnamed_kept journal e none names before id h = named-push journal e id ∙ rw unnamed (by (is_about id e) refl)
  where
    unnamed : list_any (is_about id) journal ≡ false
    unnamed = before id (subst (λ n. n ≤ id.seq) (counts_kept journal e id.core none) h)

    by : (b : Bool) → is_about id e ≡ b → is_about id e ≡ false
    by true q = absurd (cc (sym (names id q) ∙ unnamed))
    by false q = q

-- a PEI with a phase is named
phase_named : (journal : List Event) (id : PeiId) (kind : EventKind) → MatchOption (phase_of journal id) ⊥ (λ from. IsTrue (follows_phase from kind)) → list_any (is_about id) journal ≡ true
phase_named journal id kind h = by (list_any (is_about id) journal) refl
  where
    by : (b : Bool) → list_any (is_about id) journal ≡ b → list_any (is_about id) journal ≡ true
    by true q = q
    by false q = absurd (MatchOption-at_none ⊥ (λ from. IsTrue (follows_phase from kind)) (phase_none id journal None q) h)

-- an event about a PEI names its own core's
about_own : (journal : List Event) (a : Actor) (kind : EventKind) (seq : ℕ) → seq_named kind ≡ Some seq → list_any (is_about (pei_id a seq)) journal ≡ true → (id : PeiId) → is_about id (record { actor = a; kind = kind }) ≡ true → list_any (is_about id) journal ≡ true
about_own journal a kind seq names named id h =
    let same : same_pei (pei_id a seq) id ≡ true = subst (λ o. (same_core a.core id.core && is_number o id.seq) ≡ true) names h
    in subst (λ i. list_any (is_about i) journal ≡ true) (same_pei_is (pei_id a seq) id same) named

left_acted_kept : (journal : List Event) (e : Event) → ((id : PeiId) → leaves id e ≡ false) → ((id : PeiId) → has_left journal id ≡ true → has_acted journal id ≡ true) → (id : PeiId) → has_left (journal ++ e ∷ []) id ≡ true → has_acted (journal ++ e ∷ []) id ≡ true
left_acted_kept journal e none before id h = acted_stays journal e id (before id (sym (left_kept journal e id (none id)) ∙ h))

-- a PEI that has left has no phase after an event of PEIs that have one
left_gone_kept : (journal : List Event) (e : Event) → ((id : PeiId) → leaves id e ≡ false) → ((id : PeiId) → is_about id e ≡ true → phase_of journal id ≡ None → ⊥) → ((id : PeiId) → has_left journal id ≡ true → phase_of journal id ≡ None) → (id : PeiId) → has_left (journal ++ e ∷ []) id ≡ true → phase_of (journal ++ e ∷ []) id ≡ None
left_gone_kept journal e none names before id h = by (is_about id e) refl
  where
    gone : phase_of journal id ≡ None
    gone = before id (sym (left_kept journal e id (none id)) ∙ h)

    by : (b : Bool) → is_about id e ≡ b → phase_of (journal ++ e ∷ []) id ≡ None
    by true q = absurd (names id q gone)
    by false q = phase_kept journal e id q ∙ gone

pub as_issued_moved : (id : PeiId) (ph : Phase) (ls : List PeiLook) → map as_issued (map (with_phase id ph) ls) ≡ map as_issued ls
as_issued_moved id ph [] = refl
as_issued_moved id ph (l ∷ ls) = ap₂ (λ p ps. p ∷ ps) (by (same_pei l.id id)) (as_issued_moved id ph ls)
  where
    by : (b : Bool) → as_issued (if b then moved ph l else l) ≡ as_issued l
    by true = refl
    by false = refl

-- a PEI moves on
pub agrees_moved : (m : MachineSpec) (s t : State) (journal : List Event) (a : Actor) (kind : EventKind) (seq : ℕ) (ph : Phase) → Moves kind seq ph → t.peis ≡ map (with_phase (pei_id a seq) ph) s.peis → t.issues ≡ s.issues → t.fences ≡ s.fences → MatchOption (phase_of journal (pei_id a seq)) ⊥ (λ from. IsTrue (follows_phase from kind)) → Agrees m s journal → Agrees m t (journal ++ record { actor = a; kind = kind } ∷ [])
agrees_moved m s t journal a kind seq ph moves peis issues fences follows g =
    let e : Event = record { actor = a; kind = kind }
    in let none_leaves : (id : PeiId) → leaves id e ≡ false = λ id. rw (moves.leave id.seq) (and-false (same_core a.core id.core))
    in record {
      unfinished = unfinished_kept journal e (moves.issues a) none_leaves ∙ g.unfinished ∙ sym (as_issued_moved (pei_id a seq) ph s.peis) ∙ ap (map as_issued) (sym peis);
      tracked = subst (λ ls. AllByRecursion (IsTracked (journal ++ e ∷ [])) ls) (sym peis) (each_map (IsTracked journal) (IsTracked (journal ++ e ∷ [])) (with_phase (pei_id a seq) ph) (tracked_step journal a kind seq ph moves follows) s.peis g.tracked);
      counts = λ c. ap (λ ns. slice_index ns c.0) issues ∙ g.counts c ∙ sym (counts_kept journal e c (moves.issues a));
      fences = λ c. ap (λ fs. get_or fs c.0 None) fences ∙ g.fences c ∙ sym (fence_kept c journal e (moves.begins c a) (moves.ends c a) none_leaves);
      cores_counted = ap length issues ∙ g.cores_counted;
      cores_fenced = ap length fences ∙ g.cores_fenced;
      unnamed = unnamed_kept journal e (moves.issues a) (about_own journal a kind seq moves.names (phase_named journal (pei_id a seq) kind follows)) g.unnamed;
      ordered = subst (AllPairs (λ p q. same_core p.id.core q.id.core ≡ true → p.id.seq < q.id.seq)) (sym (issued_kept journal e (moves.issues a))) g.ordered;
      left_acted = left_acted_kept journal e none_leaves g.left_acted;
      left_gone = left_gone_kept journal e none_leaves has_phase g.left_gone;
    }
  where
    has_phase : (id : PeiId) → is_about id (record { actor = a; kind = kind }) ≡ true → phase_of journal id ≡ None → ⊥
    has_phase id about gone =
        let same : same_pei (pei_id a seq) id ≡ true = subst (λ o. (same_core a.core id.core && is_number o id.seq) ≡ true) moves.names about
        in MatchOption-at_none ⊥ (λ from. IsTrue (follows_phase from kind)) (ap (phase_of journal) (same_pei_is (pei_id a seq) id same) ∙ gone) follows

-- What an event does that is about no PEI and no fence.
pub record IsQuiet (kind : EventKind) : Type 0 where
  pub names : seq_named kind ≡ None
  pub issues : (a : Actor) → pei_issued_by a kind ≡ None
  pub leave : (n : ℕ) → is_leave kind n ≡ false

-- the state's PEIs, counts and fences are as before
pub record Keeps (s t : State) : Type 0 where
  pub peis : t.peis ≡ s.peis
  pub issues : t.issues ≡ s.issues
  pub fences : t.fences ≡ s.fences

quiet_about : (kind : EventKind) (b : Bool) (n : ℕ) → IsQuiet kind → (b && is_number (seq_named kind) n) ≡ false
quiet_about kind b n q = rw q.names (and-false b)

-- an event that is about no PEI, with what it does to the fences
agrees_beside : (m : MachineSpec) (s t : State) (journal : List Event) (a : Actor) (kind : EventKind) → IsQuiet kind → t.peis ≡ s.peis → t.issues ≡ s.issues → ((c : CoreId) → fence_of t c ≡ fence_in c (journal ++ record { actor = a; kind = kind } ∷ [])) → length t.fences ≡ m.cores → Agrees m s journal → Agrees m t (journal ++ record { actor = a; kind = kind } ∷ [])
agrees_beside m s t journal a kind quiet peis issues fences cores g =
    let e : Event = record { actor = a; kind = kind }
    in let none_leaves : (id : PeiId) → leaves id e ≡ false = λ id. rw (quiet.leave id.seq) (and-false (same_core a.core id.core))
    in let none_about : (id : PeiId) → is_about id e ≡ false = λ id. quiet_about kind (same_core a.core id.core) id.seq quiet
    in record {
      unfinished = unfinished_kept journal e (quiet.issues a) none_leaves ∙ g.unfinished ∙ ap (map as_issued) (sym peis);
      tracked = subst (λ ls. AllByRecursion (IsTracked (journal ++ e ∷ [])) ls) (sym peis) (each_weaker (IsTracked journal) (IsTracked (journal ++ e ∷ [])) (λ l. tracked_kept journal e l (none_about l.id)) s.peis g.tracked);
      counts = λ c. ap (λ ns. slice_index ns c.0) issues ∙ g.counts c ∙ sym (counts_kept journal e c (quiet.issues a));
      fences = fences;
      cores_counted = ap length issues ∙ g.cores_counted;
      cores_fenced = cores;
      unnamed = unnamed_kept journal e (quiet.issues a) (λ id h. absurd (cc (sym h ∙ none_about id))) g.unnamed;
      ordered = subst (AllPairs (λ p q. same_core p.id.core q.id.core ≡ true → p.id.seq < q.id.seq)) (sym (issued_kept journal e (quiet.issues a))) g.ordered;
      left_acted = left_acted_kept journal e none_leaves g.left_acted;
      left_gone = left_gone_kept journal e none_leaves (λ id h. absurd (cc (sym h ∙ none_about id))) g.left_gone;
    }

-- an event of no PEI and no fence
pub agrees_quiet : (m : MachineSpec) (s t : State) (journal : List Event) (a : Actor) (kind : EventKind) → IsQuiet kind → ((c : CoreId) → begins_fence c (record { actor = a; kind = kind }) ≡ false) → ((c : CoreId) → ends_fence c (record { actor = a; kind = kind }) ≡ false) → Keeps s t → Agrees m s journal → Agrees m t (journal ++ record { actor = a; kind = kind } ∷ [])
agrees_quiet m s t journal a kind quiet begins ends keeps g =
    agrees_beside m s t journal a kind quiet keeps.peis keeps.issues
    (λ c. ap (λ fs. get_or fs c.0 None) keeps.fences ∙ g.fences c
    ∙ sym (fence_kept c journal (record { actor = a; kind = kind }) (begins c) (ends c) (λ id. rw (quiet.leave id.seq) (and-false (same_core a.core id.core)))))
    (ap length keeps.fences ∙ g.cores_fenced) g

-- ---- fences

quiet_begin : IsQuiet event.FenceBegin
quiet_begin = record { names = refl; issues = λ a. refl; leave = λ n. refl }

quiet_end : IsQuiet event.FenceEnd
quiet_end = record { names = refl; issues = λ a. refl; leave = λ n. refl }

-- the writers that the state has on their way are those of the history
writers_agree : (m : MachineSpec) (s : State) (journal : List Event) → Agrees m s journal → map (λ p. p.id) (filter (λ p. is_writer p.op) (unfinished_peis journal)) ≡ unfinished_writers s
writers_agree m s journal g =
    ap (λ ps. map (λ p. p.id) (filter (λ p. is_writer p.op) ps)) g.unfinished
    ∙ ap (map (λ p. p.id)) (filter-map (λ p. is_writer p.op) as_issued s.peis)
    ∙ map-map (λ p. p.id) as_issued (filter (λ l. is_writer l.op) s.peis)

pub fence_on_here : (journal : List Event) (a : Actor) → fence_is_on a.core (journal ++ record { actor = a; kind = event.FenceBegin } ∷ []) ≡ true
fence_on_here journal a = fence_is_on-push a.core journal (record { actor = a; kind = event.FenceBegin }) ∙ rw (same_self a.core.0) refl

pub fence_off_here : (journal : List Event) (a : Actor) → fence_is_on a.core (journal ++ record { actor = a; kind = event.FenceEnd } ∷ []) ≡ false
fence_off_here journal a = fence_is_on-push a.core journal (record { actor = a; kind = event.FenceEnd }) ∙ rw (same_self a.core.0) (and-false (fence_is_on a.core journal))

fence_in_here : (m : MachineSpec) (s : State) (journal : List Event) (a : Actor) → Agrees m s journal → fence_in a.core (journal ++ record { actor = a; kind = event.FenceBegin } ∷ []) ≡ Some (unfinished_writers s)
fence_in_here m s journal a g =
    let e : Event = record { actor = a; kind = event.FenceBegin }
    in ap (λ on. if on then Some (writers_awaited a.core (journal ++ e ∷ [])) else None) (fence_on_here journal a)
    ∙ ap Some (ap (λ ps. map (λ p. p.id) (filter (λ p. is_writer p.op) (filter (λ p. not (has_left (journal ++ e ∷ []) p.id)) (issued_peis ps)))) (before_fence_here a.core journal e (rw (same_self a.core.0) refl))
    ∙ ap (λ ps. map (λ p. p.id) (filter (λ p. is_writer p.op) ps)) (left_none journal e (issued_peis journal) (λ id. and-false (same_core a.core id.core)))
    ∙ writers_agree m s journal g)

fence_in_off : (journal : List Event) (a : Actor) → fence_in a.core (journal ++ record { actor = a; kind = event.FenceEnd } ∷ []) ≡ None
fence_in_off journal a = ap (λ on. if on then Some (writers_awaited a.core (journal ++ record { actor = a; kind = event.FenceEnd } ∷ [])) else None) (fence_off_here journal a)

pub not_same : (a b : CoreId) → same_core a b ≡ false → b.0 ≡ a.0 → ⊥
not_same a b h e = absurd (cc (sym h ∙ eq-eqb a.0 b.0 (sym e)))

pub agrees_begin : (m : MachineSpec) (s t : State) (journal : List Event) (a : Actor) → t.peis ≡ s.peis → t.issues ≡ s.issues → t.fences ≡ slice_set s.fences a.core.0 (Some (unfinished_writers s)) → a.core.0 < m.cores → Agrees m s journal → Agrees m t (journal ++ record { actor = a; kind = event.FenceBegin } ∷ [])
agrees_begin m s t journal a peis issues fences within g =
    agrees_beside m s t journal a event.FenceBegin quiet_begin peis issues (λ c. ap (λ fs. get_or fs c.0 None) fences ∙ by c (same_core a.core c) refl)
    (ap length fences ∙ length-set s.fences a.core.0 (Some (unfinished_writers s)) ∙ g.cores_fenced) g
  where
    by : (c : CoreId) (b : Bool) → same_core a.core c ≡ b → get_or (slice_set s.fences a.core.0 (Some (unfinished_writers s))) c.0 None ≡ fence_in c (journal ++ record { actor = a; kind = event.FenceBegin } ∷ [])
    by c true h =
        subst (λ d. get_or (slice_set s.fences a.core.0 (Some (unfinished_writers s))) d.0 None ≡ fence_in d (journal ++ record { actor = a; kind = event.FenceBegin } ∷ [])) (same_core_is a.core c h)
        (get_or-set_same s.fences a.core.0 (Some (unfinished_writers s)) None (subst (λ n. a.core.0 < n) (sym g.cores_fenced) within) ∙ sym (fence_in_here m s journal a g))
    by c false h =
        get_or-set_other s.fences a.core.0 c.0 (Some (unfinished_writers s)) None (not_same a.core c h) ∙ g.fences c
        ∙ sym (fence_kept c journal (record { actor = a; kind = event.FenceBegin }) (rw h refl) (and-false (same_core a.core c)) (λ id. and-false (same_core a.core id.core)))

pub agrees_end : (m : MachineSpec) (s t : State) (journal : List Event) (a : Actor) → t.peis ≡ s.peis → t.issues ≡ s.issues → t.fences ≡ slice_set s.fences a.core.0 None → a.core.0 < m.cores → Agrees m s journal → Agrees m t (journal ++ record { actor = a; kind = event.FenceEnd } ∷ [])
agrees_end m s t journal a peis issues fences within g =
    agrees_beside m s t journal a event.FenceEnd quiet_end peis issues (λ c. ap (λ fs. get_or fs c.0 None) fences ∙ by c (same_core a.core c) refl)
    (ap length fences ∙ length-set s.fences a.core.0 None ∙ g.cores_fenced) g
  where
    by : (c : CoreId) (b : Bool) → same_core a.core c ≡ b → get_or (slice_set s.fences a.core.0 None) c.0 None ≡ fence_in c (journal ++ record { actor = a; kind = event.FenceEnd } ∷ [])
    by c true h =
        subst (λ d. get_or (slice_set s.fences a.core.0 None) d.0 None ≡ fence_in d (journal ++ record { actor = a; kind = event.FenceEnd } ∷ [])) (same_core_is a.core c h)
        (get_or-set_same s.fences a.core.0 None None (subst (λ n. a.core.0 < n) (sym g.cores_fenced) within) ∙ sym (fence_in_off journal a))
    by c false h =
        get_or-set_other s.fences a.core.0 c.0 None None (not_same a.core c h) ∙ g.fences c
        ∙ sym (fence_kept c journal (record { actor = a; kind = event.FenceEnd }) (and-false (same_core a.core c)) (rw h refl) (λ id. and-false (same_core a.core id.core)))

-- ---- a PEI leaves

leave_about : (a : Actor) (seq : ℕ) (id : PeiId) → is_about id (record { actor = a; kind = event.Leave seq }) ≡ same_pei id (pei_id a seq)
leave_about a seq id = same_pei_sym (pei_id a seq) id

-- the awaited writers without the one that leaves
awaited_left : (c : CoreId) (journal : List Event) (a : Actor) (seq : ℕ) → writers_awaited c (journal ++ record { actor = a; kind = event.Leave seq } ∷ []) ≡ without (λ q. same_pei q (pei_id a seq)) (writers_awaited c journal)
awaited_left c journal a seq =
    let e : Event = record { actor = a; kind = event.Leave seq }
    in let ps : List Pei = issued_peis (before_fence c journal)
    in let unleft : List Pei = filter (λ p. not (has_left journal p.id)) ps
    in ap (λ qs. map (λ p. p.id) (filter (λ p. is_writer p.op) (filter (λ p. not (has_left (journal ++ e ∷ []) p.id)) (issued_peis qs)))) (before_fence_kept c journal e (and-false (same_core a.core c)))
    ∙ ap (λ qs. map (λ p. p.id) (filter (λ p. is_writer p.op) qs)) (left_more journal e ps)
    ∙ ap (map (λ p. p.id)) (filter-filter (λ p. is_writer p.op) (λ p. not (leaves p.id e)) unleft
    ∙ filter_agree (λ p. not (leaves p.id e) && is_writer p.op) (λ p. is_writer p.op && not (same_pei p.id (pei_id a seq))) (λ p. rw (leave_about a seq p.id) (and_swap (not (same_pei p.id (pei_id a seq))) (is_writer p.op))) unleft
    ∙ sym (filter-filter (λ p. not (same_pei p.id (pei_id a seq))) (λ p. is_writer p.op) unleft))
    ∙ sym (filter-map (λ q. not (same_pei q (pei_id a seq))) (λ p. p.id) (filter (λ p. is_writer p.op) unleft))
  where
    and_swap : (x y : Bool) → (x && y) ≡ (y && x)
    and_swap true true = refl
    and_swap true false = refl
    and_swap false true = refl
    and_swap false false = refl

fence_left : (c : CoreId) (journal : List Event) (a : Actor) (seq : ℕ) → fence_in c (journal ++ record { actor = a; kind = event.Leave seq } ∷ []) ≡ option_map (without (λ q. same_pei q (pei_id a seq))) (fence_in c journal)
fence_left c journal a seq =
    ap₂ (λ on ws. if on then Some ws else None)
    (fence_is_on-push c journal (record { actor = a; kind = event.Leave seq }) ∙ rw (and-false (same_core a.core c)) (and-true (fence_is_on c journal)))
    (awaited_left c journal a seq) ∙ by (fence_is_on c journal)
  where
    by : (b : Bool) → (if b then Some (without (λ q. same_pei q (pei_id a seq)) (writers_awaited c journal)) else None) ≡ option_map (without (λ q. same_pei q (pei_id a seq))) (if b then Some (writers_awaited c journal) else None)
    by true = refl
    by false = refl

pub agrees_left : (m : MachineSpec) (s t : State) (journal : List Event) (a : Actor) (seq : ℕ) → t.peis ≡ without (λ p. same_pei p.id (pei_id a seq)) s.peis → t.issues ≡ s.issues → t.fences ≡ map (option_map (without (λ q. same_pei q (pei_id a seq)))) s.fences → MatchOption (phase_of journal (pei_id a seq)) ⊥ (λ from. IsTrue (follows_phase from (event.Leave seq))) → Agrees m s journal → Agrees m t (journal ++ record { actor = a; kind = event.Leave seq } ∷ [])
agrees_left m s t journal a seq peis issues fences follows g =
    let e : Event = record { actor = a; kind = event.Leave seq }
    in let id : PeiId = pei_id a seq
    in record {
      unfinished =
          unfinished_left journal e refl ∙ ap (filter (λ p. not (leaves p.id e))) g.unfinished
          ∙ filter-map (λ p. not (leaves p.id e)) as_issued s.peis
          ∙ ap (map as_issued) (filter_agree (λ l. not (leaves l.id e)) (λ l. not (same_pei l.id id)) (λ l. ap not (leave_about a seq l.id)) s.peis)
          ∙ ap (map as_issued) (sym peis);
      tracked =
          subst (λ ls. AllByRecursion (IsTracked (journal ++ e ∷ [])) ls) (sym peis)
          (each_kept (IsTracked journal) (IsTracked (journal ++ e ∷ [])) (λ l. not (same_pei l.id id)) s.peis (λ l h. tracked_kept journal e l (leave_about a seq l.id ∙ not-true (same_pei l.id id) h)) g.tracked);
      counts = λ c. ap (λ ns. slice_index ns c.0) issues ∙ g.counts c ∙ sym (counts_kept journal e c refl);
      fences =
          λ c. ap (λ fs. get_or fs c.0 None) fences ∙ get_or-map_default (option_map (without (λ q. same_pei q id))) s.fences c.0 None
          ∙ ap (option_map (without (λ q. same_pei q id))) (g.fences c) ∙ sym (fence_left c journal a seq);
      cores_counted = ap length issues ∙ g.cores_counted;
      cores_fenced = ap length fences ∙ length-map s.fences (option_map (without (λ q. same_pei q id))) ∙ g.cores_fenced;
      unnamed = unnamed_kept journal e refl (about_own journal a (event.Leave seq) seq refl (phase_named journal id (event.Leave seq) follows)) g.unnamed;
      ordered = subst (AllPairs (λ p q. same_core p.id.core q.id.core ≡ true → p.id.seq < q.id.seq)) (sym (issued_kept journal e refl)) g.ordered;
      left_acted = λ i h. acted_stays journal e i (by i (or_parts_cases (has_left journal i) (leaves i e) (sym (has_left-push journal e i) ∙ h)));
      left_gone = λ i h. gone i h (is_about i e) refl;
    }
  where
    gone : (i : PeiId) → has_left (journal ++ record { actor = a; kind = event.Leave seq } ∷ []) i ≡ true → (b : Bool) → is_about i (record { actor = a; kind = event.Leave seq }) ≡ b → phase_of (journal ++ record { actor = a; kind = event.Leave seq } ∷ []) i ≡ None
    gone i h true q = phase_set journal (record { actor = a; kind = event.Leave seq }) i q
    gone i h false q = phase_kept journal (record { actor = a; kind = event.Leave seq }) i q ∙ g.left_gone i (sym (left_kept journal (record { actor = a; kind = event.Leave seq }) i q) ∙ h)

    phase_acted : (o : Option Phase) → MatchOption o ⊥ (λ from. IsTrue (follows_phase from (event.Leave seq))) → o ≡ Some phase.Acted
    phase_acted None h = absurd h
    phase_acted (Some phase.Acted) h = refl
    phase_acted (Some _) h = absurd (cc h)

    by : (i : PeiId) → (has_left journal i ≡ true) ⊎ (leaves i (record { actor = a; kind = event.Leave seq }) ≡ true) → has_acted journal i ≡ true
    by i (inl h) = g.left_acted i h
    by i (inr h) = subst (λ k. has_acted journal k ≡ true) (same_pei_is (pei_id a seq) i h) (acted_by_phase journal (pei_id a seq) (phase_acted (phase_of journal (pei_id a seq)) follows))

-- ---- an issue

-- what an issue of a machine's core has: the core's next number
pub record IsFresh (m : MachineSpec) (s : State) (a : Actor) (seq : ℕ) : Type 0 where
  pub within : a.core.0 < m.cores
  pub next : seq ≡ slice_index s.issues a.core.0

-- a PEI as it is issued
abbrev pub new_look : Actor → ℕ → Lane → Op → BlockNo → Operands → PeiLook
new_look a seq lane o b operands = record { id = pei_id a seq; lane = lane; op = o; block = b; operands = operands; phase = phase.Issued }

pub fresh_unnamed : (m : MachineSpec) (s : State) (journal : List Event) (a : Actor) (seq : ℕ) → IsFresh m s a seq → Agrees m s journal → list_any (is_about (pei_id a seq)) journal ≡ false
fresh_unnamed m s journal a seq f g = g.unnamed (pei_id a seq) (omega (arith, f.next, g.counts a.core))

fresh_not_left : (journal : List Event) (id : PeiId) → list_any (is_about id) journal ≡ false → has_left journal id ≡ false
fresh_not_left journal id h = any_none (leaves id) (is_about id) journal (λ e. leaves_about e.kind (same_core e.actor.core id.core) id.seq) h

fresh_not_entered : (journal : List Event) (id : PeiId) → list_any (is_about id) journal ≡ false → has_entered journal id ≡ false
fresh_not_entered journal id h = any_none (enters id) (is_about id) journal (λ e. enters_about e.kind (same_core e.actor.core id.core) id.seq) h

fresh_not_acted : (journal : List Event) (id : PeiId) → list_any (is_about id) journal ≡ false → has_acted journal id ≡ false
fresh_not_acted journal id h = any_none (acts id) (is_about id) journal (λ e. acts_about e.kind (same_core e.actor.core id.core) id.seq) h

-- a PEI on its way is not the fresh one
tracked_other : (journal : List Event) (id : PeiId) (l : PeiLook) → list_any (is_about id) journal ≡ false → IsTracked journal l → same_pei id l.id ≡ false
tracked_other journal id l fresh t = by (same_pei id l.id) refl
  where
    by : (b : Bool) → same_pei id l.id ≡ b → same_pei id l.id ≡ false
    by true h = absurd (cc (sym t.stands ∙ ap (phase_of journal) (sym (same_pei_is id l.id h)) ∙ phase_none id journal None fresh))
    by false h = h

tracked_new : (journal : List Event) (a : Actor) (seq : ℕ) (lane : Lane) (o : Op) (b : BlockNo) (operands : Operands) → list_any (is_about (pei_id a seq)) journal ≡ false → IsTracked (journal ++ record { actor = a; kind = event.Issue seq lane o b operands } ∷ []) (new_look a seq lane o b operands)
tracked_new journal a seq lane o b operands fresh =
    let e : Event = record { actor = a; kind = event.Issue seq lane o b operands }
    in let id : PeiId = pei_id a seq
    in record {
      stands = phase_set journal e id (same_pei_refl id);
      found =
          ap (find (λ q. same_pei q.id id)) (issued_more journal e (as_issued (new_look a seq lane o b operands)) refl)
          ∙ find-append (λ q. same_pei q.id id) (issued_peis journal) (as_issued (new_look a seq lane o b operands) ∷ [])
          ∙ rw (pei_none id journal fresh, same_pei_refl id) refl;
      entered = has_entered-push journal e id ∙ rw (fresh_not_entered journal id fresh) (and-false (same_core a.core a.core));
      acted = has_acted-push journal e id ∙ rw (fresh_not_acted journal id fresh) (and-false (same_core a.core a.core));
    }

pub issue_count_own : (journal : List Event) (a : Actor) (seq : ℕ) (lane : Lane) (o : Op) (b : BlockNo) (operands : Operands) → issue_count a.core (journal ++ record { actor = a; kind = event.Issue seq lane o b operands } ∷ []) ≡ issue_count a.core journal + 1
issue_count_own journal a seq lane o b operands =
    let p : Pei = as_issued (new_look a seq lane o b operands)
    in ap (λ ps. length (filter (λ q. same_core q.id.core a.core) ps)) (issued_more journal (record { actor = a; kind = event.Issue seq lane o b operands }) p refl)
    ∙ ap length (filter-append (λ q. same_core q.id.core a.core) (issued_peis journal) (p ∷ []))
    ∙ rw (same_self a.core.0) (length_push (issued_by a.core journal) p)

issue_count_other : (journal : List Event) (a : Actor) (seq : ℕ) (lane : Lane) (o : Op) (b : BlockNo) (operands : Operands) (c : CoreId) → same_core a.core c ≡ false → issue_count c (journal ++ record { actor = a; kind = event.Issue seq lane o b operands } ∷ []) ≡ issue_count c journal
issue_count_other journal a seq lane o b operands c h =
    let p : Pei = as_issued (new_look a seq lane o b operands)
    in ap (λ ps. length (filter (λ q. same_core q.id.core c) ps)) (issued_more journal (record { actor = a; kind = event.Issue seq lane o b operands }) p refl)
    ∙ ap length (filter-append (λ q. same_core q.id.core c) (issued_peis journal) (p ∷ []))
    ∙ rw h (ap length (append-nil (issued_by c journal)))

-- each PEI that was issued has a number below its core's count
pub issued_below : (m : MachineSpec) (s : State) (journal : List Event) → Agrees m s journal → (p : Pei) → In p (issued_peis journal) → p.id.seq < issue_count p.id.core journal
issued_below m s journal g p i = by (nat_lt p.id.seq (issue_count p.id.core journal)) refl
  where
    by : (b : Bool) → nat_lt p.id.seq (issue_count p.id.core journal) ≡ b → p.id.seq < issue_count p.id.core journal
    by true h = ltb-true p.id.seq (issue_count p.id.core journal) h
    by false h = absurd (cc (sym (issued_named journal p i) ∙ g.unnamed p.id (ltb-false p.id.seq (issue_count p.id.core journal) h)))

pub agrees_issued : (m : MachineSpec) (s t : State) (journal : List Event) (a : Actor) (seq : ℕ) (lane : Lane) (o : Op) (b : BlockNo) (operands : Operands) → t.peis ≡ s.peis ++ new_look a seq lane o b operands ∷ [] → t.issues ≡ change_at s.issues a.core.0 suc → t.fences ≡ s.fences → IsFresh m s a seq → Agrees m s journal → Agrees m t (journal ++ record { actor = a; kind = event.Issue seq lane o b operands } ∷ [])
agrees_issued m s t journal a seq lane o b operands peis issues fences f g =
    record {
      unfinished =
          ap (filter (λ q. not (has_left (journal ++ e ∷ []) q.id))) more
          ∙ filter-append (λ q. not (has_left (journal ++ e ∷ []) q.id)) (issued_peis journal) (p ∷ [])
          ∙ ap₂ (λ xs ys. xs ++ ys) (left_none journal e (issued_peis journal) (λ i. and-false (same_core a.core i.core)) ∙ g.unfinished) (rw (left_kept journal e id (and-false (same_core a.core a.core)) ∙ fresh_not_left journal id unnamed) refl)
          ∙ sym (map_push as_issued s.peis l) ∙ ap (map as_issued) (sym peis);
      tracked =
          subst (λ ls. AllByRecursion (IsTracked (journal ++ e ∷ [])) ls) (sym peis)
          (each_append (IsTracked (journal ++ e ∷ [])) s.peis (l ∷ []) (each_weaker (IsTracked journal) (IsTracked (journal ++ e ∷ [])) (λ k t. tracked_kept journal e k (tracked_other journal id k unnamed t) t) s.peis g.tracked) ((tracked_new journal a seq lane o b operands unnamed), tt));
      counts = λ c. ap (λ ns. slice_index ns c.0) issues ∙ count_of c (same_core a.core c) refl;
      fences = λ c. ap (λ fs. get_or fs c.0 None) fences ∙ g.fences c ∙ sym (fence_kept c journal e (and-false (same_core a.core c)) (and-false (same_core a.core c)) (λ i. and-false (same_core a.core i.core)));
      cores_counted = ap length issues ∙ length-change_at s.issues a.core.0 suc ∙ g.cores_counted;
      cores_fenced = ap length fences ∙ g.cores_fenced;
      unnamed = λ i h. named-push journal e i ∙ unnamed_of i (same_pei id i) refl h;
      ordered =
          subst (AllPairs (λ x y. same_core x.id.core y.id.core ≡ true → x.id.seq < y.id.seq)) (sym more)
          (all_pairs_push (λ x y. same_core x.id.core y.id.core ≡ true → x.id.seq < y.id.seq) (issued_peis journal) p g.ordered (λ k d h same. below (get_or (issued_peis journal) k d) (get_or_in (issued_peis journal) k d h) same));
      left_acted = left_acted_kept journal e (λ i. and-false (same_core a.core i.core)) g.left_acted;
      left_gone = λ i h. gone i (sym (left_kept journal e i (and-false (same_core a.core i.core))) ∙ h) (same_pei id i) refl;
    }
  where
    e : Event
    e = record { actor = a; kind = event.Issue seq lane o b operands }

    id : PeiId
    id = pei_id a seq

    l : PeiLook
    l = new_look a seq lane o b operands

    p : Pei
    p = as_issued (new_look a seq lane o b operands)

    more : issued_peis (journal ++ e ∷ []) ≡ issued_peis journal ++ p ∷ []
    more = issued_more journal e p refl

    unnamed : list_any (is_about (pei_id a seq)) journal ≡ false
    unnamed = fresh_unnamed m s journal a seq f g

    count_is : seq ≡ issue_count a.core journal
    count_is = f.next ∙ g.counts a.core

    gone : (i : PeiId) → has_left journal i ≡ true → (b : Bool) → same_pei id i ≡ b → phase_of (journal ++ e ∷ []) i ≡ None
    gone i h true q = absurd (cc (sym h ∙ ap (has_left journal) (sym (same_pei_is id i q)) ∙ fresh_not_left journal id unnamed))
    gone i h false q = phase_kept journal e i q ∙ g.left_gone i h

    count_of : (c : CoreId) (same : Bool) → same_core a.core c ≡ same → slice_index (change_at s.issues a.core.0 suc) c.0 ≡ issue_count c (journal ++ e ∷ [])
    count_of c true h =
        subst (λ d. slice_index (change_at s.issues a.core.0 suc) d.0 ≡ issue_count d (journal ++ e ∷ [])) (same_core_is a.core c h)
        (get_or-change_at_same s.issues a.core.0 suc 0 (subst (λ n. a.core.0 < n) (sym g.cores_counted) f.within) ∙ ap suc (g.counts a.core) ∙ one_more (issue_count a.core journal) ∙ sym (issue_count_own journal a seq lane o b operands))
      where
        one_more : (n : ℕ) → suc n ≡ n + 1
        one_more n = omega arith
    count_of c false h =
        get_or-change_at_other s.issues a.core.0 c.0 suc 0 (λ q. not_same a.core c h (sym q)) ∙ g.counts c ∙ sym (issue_count_other journal a seq lane o b operands c h)

    unnamed_of : (i : PeiId) (same : Bool) → same_pei id i ≡ same → issue_count i.core (journal ++ e ∷ []) ≤ i.seq → (list_any (is_about i) journal || same_pei id i) ≡ false
    unnamed_of i true h le =
        absurd (past (subst (λ k. issue_count k.core (journal ++ e ∷ []) ≤ k.seq) (sym (same_pei_is id i h)) le))
      where
        past : issue_count a.core (journal ++ e ∷ []) ≤ seq → ⊥
        past q = omega (arith, q, issue_count_own journal a seq lane o b operands, count_is)
    unnamed_of i false h le = rw (h, or-false (list_any (is_about i) journal)) (g.unnamed i (smaller (same_core a.core i.core) refl))
      where
        smaller : (same : Bool) → same_core a.core i.core ≡ same → issue_count i.core journal ≤ i.seq
        smaller true k =
            let c : a.core ≡ i.core = same_core_is a.core i.core k
            in let grown : issue_count i.core (journal ++ e ∷ []) ≡ issue_count i.core journal + 1 = subst (λ d. issue_count d (journal ++ e ∷ []) ≡ issue_count d journal + 1) c (issue_count_own journal a seq lane o b operands)
            in omega (arith, grown, le)
        smaller false k = subst (λ n. n ≤ i.seq) (issue_count_other journal a seq lane o b operands i.core k) le

    below : (q : Pei) → In q (issued_peis journal) → same_core q.id.core a.core ≡ true → q.id.seq < seq
    below q i same =
        let c : q.id.core ≡ a.core = same_core_is q.id.core a.core same
        in let h : q.id.seq < issue_count a.core journal = subst (λ d. q.id.seq < issue_count d journal) c (issued_below m s journal g q i)
        in omega (arith, h, count_is)
