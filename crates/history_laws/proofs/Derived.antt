-- What follows where a state and a history agree.
use Rattle.std.proofs.Common.{ℕ, MatchOption, ◌≡◌, ◌↔◌, ◌<◌, Bool, true, false, not, ◌&&◌, ◌||◌, if◌then◌else◌, List, [], ◌∷◌, map, filter, find, Option, Some, None, option_map, IsTrue, AllPairs, get_or, refl, sym, ◌∙◌, ap, ap₂, subst, arith, nat_lt, eqb, eqb-true, ltb-true, ltb-false}
use Rattle.std.specs.List.{list_all, AllByRecursion}
use Rattle.std.proofs.lemmas.List.Folds.{list_all-map}
use Rattle.pei_types.specs.declared.identifiers.Actor.{Actor}
use Rattle.pei_types.specs.declared.events.EventKind.{EventKind}
use Rattle.pei_types.specs.declared.identifiers.BlockNo.{BlockNo}
use Rattle.pei_types.specs.declared.identifiers.CoreId.{CoreId}
use Rattle.pei_types.specs.declared.identifiers.PeiId.{PeiId}
use Rattle.pei_types.specs.declared.inflight_looks.PeiLook.{PeiLook}
use Rattle.pei_types.specs.declared.inflight_looks.Phase.{Phase}
use Rattle.pei_types.specs.declared.inflight_looks.Phase.TheVariants as phase
use Rattle.pei_types.specs.declared.events.Event.{Event}
use Rattle.pei_types.specs.declared.machines.MachineSpec.{MachineSpec}
use Rattle.pei_types.specs.Blocks.{same_lane, same_block, same_core, same_pei}
use Rattle.pei_types.specs.Calls.{all_left, FollowsPei, follows_phase}
use Rattle.pei_types.specs.MachineState.{look_of, pei_id, State, conflict, first_unentered, first_unfinished, is_phase, fence_of}
use Rattle.pei_types.specs.Fence.{earlier_writers_left}
use Rattle.pei_types.specs.History.{Pei, issued_peis, pei_of, phase_of, has_entered, has_left, unfinished_peis, active_peis, before_fence}
use Rattle.pei_types.specs.Operation.{is_writer}
use Rattle.pei_types.specs.Race.{racing_pei}
use Rattle.history_laws.specs.TrackedPeis.{as_issued, is_past_issue, issue_count, fence_is_on, writers_awaited, fence_in, IsTracked, Agrees}
use Rattle.history_laws.specs.Members.{In}
use Rattle.history_laws.proofs.Lists.{find_Some, find_first, in_map, each_of, find-map, find_agree, filter-map, filter_agree_each, find_None, all_in, filter_in, map_in}
use Rattle.history_laws.proofs.Agree.{phase_none}
use Rattle.std.proofs.Math.Bool.{not-not}
use Rattle.std.proofs.lemmas.Bool.{and_parts}
use Rattle.std.proofs.lemmas.Option.{same_Some}
use Rattle.pei_types.proofs.Identities.{same_pei_refl, same_pei_is}
use Rattle.pei_types.proofs.Lists.{all_true, each_weaker}

map_id_of : (o : Option PeiLook) → option_map (λ p. p.id) (option_map as_issued o) ≡ option_map (λ l. l.id) o
map_id_of None = refl
map_id_of (Some l) = refl

-- a search among the PEIs of the history is one among those of the state
pub search_agrees : (m : MachineSpec) (s : State) (journal : List Event) → Agrees m s journal → (test : Pei → Bool) → option_map (λ p. p.id) (find test (unfinished_peis journal)) ≡ option_map (λ l. l.id) (find (λ l. test (as_issued l)) s.peis)
search_agrees m s journal g test =
    ap (λ ps. option_map (λ p. p.id) (find test ps)) g.unfinished
    ∙ ap (option_map (λ p. p.id)) (find-map test as_issued s.peis)
    ∙ map_id_of (find (λ l. test (as_issued l)) s.peis)

-- the PEI that an access races with
pub conflict_agrees : (m : MachineSpec) (s : State) (journal : List Event) → Agrees m s journal → (b : BlockNo) (store : Bool) → conflict s b store ≡ racing_pei journal b store
conflict_agrees m s journal g b store = sym (search_agrees m s journal g (λ p. same_block p.block b && (store || is_writer p.op)))

-- a core's first PEI that has not left, and the first that has not entered
pub unfinished_agrees : (m : MachineSpec) (s : State) (journal : List Event) → Agrees m s journal → (c : CoreId) → first_unfinished s c ≡ option_map (λ p. p.id) (find (λ p. same_core p.id.core c) (unfinished_peis journal))
unfinished_agrees m s journal g c = sym (search_agrees m s journal g (λ p. same_core p.id.core c))

pub unentered_agrees : (m : MachineSpec) (s : State) (journal : List Event) → Agrees m s journal → (c : CoreId) → first_unentered s c ≡ option_map (λ p. p.id) (find (λ p. same_core p.id.core c && not (has_entered journal p.id)) (unfinished_peis journal))
unentered_agrees m s journal g c =
    ap (option_map (λ l. l.id))
    (find_agree (λ l. same_core l.id.core c && is_phase l.phase phase.Issued) (λ l. same_core l.id.core c && not (has_entered journal l.id)) s.peis
    (each_weaker (IsTracked journal) _ (λ l t. ap (λ x. same_core l.id.core c && x) (sym (ap not t.entered ∙ not-not (is_phase l.phase phase.Issued)))) s.peis g.tracked))
    ∙ sym (search_agrees m s journal g (λ p. same_core p.id.core c && not (has_entered journal p.id)))

-- the active PEIs are those past their issue
pub active_agrees : (m : MachineSpec) (s : State) (journal : List Event) → Agrees m s journal → active_peis journal ≡ map as_issued (filter is_past_issue s.peis)
active_agrees m s journal g =
    ap (filter (λ p. has_entered journal p.id)) g.unfinished
    ∙ filter-map (λ p. has_entered journal p.id) as_issued s.peis
    ∙ ap (map as_issued) (filter_agree_each (λ l. has_entered journal l.id) is_past_issue s.peis (each_weaker (IsTracked journal) _ (λ l t. t.entered) s.peis g.tracked))

-- every PEI of a core has left exactly where the state has none
all_left_so : (m : MachineSpec) (s : State) (journal : List Event) → Agrees m s journal → (c : CoreId) → first_unfinished s c ≡ None → IsTrue (all_left journal c)
all_left_so m s journal g c none =
    ap (list_all (λ p. not (same_core p.id.core c))) g.unfinished
    ∙ list_all-map (λ p. not (same_core p.id.core c)) as_issued s.peis
    ∙ all_in (λ l. not (same_core l.id.core c)) s.peis (λ l i. ap not (find_None (λ k. same_core k.id.core c) s.peis l (no_id (find (λ k. same_core k.id.core c) s.peis) none) i))
  where
    no_id : (o : Option PeiLook) → option_map (λ l. l.id) o ≡ None → o ≡ None
    no_id None h = refl
    no_id (Some l) h = absurd (cc h)

none_left_so : (m : MachineSpec) (s : State) (journal : List Event) → Agrees m s journal → (c : CoreId) → IsTrue (all_left journal c) → first_unfinished s c ≡ None
none_left_so m s journal g c left = by (find (λ k. same_core k.id.core c) s.peis) refl
  where
    each : AllByRecursion (λ l. not (same_core l.id.core c) ≡ true) s.peis
    each = all_true (λ l. not (same_core l.id.core c)) s.peis (sym (ap (list_all (λ p. not (same_core p.id.core c))) g.unfinished ∙ list_all-map (λ p. not (same_core p.id.core c)) as_issued s.peis) ∙ left)

    by : (o : Option PeiLook) → find (λ k. same_core k.id.core c) s.peis ≡ o → option_map (λ l. l.id) (find (λ k. same_core k.id.core c) s.peis) ≡ None
    by None e = ap (option_map (λ l. l.id)) e
    by (Some l) e =
        let seen = find_Some (λ k. same_core k.id.core c) s.peis l e
        in absurd (cc (sym (each_of (λ l. not (same_core l.id.core c) ≡ true) s.peis l each seen.0) ∙ ap not seen.1))

pub all_left_agrees : (m : MachineSpec) (s : State) (journal : List Event) → Agrees m s journal → (c : CoreId) → (first_unfinished s c ≡ None) ↔ IsTrue (all_left journal c)
all_left_agrees m s journal g c = (all_left_so m s journal g c, none_left_so m s journal g c)

-- a PEI that the state has is tracked
pub look_tracked : (m : MachineSpec) (s : State) (journal : List Event) → Agrees m s journal → (l : PeiLook) → In l s.peis → IsTracked journal l
look_tracked m s journal g l i = each_of (IsTracked journal) s.peis l g.tracked i

pub look_below : (m : MachineSpec) (s : State) (journal : List Event) → Agrees m s journal → (l : PeiLook) → In l s.peis → l.id.seq < issue_count l.id.core journal
look_below m s journal g l i = by (nat_lt l.id.seq (issue_count l.id.core journal)) refl
  where
    by : (b : Bool) → nat_lt l.id.seq (issue_count l.id.core journal) ≡ b → l.id.seq < issue_count l.id.core journal
    by true h = ltb-true l.id.seq (issue_count l.id.core journal) h
    by false h = absurd (cc (sym (look_tracked m s journal g l i).stands ∙ phase_none l.id journal None (g.unnamed l.id (ltb-false l.id.seq (issue_count l.id.core journal) h))))

-- a PEI of the state is issued, and has not left
pub look_unfinished : (m : MachineSpec) (s : State) (journal : List Event) → Agrees m s journal → (l : PeiLook) → In l s.peis → In (as_issued l) (unfinished_peis journal)
look_unfinished m s journal g l i = subst (λ ps. In (as_issued l) ps) (sym g.unfinished) (map_in as_issued s.peis l i)

-- the ids of issued PEIs are distinct
pub ids_distinct : (m : MachineSpec) (s : State) (journal : List Event) → Agrees m s journal → AllPairs (λ p q. same_pei p.id q.id ≡ false) (issued_peis journal)
ids_distinct m s journal g i j d less within = by (get_or (issued_peis journal) i d) (get_or (issued_peis journal) j d) (g.ordered i j d less within)
  where
    by : (p q : Pei) → (same_core p.id.core q.id.core ≡ true → p.id.seq < q.id.seq) → same_pei p.id q.id ≡ false
    by p q h = go (same_pei p.id q.id) refl
      where
        go : (b : Bool) → same_pei p.id q.id ≡ b → same_pei p.id q.id ≡ false
        go true k =
            let both = and_parts (same_core p.id.core q.id.core) (eqb p.id.seq q.id.seq) k
            in absurd (omega (arith, h both.0, eqb-true p.id.seq q.id.seq both.1))
        go false k = k

-- two PEIs of the state with one id are one
pub look_same : (m : MachineSpec) (s : State) (journal : List Event) → Agrees m s journal → (k l : PeiLook) → In k s.peis → In l s.peis → k.id ≡ l.id → k ≡ l
look_same m s journal g k l i j same =
    let tk = look_tracked m s journal g k i
    in let tl = look_tracked m s journal g l j
    in join k l (same_Some (as_issued k) (as_issued l) (sym tk.found ∙ ap (pei_of journal) same ∙ tl.found)) (same_Some k.phase l.phase (sym tk.stands ∙ ap (phase_of journal) same ∙ tl.stands))
  where
    of : Pei → Phase → PeiLook
    of p ph = record { id = p.id; lane = p.lane; op = p.op; block = p.block; operands = p.operands; phase = ph }

    join : (k l : PeiLook) → as_issued k ≡ as_issued l → k.phase ≡ l.phase → k ≡ l
    join k l e h = ap₂ of e h

-- ---- fences

fence_some : (c : CoreId) (journal : List Event) (ws : List PeiId) → fence_in c journal ≡ Some ws → (fence_is_on c journal ≡ true) × (writers_awaited c journal ≡ ws)
fence_some c journal ws h = by (fence_is_on c journal) refl h
  where
    by : (b : Bool) → fence_is_on c journal ≡ b → (if b then Some (writers_awaited c journal) else None) ≡ Some ws → (fence_is_on c journal ≡ true) × (writers_awaited c journal ≡ ws)
    by true e g = (e, same_Some (writers_awaited c journal) ws g)
    by false e g = absurd (cc g)

-- a fence that waits for none is on, and each writer issued before it began has left
pub fence_done : (m : MachineSpec) (s : State) (journal : List Event) → Agrees m s journal → (c : CoreId) → fence_of s c ≡ Some [] → (fence_is_on c journal ≡ true) × ((p : Pei) → In p (issued_peis (before_fence c journal)) → is_writer p.op ≡ true → has_left journal p.id ≡ true)
fence_done m s journal g c h =
    let both = fence_some c journal [] (sym (g.fences c) ∙ h)
    in (both.0, λ p i w. left p i w both.1 (has_left journal p.id) refl)
  where
    no_more : (ps : List Pei) (p : Pei) → map (λ q. q.id) ps ≡ [] → In p ps → ⊥
    no_more [] p e i = i
    no_more (q ∷ qs) p e i = absurd (cc e)

    left : (p : Pei) → In p (issued_peis (before_fence c journal)) → is_writer p.op ≡ true → writers_awaited c journal ≡ [] → (b : Bool) → has_left journal p.id ≡ b → has_left journal p.id ≡ true
    left p i w none true e = e
    left p i w none false e =
        absurd (no_more (filter (λ q. is_writer q.op) (filter (λ q. not (has_left journal q.id)) (issued_peis (before_fence c journal)))) p none
        (filter_in (λ q. is_writer q.op) (filter (λ q. not (has_left journal q.id)) (issued_peis (before_fence c journal))) p
        (filter_in (λ q. not (has_left journal q.id)) (issued_peis (before_fence c journal)) p i (ap not e)) w))

pub fence_ends_rightly : (m : MachineSpec) (s : State) (journal : List Event) → Agrees m s journal → (c : CoreId) → fence_of s c ≡ Some [] → IsTrue (earlier_writers_left journal c)
fence_ends_rightly m s journal g c h =
    all_in (λ p. not (is_writer p.op) || has_left journal p.id) (issued_peis (before_fence c journal)) (λ p i. by p i (is_writer p.op) refl)
  where
    by : (p : Pei) → In p (issued_peis (before_fence c journal)) → (w : Bool) → is_writer p.op ≡ w → (not w || has_left journal p.id) ≡ true
    by p i true e = (fence_done m s journal g c h).1 p i e
    by p i false e = refl

-- a fence that is on waits for none where each writer issued before it began has left
fence_waits_none : (m : MachineSpec) (s : State) (journal : List Event) → Agrees m s journal → (c : CoreId) → fence_is_on c journal ≡ true → IsTrue (earlier_writers_left journal c) → fence_of s c ≡ Some []
fence_waits_none m s journal g c on left =
    g.fences c ∙ ap (λ b. if b then Some (writers_awaited c journal) else None) on
    ∙ ap (λ ps. Some (map (λ p. p.id) ps)) (none_waits (issued_peis (before_fence c journal)) (all_true (λ p. not (is_writer p.op) || has_left journal p.id) (issued_peis (before_fence c journal)) left))
  where
    none_waits : (ps : List Pei) → AllByRecursion (λ p. (not (is_writer p.op) || has_left journal p.id) ≡ true) ps → filter (λ p. is_writer p.op) (filter (λ p. not (has_left journal p.id)) ps) ≡ []
    none_waits [] h = refl
    none_waits (p ∷ ps) h = by (has_left journal p.id) (is_writer p.op) refl refl (none_waits ps h.1)
      where
        by : (b w : Bool) → has_left journal p.id ≡ b → is_writer p.op ≡ w → filter (λ p. is_writer p.op) (filter (λ p. not (has_left journal p.id)) ps) ≡ [] → filter (λ p. is_writer p.op) (filter (λ p. not (has_left journal p.id)) (p ∷ ps)) ≡ []
        by true w e f rest = rw e rest
        by false false e f rest = rw (e, f) rest
        by false true e f rest = absurd (cc (sym h.0 ∙ ap₂ (λ y z. not y || z) f e))

pub fence_agrees : (m : MachineSpec) (s : State) (journal : List Event) → Agrees m s journal → (c : CoreId) → fence_is_on c journal ≡ true → (fence_of s c ≡ Some []) ↔ IsTrue (earlier_writers_left journal c)
fence_agrees m s journal g c on = (fence_ends_rightly m s journal g c, fence_waits_none m s journal g c on)

-- ---- from the history to the state

-- where a PEI of the history stands in a phase, the state has it
pub look_found : (m : MachineSpec) (s : State) (journal : List Event) → Agrees m s journal → (id : PeiId) (p : Pei) (ph : Phase) → pei_of journal id ≡ Some p → phase_of journal id ≡ Some ph → (l : PeiLook) × (look_of s id ≡ Some l) × (as_issued l ≡ p) × (l.phase ≡ ph)
look_found m s journal g id p ph found stands = by (has_left journal p.id) refl
  where
    issued : In p (issued_peis journal) × (same_pei p.id id ≡ true)
    issued = find_Some (λ q. same_pei q.id id) (issued_peis journal) p found

    named : p.id ≡ id
    named = same_pei_is p.id id issued.1

    by : (b : Bool) → has_left journal p.id ≡ b → (l : PeiLook) × (look_of s id ≡ Some l) × (as_issued l ≡ p) × (l.phase ≡ ph)
    by true h = absurd (cc (sym stands ∙ ap (phase_of journal) (sym named) ∙ g.left_gone p.id h))
    by false h =
        let x = in_map as_issued s.peis p (subst (In p) g.unfinished (filter_in (λ q. not (has_left journal q.id)) (issued_peis journal) p issued.0 (ap not h)))
        in let own : x.0.id ≡ id = ap (λ q. q.id) (sym x.2) ∙ named
        in let first = find_first (λ q. same_pei q.id id) s.peis x.0 x.1 (ap (λ d. same_pei d id) own ∙ same_pei_refl id)
        in let seen = find_Some (λ q. same_pei q.id id) s.peis first.0 first.1
        in let same : first.0 ≡ x.0 = look_same m s journal g first.0 x.0 seen.0 x.1 (same_pei_is first.0.id id seen.1 ∙ sym own)
        in (x.0, first.1 ∙ ap Some same, sym x.2, same_Some x.0.phase ph (sym (look_tracked m s journal g x.0 x.1).stands ∙ ap (phase_of journal) own ∙ stands))

-- where it stands in none, the state has it not
pub look_lost : (m : MachineSpec) (s : State) (journal : List Event) → Agrees m s journal → (id : PeiId) → phase_of journal id ≡ None → look_of s id ≡ None
look_lost m s journal g id gone = by (look_of s id) refl
  where
    by : (o : Option PeiLook) → look_of s id ≡ o → look_of s id ≡ None
    by None e = e
    by (Some l) e =
        let seen = find_Some (λ q. same_pei q.id id) s.peis l e
        in absurd (cc (sym (look_tracked m s journal g l seen.0).stands ∙ ap (phase_of journal) (same_pei_is l.id id seen.1) ∙ gone))

-- the PEI that an event is about is the state's, in the actor's lane and in the phase before
pub look_follows : (m : MachineSpec) (s : State) (journal : List Event) → Agrees m s journal → (a : Actor) (kind : EventKind) (seq : ℕ) → FollowsPei journal a kind seq → (l : PeiLook) × (look_of s (pei_id a seq) ≡ Some l) × (same_lane l.lane a.lane ≡ true) × (follows_phase l.phase kind ≡ true)
look_follows m s journal g a kind seq f = by (pei_of journal (pei_id a seq)) (phase_of journal (pei_id a seq)) refl refl f.0 f.1
  where
    by : (o : Option Pei) (q : Option Phase) → pei_of journal (pei_id a seq) ≡ o → phase_of journal (pei_id a seq) ≡ q → MatchOption o ⊥ (λ p. IsTrue (same_lane p.lane a.lane)) → MatchOption q ⊥ (λ ph. IsTrue (follows_phase ph kind)) → (l : PeiLook) × (look_of s (pei_id a seq) ≡ Some l) × (same_lane l.lane a.lane ≡ true) × (follows_phase l.phase kind ≡ true)
    by None q e h lane follow = absurd lane
    by (Some p) None e h lane follow = absurd follow
    by (Some p) (Some ph) e h lane follow =
        let r = look_found m s journal g (pei_id a seq) p ph e h
        in (r.0, r.1, ap (λ q. same_lane q.lane a.lane) r.2 ∙ lane, ap (λ q. follows_phase q kind) r.3 ∙ follow)
