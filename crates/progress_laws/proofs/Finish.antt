-- The oldest PEI acts and leaves.
use Rattle.std.proofs.Common.{◌≡◌, ℕ, zero, suc, ◌+◌, ◌-◌, ◌*◌, ◌<◌, ◌≤◌, Bool, true, false, not, List, [], ◌∷◌, ◌++◌, length, map, Option, Some, None, refl, sym, ◌∙◌, ap, ap₂, subst, arith, if◌then◌else◌}
use Rattle.std.specs.Prelude.{slice_index_or, ◌==◌, ◌&&◌, ◌||◌, option_map}
use Rattle.std.specs.List.{list_any}
use Rattle.pei_types.specs.declared.identifiers.PeiId.{PeiId}
use Rattle.pei_types.specs.declared.events.EventKind.{EventKind}
use Rattle.pei_types.specs.declared.events.EventKind.TheVariants as event
use Rattle.pei_types.specs.declared.inflight_looks.PeiLook.{PeiLook}
use Rattle.pei_types.specs.declared.inflight_looks.Phase.TheVariants as phase
use Rattle.pei_types.specs.declared.machines.MachineSpec.{MachineSpec}
use Rattle.pei_types.specs.declared.operations.Mode.{Mode}
use Rattle.pei_types.specs.Blocks.{same_pei}
use Rattle.pei_types.specs.Claims.{no_claims}
use Rattle.pei_types.specs.MachineState.{State, state_after, next_state, is_phase, fence_of, look_of}
use Rattle.pei_types.specs.Core.{CoreState, next_of_core, after_answer, Wait, wait_at, core_config}
use Rattle.pei_types.specs.Program.{Listing, Contents}
use Rattle.pei_types.specs.Schedule.{Run, LaneClaim, Free, Held, Spent, actors, with_lane_event, after_leave}
use Rattle.coherence_laws.specs.Sets.{Each}
use Rattle.history_laws.specs.Holders.{claim_at}
use Rattle.progress_laws.specs.Measure.{core_0, core_now, core_left, fence_left, next_left, lane_at, lane_ahead, stalls_until, phase_left, life_left, lives_left, release_left, turns_left}
use Rattle.progress_laws.specs.Serial.{SerialRun, HasNotEntered, OneWorks, ClaimsFirst, waiting_for, WaitsAct, FenceWaits, OwnsRead, is_to_act}
use Rattle.progress_laws.proofs.Places.{acting, with_claim_of, claim-other}
use Rattle.progress_laws.proofs.After.{After, has_place, event_after}
use Rattle.progress_laws.proofs.Core.{core_same}
use Rattle.progress_laws.proofs.Lane.{rest_waits}
use Rattle.progress_laws.proofs.Peis.{lives_of, IsInBuffer}
use Rattle.progress_laws.proofs.States.{acting_keeps}
use Rattle.pei_types.proofs.Lists.{each_weaker}
use Rattle.pei_types.specs.Core.{wait_after, at_stop}
use Rattle.pei_types.specs.Recency.{without}
use Rattle.pei_types.specs.declared.operations.Reply.{Reply}
use Rattle.pei_types.proofs.Identities.{same_pei_sym}
use Rattle.pei_types.proofs.Tests.{eqb_sym}
use Rattle.progress_laws.specs.Measure.{end_left}
use Rattle.progress_laws.proofs.After.{none_entered_works}
use Rattle.progress_laws.proofs.Core.{Runs, to_stop, core_push}
use Rattle.progress_laws.proofs.Peis.{leave_of_oldest}
use Rattle.progress_laws.proofs.Places.{actors_are, lane_below, stalls_within}
use Rattle.progress_laws.proofs.Working.{Working, at_phase, next_at_lane, unread, head_event, moves, id_is}

-- ---- the core

-- a core that runs on costs no more
pub runs_less : (m : MachineSpec) (s t : CoreState) → Runs s t → core_left m t ≤ core_left m s
runs_less m s t h =
    let more = h.more
    in let same : end_left t.ended t.raced ≡ end_left s.ended s.raced = ap₂ end_left h.stays.ended h.stays.raced
    in less m.fuel s.retired t.retired _ _ more same
  where
    less : (fuel r r' x y : ℕ) → r ≤ r' → y ≡ x → 23 * (fuel - r') + y ≤ 23 * (fuel - r) + x
    less fuel r r' x y p1 q1 = omega (arith, p1, q1)

-- ---- the act

still_waits : (seq : ℕ) (waits : List (Option Wait)) (r : ℕ) (w : Wait) → wait_at (map (wait_after seq) waits) r ≡ Some w → (wait_at waits r ≡ Some w) × ((w.seq == seq) ≡ false)
still_waits seq [] r w h = absurd (cc h)
still_waits seq (o ∷ waits) zero w h = go o h
  where
    some_wait : (a b : Wait) → Some a ≡ Some b → a ≡ b
    some_wait a b k = cc

    by : (v : Wait) (t : Bool) → (v.seq == seq) ≡ t → (if t then None else Some v) ≡ Some w → (Some v ≡ Some w) × ((w.seq == seq) ≡ false)
    by v true e k = absurd (cc k)
    by v false e k = (k, subst (λ x. (x.seq == seq) ≡ false) (some_wait v w k) e)

    go : (o' : Option Wait) → wait_after seq o' ≡ Some w → (o' ≡ Some w) × ((w.seq == seq) ≡ false)
    go None k = absurd (cc k)
    go (Some v) k = by v (v.seq == seq) refl k
still_waits seq (o ∷ waits) (suc r) w h = still_waits seq waits r w h

act_waits : (waits : List (Option Wait)) (q : PeiLook) (qs : List PeiLook) → WaitsAct waits (q ∷ qs) → WaitsAct (map (wait_after q.id.seq) waits) (at_phase q phase.Acted ∷ qs)
act_waits waits q qs h r w e =
    let k = still_waits q.id.seq waits r w e
    in go (q.id.seq == w.seq) (not (is_phase q.phase phase.Acted)) (list_any (is_to_act w.seq) qs) (eqb_sym q.id.seq w.seq ∙ k.1) (h r w k.0)
  where
    go : (a b c : Bool) → a ≡ false → ((a && b) || c) ≡ true → ((a && false) || c) ≡ true
    go true b c f g = absurd (cc f)
    go false b c f g = g

pub act_event : (p : Listing) (m : MachineSpec) (image : Contents) (r : Run) (q : PeiLook) (qs : List PeiLook) (entry : ℕ) (mode : Mode) (reply : Reply) → m.cores ≡ 1 → SerialRun p m image r → Working m r q qs entry mode → 2 < phase_left m (state_after m r.journal) (Held entry mode) q q.phase → After p m image r (with_lane_event r (acting m r) (event.Act q.id.seq reply))
act_event p m image r q qs entry mode reply one h w less =
    let s : State = state_after m r.journal
    in let core : CoreState = core_now p m image r.journal
    in let kind : EventKind = event.Act q.id.seq reply
    in let keeps = acting_keeps m s (look_of s (record { core = core_0; seq = q.id.seq }))
    in let stop : Runs (after_answer p core kind) (at_stop p (core_config m) (after_answer p core kind)) = to_stop p (core_config m) (after_answer p core kind)
    in let next : core_now p m image (r.journal ++ record { actor = acting m r; kind = kind } ∷ []) ≡ at_stop p (core_config m) (after_answer p core kind) = core_push p m image r.journal (record { actor = acting m r; kind = kind }) refl
    in head_event p m image r q qs entry mode kind phase.Acted one h w
    (ap (λ fences. slice_index_or fences 0 None) keeps.fences)
    (moves m q qs phase.Acted s _ (record { core = core_0; seq = q.id.seq }) w.old w.peis keeps.peis (id_is q w.old.own.0))
    refl (λ k. absurd (cc k))
    (subst (λ c. WaitsAct c.waits (at_phase q phase.Acted ∷ qs)) (sym next)
    (subst (λ ws. WaitsAct ws (at_phase q phase.Acted ∷ qs)) (sym stop.stays.waits) (act_waits core.waits q qs (subst (WaitsAct core.waits) w.peis h.awaits))))
    (subst (λ c. core_left m c ≤ core_left m core) (sym next) (runs_less m (after_answer p core kind) _ stop))
    less

-- ---- the leave

fence-map : (f : Option (List PeiId) → Option (List PeiId)) (fences : List (Option (List PeiId))) (i : ℕ) → f None ≡ None → slice_index_or (map f fences) i None ≡ f (slice_index_or fences i None)
fence-map f [] i h = sym h
fence-map f (x ∷ xs) zero h = refl
fence-map f (x ∷ xs) (suc i) h = fence-map f xs i h

leave_fenced : (q : PeiLook) (qs : List PeiLook) (ids : List PeiId) → Each (λ id. list_any (λ p. same_pei p.id id) (q ∷ qs) ≡ true) ids → Each (λ id. list_any (λ p. same_pei p.id id) qs ≡ true) (without (λ x. same_pei x q.id) ids)
leave_fenced q qs [] h = tt
leave_fenced q qs (id ∷ ids) h = go (same_pei id q.id) refl (leave_fenced q qs ids h.1)
  where
    other : same_pei id q.id ≡ false → list_any (λ p. same_pei p.id id) qs ≡ true
    other e = sym (ap (λ b. b || list_any (λ p. same_pei p.id id) qs) (same_pei_sym q.id id ∙ e)) ∙ h.0

    go : (b : Bool) → same_pei id q.id ≡ b → Each (λ i. list_any (λ p. same_pei p.id i) qs ≡ true) (without (λ x. same_pei x q.id) ids) → Each (λ i. list_any (λ p. same_pei p.id i) qs ≡ true) (if not b then id ∷ without (λ x. same_pei x q.id) ids else without (λ x. same_pei x q.id) ids)
    go true e rest = rest
    go false e rest = (other e, rest)

fences_leave : (o : Option (List PeiId)) (q : PeiLook) (qs : List PeiLook) → FenceWaits o (q ∷ qs) → FenceWaits (option_map (without (λ x. same_pei x q.id)) o) qs
fences_leave None q qs h = tt
fences_leave (Some ids) q qs h = leave_fenced q qs ids h

fence_stays : (o : Option (List PeiId)) (f : List PeiId → List PeiId) → fence_left (option_map f o) ≡ fence_left o
fence_stays None f = refl
fence_stays (Some ids) f = refl

leave_waits : (waits : List (Option Wait)) (q : PeiLook) (qs : List PeiLook) → q.phase ≡ phase.Acted → WaitsAct waits (q ∷ qs) → WaitsAct waits qs
leave_waits waits q qs at_ph h r w e = go (q.id.seq == w.seq) (is_phase q.phase phase.Acted) (list_any (is_to_act w.seq) qs) (ap (λ ph. is_phase ph phase.Acted) at_ph) (h r w e)
  where
    go : (a b c : Bool) → b ≡ true → ((a && not b) || c) ≡ true → c ≡ true
    go true true c f g = g
    go false true c f g = g
    go a false c f g = absurd (cc f)

ahead_within : (m : MachineSpec) (qs : List PeiLook) → Each (IsInBuffer m) qs → lane_ahead qs < m.buffer + 1
ahead_within m [] h = omega arith
ahead_within m (x ∷ xs) h = let k = h.0.2 in omega (arith, k)

pub leave_event : (p : Listing) (m : MachineSpec) (image : Contents) (r : Run) (q : PeiLook) (qs : List PeiLook) (entry : ℕ) (mode : Mode) → m.cores ≡ 1 → SerialRun p m image r → Working m r q qs entry mode → q.phase ≡ phase.Acted → After p m image r (with_lane_event r (acting m r) (event.Leave q.id.seq))
leave_event p m image r q qs entry mode one h w at_ph =
    let s : State = state_after m r.journal
    in let kind : EventKind = event.Leave q.id.seq
    in let t : State = next_state m s (acting m r) kind
    in let place = has_place p m image r one h.whole
    in let claim : LaneClaim = claim_at r.claims 0 (lane_at m r)
    in let claims' : List (List LaneClaim) = with_claim_of r.claims (lane_at m r) (after_leave kind)
    in let spent : after_leave kind claim ≡ Spent entry mode = ap (after_leave kind) w.held
    in let free' : (l : ℕ) → (l ≡ lane_at m r → ⊥) → claim_at claims' 0 l ≡ Free = λ l k. claim-other r.claims (lane_at m r) l (after_leave kind) place.core (λ e. k (sym e)) ∙ h.others_free l k
    in let named : record { core = core_0; seq = q.id.seq } ≡ q.id = id_is q w.old.own.0
    in let peis : t.peis ≡ qs = ap₂ (λ i xs. without (λ p. same_pei p.id i) xs) named w.peis ∙ leave_of_oldest m q qs w.old
    in let fences : fence_of t core_0 ≡ option_map (without (λ x. same_pei x q.id)) (fence_of s core_0) =
    fence-map (option_map (without (λ x. same_pei x (record { core = core_0; seq = q.id.seq })))) s.fences 0 refl
    ∙ ap (λ i. option_map (without (λ x. same_pei x i)) (fence_of s core_0)) named
    in let same : core_now p m image (r.journal ++ record { actor = acting m r; kind = kind } ∷ []) ≡ core_now p m image r.journal = core_same p m image r.journal (record { actor = acting m r; kind = kind }) refl refl
    in let before_q : life_left m s r.claims q ≡ 2 = ap (phase_left m s (claim_at r.claims q.id.core.0 q.lane.0) q) at_ph
    in let after_rest = lives_of m t claims' qs (rest_waits m (lane_at m r) claims' q qs free' w.old w.lane w.rest)
    in let before_rest = lives_of m s r.claims qs (rest_waits m (lane_at m r) r.claims q qs h.others_free w.old w.lane w.rest)
    in let above : 0 < lane_at m r = subst (λ n. 0 < n) w.lane w.old.own.1
    in let stalls : stalls_until (actors m) (lane_at m r) (lane_ahead qs) < m.buffer + 1 = subst (λ n. stalls_until (actors m) (lane_at m r) (lane_ahead qs) < n) (actors_are m one) (stalls_within (actors m) (lane_at m r) (lane_ahead qs) (subst (λ n. lane_at m r < n) (sym (actors_are m one)) (lane_below m r one)) (subst (λ n. lane_ahead qs < n) (sym (actors_are m one)) (ahead_within m qs w.old.others)))
    in event_after p m image r kind one h
    (record {
      works = subst (OneWorks (lane_at m r)) (sym peis) (none_entered_works (lane_at m r) qs w.rest);
      first = subst (λ c. ClaimsFirst (lane_at m r) c t.peis) (sym spent) (above, subst (Each HasNotEntered) (sym peis) w.rest);
      waiting = λ e. subst (λ c. waiting_for m e c t.peis (slice_index_or r.entries e no_claims).waiting) (sym spent) (subst (λ c. waiting_for m e c s.peis (slice_index_or r.entries e no_claims).waiting) w.held (h.waiting e));
      awaits = subst (λ c. WaitsAct c.waits t.peis) (sym same) (subst (WaitsAct (core_now p m image r.journal).waits) (sym peis) (leave_waits (core_now p m image r.journal).waits q qs at_ph (subst (WaitsAct (core_now p m image r.journal).waits) w.peis h.awaits)));
      fenced = subst (FenceWaits (fence_of t core_0)) (sym peis) (subst (λ o. FenceWaits o qs) (sym fences) (fences_leave (fence_of s core_0) q qs (subst (FenceWaits (fence_of s core_0)) w.peis h.fenced)));
      owns = subst (Each (OwnsRead m t)) (sym peis) (each_weaker HasNotEntered (OwnsRead m t) (λ x k. unread m t x k) qs w.rest);
      falls =
          subst (λ xs. core_left m (core_now p m image (r.journal ++ record { actor = acting m r; kind = kind } ∷ [])) + fence_left (fence_of t core_0) + next_left m t (lane_at m r) (next_of_core p m image (r.journal ++ record { actor = acting m r; kind = kind } ∷ []) core_0) + lives_left m t claims' xs + release_left (after_leave kind claim) + m.buffer * length xs + stalls_until (actors m) (lane_at m r) (lane_ahead xs) < turns_left p m image r) (sym peis)
          (subst (λ xs. core_left m (core_now p m image (r.journal ++ record { actor = acting m r; kind = kind } ∷ [])) + fence_left (fence_of t core_0) + next_left m t (lane_at m r) (next_of_core p m image (r.journal ++ record { actor = acting m r; kind = kind } ∷ []) core_0) + lives_left m t claims' qs + release_left (after_leave kind claim) + m.buffer * length qs + stalls_until (actors m) (lane_at m r) (lane_ahead qs) < core_left m (core_now p m image r.journal) + fence_left (fence_of s core_0) + next_left m s (lane_at m r) (next_of_core p m image r.journal core_0) + lives_left m s r.claims xs + release_left claim + m.buffer * length xs + stalls_until (actors m) (lane_at m r) (lane_ahead xs)) (sym w.peis)
          (total _ _ _ _ _ _ (life_left m s r.claims q) (lives_left m t claims' qs) (lives_left m s r.claims qs) (length qs) (release_left (after_leave kind claim)) (release_left claim) m.buffer (stalls_until (actors m) (lane_at m r) (lane_ahead qs)) (stalls_until (actors m) (lane_at m r) q.lane.0)
          (ap (core_left m) same) (ap fence_left fences ∙ fence_stays (fence_of s core_0) _) (next_at_lane m t (lane_at m r) _ above ∙ sym (next_at_lane m s (lane_at m r) _ above)) before_q after_rest before_rest (ap release_left spent) stalls));
    })
  where
    total : (c' c f' f n' n b x y len rel' rel buffer st st' : ℕ) → c' ≡ c → f' ≡ f → n' ≡ n → b ≡ 2 → x ≡ 14 * len → y ≡ 14 * len → rel' ≡ 1 → st < buffer + 1 → c' + f' + n' + x + rel' + buffer * len + st < c + f + n + (b + y) + rel + buffer * suc len + st'
    total c' c f' f n' n b x y len rel' rel buffer st st' h1 h2 h3 h4 h5 h6 h7 h8 = omega (arith, h1, h2, h3, h4, h5, h6, h7, h8)
