-- A turn of the program.
use Rattle.std.proofs.Common.{◌≡◌, ℕ, ◌+◌, ◌-◌, ◌*◌, ◌<◌, ◌≤◌, Bool, true, false, List, [], ◌∷◌, ◌++◌, length, find, Option, Some, None, option_map, eqb, eqb-true, eq-eqb, refl, sym, ◌∙◌, ap, ap₂, subst, arith}
use Rattle.std.specs.Prelude.{slice_index_or, ◌==◌, ◌&&◌, ◌||◌}
use Rattle.pei_types.specs.declared.calls.Call.{Call}
use Rattle.pei_types.specs.declared.identifiers.BlockNo.{BlockNo}
use Rattle.pei_types.specs.declared.identifiers.PeiId.{PeiId}
use Rattle.pei_types.specs.declared.events.EventKind.{EventKind}
use Rattle.pei_types.specs.declared.inflight_looks.PeiLook.{PeiLook}
use Rattle.pei_types.specs.declared.machines.MachineSpec.{MachineSpec}
use Rattle.pei_types.specs.Calls.{Messages, side_of}
use Rattle.pei_types.specs.Claims.{no_claims}
use Rattle.pei_types.specs.MachineState.{State, state_after, next_state, fence_of, letter_of, conflict}
use Rattle.pei_types.specs.Core.{CoreState, Calls, next_of_core, after_answer, core_step, next_of_step, core_config}
use Rattle.pei_types.specs.Next.{want}
use Rattle.pei_types.specs.Operation.{is_writer}
use Rattle.pei_types.specs.Program.{Listing, Contents}
use Rattle.pei_types.specs.Schedule.{Run, LaneClaim, Free, Announced, Held, Spent, actors, after_stall, with_lane_event, after_leave}
use Rattle.pei_types.proofs.Lists.{each_weaker, each_both}
use Rattle.coherence_laws.specs.Sets.{Each}
use Rattle.coherence_laws.specs.Invariants.{Invariants}
use Rattle.history_laws.specs.Holders.{claim_at}
use Rattle.progress_laws.specs.Distance.{serves, want_left}
use Rattle.progress_laws.specs.Measure.{core_0, core_now, core_left, end_left, fence_left, access_left, call_left, calls_left, next_left, lane_at, lane_ahead, stalls_until, enter_left, lives_left, release_left, turns_left}
use Rattle.progress_laws.specs.Serial.{SerialRun, HasNotEntered, OneWorks, ClaimsFirst, waiting_for, WaitsAct, FenceWaits, OwnsRead}
use Rattle.progress_laws.proofs.After.{After, has_place, none_entered_works, stall_after, event_after}
use Rattle.progress_laws.proofs.Core.{Runs, to_stop, core_push, core_same}
use Rattle.progress_laws.proofs.Finish.{runs_less}
use Rattle.progress_laws.proofs.LaneTurns.{calls_within, next_within, ahead_below}
use Rattle.progress_laws.proofs.Messages.{want_falls}
use Rattle.progress_laws.proofs.Peis.{WaitsAt, lives_of, IsInBuffer, in_buffer}
use Rattle.progress_laws.proofs.Places.{acting, with_claim_of, claim-changed, claim-other}
use Rattle.progress_laws.proofs.States.{message_keeps, want_message}
use Rattle.progress_laws.proofs.Working.{unread, message_answers, message_claims}

-- the program has the turn, and no PEI has entered
pub record AtProgram (p : Listing) (m : MachineSpec) (image : Contents) (r : Run) : Type 0 where
  pub one : m.cores ≡ 1
  pub serial : SerialRun p m image r
  pub invariants : Invariants m (state_after m r.journal)
  pub lane : lane_at m r ≡ 0
  pub free : claim_at r.claims 0 (lane_at m r) ≡ Free
  pub waiting : Each HasNotEntered (state_after m r.journal).peis

pub at_program : (p : Listing) (m : MachineSpec) (image : Contents) (r : Run) → m.cores ≡ 1 → SerialRun p m image r → Invariants m (state_after m r.journal) → lane_at m r ≡ 0 → AtProgram p m image r
at_program p m image r one h inv lane =
    let free = is_free (claim_at r.claims 0 (lane_at m r)) (state_after m r.journal).peis (in_buffer m (state_after m r.journal) one inv) (subst (λ l. ClaimsFirst l (claim_at r.claims 0 (lane_at m r)) (state_after m r.journal).peis) lane h.first)
    in record { one = one; serial = h; invariants = inv; lane = lane; free = free; waiting = subst (λ c. ClaimsFirst (lane_at m r) c (state_after m r.journal).peis) free h.first }
  where
    no_lane : (n : ℕ) → 0 < n → n ≡ 0 → ⊥
    no_lane n k e = omega (arith, k, e)

    is_free : (c : LaneClaim) (xs : List PeiLook) → Each (IsInBuffer m) xs → ClaimsFirst 0 c xs → c ≡ Free
    is_free Free xs own k = refl
    is_free (Announced at) [] own k = absurd k
    is_free (Announced at) (q ∷ qs) own k = absurd (no_lane q.lane.0 own.0.1 k.0)
    is_free (Held entry mode) [] own k = absurd k
    is_free (Held entry mode) (q ∷ qs) own k = absurd (no_lane q.lane.0 own.0.1 k)
    is_free (Spent entry mode) xs own k = absurd (no_lane 0 k.0 refl)

-- ---- a stall

pub program_stalls : (p : Listing) (m : MachineSpec) (image : Contents) (r : Run) → AtProgram p m image r → calls_left m (state_after m r.journal) (next_of_core p m image r.journal core_0) ≡ 6 → ((state_after m r.journal).peis ≡ [] → ⊥) → After p m image r (after_stall r)
program_stalls p m image r a six some =
    let s : State = state_after m r.journal
    in let buffer = in_buffer m s a.one a.invariants
    in stall_after p m image r a.one a.serial a.free (ahead_below m s.peis buffer) (λ e. apart s.peis refl buffer (sym a.lane ∙ e))
    (subst (λ n. next_left m s (lane_at m (after_stall r)) (next_of_core p m image r.journal core_0) ≤ n) (sym (subst (λ l. next_left m s l (next_of_core p m image r.journal core_0) ≡ 6) (sym a.lane) six)) (next_within m s (lane_at m (after_stall r)) (next_of_core p m image r.journal core_0)))
  where
    apart : (xs : List PeiLook) → (state_after m r.journal).peis ≡ xs → Each (IsInBuffer m) xs → 0 ≡ lane_ahead xs → ⊥
    apart [] e own k = some e
    apart (q ∷ qs) e own k = let above = own.0.1 in omega (arith, above, k)

-- ---- an event

all_free : (p : Listing) (m : MachineSpec) (image : Contents) (r : Run) → AtProgram p m image r → (l : ℕ) → claim_at r.claims 0 l ≡ Free
all_free p m image r a l = go (eqb l (lane_at m r)) refl
  where
    go : (b : Bool) → eqb l (lane_at m r) ≡ b → claim_at r.claims 0 l ≡ Free
    go true e = ap (claim_at r.claims 0) (eqb-true l (lane_at m r) e) ∙ a.free
    go false e = a.serial.others_free l (λ q. absurd (let k = eq-eqb l (lane_at m r) q in cc (e, k)))

still_free : (p : Listing) (m : MachineSpec) (image : Contents) (r : Run) (kind : EventKind) → AtProgram p m image r → after_leave kind Free ≡ Free → (l : ℕ) → claim_at (with_claim_of r.claims (lane_at m r) (after_leave kind)) 0 l ≡ Free
still_free p m image r kind a keeps l = go (eqb l (lane_at m r)) refl
  where
    go : (b : Bool) → eqb l (lane_at m r) ≡ b → claim_at (with_claim_of r.claims (lane_at m r) (after_leave kind)) 0 l ≡ Free
    go true e =
        let place = has_place p m image r a.one a.serial.whole
        in ap (claim_at (with_claim_of r.claims (lane_at m r) (after_leave kind)) 0) (eqb-true l (lane_at m r) e)
        ∙ claim-changed r.claims (lane_at m r) (after_leave kind) place.core place.lane ∙ ap (after_leave kind) a.free ∙ keeps
    go false e =
        let place = has_place p m image r a.one a.serial.whole
        in claim-other r.claims (lane_at m r) l (after_leave kind) place.core (λ q. absurd (let k = eq-eqb l (lane_at m r) (sym q) in cc (e, k))) ∙ all_free p m image r a l

all_wait : (m : MachineSpec) (claims : List (List LaneClaim)) (xs : List PeiLook) → ((l : ℕ) → claim_at claims 0 l ≡ Free) → Each HasNotEntered xs → Each (IsInBuffer m) xs → Each (WaitsAt claims) xs
all_wait m claims xs free none own =
    each_weaker (λ x. HasNotEntered x × IsInBuffer m x) (WaitsAt claims) (λ x k. (k.0, ap (λ c. enter_left (claim_at claims c x.lane.0)) k.1.0 ∙ ap enter_left (free x.lane.0))) xs (each_both HasNotEntered (IsInBuffer m) xs none own)

-- an event of the program that leaves the PEIs `peis`, none of which has entered; where they are more than before, the
-- core pays for them
pub program_event : (p : Listing) (m : MachineSpec) (image : Contents) (r : Run) (kind : EventKind) (peis : List PeiLook) → AtProgram p m image r → after_leave kind Free ≡ Free
    → (next_state m (state_after m r.journal) (acting m r) kind).peis ≡ peis
    → Each HasNotEntered peis → Each (IsInBuffer m) peis
    → WaitsAct (core_now p m image (r.journal ++ record { actor = acting m r; kind = kind } ∷ [])).waits peis
    → FenceWaits (fence_of (next_state m (state_after m r.journal) (acting m r) kind) core_0) peis
    → core_left m (core_now p m image (r.journal ++ record { actor = acting m r; kind = kind } ∷ [])) + fence_left (fence_of (next_state m (state_after m r.journal) (acting m r) kind) core_0) + calls_left m (next_state m (state_after m r.journal) (acting m r) kind) (next_of_core p m image (r.journal ++ record { actor = acting m r; kind = kind } ∷ []) core_0) + 14 * length peis + m.buffer * length peis + stalls_until (actors m) 0 (lane_ahead peis)
    < core_left m (core_now p m image r.journal) + fence_left (fence_of (state_after m r.journal) core_0) + calls_left m (state_after m r.journal) (next_of_core p m image r.journal core_0) + 14 * length (state_after m r.journal).peis + m.buffer * length (state_after m r.journal).peis + stalls_until (actors m) 0 (lane_ahead (state_after m r.journal).peis)
    → After p m image r (with_lane_event r (acting m r) kind)
program_event p m image r kind peis a keeps same none own awaits fenced less =
    let s : State = state_after m r.journal
    in let t : State = next_state m s (acting m r) kind
    in let claims' : List (List LaneClaim) = with_claim_of r.claims (lane_at m r) (after_leave kind)
    in let kept : after_leave kind (claim_at r.claims 0 (lane_at m r)) ≡ Free = ap (after_leave kind) a.free ∙ keeps
    in let lives' : lives_left m t claims' peis ≡ 14 * length peis = lives_of m t claims' peis (all_wait m claims' peis (still_free p m image r kind a keeps) none own)
    in let lives : lives_left m s r.claims s.peis ≡ 14 * length s.peis = lives_of m s r.claims s.peis (all_wait m r.claims s.peis (all_free p m image r a) a.waiting (in_buffer m s a.one a.invariants))
    in event_after p m image r kind a.one a.serial
    (record {
      works = subst (OneWorks (lane_at m r)) (sym same) (none_entered_works (lane_at m r) peis none);
      first = subst (λ c. ClaimsFirst (lane_at m r) c t.peis) (sym kept) (subst (Each HasNotEntered) (sym same) none);
      waiting = λ e. subst (λ c. waiting_for m e c t.peis (slice_index_or r.entries e no_claims).waiting) (sym kept) (subst (λ c. waiting_for m e c s.peis (slice_index_or r.entries e no_claims).waiting) a.free (a.serial.waiting e));
      awaits = subst (WaitsAct (core_now p m image (r.journal ++ record { actor = acting m r; kind = kind } ∷ [])).waits) (sym same) awaits;
      fenced = subst (FenceWaits (fence_of t core_0)) (sym same) fenced;
      owns = subst (Each (OwnsRead m t)) (sym same) (each_weaker HasNotEntered (OwnsRead m t) (λ x k. unread m t x k) peis none);
      falls =
          subst (λ xs. core_left m (core_now p m image (r.journal ++ record { actor = acting m r; kind = kind } ∷ [])) + fence_left (fence_of t core_0) + next_left m t (lane_at m r) (next_of_core p m image (r.journal ++ record { actor = acting m r; kind = kind } ∷ []) core_0) + lives_left m t claims' xs + release_left (after_leave kind (claim_at r.claims 0 (lane_at m r))) + m.buffer * length xs + stalls_until (actors m) (lane_at m r) (lane_ahead xs) < turns_left p m image r) (sym same)
          (subst (λ l. core_left m (core_now p m image (r.journal ++ record { actor = acting m r; kind = kind } ∷ [])) + fence_left (fence_of t core_0) + next_left m t l (next_of_core p m image (r.journal ++ record { actor = acting m r; kind = kind } ∷ []) core_0) + lives_left m t claims' peis + release_left (after_leave kind (claim_at r.claims 0 (lane_at m r))) + m.buffer * length peis + stalls_until (actors m) l (lane_ahead peis) < core_left m (core_now p m image r.journal) + fence_left (fence_of s core_0) + next_left m s l (next_of_core p m image r.journal core_0) + lives_left m s r.claims s.peis + release_left (claim_at r.claims 0 (lane_at m r)) + m.buffer * length s.peis + stalls_until (actors m) l (lane_ahead s.peis)) (sym a.lane)
          (total _ _ _ _ _ _ (lives_left m t claims' peis) (lives_left m s r.claims s.peis) (14 * length peis) (14 * length s.peis) _ _ _ _ _ _ lives' lives (ap release_left kept) less));
    })
  where
    total : (c' c f' f n' n x y u v rel' rel b' b st' st : ℕ) → x ≡ u → y ≡ v → rel' ≡ 0 → c' + f' + n' + u + b' + st' < c + f + n + v + b + st → c' + f' + n' + x + rel' + b' + st' < c + f + n + y + rel + b + st
    total c' c f' f n' n x y u v rel' rel b' b st' st h1 h2 h3 h4 = omega (arith, h1, h2, h3, h4)

-- one that leaves the PEIs as they are
pub same_event : (p : Listing) (m : MachineSpec) (image : Contents) (r : Run) (kind : EventKind) → AtProgram p m image r → after_leave kind Free ≡ Free
    → (next_state m (state_after m r.journal) (acting m r) kind).peis ≡ (state_after m r.journal).peis
    → (core_now p m image (r.journal ++ record { actor = acting m r; kind = kind } ∷ [])).waits ≡ (core_now p m image r.journal).waits
    → FenceWaits (fence_of (next_state m (state_after m r.journal) (acting m r) kind) core_0) (state_after m r.journal).peis
    → core_left m (core_now p m image (r.journal ++ record { actor = acting m r; kind = kind } ∷ [])) + fence_left (fence_of (next_state m (state_after m r.journal) (acting m r) kind) core_0) + calls_left m (next_state m (state_after m r.journal) (acting m r) kind) (next_of_core p m image (r.journal ++ record { actor = acting m r; kind = kind } ∷ []) core_0)
    < core_left m (core_now p m image r.journal) + fence_left (fence_of (state_after m r.journal) core_0) + calls_left m (state_after m r.journal) (next_of_core p m image r.journal core_0)
    → After p m image r (with_lane_event r (acting m r) kind)
same_event p m image r kind a keeps same waits fenced less =
    program_event p m image r kind (state_after m r.journal).peis a keeps same a.waiting (in_buffer m (state_after m r.journal) a.one a.invariants)
    (subst (λ ws. WaitsAct ws (state_after m r.journal).peis) (sym waits) a.serial.awaits) fenced
    (total _ _ _ _ _ _ (14 * length (state_after m r.journal).peis) (m.buffer * length (state_after m r.journal).peis) (stalls_until (actors m) 0 (lane_ahead (state_after m r.journal).peis)) less)
  where
    total : (c' c f' f n' n u b st : ℕ) → c' + f' + n' < c + f + n → c' + f' + n' + u + b + st < c + f + n + u + b + st
    total c' c f' f n' n u b st h = omega (arith, h)

-- ---- an event that answers the core

-- the core's next stop after an answer
pub stops : (p : Listing) (m : MachineSpec) (image : Contents) (r : Run) (kind : EventKind) → Runs (after_answer p (core_now p m image r.journal) kind) (core_now p m image (r.journal ++ record { actor = acting m r; kind = kind } ∷ []))
stops p m image r kind =
    subst (Runs (after_answer p (core_now p m image r.journal) kind)) (sym (core_push p m image r.journal (record { actor = acting m r; kind = kind }) refl))
    (to_stop p (core_config m) (after_answer p (core_now p m image r.journal) kind))

-- an instruction that is answered is retired, and pays 23 turns
pub record Retired (m : MachineSpec) (s t : CoreState) : Type 0 where
  pub retired : t.retired ≡ s.retired + 1
  pub ended : t.ended ≡ s.ended
  pub raced : t.raced ≡ s.raced

pub pays : (m : MachineSpec) (s t u : CoreState) → s.retired < m.fuel → Retired m s t → Runs t u → core_left m u + 23 ≤ core_left m s
pays m s t u fuel h stop =
    let less = runs_less m t u stop
    in let same : end_left t.ended t.raced ≡ end_left s.ended s.raced = ap₂ end_left h.ended h.raced
    in let count = h.retired
    in sum m.fuel s.retired t.retired _ _ (core_left m u) fuel count same less
  where
    sum : (fuel' r r' x y z : ℕ) → r < fuel' → r' ≡ r + 1 → y ≡ x → z ≤ 23 * (fuel' - r') + y → z + 23 ≤ 23 * (fuel' - r) + x
    sum fuel' r r' x y z h1 h2 h3 h4 = omega (arith, h1, h2, h3, h4)

fence_within : (o : Option (List PeiId)) → fence_left o ≤ 1
fence_within None = omega arith
fence_within (Some ids) = omega arith

pub answer_event : (p : Listing) (m : MachineSpec) (image : Contents) (r : Run) (kind : EventKind) → AtProgram p m image r → (core_now p m image r.journal).retired < m.fuel → after_leave kind Free ≡ Free
    → (next_state m (state_after m r.journal) (acting m r) kind).peis ≡ (state_after m r.journal).peis
    → FenceWaits (fence_of (next_state m (state_after m r.journal) (acting m r) kind) core_0) (state_after m r.journal).peis
    → Retired m (core_now p m image r.journal) (after_answer p (core_now p m image r.journal) kind)
    → (after_answer p (core_now p m image r.journal) kind).waits ≡ (core_now p m image r.journal).waits
    → After p m image r (with_lane_event r (acting m r) kind)
answer_event p m image r kind a fuel keeps same fenced retired waits =
    let stop = stops p m image r kind
    in same_event p m image r kind a keeps same (stop.stays.waits ∙ waits) fenced
    (total _ _ _ _ _ _ (pays m (core_now p m image r.journal) (after_answer p (core_now p m image r.journal) kind) (core_now p m image (r.journal ++ record { actor = acting m r; kind = kind } ∷ [])) fuel retired stop)
    (fence_within (fence_of (next_state m (state_after m r.journal) (acting m r) kind) core_0))
    (calls_within m (next_state m (state_after m r.journal) (acting m r) kind) (next_of_core p m image (r.journal ++ record { actor = acting m r; kind = kind } ∷ []) core_0)))
  where
    total : (c' c f' f n' n : ℕ) → c' + 23 ≤ c → f' ≤ 1 → n' ≤ 6 → c' + f' + n' < c + f + n
    total c' c f' f n' n h1 h2 h3 = omega (arith, h1, h2, h3)

-- ---- a message, a race, the end

-- a message towards the block of an access
pub want_event : (p : Listing) (m : MachineSpec) (image : Contents) (r : Run) (x : Call) (b : BlockNo) (modify : Bool) → AtProgram p m image r → next_of_core p m image r.journal core_0 ≡ Calls x → ((s : State) → call_left m s x ≡ access_left (conflict s b modify) (want_left m s core_0 b modify)) → conflict (state_after m r.journal) b modify ≡ None → serves modify (letter_of m (state_after m r.journal) core_0 b) ≡ false → After p m image r (with_lane_event r (acting m r) (want m (state_after m r.journal) core_0 b modify))
want_event p m image r x b modify a next left none unserved =
    let s : State = state_after m r.journal
    in let kind : EventKind = want m s core_0 b modify
    in let message : side_of kind ≡ Messages = want_message m s core_0 b modify
    in let keeps = message_keeps m s (acting m r) kind message
    in let t : State = next_state m s (acting m r) kind
    in let same : core_now p m image (r.journal ++ record { actor = acting m r; kind = kind } ∷ []) ≡ core_now p m image r.journal = core_same p m image r.journal (record { actor = acting m r; kind = kind }) refl (message_answers p (core_now p m image r.journal) kind message)
    in let next' : next_of_core p m image (r.journal ++ record { actor = acting m r; kind = kind } ∷ []) core_0 ≡ Calls x = ap (λ c. next_of_step (core_step p (core_config m) c)) same ∙ next
    in let fences : fence_of t core_0 ≡ fence_of s core_0 = ap (λ fs. slice_index_or fs 0 None) keeps.fences
    in let free : conflict t b modify ≡ None = ap (λ xs. option_map (λ q. q.id) (find (λ q. (q.block.0 == b.0) && (modify || is_writer q.op)) xs)) keeps.peis ∙ none
    in let after' : calls_left m t (next_of_core p m image (r.journal ++ record { actor = acting m r; kind = kind } ∷ []) core_0) ≡ want_left m t core_0 b modify = ap (calls_left m t) next' ∙ left t ∙ ap (λ o. access_left o (want_left m t core_0 b modify)) free
    in let before' : calls_left m s (next_of_core p m image r.journal core_0) ≡ want_left m s core_0 b modify = ap (calls_left m s) next ∙ left s ∙ ap (λ o. access_left o (want_left m s core_0 b modify)) none
    in same_event p m image r kind a (message_claims kind Free message) keeps.peis (ap (λ c. c.waits) same)
    (subst (λ o. FenceWaits o s.peis) (sym fences) a.serial.fenced)
    (total _ _ _ _ _ _ _ _ (ap (core_left m) same) (ap fence_left fences) after' before' (want_falls m s (acting m r) b modify a.one refl a.invariants unserved))
  where
    total : (c' c f' f n' n u v : ℕ) → c' ≡ c → f' ≡ f → n' ≡ u → n ≡ v → u < v → c' + f' + n' < c + f + n
    total c' c f' f n' n u v h1 h2 h3 h4 h5 = omega (arith, h1, h2, h3, h4, h5)

-- the core's end comes nearer
pub ending_event : (p : Listing) (m : MachineSpec) (image : Contents) (r : Run) (kind : EventKind) → AtProgram p m image r → after_leave kind Free ≡ Free
    → (next_state m (state_after m r.journal) (acting m r) kind).peis ≡ (state_after m r.journal).peis
    → fence_of (next_state m (state_after m r.journal) (acting m r) kind) core_0 ≡ fence_of (state_after m r.journal) core_0
    → (after_answer p (core_now p m image r.journal) kind).waits ≡ (core_now p m image r.journal).waits
    → core_left m (after_answer p (core_now p m image r.journal) kind) < core_left m (core_now p m image r.journal)
    → calls_left m (state_after m r.journal) (next_of_core p m image r.journal core_0) ≡ 6
    → After p m image r (with_lane_event r (acting m r) kind)
ending_event p m image r kind a keeps same fences waits less six =
    let stop = stops p m image r kind
    in same_event p m image r kind a keeps same (stop.stays.waits ∙ waits) (subst (λ o. FenceWaits o (state_after m r.journal).peis) (sym fences) a.serial.fenced)
    (total _ _ _ _ _ _ _ (runs_less m _ _ stop) less (ap fence_left fences) (calls_within m (next_state m (state_after m r.journal) (acting m r) kind) (next_of_core p m image (r.journal ++ record { actor = acting m r; kind = kind } ∷ []) core_0)) six)
  where
    total : (c' c u f' f n' n : ℕ) → c' ≤ u → u < c → f' ≡ f → n' ≤ 6 → n ≡ 6 → c' + f' + n' < c + f + n
    total c' c u f' f n' n h1 h2 h3 h4 h5 = omega (arith, h1, h2, h3, h4, h5)
