-- The calls of the program.
use Rattle.std.proofs.Common.{◌≡◌, ◌⊎◌, inl, inr, ℕ, zero, suc, ◌+◌, ◌-◌, ◌*◌, ◌<◌, ◌≤◌, Bool, true, false, not, List, [], ◌∷◌, ◌++◌, length, map, filter, find, Option, Some, None, is_none, option_map, eq-eqb, refl, sym, ◌∙◌, ap, subst, arith, if◌then◌else◌}
use Rattle.std.specs.Prelude.{slice_set, slice_index, ◌&&◌, ◌||◌}
use Rattle.std.specs.List.{list_any, range_with_len}
use Rattle.std.proofs.lemmas.List.{length_push, get_or-set_same}
use Rattle.pei_types.specs.declared.calls.Call.{Call}
use Rattle.pei_types.specs.declared.calls.Call.TheVariants as call
use Rattle.pei_types.specs.declared.calls.EndKind.{EndKind}
use Rattle.pei_types.specs.declared.calls.EndKind.TheVariants as ends
use Rattle.pei_types.specs.declared.identifiers.BlockNo.{BlockNo}
use Rattle.pei_types.specs.declared.identifiers.Lane.{Lane}
use Rattle.pei_types.specs.declared.identifiers.PeiId.{PeiId}
use Rattle.pei_types.specs.declared.instructions.Instr.{Instr}
use Rattle.pei_types.specs.declared.events.EventKind.{EventKind}
use Rattle.pei_types.specs.declared.events.EventKind.TheVariants as event
use Rattle.pei_types.specs.declared.inflight_looks.PeiLook.{PeiLook}
use Rattle.pei_types.specs.declared.inflight_looks.Phase.TheVariants as phase
use Rattle.pei_types.specs.declared.machines.MachineSpec.{MachineSpec}
use Rattle.pei_types.specs.declared.operations.Op.{Op}
use Rattle.pei_types.specs.declared.operations.Operands.{Operands}
use Rattle.pei_types.specs.Blocks.{block_of, word_of, same_pei, same_core}
use Rattle.pei_types.specs.MachineState.{State, state_after, next_state, fence_of, letter_of, is_i, is_owned, conflict, free_lane, lanes_of, look_in, first_unfinished, unfinished_writers}
use Rattle.pei_types.specs.Core.{CoreState, CoreNext, Calls, Busy, Ended, next_of_core, after_answer, Wait, wait_at, with_waits, with_waits_at, reply_registers, core_config}
use Rattle.pei_types.specs.FlatMemory.{flat_block}
use Rattle.pei_types.specs.Next.{call_row, race_or, want, issue_row, fence_row, draining_or}
use Rattle.pei_types.specs.Operation.{is_writer}
use Rattle.pei_types.specs.Program.{Listing, Contents, instr_at}
use Rattle.pei_types.specs.Schedule.{Run, whole_table, actors, by_row, program_step, with_lane_event}
use Rattle.pei_types.proofs.Identities.{same_pei_refl}
use Rattle.pei_types.proofs.Lists.{each_weaker, each_append, found_has}
use Rattle.coherence_laws.specs.Sets.{Each}
use Rattle.progress_laws.specs.Distance.{want_left}
use Rattle.progress_laws.specs.Measure.{core_0, core_now, core_left, end_left, fence_left, access_left, call_left, calls_left, lane_ahead, stalls_until}
use Rattle.progress_laws.specs.Serial.{HasNotEntered, FenceWaits, is_to_act}
use Rattle.progress_laws.proofs.After.{After}
use Rattle.progress_laws.proofs.Core.{core_same, CanCall, call_lives, call_has_fuel, is_end, busy_waits, ended_all}
use Rattle.progress_laws.proofs.LaneTurns.{calls_within, ahead_below}
use Rattle.progress_laws.proofs.Peis.{IsInBuffer, in_buffer}
use Rattle.progress_laws.proofs.Places.{acting, actors_are, stalls_within}
use Rattle.pei_types.specs.Ends.{all_ended}
use Rattle.pei_types.proofs.Lists.{each_filter, each_map, none_pass}
use Rattle.progress_laws.proofs.Program.{AtProgram, program_stalls, program_event, same_event, pays, stops, answer_event, want_event, ending_event}

-- ---- loads and stores

race_event : (p : Listing) (m : MachineSpec) (image : Contents) (r : Run) (x : Call) (pc : ℕ) (b : BlockNo) (by : PeiId) → AtProgram p m image r → next_of_core p m image r.journal core_0 ≡ Calls x → is_end x ≡ false → call_left m (state_after m r.journal) x ≡ 6 → After p m image r (with_lane_event r (acting m r) (event.Race pc b by))
race_event p m image r x pc b by a next call six =
    let core : CoreState = core_now p m image r.journal
    in let can : CanCall m core = call_has_fuel p m core x next call
    in ending_event p m image r (event.Race pc b by) a refl refl refl refl
    (less core.ended core.raced can.ended can.raced) (ap (calls_left m (state_after m r.journal)) next ∙ six)
  where
    less : (o q : Option EndKind) → o ≡ None → q ≡ None → 23 * (m.fuel - (core_now p m image r.journal).retired) + end_left o (Some (ends.Race pc b by)) < 23 * (m.fuel - (core_now p m image r.journal).retired) + end_left o q
    less (Some k) q e f = absurd (cc e)
    less None (Some k) e f = absurd (cc f)
    less None None e f = below (23 * (m.fuel - (core_now p m image r.journal).retired))
      where
        below : (n : ℕ) → n + 1 < n + 2
        below n = omega arith

load_turn : (p : Listing) (m : MachineSpec) (image : Contents) (r : Run) (pc addr : ℕ) → AtProgram p m image r → next_of_core p m image r.journal core_0 ≡ Calls (call.Load pc addr) → After p m image r (by_row r (acting m r) (call_row m (state_after m r.journal) (flat_block image r.journal) core_0 (call.Load pc addr)))
load_turn p m image r pc addr a next = go (conflict (state_after m r.journal) (block_of addr) false) refl
  where
    by_letter : (t : Bool) → is_i (letter_of m (state_after m r.journal) core_0 (block_of addr)) ≡ t → conflict (state_after m r.journal) (block_of addr) false ≡ None → After p m image r (with_lane_event r (acting m r) (if t then want m (state_after m r.journal) core_0 (block_of addr) false else event.Load addr (slice_index (flat_block image r.journal (block_of addr)).0 (word_of addr))))
    by_letter true e none = want_event p m image r (call.Load pc addr) (block_of addr) false a next (λ s. refl) none (ap not e)
    by_letter false e none =
        answer_event p m image r (event.Load addr (slice_index (flat_block image r.journal (block_of addr)).0 (word_of addr))) a
        (call_has_fuel p m (core_now p m image r.journal) (call.Load pc addr) next refl).fuel refl refl a.serial.fenced (record { retired = refl; ended = refl; raced = refl }) refl

    go : (o : Option PeiId) → conflict (state_after m r.journal) (block_of addr) false ≡ o → After p m image r (with_lane_event r (acting m r) (race_or o pc (block_of addr) (if is_i (letter_of m (state_after m r.journal) core_0 (block_of addr)) then want m (state_after m r.journal) core_0 (block_of addr) false else event.Load addr (slice_index (flat_block image r.journal (block_of addr)).0 (word_of addr)))))
    go (Some by) e = race_event p m image r (call.Load pc addr) pc (block_of addr) by a next refl (ap (λ o. access_left o (want_left m (state_after m r.journal) core_0 (block_of addr) false)) e)
    go None e = by_letter (is_i (letter_of m (state_after m r.journal) core_0 (block_of addr))) refl e

store_turn : (p : Listing) (m : MachineSpec) (image : Contents) (r : Run) (pc addr value : ℕ) → AtProgram p m image r → next_of_core p m image r.journal core_0 ≡ Calls (call.Store pc addr value) → After p m image r (by_row r (acting m r) (call_row m (state_after m r.journal) (flat_block image r.journal) core_0 (call.Store pc addr value)))
store_turn p m image r pc addr value a next = go (conflict (state_after m r.journal) (block_of addr) true) refl
  where
    by_letter : (t : Bool) → is_owned (letter_of m (state_after m r.journal) core_0 (block_of addr)) ≡ t → conflict (state_after m r.journal) (block_of addr) true ≡ None → After p m image r (with_lane_event r (acting m r) (if t then event.Store addr value else want m (state_after m r.journal) core_0 (block_of addr) true))
    by_letter true e none =
        answer_event p m image r (event.Store addr value) a
        (call_has_fuel p m (core_now p m image r.journal) (call.Store pc addr value) next refl).fuel refl refl a.serial.fenced (record { retired = refl; ended = refl; raced = refl }) refl
    by_letter false e none = want_event p m image r (call.Store pc addr value) (block_of addr) true a next (λ s. refl) none e

    go : (o : Option PeiId) → conflict (state_after m r.journal) (block_of addr) true ≡ o → After p m image r (with_lane_event r (acting m r) (race_or o pc (block_of addr) (if is_owned (letter_of m (state_after m r.journal) core_0 (block_of addr)) then event.Store addr value else want m (state_after m r.journal) core_0 (block_of addr) true)))
    go (Some by) e = race_event p m image r (call.Store pc addr value) pc (block_of addr) by a next refl (ap (λ o. access_left o (want_left m (state_after m r.journal) core_0 (block_of addr) true)) e)
    go None e = by_letter (is_owned (letter_of m (state_after m r.journal) core_0 (block_of addr))) refl e

-- ---- an issue

range_lanes : (a n : ℕ) → Each (λ l. (a ≤ l.0) × (l.0 < a + n)) (map (λ l. let x : Lane = record { 0 = l } in x) (range_with_len a n))
range_lanes a zero = tt
range_lanes a (suc n) = ((omega arith, omega arith), each_weaker (λ l. (a + 1 ≤ l.0) × (l.0 < (a + 1) + n)) (λ l. (a ≤ l.0) × (l.0 < a + suc n)) (λ l k. let low = k.0 in let high = k.1 in (omega (arith, low), omega (arith, high))) (map (λ l. let x : Lane = record { 0 = l } in x) (range_with_len (a + 1) n)) (range_lanes (a + 1) n))

set_wait : (waits : List (Option Wait)) (i : ℕ) (v : Wait) (r : ℕ) (w : Wait) → wait_at (slice_set waits i (Some v)) r ≡ Some w → (w.seq ≡ v.seq) ⊎ (wait_at waits r ≡ Some w)
set_wait [] i v r w h = inr h
set_wait (o ∷ os) zero v zero w h = inl (let same : v ≡ w = cc in ap (λ x. x.seq) (sym same))
set_wait (o ∷ os) zero v (suc r) w h = inr h
set_wait (o ∷ os) (suc i) v zero w h = inr h
set_wait (o ∷ os) (suc i) v (suc r) w h = set_wait os i v r w h

new_waits : (seq word : ℕ) (rs : List ℕ) (waits : List (Option Wait)) (r : ℕ) (w : Wait) → wait_at (with_waits seq word rs waits) r ≡ Some w → (w.seq ≡ seq) ⊎ (wait_at waits r ≡ Some w)
new_waits seq word [] waits r w h = inr h
new_waits seq word (q ∷ rs) waits r w h = go (new_waits seq (word + 1) rs (slice_set waits q (Some (record { seq = seq; word = word }))) r w h)
  where
    go : (w.seq ≡ seq) ⊎ (wait_at (slice_set waits q (Some (record { seq = seq; word = word }))) r ≡ Some w) → (w.seq ≡ seq) ⊎ (wait_at waits r ≡ Some w)
    go (inl e) = inl e
    go (inr k) = set_wait waits q (record { seq = seq; word = word }) r w k

new_waits_at : (o : Option Instr) (seq : ℕ) (waits : List (Option Wait)) (r : ℕ) (w : Wait) → wait_at (with_waits_at o seq waits) r ≡ Some w → (w.seq ≡ seq) ⊎ (wait_at waits r ≡ Some w)
new_waits_at None seq waits r w h = inr h
new_waits_at (Some i) seq waits r w h = new_waits seq 0 (reply_registers i) waits r w h

any_front : {A : Type 0} (test : A → Bool) (xs ys : List A) → list_any test xs ≡ true → list_any test (xs ++ ys) ≡ true
any_front test [] ys h = absurd (cc h)
any_front {A} test (x ∷ xs) ys h = go (test x) h (λ k. any_front test xs ys k)
  where
    go : (b : Bool) → (b || list_any test xs) ≡ true → (list_any test xs ≡ true → list_any test (xs ++ ys) ≡ true) → (b || list_any test (xs ++ ys)) ≡ true
    go true k ih = refl
    go false k ih = ih k

any_last : {A : Type 0} (test : A → Bool) (xs : List A) (y : A) → test y ≡ true → list_any test (xs ++ y ∷ []) ≡ true
any_last test [] y h = ap (λ b. b || false) h
any_last {A} test (x ∷ xs) y h = go (test x) (any_last test xs y h)
  where
    go : (b : Bool) → list_any test (xs ++ y ∷ []) ≡ true → (b || list_any test (xs ++ y ∷ [])) ≡ true
    go true k = refl
    go false k = k

issue_event : (p : Listing) (m : MachineSpec) (image : Contents) (r : Run) (seq : ℕ) (lane : Lane) (o : Op) (b : BlockNo) (operands : Operands) → AtProgram p m image r → next_of_core p m image r.journal core_0 ≡ Calls (call.Pei o b operands) → free_lane m (state_after m r.journal) core_0 ≡ Some lane → After p m image r (with_lane_event r (acting m r) (event.Issue seq lane o b operands))
issue_event p m image r seq lane o b operands a next found =
    let s : State = state_after m r.journal
    in let kind : EventKind = event.Issue seq lane o b operands
    in let core : CoreState = core_now p m image r.journal
    in let stop = stops p m image r kind
    in let within = found_has (λ l. (1 ≤ l.0) × (l.0 < 1 + m.buffer)) (λ l. is_none (look_in s core_0 l)) (lanes_of m) lane (range_lanes 1 m.buffer) found
    in let low = within.0
    in let high = within.1
    in let new : PeiLook = record { id = record { core = core_0; seq = seq }; lane = lane; op = o; block = b; operands = operands; phase = phase.Issued }
    in let own : Each (IsInBuffer m) (s.peis ++ new ∷ []) = each_append (IsInBuffer m) s.peis (new ∷ []) (in_buffer m s a.one a.invariants) ((refl, omega (arith, low), omega (arith, high)), tt)
    in let all = actors_are m a.one
    in program_event p m image r kind (s.peis ++ new ∷ []) a refl refl
    (each_append HasNotEntered s.peis (new ∷ []) a.waiting (refl, tt))
    own
    (λ i w e. go i w new (new_waits_at (instr_at p core.pc) seq core.waits i w (sym (ap (λ ws. wait_at ws i) stop.stays.waits) ∙ e)))
    (fenced (fence_of s core_0) new a.serial.fenced)
    (total _ _ (fence_left (fence_of s core_0)) _ _ (length (s.peis ++ new ∷ [])) (length s.peis) m.buffer _ _
    (pays m core (after_answer p core kind) (core_now p m image (r.journal ++ record { actor = acting m r; kind = kind } ∷ [])) (call_has_fuel p m core (call.Pei o b operands) next refl).fuel (record { retired = refl; ended = refl; raced = refl }) stop)
    (calls_within m (next_state m s (acting m r) kind) (next_of_core p m image (r.journal ++ record { actor = acting m r; kind = kind } ∷ []) core_0))
    (ap (calls_left m s) next)
    (length_push s.peis new)
    m.buffer_in_limits.1
    (subst (λ n. stalls_until (actors m) 0 (lane_ahead (s.peis ++ new ∷ [])) < n) all (stalls_within (actors m) 0 (lane_ahead (s.peis ++ new ∷ [])) (subst (λ n. 0 < n) (sym all) (omega arith)) (subst (λ n. lane_ahead (s.peis ++ new ∷ []) < n) (sym all) (ahead_below m (s.peis ++ new ∷ []) own)))))
  where
    go : (i : ℕ) (w : Wait) (new : PeiLook) → (w.seq ≡ seq) ⊎ (wait_at (core_now p m image r.journal).waits i ≡ Some w) → list_any (is_to_act w.seq) ((state_after m r.journal).peis ++ record { id = record { core = core_0; seq = seq }; lane = lane; op = o; block = b; operands = operands; phase = phase.Issued } ∷ []) ≡ true
    go i w new (inl same) = any_last (is_to_act w.seq) (state_after m r.journal).peis (record { id = record { core = core_0; seq = seq }; lane = lane; op = o; block = b; operands = operands; phase = phase.Issued }) (ap (λ t. t && true) (eq-eqb seq w.seq (sym same)))
    go i w new (inr old) = any_front (is_to_act w.seq) (state_after m r.journal).peis _ (a.serial.awaits i w old)

    fenced : (f : Option (List PeiId)) (new : PeiLook) → FenceWaits f (state_after m r.journal).peis → FenceWaits f ((state_after m r.journal).peis ++ record { id = record { core = core_0; seq = seq }; lane = lane; op = o; block = b; operands = operands; phase = phase.Issued } ∷ [])
    fenced None new k = tt
    fenced (Some ids) new k = each_weaker (λ id. list_any (λ q. same_pei q.id id) (state_after m r.journal).peis ≡ true) (λ id. list_any (λ q. same_pei q.id id) ((state_after m r.journal).peis ++ record { id = record { core = core_0; seq = seq }; lane = lane; op = o; block = b; operands = operands; phase = phase.Issued } ∷ []) ≡ true) (λ id e. any_front (λ q. same_pei q.id id) (state_after m r.journal).peis _ e) ids k

    product : (x n n' : ℕ) → n' ≡ n + 1 → x * n' ≡ x * n + x
    product x n n' e = subst (λ k. x * k ≡ x * n + x) (sym e) (omega arith)

    total : (c' c f n' n len' len buffer st' st : ℕ) → c' + 23 ≤ c → n' ≤ 6 → n ≡ 6 → len' ≡ len + 1 → buffer ≤ 4 → st' < buffer + 1 → c' + f + n' + 14 * len' + buffer * len' + st' < c + f + n + 14 * len + buffer * len + st
    total c' c f n' n len' len buffer st' st h1 h2 h3 h4 h5 h6 = let k = product buffer len len' h4 in omega (arith, h1, h2, h3, h4, h5, h6, k)

-- no lane is free only where some PEI is on its way
some_free : (m : MachineSpec) (s : State) → s.peis ≡ [] → free_lane m s core_0 ≡ None → ⊥
some_free m s e none = go m.buffer m.buffer_in_limits.0 (none_pass (λ l. is_none (look_in s core_0 l)) (lanes_of m) none)
  where
    go : (n : ℕ) → 1 ≤ n → Each (λ l. is_none (look_in s core_0 l) ≡ false) (map (λ l. let x : Lane = record { 0 = l } in x) (range_with_len 1 n)) → ⊥
    go zero k each = omega (arith, k)
    go (suc n) k each =
        let busy = each.0 in cc (busy, e)

issue_turn : (p : Listing) (m : MachineSpec) (image : Contents) (r : Run) (o : Op) (b : BlockNo) (operands : Operands) → AtProgram p m image r → next_of_core p m image r.journal core_0 ≡ Calls (call.Pei o b operands) → After p m image r (by_row r (acting m r) (call_row m (state_after m r.journal) (flat_block image r.journal) core_0 (call.Pei o b operands)))
issue_turn p m image r o b operands a next = go (free_lane m (state_after m r.journal) core_0) refl
  where
    go : (l : Option Lane) → free_lane m (state_after m r.journal) core_0 ≡ l → After p m image r (by_row r (acting m r) (issue_row (slice_index (state_after m r.journal).issues core_0.0) o b operands l))
    go None e = program_stalls p m image r a (ap (calls_left m (state_after m r.journal)) next) (λ none. some_free m (state_after m r.journal) none e)
    go (Some lane) e = issue_event p m image r (slice_index (state_after m r.journal).issues 0) lane o b operands a next e

-- ---- fences

self_named : (xs : List PeiLook) → Each (λ q. list_any (λ x. same_pei x.id q.id) xs ≡ true) xs
self_named [] = tt
self_named (x ∷ xs) = (ap (λ b. b || list_any (λ y. same_pei y.id x.id) xs) (same_pei_refl x.id), each_weaker (λ q. list_any (λ y. same_pei y.id q.id) xs ≡ true) (λ q. (same_pei x.id q.id || list_any (λ y. same_pei y.id q.id) xs) ≡ true) (λ q k. go (same_pei x.id q.id) q k) xs (self_named xs))
  where
    go : (b : Bool) (q : PeiLook) → list_any (λ y. same_pei y.id q.id) xs ≡ true → (b || list_any (λ y. same_pei y.id q.id) xs) ≡ true
    go true q k = refl
    go false q k = k

writers_named : (xs : List PeiLook) → Each (λ id. list_any (λ x. same_pei x.id id) xs ≡ true) (map (λ q. q.id) (filter (λ q. is_writer q.op) xs))
writers_named xs = each_map (λ q. list_any (λ x. same_pei x.id q.id) xs ≡ true) (λ id. list_any (λ x. same_pei x.id id) xs ≡ true) (λ q. q.id) (λ q k. k) (filter (λ q. is_writer q.op) xs) (each_filter (λ q. list_any (λ x. same_pei x.id q.id) xs ≡ true) (λ q. is_writer q.op) xs (self_named xs))

has_fence : (p : Listing) (m : MachineSpec) (image : Contents) (r : Run) → AtProgram p m image r → 0 < length (state_after m r.journal).fences
has_fence p m image r a = let one = a.one in let size = a.invariants.sizes.fences in omega (arith, one, size)

fence_turn : (p : Listing) (m : MachineSpec) (image : Contents) (r : Run) → AtProgram p m image r → next_of_core p m image r.journal core_0 ≡ Calls call.Fence → After p m image r (by_row r (acting m r) (call_row m (state_after m r.journal) (flat_block image r.journal) core_0 call.Fence))
fence_turn p m image r a next = go (fence_of (state_after m r.journal) core_0) refl
  where
    total : (c' c f' f n' n : ℕ) → c' ≡ c → f' ≡ 0 → f ≡ 1 → n' ≤ 6 → n ≡ 6 → c' + f' + n' < c + f + n
    total c' c f' f n' n h1 h2 h3 h4 h5 = omega (arith, h1, h2, h3, h4, h5)

    begins : fence_of (state_after m r.journal) core_0 ≡ None → After p m image r (with_lane_event r (acting m r) event.FenceBegin)
    begins e =
        let s : State = state_after m r.journal
        in let on : fence_of (next_state m s (acting m r) event.FenceBegin) core_0 ≡ Some (unfinished_writers s) = get_or-set_same s.fences 0 (Some (unfinished_writers s)) None (has_fence p m image r a)
        in let same = core_same p m image r.journal (record { actor = acting m r; kind = event.FenceBegin }) refl refl
        in same_event p m image r event.FenceBegin a refl refl (ap (λ c. c.waits) same)
        (subst (λ o. FenceWaits o s.peis) (sym on) (writers_named s.peis))
        (total _ _ _ _ _ _ (ap (core_left m) same) (ap fence_left on) (ap fence_left e) (calls_within m (next_state m s (acting m r) event.FenceBegin) (next_of_core p m image (r.journal ++ record { actor = acting m r; kind = event.FenceBegin } ∷ []) core_0)) (ap (calls_left m s) next))

    ends_fence : After p m image r (with_lane_event r (acting m r) event.FenceEnd)
    ends_fence =
        let s : State = state_after m r.journal
        in let off : fence_of (next_state m s (acting m r) event.FenceEnd) core_0 ≡ None = get_or-set_same s.fences 0 None None (has_fence p m image r a)
        in answer_event p m image r event.FenceEnd a (call_has_fuel p m (core_now p m image r.journal) call.Fence next refl).fuel refl refl
        (subst (λ o. FenceWaits o s.peis) (sym off) tt) (record { retired = refl; ended = refl; raced = refl }) refl

    go : (o : Option (List PeiId)) → fence_of (state_after m r.journal) core_0 ≡ o → After p m image r (by_row r (acting m r) (fence_row o))
    go None e = begins e
    go (Some []) e = ends_fence
    go (Some (id ∷ ids)) e =
        program_stalls p m image r a (ap (calls_left m (state_after m r.journal)) next)
        (λ none. let named : FenceWaits (Some (id ∷ ids)) [] = subst (FenceWaits (Some (id ∷ ids))) none (subst (λ o. FenceWaits o (state_after m r.journal).peis) e a.serial.fenced) in let first = named.0 in cc first)

-- ---- the end, and the output

end_turn : (p : Listing) (m : MachineSpec) (image : Contents) (r : Run) (kind : EndKind) → AtProgram p m image r → next_of_core p m image r.journal core_0 ≡ Calls (call.End kind) → After p m image r (by_row r (acting m r) (call_row m (state_after m r.journal) (flat_block image r.journal) core_0 (call.End kind)))
end_turn p m image r kind a next = go (first_unfinished (state_after m r.journal) core_0) refl
  where
    less : (o q : Option EndKind) → o ≡ None → 23 * (m.fuel - (core_now p m image r.journal).retired) + 0 < 23 * (m.fuel - (core_now p m image r.journal).retired) + end_left o q
    less (Some k) q e = absurd (cc e)
    less None (Some k) e = below (23 * (m.fuel - (core_now p m image r.journal).retired))
      where
        below : (n : ℕ) → n + 0 < n + 1
        below n = omega arith
    less None None e = below (23 * (m.fuel - (core_now p m image r.journal).retired))
      where
        below : (n : ℕ) → n + 0 < n + 2
        below n = omega arith

    go : (o : Option PeiId) → first_unfinished (state_after m r.journal) core_0 ≡ o → After p m image r (by_row r (acting m r) (draining_or o (event.End kind)))
    go None e = ending_event p m image r (event.End kind) a refl refl refl refl (less (core_now p m image r.journal).ended (core_now p m image r.journal).raced (call_lives p (core_config m) (core_now p m image r.journal) (call.End kind) next)) (ap (calls_left m (state_after m r.journal)) next)
    go (Some id) e =
        program_stalls p m image r a (ap (calls_left m (state_after m r.journal)) next)
        (λ none. let left = ap (λ xs. option_map (λ q. q.id) (find (λ q. same_core q.id.core core_0) xs)) (sym none) ∙ e in cc left)

call_turn : (p : Listing) (m : MachineSpec) (image : Contents) (r : Run) (x : Call) → AtProgram p m image r → next_of_core p m image r.journal core_0 ≡ Calls x → After p m image r (by_row r (acting m r) (call_row m (state_after m r.journal) (flat_block image r.journal) core_0 x))
call_turn p m image r (call.Load pc addr) a next = load_turn p m image r pc addr a next
call_turn p m image r (call.Store pc addr value) a next = store_turn p m image r pc addr value a next
call_turn p m image r (call.Pei o b operands) a next = issue_turn p m image r o b operands a next
call_turn p m image r call.Fence a next = fence_turn p m image r a next
call_turn p m image r (call.Out value) a next =
    answer_event p m image r (event.Out value) a (call_has_fuel p m (core_now p m image r.journal) (call.Out value) next refl).fuel refl refl a.serial.fenced (record { retired = refl; ended = refl; raced = refl }) refl
call_turn p m image r (call.End kind) a next = end_turn p m image r kind a next

-- a turn of the program leaves fewer turns, where its core has not ended
pub program_turn : (p : Listing) (m : MachineSpec) (image : Contents) (r : Run) → AtProgram p m image r → all_ended m r.journal ≡ false → After p m image r (program_step (whole_table m image) r (acting m r) (next_of_core p m image r.journal core_0))
program_turn p m image r a on = go (next_of_core p m image r.journal core_0) refl
  where
    go : (x : CoreNext) → next_of_core p m image r.journal core_0 ≡ x → After p m image r (program_step (whole_table m image) r (acting m r) x)
    go (Calls x) e = call_turn p m image r x a e
    go (Busy register pei) e =
        program_stalls p m image r a (ap (calls_left m (state_after m r.journal)) e)
        (λ none. let waits = busy_waits p (core_config m) (core_now p m image r.journal) register pei e in let there = a.serial.awaits waits.0 waits.1 waits.2 in let left = ap (list_any (is_to_act waits.1.seq)) (sym none) ∙ there in cc left)
    go (Ended kind) e = absurd (let over = ended_all p m image r.journal kind a.one e in cc (on, over))
