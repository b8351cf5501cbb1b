-- A turn of a lane.
use Rattle.std.proofs.Common.{◌≡◌, ℕ, zero, suc, ◌+◌, ◌<◌, ◌≤◌, Bool, true, false, List, [], ◌∷◌, length, find, Option, Some, None, eqb, eqb-true, eq-eqb, refl, sym, ◌∙◌, ap, ap₂, subst, arith, if◌then◌else◌}
use Rattle.std.specs.Prelude.{slice_get, ◌==◌, ◌&&◌, ◌||◌}
use Rattle.std.specs.List.{list_any}
use Rattle.std.proofs.lemmas.Bool.{ne_eqb}
use Rattle.pei_types.specs.declared.calls.Call.TheVariants as call
use Rattle.pei_types.specs.declared.identifiers.Block.{Block}
use Rattle.pei_types.specs.declared.identifiers.BlockNo.{BlockNo}
use Rattle.pei_types.specs.declared.identifiers.PeiId.{PeiId}
use Rattle.pei_types.specs.declared.events.EventKind.TheVariants as event
use Rattle.pei_types.specs.declared.inflight_looks.PeiLook.{PeiLook}
use Rattle.pei_types.specs.declared.inflight_looks.Phase.{Phase}
use Rattle.pei_types.specs.declared.inflight_looks.Phase.TheVariants as phase
use Rattle.pei_types.specs.declared.inflight_looks.StallCause.TheVariants as stall
use Rattle.pei_types.specs.declared.machines.MachineSpec.{MachineSpec}
use Rattle.pei_types.specs.declared.operations.Mode.{Mode}
use Rattle.pei_types.specs.declared.operations.Mode.TheVariants as mode
use Rattle.pei_types.specs.Blocks.{block_of, entry_of, vault_of, same_pei, same_core, same_lane, tag_of, llc_set_of}
use Rattle.pei_types.specs.MachineState.{State, state_after, is_phase, look_in, queue_of, queue_is_full, conflict}
use Rattle.pei_types.specs.Core.{CoreNext, Calls, Busy, Ended, next_of_core}
use Rattle.pei_types.specs.FlatMemory.{flat_block}
use Rattle.pei_types.specs.Monitor.{placement}
use Rattle.pei_types.specs.Next.{Turn, Makes, Stalls, lane_row, pei_row, enter_row, head_row, act_kind, holder, owner, seal_writer, seal_reader, want}
use Rattle.pei_types.specs.Operation.{is_writer, mode_of, reply_of}
use Rattle.pei_types.specs.Program.{Listing, Contents}
use Rattle.pei_types.specs.Recency.{list_at}
use Rattle.pei_types.specs.Schedule.{Run, LaneClaim, Free, Announced, Held, Spent, whole_table, after_stall, by_row, claiming, toward_enter, lane_step}
use Rattle.pei_types.proofs.Identities.{same_pei_refl, same_pei_is}
use Rattle.pei_types.proofs.Lists.{found_has, each_both}
use Rattle.pei_types.proofs.Tests.{same_self}
use Rattle.coherence_laws.specs.Sets.{Each}
use Rattle.coherence_laws.specs.Invariants.{Invariants, is_sealed_in}
use Rattle.history_laws.specs.Holders.{claim_at}
use Rattle.progress_laws.specs.Measure.{core_0, lane_at, lane_ahead, access_left, calls_left, next_left, phase_left}
use Rattle.progress_laws.specs.Serial.{SerialRun, HasNotEntered, OneWorks, ClaimsFirst, OwnsRead}
use Rattle.progress_laws.proofs.After.{After, stall_after}
use Rattle.progress_laws.proofs.Finish.{act_event, leave_event}
use Rattle.progress_laws.proofs.Lane.{toward_free, toward_announced, release_after}
use Rattle.progress_laws.proofs.Messages.{want_within}
use Rattle.progress_laws.proofs.Peis.{issued_is, IsInBuffer, in_buffer, IsBeside, Oldest, oldest, look_oldest, look_other, first_oldest}
use Rattle.progress_laws.proofs.Places.{acting}
use Rattle.progress_laws.proofs.Working.{Working, enter_event, place_event, host_event, memory_event, next_at_lane}

-- ---- rows

row_needs : (m : MachineSpec) (s : State) (content : BlockNo → Block) (granted : Bool) (q : PeiLook) (qs : List PeiLook) → s.peis ≡ q ∷ qs → Oldest m q qs → HasNotEntered q → lane_row m s content granted (Some q) ≡ (if granted then Makes (event.Enter q.id.seq) else Stalls stall.NeedsGrant)
row_needs m s content granted q qs e old waits =
    ap (pei_row m s content granted q) (issued_is q.phase waits)
    ∙ ap (enter_row q granted) (first_oldest s q qs q.id.core e old.own.0 old.own.0 waits)
    ∙ ap (λ b. if b then (if granted then Makes (event.Enter q.id.seq) else Stalls stall.NeedsGrant) else Stalls (stall.NotOldest q.id)) (same_pei_refl q.id)

row_not_oldest : (m : MachineSpec) (s : State) (content : BlockNo → Block) (q : PeiLook) (qs : List PeiLook) (x : PeiLook) → s.peis ≡ q ∷ qs → Oldest m q qs → HasNotEntered q → HasNotEntered x → x.id.core.0 ≡ 0 → same_pei q.id x.id ≡ false → lane_row m s content false (Some x) ≡ Stalls (stall.NotOldest q.id)
row_not_oldest m s content q qs x e old waits waits' core apart =
    ap (pei_row m s content false x) (issued_is x.phase waits')
    ∙ ap (enter_row x false) (first_oldest s q qs x.id.core e core old.own.0 waits)
    ∙ ap (λ b. if b then Stalls stall.NeedsGrant else Stalls (stall.NotOldest q.id)) apart

-- ---- a stall

access_within : (o : Option PeiId) (n : ℕ) → n ≤ 6 → access_left o n ≤ 6
access_within None n h = h
access_within (Some by) n h = omega arith

pub calls_within : (m : MachineSpec) (s : State) (x : CoreNext) → calls_left m s x ≤ 6
calls_within m s (Calls (call.Load pc addr)) = access_within (conflict s (block_of addr) false) _ (want_within m s core_0 (block_of addr) false)
calls_within m s (Calls (call.Store pc addr value)) = access_within (conflict s (block_of addr) true) _ (want_within m s core_0 (block_of addr) true)
calls_within m s (Calls (call.Pei o b operands)) = omega arith
calls_within m s (Calls call.Fence) = omega arith
calls_within m s (Calls (call.Out value)) = omega arith
calls_within m s (Calls (call.End kind)) = omega arith
calls_within m s (Busy register pei) = omega arith
calls_within m s (Ended kind) = omega arith

pub next_within : (m : MachineSpec) (s : State) (lane : ℕ) (x : CoreNext) → next_left m s lane x ≤ 6
next_within m s zero x = calls_within m s x
next_within m s (suc lane) x = omega arith

pub ahead_below : (m : MachineSpec) (xs : List PeiLook) → Each (IsInBuffer m) xs → lane_ahead xs < m.buffer + 1
ahead_below m [] h = omega arith
ahead_below m (x ∷ xs) h = let k = h.0.2 in omega (arith, k)

lane_stalls : (p : Listing) (m : MachineSpec) (image : Contents) (r : Run) → m.cores ≡ 1 → SerialRun p m image r → Invariants m (state_after m r.journal) → 0 < lane_at m r → claim_at r.claims 0 (lane_at m r) ≡ Free → (lane_at m r ≡ lane_ahead (state_after m r.journal).peis → ⊥) → After p m image r (after_stall r)
lane_stalls p m image r one h inv above free apart =
    let s : State = state_after m r.journal
    in stall_after p m image r one h free (ahead_below m s.peis (in_buffer m s one inv)) apart
    (subst (λ n. next_left m s (lane_at m (after_stall r)) (next_of_core p m image r.journal core_0) ≤ n) (sym (next_at_lane m s (lane_at m r) (next_of_core p m image r.journal core_0) above)) (next_within m s (lane_at m (after_stall r)) (next_of_core p m image r.journal core_0)))

-- ---- a lane that has nothing of the directory

abbrev Turns : Listing → MachineSpec → Contents → Run → Option PeiLook → Type 0
Turns p m image r o = After p m image r (claiming (whole_table m image) m r (acting m r) o (lane_row m (state_after m r.journal) (flat_block image r.journal) false o))

by_turn : (p : Listing) (m : MachineSpec) (image : Contents) (r : Run) (o : Option PeiLook) (t : Turn) → lane_row m (state_after m r.journal) (flat_block image r.journal) false o ≡ t → After p m image r (claiming (whole_table m image) m r (acting m r) o t) → Turns p m image r o
by_turn p m image r o t e h = subst (λ x. After p m image r (claiming (whole_table m image) m r (acting m r) o x)) (sym e) h

free_turn : (p : Listing) (m : MachineSpec) (image : Contents) (r : Run) → m.cores ≡ 1 → SerialRun p m image r → Invariants m (state_after m r.journal) → 0 < lane_at m r → claim_at r.claims 0 (lane_at m r) ≡ Free → Turns p m image r (look_in (state_after m r.journal) core_0 (record { 0 = lane_at m r }))
free_turn p m image r one h inv above free = go (state_after m r.journal).peis refl (subst (λ c. ClaimsFirst (lane_at m r) c (state_after m r.journal).peis) free h.first)
  where
    not_zero : (n : ℕ) → 0 < n → n ≡ 0 → ⊥
    not_zero n k e = omega (arith, k, e)

    other : (q : PeiLook) (qs : List PeiLook) (o : Option PeiLook) → (state_after m r.journal).peis ≡ q ∷ qs → Oldest m q qs → HasNotEntered q → Each HasNotEntered qs → (q.lane.0 ≡ lane_at m r → ⊥) → find (λ x. same_core x.id.core core_0 && same_lane x.lane (record { 0 = lane_at m r })) qs ≡ o → Turns p m image r o
    other q qs None e old own rest apart found = lane_stalls p m image r one h inv above free (λ z. apart (sym (z ∙ ap lane_ahead e)))
    other q qs (Some x) e old own rest apart found =
        let facts = found_has (λ y. HasNotEntered y × (IsInBuffer m y × IsBeside m q y)) (λ y. same_core y.id.core core_0 && same_lane y.lane (record { 0 = lane_at m r })) qs x (each_both HasNotEntered (λ y. IsInBuffer m y × IsBeside m q y) qs rest (each_both (IsInBuffer m) (IsBeside m q) qs old.others old.beside)) found
        in by_turn p m image r (Some x) (Stalls (stall.NotOldest q.id)) (row_not_oldest m (state_after m r.journal) (flat_block image r.journal) q qs x e old own facts.0 facts.1.0.0 facts.1.1.0)
        (lane_stalls p m image r one h inv above free (λ z. apart (sym (z ∙ ap lane_ahead e))))

    by_lane : (q : PeiLook) (qs : List PeiLook) (b : Bool) → eqb q.lane.0 (lane_at m r) ≡ b → (state_after m r.journal).peis ≡ q ∷ qs → Oldest m q qs → HasNotEntered q → Each HasNotEntered qs → Turns p m image r (look_in (state_after m r.journal) core_0 (record { 0 = lane_at m r }))
    by_lane q qs true k e old own rest =
        let lane : q.lane.0 ≡ lane_at m r = eqb-true q.lane.0 (lane_at m r) k
        in subst (Turns p m image r) (sym (look_oldest (state_after m r.journal) q qs core_0 (lane_at m r) e refl old.own.0 lane))
        (by_turn p m image r (Some q) (Stalls stall.NeedsGrant) (row_needs m (state_after m r.journal) (flat_block image r.journal) false q qs e old own)
        (subst (λ c. After p m image r (toward_enter (whole_table m image) r (acting m r) q (entry_of m q.block) (mode_of q.op) c)) (sym free)
        (toward_free p m image r q qs (mode_of q.op) one h (record { peis = e; old = old; lane = lane; own = own; rest = rest }) free refl)))
    by_lane q qs false k e old own rest =
        let apart : q.lane.0 ≡ lane_at m r → ⊥ = λ z. absurd (let y = eq-eqb q.lane.0 (lane_at m r) z in cc (k, y))
        in subst (Turns p m image r) (sym (look_other (state_after m r.journal) q qs core_0 (lane_at m r) e apart))
        (other q qs (find (λ x. same_core x.id.core core_0 && same_lane x.lane (record { 0 = lane_at m r })) qs) e old own rest apart refl)

    go : (xs : List PeiLook) → (state_after m r.journal).peis ≡ xs → Each HasNotEntered (state_after m r.journal).peis → Turns p m image r (look_in (state_after m r.journal) core_0 (record { 0 = lane_at m r }))
    go [] e none =
        subst (Turns p m image r) (sym (ap (find (λ x. same_core x.id.core core_0 && same_lane x.lane (record { 0 = lane_at m r }))) e))
        (lane_stalls p m image r one h inv above free (λ z. not_zero (lane_at m r) above (z ∙ ap lane_ahead e)))
    go (q ∷ qs) e none =
        let each : Each HasNotEntered (q ∷ qs) = subst (Each HasNotEntered) e none
        in by_lane q qs (eqb q.lane.0 (lane_at m r)) refl e (oldest m (state_after m r.journal) q qs one inv e) each.0 each.1

-- ---- a lane that is announced

announced_turn : (p : Listing) (m : MachineSpec) (image : Contents) (r : Run) (at : ℕ) → m.cores ≡ 1 → SerialRun p m image r → Invariants m (state_after m r.journal) → claim_at r.claims 0 (lane_at m r) ≡ Announced at → Turns p m image r (look_in (state_after m r.journal) core_0 (record { 0 = lane_at m r }))
announced_turn p m image r at one h inv announced = go (state_after m r.journal).peis refl (subst (λ c. ClaimsFirst (lane_at m r) c (state_after m r.journal).peis) announced h.first)
  where
    go : (xs : List PeiLook) → (state_after m r.journal).peis ≡ xs → ClaimsFirst (lane_at m r) (Announced at) (state_after m r.journal).peis → Turns p m image r (look_in (state_after m r.journal) core_0 (record { 0 = lane_at m r }))
    go [] e first = absurd (subst (ClaimsFirst (lane_at m r) (Announced at)) e first)
    go (q ∷ qs) e first =
        let facts : ClaimsFirst (lane_at m r) (Announced at) (q ∷ qs) = subst (ClaimsFirst (lane_at m r) (Announced at)) e first
        in let works : OneWorks (lane_at m r) (q ∷ qs) = subst (OneWorks (lane_at m r)) e h.works
        in let old = oldest m (state_after m r.journal) q qs one inv e
        in subst (Turns p m image r) (sym (look_oldest (state_after m r.journal) q qs core_0 (lane_at m r) e refl old.own.0 facts.0))
        (by_turn p m image r (Some q) (Stalls stall.NeedsGrant) (row_needs m (state_after m r.journal) (flat_block image r.journal) false q qs e old facts.2)
        (subst (λ c. After p m image r (toward_enter (whole_table m image) r (acting m r) q (entry_of m q.block) (mode_of q.op) c)) (sym announced)
        (toward_announced p m image r q qs at (mode_of q.op) one h (record { peis = e; old = old; lane = facts.0; own = facts.2; rest = works.1 }) announced refl facts.1)))

-- ---- queues

none_sealed : (m : MachineSpec) (v : ℕ) (id : PeiId) (qs : List PeiLook) → Each HasNotEntered qs → list_any (is_sealed_in m v id) qs ≡ false
none_sealed m v id [] h = refl
none_sealed m v id (x ∷ xs) h = ap₂ (λ a b. a || b) (no (same_pei x.id id) (is_phase x.phase phase.Sealed) (vault_of m x.block == v) (ap (λ ph. is_phase ph phase.Sealed) (issued_is x.phase h.0))) (none_sealed m v id xs h.1)
  where
    no : (a b c : Bool) → b ≡ false → (a && b && c) ≡ false
    no true true c k = absurd (cc k)
    no true false c k = refl
    no false b c k = refl

-- no PEI is sealed, so the queue is empty
not_full : (m : MachineSpec) (s : State) (q : PeiLook) (qs : List PeiLook) (v : ℕ) → Invariants m s → s.peis ≡ q ∷ qs → is_phase q.phase phase.Sealed ≡ false → Each HasNotEntered qs → queue_is_full m s v ≡ false
not_full m s q qs v inv e unsealed rest = go (queue_of s v) refl
  where
    none : (id : PeiId) → list_any (λ y. same_pei y id) (queue_of s v) ≡ false
    none id = (inv.queues v).sealed id ∙ ap (list_any (is_sealed_in m v id)) e ∙ ap₂ (λ a b. a || b) (no (same_pei q.id id) (is_phase q.phase phase.Sealed) (vault_of m q.block == v) unsealed) (none_sealed m v id qs rest)
      where
        no : (a b c : Bool) → b ≡ false → (a && b && c) ≡ false
        no true true c k = absurd (cc k)
        no true false c k = refl
        no false b c k = refl

    empty_is : (n : ℕ) → 1 ≤ n → (0 == n) ≡ false
    empty_is n k = ne_eqb 0 n (λ e. omega (arith, k, e))

    go : (xs : List PeiId) → queue_of s v ≡ xs → queue_is_full m s v ≡ false
    go [] k = ap (λ ys. length ys == m.queue) k ∙ empty_is m.queue m.queue_in_limits.0
    go (x ∷ xs) k = absurd (let here = ap (λ b. b || list_any (λ y. same_pei y x) xs) (same_pei_refl x) in let no = ap (list_any (λ y. same_pei y x)) (sym k) ∙ none x in cc (here, no))

-- the sealed PEI alone is in the queue
heads : (m : MachineSpec) (s : State) (q : PeiLook) (qs : List PeiLook) → Invariants m s → s.peis ≡ q ∷ qs → is_phase q.phase phase.Sealed ≡ true → Each HasNotEntered qs → slice_get (queue_of s (vault_of m q.block)) 0 ≡ Some q.id
heads m s q qs inv e sealed rest = go (queue_of s (vault_of m q.block)) refl
  where
    tells : (id : PeiId) → list_any (λ y. same_pei y id) (queue_of s (vault_of m q.block)) ≡ same_pei q.id id
    tells id =
        (inv.queues (vault_of m q.block)).sealed id ∙ ap (list_any (is_sealed_in m (vault_of m q.block) id)) e
        ∙ ap₂ (λ a b. a || b) (yes (same_pei q.id id) (is_phase q.phase phase.Sealed) (vault_of m q.block == vault_of m q.block) sealed (same_self (vault_of m q.block))) (none_sealed m (vault_of m q.block) id qs rest)
        ∙ plain (same_pei q.id id)
      where
        yes : (a b c : Bool) → b ≡ true → c ≡ true → (a && b && c) ≡ a
        yes true true true k l = refl
        yes true true false k l = absurd (cc l)
        yes true false c k l = absurd (cc k)
        yes false b c k l = refl

        plain : (a : Bool) → (a || false) ≡ a
        plain true = refl
        plain false = refl

    go : (xs : List PeiId) → queue_of s (vault_of m q.block) ≡ xs → slice_get (queue_of s (vault_of m q.block)) 0 ≡ Some q.id
    go [] k = absurd (let here = tells q.id ∙ same_pei_refl q.id in let no = ap (list_any (λ y. same_pei y q.id)) k in cc (here, no))
    go (x ∷ xs) k =
        let here = ap (λ b. b || list_any (λ y. same_pei y x) xs) (same_pei_refl x)
        in let same : same_pei q.id x ≡ true = sym (tells x) ∙ ap (list_any (λ y. same_pei y x)) k ∙ here
        in ap (λ ys. slice_get ys 0) k ∙ ap Some (sym (same_pei_is q.id x same))

-- ---- a lane that holds its entry

by_phase : (p : Listing) (m : MachineSpec) (image : Contents) (r : Run) (q : PeiLook) (qs : List PeiLook) (entry : ℕ) (k : Mode) (ph : Phase) → m.cores ≡ 1 → SerialRun p m image r → Invariants m (state_after m r.journal) → Working m r q qs entry k → q.phase ≡ ph → is_phase ph phase.Issued ≡ false → After p m image r (claiming (whole_table m image) m r (acting m r) (Some q) (pei_row m (state_after m r.journal) (flat_block image r.journal) false q ph))
by_phase p m image r q qs entry k phase.Issued one h inv w e active = absurd (cc active)
by_phase p m image r q qs entry k phase.Entered one h inv w e active = place_event p m image r q qs entry k (placement m.placement (tag_of m q.block) (list_at (state_after m r.journal).monitor (llc_set_of m q.block))) one h w e
by_phase p m image r q qs entry k phase.HostPlaced one h inv w e active = host_event p m image r q qs entry k one h inv w e
by_phase p m image r q qs entry k phase.MemoryPlaced one h inv w e active =
    subst (λ b. After p m image r (claiming (whole_table m image) m r (acting m r) (Some q) (if b then Stalls (stall.VaultFull (vault_of m q.block)) else Makes (if is_writer q.op then seal_writer m (state_after m r.journal) q (holder m (state_after m r.journal) q.block) else seal_reader m (state_after m r.journal) q (owner m (state_after m r.journal) q.block))))) (sym (not_full m (state_after m r.journal) q qs (vault_of m q.block) inv w.peis (ap (λ ph. is_phase ph phase.Sealed) e) w.rest))
    (memory_event p m image r q qs entry k one h inv w e)
by_phase p m image r q qs entry k phase.Read one h inv w e active =
    let owns : Each (OwnsRead m (state_after m r.journal)) (q ∷ qs) = subst (Each (OwnsRead m (state_after m r.journal))) w.peis h.owns
    in subst (λ b. After p m image r (claiming (whole_table m image) m r (acting m r) (Some q) (Makes (if b then act_kind (flat_block image r.journal) q else want m (state_after m r.journal) q.id.core q.block true)))) (sym (owns.0 (ap (λ ph. is_phase ph phase.Read) e)))
    (act_event p m image r q qs entry k (reply_of q.op q.operands (flat_block image r.journal q.block)) one h w (subst (λ ph. 2 < phase_left m (state_after m r.journal) (Held entry k) q ph) (sym e) (omega arith)))
by_phase p m image r q qs entry k phase.Sealed one h inv w e active =
    subst (λ o. After p m image r (claiming (whole_table m image) m r (acting m r) (Some q) (head_row (flat_block image r.journal) q o))) (sym (heads m (state_after m r.journal) q qs inv w.peis (ap (λ ph. is_phase ph phase.Sealed) e) w.rest))
    (subst (λ b. After p m image r (claiming (whole_table m image) m r (acting m r) (Some q) (if b then Makes (act_kind (flat_block image r.journal) q) else Stalls (stall.NotHead q.id)))) (sym (same_pei_refl q.id))
    (act_event p m image r q qs entry k (reply_of q.op q.operands (flat_block image r.journal q.block)) one h w (subst (λ ph. 2 < phase_left m (state_after m r.journal) (Held entry k) q ph) (sym e) (omega arith))))
by_phase p m image r q qs entry k phase.Acted one h inv w e active = leave_event p m image r q qs entry k one h w e

held_turn : (p : Listing) (m : MachineSpec) (image : Contents) (r : Run) (entry : ℕ) (k : Mode) → m.cores ≡ 1 → SerialRun p m image r → Invariants m (state_after m r.journal) → claim_at r.claims 0 (lane_at m r) ≡ Held entry k → Turns p m image r (look_in (state_after m r.journal) core_0 (record { 0 = lane_at m r }))
held_turn p m image r entry k one h inv held = go (state_after m r.journal).peis refl (subst (λ c. ClaimsFirst (lane_at m r) c (state_after m r.journal).peis) held h.first)
  where
    enters : (q : PeiLook) (qs : List PeiLook) (how : Mode) → Working m r q qs entry k → HasNotEntered q → After p m image r (toward_enter (whole_table m image) r (acting m r) q (entry_of m q.block) how (Held entry k))
    enters q qs mode.Writer w waits = subst (λ t. After p m image r (by_row r (acting m r) t)) (sym (row_needs m (state_after m r.journal) (flat_block image r.journal) true q qs w.peis w.old waits)) (enter_event p m image r q qs entry k one h w waits)
    enters q qs mode.Reader w waits = subst (λ t. After p m image r (by_row r (acting m r) t)) (sym (row_needs m (state_after m r.journal) (flat_block image r.journal) true q qs w.peis w.old waits)) (enter_event p m image r q qs entry k one h w waits)

    by_issued : (q : PeiLook) (qs : List PeiLook) (b : Bool) → is_phase q.phase phase.Issued ≡ b → Working m r q qs entry k → Turns p m image r (Some q)
    by_issued q qs true e w =
        by_turn p m image r (Some q) (Stalls stall.NeedsGrant) (row_needs m (state_after m r.journal) (flat_block image r.journal) false q qs w.peis w.old e)
        (subst (λ c. After p m image r (toward_enter (whole_table m image) r (acting m r) q (entry_of m q.block) (mode_of q.op) c)) (sym held) (enters q qs (mode_of q.op) w e))
    by_issued q qs false e w = by_phase p m image r q qs entry k q.phase one h inv w refl e

    go : (xs : List PeiLook) → (state_after m r.journal).peis ≡ xs → ClaimsFirst (lane_at m r) (Held entry k) (state_after m r.journal).peis → Turns p m image r (look_in (state_after m r.journal) core_0 (record { 0 = lane_at m r }))
    go [] e first = absurd (subst (ClaimsFirst (lane_at m r) (Held entry k)) e first)
    go (q ∷ qs) e first =
        let lane : q.lane.0 ≡ lane_at m r = subst (ClaimsFirst (lane_at m r) (Held entry k)) e first
        in let works : OneWorks (lane_at m r) (q ∷ qs) = subst (OneWorks (lane_at m r)) e h.works
        in let old = oldest m (state_after m r.journal) q qs one inv e
        in subst (Turns p m image r) (sym (look_oldest (state_after m r.journal) q qs core_0 (lane_at m r) e refl old.own.0 lane))
        (by_issued q qs (is_phase q.phase phase.Issued) refl (record { peis = e; old = old; lane = lane; held = held; rest = works.1 }))

-- a turn of a lane leaves fewer turns
pub lane_turn : (p : Listing) (m : MachineSpec) (image : Contents) (r : Run) → m.cores ≡ 1 → SerialRun p m image r → Invariants m (state_after m r.journal) → 0 < lane_at m r → After p m image r (lane_step (whole_table m image) m r (acting m r) (look_in (state_after m r.journal) core_0 (record { 0 = lane_at m r })) (claim_at r.claims 0 (lane_at m r)))
lane_turn p m image r one h inv above = go (claim_at r.claims 0 (lane_at m r)) refl
  where
    go : (c : LaneClaim) → claim_at r.claims 0 (lane_at m r) ≡ c → After p m image r (lane_step (whole_table m image) m r (acting m r) (look_in (state_after m r.journal) core_0 (record { 0 = lane_at m r })) c)
    go Free e = free_turn p m image r one h inv above e
    go (Announced at) e = announced_turn p m image r at one h inv e
    go (Held entry k) e = held_turn p m image r entry k one h inv e
    go (Spent entry k) e = release_after p m image r entry k one h inv e
