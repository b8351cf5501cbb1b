-- The rows of the whole machine give events that fit their actors.
use Rattle.std.proofs.Common.{◌≡◌, inl, inr, ℕ, zero, suc, ◌<◌, Bool, true, false, not, ◌||◌, if◌then◌else◌, List, Option, Some, None, IsTrue, refl, sym, subst, arith, slice_index, slice_get}
use Rattle.pei_types.specs.declared.identifiers.Actor.{Actor}
use Rattle.pei_types.specs.declared.identifiers.BlockNo.{BlockNo}
use Rattle.pei_types.specs.declared.identifiers.CoreId.{CoreId}
use Rattle.pei_types.specs.declared.identifiers.PeiId.{PeiId}
use Rattle.pei_types.specs.declared.calls.Call.{Call}
use Rattle.pei_types.specs.declared.calls.Call.TheVariants as call
use Rattle.pei_types.specs.declared.inflight_looks.PeiLook.{PeiLook}
use Rattle.pei_types.specs.declared.inflight_looks.Phase.{Phase}
use Rattle.pei_types.specs.declared.inflight_looks.Phase.TheVariants as phase
use Rattle.pei_types.specs.declared.inflight_looks.StallCause.TheVariants as stall
use Rattle.pei_types.specs.declared.events.Event.{Event}
use Rattle.pei_types.specs.declared.events.EventKind.{EventKind}
use Rattle.pei_types.specs.declared.events.EventKind.TheVariants as event
use Rattle.pei_types.specs.declared.machines.MachineSpec.{MachineSpec}
use Rattle.pei_types.specs.Blocks.{block_of, word_of, same_pei, vault_of, tag_of, llc_set_of}
use Rattle.pei_types.specs.Calls.{Messages, side_of, is_actor_of}
use Rattle.pei_types.specs.MachineState.{State, state_after, Line, LlcLine, letter_of, mark_of, is_i, is_owned, is_absent, is_clean, is_dirty, no_other_has, is_sealed, conflict, first_unentered, first_unfinished, entry_is_taken, look_in, fence_of, free_lane, queue_of, queue_is_full, llc_set}
use Rattle.pei_types.specs.Core.{CoreNext, Calls, Busy, Ended}
use Rattle.pei_types.specs.FlatMemory.{flat_block}
use Rattle.pei_types.specs.Guard.{letter_serves}
use Rattle.pei_types.specs.Monitor.{placement}
use Rattle.pei_types.specs.Next.{Turn, Makes, Stalls, race_or, act_kind, call_row, load_row, store_row, evict, bring_in, grant_shared, grant_modify, grant, make_room, want, l1_victim, holder, owner, other_holder, other_owner, seal_writer, seal_reader, head_row, may_act, pei_row, lane_row}
use Rattle.pei_types.specs.Operation.{is_writer}
use Rattle.pei_types.specs.Program.{Contents}
use Rattle.pei_types.specs.Recency.{list_at, victim}
use Rattle.pei_types.specs.Turns.{lane_turn, program_turn, is_entering, IsNextOf}
use Rattle.history_laws.specs.Fits.{Fits, FitsSide, EntersFree}
use Rattle.history_laws.proofs.Fitting.{fits_issue, fits_fence, fits_end, fits_enter, phase_follows}
use Rattle.pei_types.proofs.Identities.{makes_is}

-- ---- messages

message_if : (b : Bool) (k l : EventKind) → side_of k ≡ Messages → side_of l ≡ Messages → side_of (if b then k else l) ≡ Messages
message_if true k l h i = h
message_if false k l h i = i

evict_message : (m : MachineSpec) (s : State) (v : BlockNo) (o : Option CoreId) → side_of (evict m s v o) ≡ Messages
evict_message m s v (Some c) = refl
evict_message m s v None = message_if (is_dirty (mark_of m s v)) (event.Clean v) (event.EvictLlc v) refl refl

bring_in_message : (m : MachineSpec) (s : State) (b : BlockNo) (o : Option LlcLine) → side_of (bring_in m s b o) ≡ Messages
bring_in_message m s b (Some line) = evict_message m s line.block (holder m s line.block)
bring_in_message m s b None = refl

grant_shared_message : (m : MachineSpec) (s : State) (own : CoreId) (b : BlockNo) (o : Option CoreId) → side_of (grant_shared m s own b o) ≡ Messages
grant_shared_message m s own b (Some c) = refl
grant_shared_message m s own b None = message_if (not (no_other_has m s own b) || is_sealed s b) (event.GrantS b) (event.GrantE b) refl refl

grant_modify_message : (b : BlockNo) (o : Option CoreId) → side_of (grant_modify b o) ≡ Messages
grant_modify_message b (Some c) = refl
grant_modify_message b None = refl

grant_message : (m : MachineSpec) (s : State) (own : CoreId) (b : BlockNo) (modify : Bool) → side_of (grant m s own b modify) ≡ Messages
grant_message m s own b true = grant_modify_message b (other_holder m s own b)
grant_message m s own b false = grant_shared_message m s own b (other_owner m s own b)

make_room_message : (m : MachineSpec) (s : State) (own : CoreId) (b : BlockNo) (modify : Bool) (o : Option Line) → side_of (make_room m s own b modify o) ≡ Messages
make_room_message m s own b modify (Some line) = refl
make_room_message m s own b modify None = grant_message m s own b modify

-- whoever wants a block sends a message
pub want_message : (m : MachineSpec) (s : State) (own : CoreId) (b : BlockNo) (modify : Bool) → side_of (want m s own b modify) ≡ Messages
want_message m s own b modify =
    message_if (is_absent (mark_of m s b)) (bring_in m s b (victim m.llc_ways (llc_set m s b))) (make_room m s own b modify (l1_victim m s own b)) (bring_in_message m s b (victim m.llc_ways (llc_set m s b))) (make_room_message m s own b modify (l1_victim m s own b))

-- a message fits any actor
pub fits_message : (x : CoreNext) (m : MachineSpec) (image : Contents) (journal : List Event) (s : State) (a : Actor) (kind : EventKind) → IsTrue (is_actor_of m a) → side_of kind ≡ Messages → Fits x m image journal s a kind
fits_message x m image journal s a kind actor h = (actor, subst (λ side. FitsSide side x m image journal s a kind) (sym h) tt)

-- ---- the rows of a core's call

fits_if : (x : CoreNext) (m : MachineSpec) (image : Contents) (journal : List Event) (s : State) (a : Actor) (b : Bool) (k l : EventKind) → Fits x m image journal s a k → Fits x m image journal s a l → Fits x m image journal s a (if b then k else l)
fits_if x m image journal s a true k l h i = h
fits_if x m image journal s a false k l h i = i

fits_load_row : (x : CoreNext) (m : MachineSpec) (image : Contents) (journal : List Event) (s : State) (a : Actor) (pc addr : ℕ) (kind : EventKind) → IsTrue (is_actor_of m a) → a.lane.0 ≡ 0 → x ≡ Calls (call.Load pc addr) → (o : Option PeiId) → conflict s (block_of addr) false ≡ o → (conflict s (block_of addr) false ≡ None → Fits x m image journal s a kind) → Fits x m image journal s a (race_or o pc (block_of addr) kind)
fits_load_row x m image journal s a pc addr kind actor lane same None h rest = rest h
fits_load_row x m image journal s a pc addr kind actor lane same (Some by) h rest = (actor, (lane, inl (addr, refl, same, h)))

fits_store_row : (x : CoreNext) (m : MachineSpec) (image : Contents) (journal : List Event) (s : State) (a : Actor) (pc addr value : ℕ) (kind : EventKind) → IsTrue (is_actor_of m a) → a.lane.0 ≡ 0 → x ≡ Calls (call.Store pc addr value) → (o : Option PeiId) → conflict s (block_of addr) true ≡ o → (conflict s (block_of addr) true ≡ None → Fits x m image journal s a kind) → Fits x m image journal s a (race_or o pc (block_of addr) kind)
fits_store_row x m image journal s a pc addr value kind actor lane same None h rest = rest h
fits_store_row x m image journal s a pc addr value kind actor lane same (Some by) h rest = (actor, (lane, inr (addr, value, refl, same, h)))

pub fits_call_row : (x : CoreNext) (m : MachineSpec) (image : Contents) (journal : List Event) (s : State) (a : Actor) (kind : EventKind) (c : Call) → IsTrue (is_actor_of m a) → a.lane.0 ≡ 0 → x ≡ Calls c → call_row m s (flat_block image journal) a.core c ≡ Makes kind → Fits x m image journal s a kind
fits_call_row x m image journal s a kind (call.Load pc addr) actor lane same h =
    subst (Fits x m image journal s a) (makes_is (load_row m s (flat_block image journal) a.core pc addr) kind h)
    (fits_load_row x m image journal s a pc addr _ actor lane same (conflict s (block_of addr) false) refl
    (λ none. fits_if x m image journal s a (is_i (letter_of m s a.core (block_of addr))) (want m s a.core (block_of addr) false) (event.Load addr (slice_index (flat_block image journal (block_of addr)).0 (word_of addr)))
    (fits_message x m image journal s a (want m s a.core (block_of addr) false) actor (want_message m s a.core (block_of addr) false)) (actor, (lane, (pc, same, none, refl)))))
fits_call_row x m image journal s a kind (call.Store pc addr value) actor lane same h =
    subst (Fits x m image journal s a) (makes_is (store_row m s a.core pc addr value) kind h)
    (fits_store_row x m image journal s a pc addr value _ actor lane same (conflict s (block_of addr) true) refl
    (λ none. fits_if x m image journal s a (is_owned (letter_of m s a.core (block_of addr))) (event.Store addr value) (want m s a.core (block_of addr) true)
    (actor, (lane, (pc, same, none))) (fits_message x m image journal s a (want m s a.core (block_of addr) true) actor (want_message m s a.core (block_of addr) true))))
fits_call_row x m image journal s a kind (call.Pei o b operands) actor lane same h = fits_issue x m image journal s a kind o b operands actor lane same (free_lane m s a.core) refl h
fits_call_row x m image journal s a kind call.Fence actor lane same h = fits_fence x m image journal s a kind actor lane same (fence_of s a.core) refl h
fits_call_row x m image journal s a kind (call.Out value) actor lane same h = subst (Fits x m image journal s a) (makes_is _ kind h) (actor, (lane, same))
fits_call_row x m image journal s a kind (call.End how) actor lane same h = fits_end x m image journal s a kind how actor lane same (first_unfinished s a.core) refl h

-- ---- the rows of a PEI

fits_seal_writer : (x : CoreNext) (m : MachineSpec) (image : Contents) (journal : List Event) (s : State) (a : Actor) (l : PeiLook) → IsTrue (is_actor_of m a) → Fits x m image journal s a (event.Seal l.id.seq (vault_of m l.block)) → (o : Option CoreId) → Fits x m image journal s a (seal_writer m s l o)
fits_seal_writer x m image journal s a l actor seals (Some c) = (actor, tt)
fits_seal_writer x m image journal s a l actor seals None =
    fits_if x m image journal s a (is_dirty (mark_of m s l.block)) (event.Clean l.block) (if is_clean (mark_of m s l.block) then event.EvictLlc l.block else event.Seal l.id.seq (vault_of m l.block)) (actor, tt)
    (fits_if x m image journal s a (is_clean (mark_of m s l.block)) (event.EvictLlc l.block) (event.Seal l.id.seq (vault_of m l.block)) (actor, tt) seals)

fits_seal_reader : (x : CoreNext) (m : MachineSpec) (image : Contents) (journal : List Event) (s : State) (a : Actor) (l : PeiLook) → IsTrue (is_actor_of m a) → Fits x m image journal s a (event.Seal l.id.seq (vault_of m l.block)) → (o : Option CoreId) → Fits x m image journal s a (seal_reader m s l o)
fits_seal_reader x m image journal s a l actor seals (Some c) = (actor, tt)
fits_seal_reader x m image journal s a l actor seals None = fits_if x m image journal s a (is_dirty (mark_of m s l.block)) (event.Clean l.block) (event.Seal l.id.seq (vault_of m l.block)) (actor, tt) seals

fits_seal_row : (x : CoreNext) (m : MachineSpec) (image : Contents) (journal : List Event) (s : State) (a : Actor) (kind : EventKind) (l : PeiLook) → IsTrue (is_actor_of m a) → Fits x m image journal s a (event.Seal l.id.seq (vault_of m l.block)) → (full : Bool) → (if full then Stalls (stall.VaultFull (vault_of m l.block)) else Makes (if is_writer l.op then seal_writer m s l (holder m s l.block) else seal_reader m s l (owner m s l.block))) ≡ Makes kind → Fits x m image journal s a kind
fits_seal_row x m image journal s a kind l actor seals true h = absurd (cc h)
fits_seal_row x m image journal s a kind l actor seals false h =
    subst (Fits x m image journal s a) (makes_is _ kind h)
    (fits_if x m image journal s a (is_writer l.op) (seal_writer m s l (holder m s l.block)) (seal_reader m s l (owner m s l.block))
    (fits_seal_writer x m image journal s a l actor seals (holder m s l.block)) (fits_seal_reader x m image journal s a l actor seals (owner m s l.block)))

fits_head_row : (x : CoreNext) (m : MachineSpec) (image : Contents) (journal : List Event) (s : State) (a : Actor) (kind : EventKind) (l : PeiLook) → Fits x m image journal s a (act_kind (flat_block image journal) l) → (o : Option PeiId) → head_row (flat_block image journal) l o ≡ Makes kind → Fits x m image journal s a kind
fits_head_row x m image journal s a kind l acts None h = absurd (cc h)
fits_head_row x m image journal s a kind l acts (Some head) h = by (same_pei head l.id) h
  where
    by : (b : Bool) → (if b then Makes (act_kind (flat_block image journal) l) else Stalls (stall.NotHead head)) ≡ Makes kind → Fits x m image journal s a kind
    by true k = subst (Fits x m image journal s a) (makes_is _ kind k) acts
    by false k = absurd (cc k)

-- an `Enter` finds its entry free
enters_row_free : (m : MachineSpec) (s : State) (a : Actor) (kind : EventKind) (l : PeiLook) → look_in s a.core a.lane ≡ Some l → EntersFree m s a kind → is_entering kind ≡ true → entry_is_taken m s l ≡ false
enters_row_free m s a (event.Enter seq) l here free e = free l here
enters_row_free m s a _ l here free e = absurd (cc e)

pub fits_pei_row : (x : CoreNext) (m : MachineSpec) (image : Contents) (journal : List Event) (s : State) (a : Actor) (kind : EventKind) (l : PeiLook) → IsTrue (is_actor_of m a) → 0 < a.lane.0 → look_in s a.core a.lane ≡ Some l → (granted : Bool) → (granted ≡ true → entry_is_taken m s l ≡ false) → (ph : Phase) → l.phase ≡ ph → pei_row m s (flat_block image journal) granted l ph ≡ Makes kind → Fits x m image journal s a kind
fits_pei_row x m image journal s a kind l actor lane here granted free phase.Issued e h =
    fits_enter x m image journal s a kind l granted actor lane here e free (first_unentered s l.id.core) refl h
fits_pei_row x m image journal s a kind l actor lane here granted free phase.Entered e h =
    subst (Fits x m image journal s a) (makes_is _ kind h)
    (actor, (lane, (l, here, refl, phase_follows l phase.Entered (event.Place l.id.seq (placement m.placement (tag_of m l.block) (list_at s.monitor (llc_set_of m l.block)))) e refl, tt)))
fits_pei_row x m image journal s a kind l actor lane here granted free phase.HostPlaced e h =
    subst (Fits x m image journal s a) (makes_is _ kind h)
    (fits_if x m image journal s a (letter_serves m s l) (event.Read l.id.seq) (want m s l.id.core l.block (is_writer l.op))
    (actor, (lane, (l, here, refl, phase_follows l phase.HostPlaced (event.Read l.id.seq) e refl, tt))) (fits_message x m image journal s a (want m s l.id.core l.block (is_writer l.op)) actor (want_message m s l.id.core l.block (is_writer l.op))))
fits_pei_row x m image journal s a kind l actor lane here granted free phase.Read e h =
    subst (Fits x m image journal s a) (makes_is _ kind h)
    (fits_if x m image journal s a (may_act m s l) (act_kind (flat_block image journal) l) (want m s l.id.core l.block true)
    (actor, (lane, (l, here, refl, phase_follows l phase.Read (act_kind (flat_block image journal) l) e refl, refl))) (fits_message x m image journal s a (want m s l.id.core l.block true) actor (want_message m s l.id.core l.block true)))
fits_pei_row x m image journal s a kind l actor lane here granted free phase.MemoryPlaced e h =
    fits_seal_row x m image journal s a kind l actor (actor, (lane, (l, here, refl, phase_follows l phase.MemoryPlaced (event.Seal l.id.seq (vault_of m l.block)) e refl, tt))) (queue_is_full m s (vault_of m l.block)) h
fits_pei_row x m image journal s a kind l actor lane here granted free phase.Sealed e h =
    fits_head_row x m image journal s a kind l (actor, (lane, (l, here, refl, phase_follows l phase.Sealed (act_kind (flat_block image journal) l) e refl, refl))) (slice_get (queue_of s (vault_of m l.block)) 0) h
fits_pei_row x m image journal s a kind l actor lane here granted free phase.Acted e h =
    subst (Fits x m image journal s a) (makes_is _ kind h) (actor, (lane, (l, here, refl, phase_follows l phase.Acted (event.Leave l.id.seq) e refl, tt)))

pub fits_lane_row : (x : CoreNext) (m : MachineSpec) (image : Contents) (journal : List Event) (s : State) (a : Actor) (kind : EventKind) → IsTrue (is_actor_of m a) → 0 < a.lane.0 → EntersFree m s a kind → (o : Option PeiLook) → look_in s a.core a.lane ≡ o → lane_row m s (flat_block image journal) (is_entering kind) o ≡ Makes kind → Fits x m image journal s a kind
fits_lane_row x m image journal s a kind actor lane free None here h = absurd (cc h)
fits_lane_row x m image journal s a kind actor lane free (Some l) here h = fits_pei_row x m image journal s a kind l actor lane here (is_entering kind) (enters_row_free m s a kind l here free) l.phase refl h

-- ---- an actor's turn

turn_is : (t u : Turn) → Some t ≡ Some u → t ≡ u
turn_is t u h = search

fits_program_turn : (x : CoreNext) (m : MachineSpec) (image : Contents) (journal : List Event) (s : State) (a : Actor) (kind : EventKind) → IsTrue (is_actor_of m a) → a.lane.0 ≡ 0 → (y : CoreNext) → x ≡ y → program_turn m s (flat_block image journal) a.core y ≡ Some (Makes kind) → Fits x m image journal s a kind
fits_program_turn x m image journal s a kind actor lane (Calls c) same h = fits_call_row x m image journal s a kind c actor lane same (turn_is (call_row m s (flat_block image journal) a.core c) (Makes kind) h)
fits_program_turn x m image journal s a kind actor lane (Busy register pei) same h = absurd (cc h)
fits_program_turn x m image journal s a kind actor lane (Ended how) same h = absurd (cc h)

-- The next event of an actor fits it, where x is what its core does next, and a PEI that enters finds its entry free.
pub fits_next : (x : CoreNext) (m : MachineSpec) (image : Contents) (journal : List Event) (a : Actor) (kind : EventKind) → IsTrue (is_actor_of m a) → EntersFree m (state_after m journal) a kind → IsNextOf x m image journal a kind → Fits x m image journal (state_after m journal) a kind
fits_next x m image journal a kind actor free h = by a.lane.0 refl h.1
  where
    by : (n : ℕ) → a.lane.0 ≡ n → lane_turn n x m image journal a (is_entering kind) ≡ Some (Makes kind) → Fits x m image journal (state_after m journal) a kind
    by zero e k = fits_program_turn x m image journal (state_after m journal) a kind actor e x refl k
    by (suc n) e k =
        fits_lane_row x m image journal (state_after m journal) a kind actor (omega (arith, e)) free (look_in (state_after m journal) a.core a.lane) refl
        (turn_is (lane_row m (state_after m journal) (flat_block image journal) (is_entering kind) (look_in (state_after m journal) a.core a.lane)) (Makes kind) k)
