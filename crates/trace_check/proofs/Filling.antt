-- A row that fills a line fills it with a block of memory; and what an event that meets every clause needs for its effect.
use Rattle.std.proofs.Common.{◌≡◌, ℕ, zero, suc, ◌<◌, ◌^◌, ◌-◌, ◌*◌, ◌%◌, ◌==◌, nat_lt, ltb-true, Bool, true, false, not, ◌||◌, List, [], ◌∷◌, if◌then◌else◌, Option, Some, None, slice_get, refl, sym, subst, arith}
use Rattle.std.specs.Prelude.{slice_index}
use Rattle.pei_types.specs.declared.identifiers.Actor.{Actor}
use Rattle.pei_types.specs.declared.identifiers.Block.{Block}
use Rattle.pei_types.specs.declared.identifiers.BlockNo.{BlockNo}
use Rattle.pei_types.specs.declared.identifiers.CoreId.{CoreId}
use Rattle.pei_types.specs.declared.identifiers.Lane.{Lane}
use Rattle.pei_types.specs.declared.identifiers.PeiId.{PeiId}
use Rattle.pei_types.specs.declared.calls.Call.{Call}
use Rattle.pei_types.specs.declared.calls.Call.TheVariants as call
use Rattle.pei_types.specs.declared.inflight_looks.PeiLook.{PeiLook}
use Rattle.pei_types.specs.declared.inflight_looks.Phase.{Phase}
use Rattle.pei_types.specs.declared.inflight_looks.Phase.TheVariants as phase
use Rattle.pei_types.specs.declared.events.EventKind.{EventKind}
use Rattle.pei_types.specs.declared.events.EventKind.TheVariants as event
use Rattle.pei_types.specs.declared.machines.MachineSpec.{MachineSpec}
use Rattle.std.proofs.lemmas.Bool.{and_parts}
use Rattle.pei_types.specs.declared.inflight_looks.StallCause.TheVariants as stall
use Rattle.pei_types.specs.Turns.{is_entering}
use Rattle.pei_types.specs.Blocks.{block_of, is_word_of_memory, same_pei, vault_of, word_of}
use Rattle.pei_types.specs.Calls.{AnswersNext, CallFits, Messages, Peis, Programs, Side, side_of}
use Rattle.pei_types.specs.MachineState.{Line, LlcLine, State, conflict, first_unentered, first_unfinished, fence_of, free_lane, is_absent, is_clean, is_dirty, is_i, is_owned, is_sealed, letter_of, llc_set, look_in, mark_of, no_other_has, queue_is_full, queue_of}
use Rattle.pei_types.specs.Core.{CoreNext, Calls, Busy, Ended}
use Rattle.pei_types.specs.Guard.{letter_serves}
use Rattle.pei_types.specs.Next.{Turn, Makes, Stalls, act_kind, call_row, draining_or, enter_row, evict, fence_row, bring_in, grant_modify, grant_shared, head_row, holder, issue_row, l1_victim, lane_row, make_room, may_act, other_holder, other_owner, owner, pei_row, race_or, seal_reader, seal_row, seal_writer, want}
use Rattle.pei_types.specs.Operation.{is_writer}
use Rattle.pei_types.specs.Recency.{victim}
use Rattle.coherence_bus.specs.Hierarchy.{FillsFrom}
use Rattle.trace_check.specs.InState.{AccessesMemory, AnswersIn, AnswersSide, FitsMemory, IsOwnSide, LooksFit, MayApply, MeetsIn, turn_at_lane}

-- the event of a turn fills from memory
abbrev TurnFills : ℕ → Turn → Type 0
TurnFills blocks (Makes kind) = FillsFrom blocks kind
TurnFills blocks (Stalls cause) = Unit {0}

word_inside : (m : MachineSpec) (addr : ℕ) → is_word_of_memory m.blocks addr ≡ true → (block_of addr).0 < m.blocks
word_inside m addr h =
    let low : addr < 64 * m.blocks = ltb-true addr (64 * m.blocks) (and_parts (addr % 8 == 0) (nat_lt addr (64 * m.blocks)) h).1
    in omega (arith, low)

module _ (m : MachineSpec) (s : State) where
  evict_fills : (v : BlockNo) (o : Option CoreId) → FillsFrom m.blocks (evict m s v o)
  evict_fills v (Some c) = tt
  evict_fills v None = by (is_dirty (mark_of m s v))
    where
      by : (t : Bool) → FillsFrom m.blocks (if t then event.Clean v else event.EvictLlc v)
      by true = tt
      by false = tt

  bring_fills : (b : BlockNo) (o : Option LlcLine) → b.0 < m.blocks → FillsFrom m.blocks (bring_in m s b o)
  bring_fills b (Some line) inside = evict_fills line.block (holder m s line.block)
  bring_fills b None inside = inside

  shared_fills : (own : CoreId) (b : BlockNo) (o : Option CoreId) → FillsFrom m.blocks (grant_shared m s own b o)
  shared_fills own b (Some c) = tt
  shared_fills own b None = by (not (no_other_has m s own b) || is_sealed s b)
    where
      by : (t : Bool) → FillsFrom m.blocks (if t then event.GrantS b else event.GrantE b)
      by true = tt
      by false = tt

  modify_fills : (b : BlockNo) (o : Option CoreId) → FillsFrom m.blocks (grant_modify b o)
  modify_fills b (Some c) = tt
  modify_fills b None = tt

  room_fills : (own : CoreId) (b : BlockNo) (modify : Bool) (o : Option Line) → FillsFrom m.blocks (make_room m s own b modify o)
  room_fills own b modify (Some line) = tt
  room_fills own b true None = modify_fills b (other_holder m s own b)
  room_fills own b false None = shared_fills own b (other_owner m s own b)

  want_fills : (own : CoreId) (b : BlockNo) (modify : Bool) → b.0 < m.blocks → FillsFrom m.blocks (want m s own b modify)
  want_fills own b modify inside = by (is_absent (mark_of m s b))
    where
      by : (t : Bool) → FillsFrom m.blocks (if t then bring_in m s b (victim m.llc_ways (llc_set m s b)) else make_room m s own b modify (l1_victim m s own b))
      by true = bring_fills b (victim m.llc_ways (llc_set m s b)) inside
      by false = room_fills own b modify (l1_victim m s own b)

  race_fills : (o : Option PeiId) (pc : ℕ) (b : BlockNo) (kind : EventKind) → FillsFrom m.blocks kind → FillsFrom m.blocks (race_or o pc b kind)
  race_fills None pc b kind h = h
  race_fills (Some by) pc b kind h = tt

  if_fills : (t : Bool) (k l : EventKind) → FillsFrom m.blocks k → FillsFrom m.blocks l → FillsFrom m.blocks (if t then k else l)
  if_fills true k l h g = h
  if_fills false k l h g = g

  call_fills : (content : BlockNo → Block) (c : CoreId) (x : Call) → CallFits m.blocks x → TurnFills m.blocks (call_row m s content c x)
  call_fills content c (call.Load pc addr) fits =
      race_fills (conflict s (block_of addr) false) pc (block_of addr) _ (if_fills (is_i (letter_of m s c (block_of addr))) (want m s c (block_of addr) false) (event.Load addr (slice_index (content (block_of addr)).0 (word_of addr))) (want_fills c (block_of addr) false (word_inside m addr fits)) tt)
  call_fills content c (call.Store pc addr value) fits =
      race_fills (conflict s (block_of addr) true) pc (block_of addr) _ (if_fills (is_owned (letter_of m s c (block_of addr))) (event.Store addr value) (want m s c (block_of addr) true) tt (want_fills c (block_of addr) true (word_inside m addr fits)))
  call_fills content c (call.Pei o b operands) fits = by (free_lane m s c)
    where
      by : (l : Option Lane) → TurnFills m.blocks (issue_row (slice_index s.issues c.0) o b operands l)
      by None = tt
      by (Some l) = tt
  call_fills content c call.Fence fits = by (fence_of s c)
    where
      by : (f : Option (List PeiId)) → TurnFills m.blocks (fence_row f)
      by None = tt
      by (Some []) = tt
      by (Some (p ∷ ps)) = tt
  call_fills content c (call.Out value) fits = tt
  call_fills content c (call.End kind) fits = by (first_unfinished s c)
    where
      by : (o : Option PeiId) → TurnFills m.blocks (draining_or o (event.End kind))
      by None = tt
      by (Some p) = tt

  seal_fills : (p : PeiLook) → TurnFills m.blocks (seal_row m s p)
  seal_fills p = by (queue_is_full m s (vault_of m p.block))
    where
      writer : (o : Option CoreId) → FillsFrom m.blocks (seal_writer m s p o)
      writer (Some c) = tt
      writer None = if_fills (is_dirty (mark_of m s p.block)) (event.Clean p.block) (if is_clean (mark_of m s p.block) then event.EvictLlc p.block else event.Seal p.id.seq (vault_of m p.block)) tt (if_fills (is_clean (mark_of m s p.block)) (event.EvictLlc p.block) (event.Seal p.id.seq (vault_of m p.block)) tt tt)

      reader : (o : Option CoreId) → FillsFrom m.blocks (seal_reader m s p o)
      reader (Some c) = tt
      reader None = if_fills (is_dirty (mark_of m s p.block)) (event.Clean p.block) (event.Seal p.id.seq (vault_of m p.block)) tt tt

      by : (t : Bool) → TurnFills m.blocks (if t then Stalls (stall.VaultFull (vault_of m p.block)) else Makes (if is_writer p.op then seal_writer m s p (holder m s p.block) else seal_reader m s p (owner m s p.block)))
      by true = tt
      by false = if_fills (is_writer p.op) (seal_writer m s p (holder m s p.block)) (seal_reader m s p (owner m s p.block)) (writer (holder m s p.block)) (reader (owner m s p.block))

  pei_fills : (content : BlockNo → Block) (granted : Bool) (p : PeiLook) (ph : Phase) → p.block.0 < m.blocks → TurnFills m.blocks (pei_row m s content granted p ph)
  pei_fills content granted p phase.Issued inside = by (first_unentered s p.id.core)
    where
      enters : (t g : Bool) (first : PeiId) → TurnFills m.blocks (if t then (if g then Makes (event.Enter p.id.seq) else Stalls stall.NeedsGrant) else Stalls (stall.NotOldest first))
      enters true true first = tt
      enters true false first = tt
      enters false g first = tt

      by : (o : Option PeiId) → TurnFills m.blocks (enter_row p granted o)
      by None = tt
      by (Some first) = enters (same_pei first p.id) granted first
  pei_fills content granted p phase.Entered inside = tt
  pei_fills content granted p phase.HostPlaced inside = if_fills (letter_serves m s p) (event.Read p.id.seq) (want m s p.id.core p.block (is_writer p.op)) tt (want_fills p.id.core p.block (is_writer p.op) inside)
  pei_fills content granted p phase.Read inside = if_fills (may_act m s p) (act_kind content p) (want m s p.id.core p.block true) tt (want_fills p.id.core p.block true inside)
  pei_fills content granted p phase.MemoryPlaced inside = seal_fills p
  pei_fills content granted p phase.Sealed inside = by (slice_get (queue_of s (vault_of m p.block)) 0)
    where
      acts : (t : Bool) (head : PeiId) → TurnFills m.blocks (if t then Makes (act_kind content p) else Stalls (stall.NotHead head))
      acts true head = tt
      acts false head = tt

      by : (o : Option PeiId) → TurnFills m.blocks (head_row content p o)
      by None = tt
      by (Some head) = acts (same_pei head p.id) head
  pei_fills content granted p phase.Acted inside = tt

  turn_fills : (n : ℕ) (x : CoreNext) (content : BlockNo → Block) (a : Actor) (granted : Bool) (t : Turn) → turn_at_lane n x m s content a granted ≡ Some t → FitsMemory m.blocks x → LooksFit m.blocks s → TurnFills m.blocks t
  turn_fills zero (Calls x) content a granted t is fits looks = let same : call_row m s content a.core x ≡ t = cc is in subst (TurnFills m.blocks) same (call_fills content a.core x fits)
  turn_fills zero (Busy register pei) content a granted t is fits looks = absurd (cc is)
  turn_fills zero (Ended how) content a granted t is fits looks = absurd (cc is)
  turn_fills (suc n) x content a granted t is fits looks =
      let same : lane_row m s content granted (look_in s a.core a.lane) ≡ t = cc is
      in subst (TurnFills m.blocks) same (by (look_in s a.core a.lane) refl)
    where
      by : (o : Option PeiLook) → look_in s a.core a.lane ≡ o → TurnFills m.blocks (lane_row m s content granted o)
      by None e = tt
      by (Some p) e = pei_fills content granted p p.phase (looks a.core a.lane p e).1

-- ---- the conditions of an effect

own_of : (x : CoreNext) (s : State) (a : Actor) (kind : EventKind) (side : Side) → AnswersSide side x s a kind → IsOwnSide side s a kind
own_of x s a kind Programs h = tt
own_of x s a kind (Peis seq) h = h
own_of x s a kind Messages h = tt

load_word : (blocks : ℕ) (x : CoreNext) (at value : ℕ) → FitsMemory blocks x → AnswersNext x (event.Load at value) → is_word_of_memory blocks at ≡ true
load_word blocks (Calls (call.Load pc addr)) at value fits h = subst (λ (n : ℕ). is_word_of_memory blocks n ≡ true) (sym h) fits
load_word blocks (Calls _) at value fits h = absurd h
load_word blocks (Busy register pei) at value fits h = absurd h
load_word blocks (Ended how) at value fits h = absurd h

store_word : (blocks : ℕ) (x : CoreNext) (at value : ℕ) → FitsMemory blocks x → AnswersNext x (event.Store at value) → is_word_of_memory blocks at ≡ true
store_word blocks (Calls (call.Store pc addr stored)) at value fits h = subst (λ (n : ℕ). is_word_of_memory blocks n ≡ true) (sym h.0) fits
store_word blocks (Calls _) at value fits h = absurd h
store_word blocks (Busy register pei) at value fits h = absurd h
store_word blocks (Ended how) at value fits h = absurd h

access_of_event : (blocks : ℕ) (x : CoreNext) (s : State) (a : Actor) (kind : EventKind) → FitsMemory blocks x → AnswersIn x s a kind → AccessesMemory blocks kind
access_of_event blocks x s a (event.Load at value) fits h = load_word blocks x at value fits h.1
access_of_event blocks x s a (event.Store at value) fits h = store_word blocks x at value fits h.1
access_of_event blocks x s a _ fits h = tt

pub may_apply : (x : CoreNext) (m : MachineSpec) (s : State) (content : BlockNo → Block) (a : Actor) (kind : EventKind) → FitsMemory m.blocks x → LooksFit m.blocks s → slice_index s.issues a.core.0 < 2 ^ 32 - 1 → MeetsIn x m s content a kind → MayApply m s a kind
may_apply x m s content a kind fits looks few meets =
    record {
      own = own_of x s a kind (side_of kind) meets.answers;
      guarded = meets.guarded;
      access = access_of_event m.blocks x s a kind fits meets.answers;
      fills = turn_fills m s a.lane.0 x content a (is_entering kind) (Makes kind) meets.turn fits looks;
      few = few;
    }
