-- What the state tells of an event, as the clauses have it.
use Rattle.std.proofs.Common.{◌≡◌, ℕ, zero, suc, ◌<◌, ◌*◌, ◌%◌, ◌==◌, nat_lt, ltb-true, arith, Bool, true, false, not, List, Option, Some, None, IsTrue, MatchOption, slice_get, refl, sym, ◌∙◌, ap, subst, length}
use Rattle.std.specs.Prelude.{slice_index, if◌then◌else◌}
use Rattle.std.proofs.lemmas.Bool.{and_parts}
use Rattle.pei_types.specs.declared.identifiers.Actor.{Actor}
use Rattle.pei_types.specs.declared.identifiers.Block.{Block}
use Rattle.pei_types.specs.declared.identifiers.BlockNo.{BlockNo}
use Rattle.pei_types.specs.declared.identifiers.CoreId.{CoreId}
use Rattle.pei_types.specs.declared.identifiers.PeiId.{PeiId}
use Rattle.pei_types.specs.declared.calls.Call.{Call}
use Rattle.pei_types.specs.declared.calls.Call.TheVariants as call
use Rattle.pei_types.specs.declared.inflight_looks.PeiLook.{PeiLook}
use Rattle.pei_types.specs.declared.inflight_looks.Phase.{Phase}
use Rattle.pei_types.specs.declared.inflight_looks.Phase.TheVariants as phase
use Rattle.pei_types.specs.declared.events.Event.{Event}
use Rattle.pei_types.specs.declared.events.EventKind.{EventKind}
use Rattle.pei_types.specs.declared.events.EventKind.TheVariants as event
use Rattle.pei_types.specs.declared.machines.MachineSpec.{MachineSpec}
use Rattle.pei_types.specs.Blocks.{block_of, is_word_of_memory, same_pei, word_of, vault_of}
use Rattle.pei_types.specs.Calls.{CallFits, is_actor_of}
use Rattle.pei_types.specs.MachineState.{State, conflict, entry_is_taken, is_i, letter_of, look_in, queue_of, state_after}
use Rattle.pei_types.specs.Core.{CoreNext, Calls, Busy, Ended, next_of_core}
use Rattle.pei_types.specs.FlatMemory.{flat_block}
use Rattle.pei_types.specs.Legal.{Meets}
use Rattle.pei_types.specs.Next.{Makes, Stalls, call_row, head_row, lane_row, may_act, pei_row, race_or, want}
use Rattle.pei_types.specs.declared.inflight_looks.StallCause.TheVariants as stall
use Rattle.pei_types.specs.Operation.{reply_of}
use Rattle.pei_types.specs.Program.{Listing, Contents}
use Rattle.pei_types.specs.Race.{access_of, racing_pei, RacesRightly}
use Rattle.pei_types.specs.Turns.{is_entering, program_turn, lane_turn, turn_of}
use Rattle.history_laws.specs.Fits.{EntersFree}
use Rattle.history_laws.specs.Laws.{AgreementTells}
use Rattle.history_laws.specs.TrackedPeis.{Agrees}
use Rattle.machine_laws.specs.Laws.{RowsMeetAll}
use Rattle.machine_laws.specs.InOrder.{RunInOrder}
use Rattle.trace_check.specs.InState.{FitsMemory, LooksFit, MeetsIn, RacesIn, enters_free, finds_free, turn_at_lane, turn_in}

-- ---- races

pub races_told : (laws : AgreementTells) (x : CoreNext) (m : MachineSpec) (s : State) (past : List Event) → Agrees m s past → (kind : EventKind) → RacesIn x s kind → RacesRightly x past kind
races_told laws x m s past agrees (event.Load addr value) h = sym (laws.races m s past agrees (block_of addr) false) ∙ h
races_told laws x m s past agrees (event.Store addr value) h = sym (laws.races m s past agrees (block_of addr) true) ∙ h
races_told laws x m s past agrees (event.Race pc b by) h = by_access (access_of x) h
  where
    by_access : (access : Option (BlockNo × Bool)) → MatchOption access ⊥ (λ t. conflict s t.0 t.1 ≡ Some by) → MatchOption access ⊥ (λ t. racing_pei past t.0 t.1 ≡ Some by)
    by_access None h = h
    by_access (Some t) h = sym (laws.races m s past agrees t.0 t.1) ∙ h
races_told laws x m s past agrees _ h = tt

pub races_seen : (laws : AgreementTells) (x : CoreNext) (m : MachineSpec) (s : State) (past : List Event) → Agrees m s past → (kind : EventKind) → RacesRightly x past kind → RacesIn x s kind
races_seen laws x m s past agrees (event.Load addr value) h = laws.races m s past agrees (block_of addr) false ∙ h
races_seen laws x m s past agrees (event.Store addr value) h = laws.races m s past agrees (block_of addr) true ∙ h
races_seen laws x m s past agrees (event.Race pc b by) h = by_access (access_of x) h
  where
    by_access : (access : Option (BlockNo × Bool)) → MatchOption access ⊥ (λ t. racing_pei past t.0 t.1 ≡ Some by) → MatchOption access ⊥ (λ t. conflict s t.0 t.1 ≡ Some by)
    by_access None h = h
    by_access (Some t) h = laws.races m s past agrees t.0 t.1 ∙ h
races_seen laws x m s past agrees _ h = tt

-- ---- entries

free_there : (m : MachineSpec) (s : State) (o : Option PeiLook) (l : PeiLook) → finds_free m s o ≡ true → o ≡ Some l → entry_is_taken m s l ≡ false
free_there m s None l h is = absurd (cc is)
free_there m s (Some k) l h is =
    let same : k ≡ l = cc is
    in subst (λ (p : PeiLook). entry_is_taken m s p ≡ false) same (by (entry_is_taken m s k) h)
  where
    by : (b : Bool) → not b ≡ true → b ≡ false
    by false e = refl
    by true e = absurd (cc e)

pub enters_told : (m : MachineSpec) (s : State) (a : Actor) (kind : EventKind) → enters_free m s a kind ≡ true → EntersFree m s a kind
enters_told m s a (event.Enter seq) h = λ l is. free_there m s (look_in s a.core a.lane) l h is
enters_told m s a _ h = tt

-- ---- the next step, by the content of memory's blocks alone

module _ (m : MachineSpec) (s : State) (content flat : BlockNo → Block) (same : (b : BlockNo) → b.0 < m.blocks → content b ≡ flat b) where
  in_memory : (addr : ℕ) → IsTrue (is_word_of_memory m.blocks addr) → (block_of addr).0 < m.blocks
  in_memory addr h =
      let low : addr < 64 * m.blocks = ltb-true addr (64 * m.blocks) (and_parts (addr % 8 == 0) (nat_lt addr (64 * m.blocks)) h).1
      in omega (arith, low)

  call_same : (c : CoreId) (x : Call) → CallFits m.blocks x → call_row m s content c x ≡ call_row m s flat c x
  call_same c (call.Load pc addr) fits =
      ap (λ (b : Block). Makes (race_or (conflict s (block_of addr) false) pc (block_of addr) (if is_i (letter_of m s c (block_of addr)) then want m s c (block_of addr) false else event.Load addr (slice_index b.0 (word_of addr))))) (same (block_of addr) (in_memory addr fits))
  call_same c _ fits = refl

  pei_same : (granted : Bool) (p : PeiLook) (ph : Phase) → p.block.0 < m.blocks → pei_row m s content granted p ph ≡ pei_row m s flat granted p ph
  pei_same granted p phase.Read inside =
      ap (λ (b : Block). Makes (if may_act m s p then event.Act p.id.seq (reply_of p.op p.operands b) else want m s p.id.core p.block true)) (same p.block inside)
  pei_same granted p phase.Sealed inside = by_head (slice_get (queue_of s (vault_of m p.block)) 0)
    where
      by_head : (head : Option PeiId) → head_row content p head ≡ head_row flat p head
      by_head None = refl
      by_head (Some head) = ap (λ (b : Block). if same_pei head p.id then Makes (event.Act p.id.seq (reply_of p.op p.operands b)) else Stalls (stall.NotHead head)) (same p.block inside)
  pei_same granted p _ inside = refl

  lane_same : (granted : Bool) (o : Option PeiLook) → ((p : PeiLook) → o ≡ Some p → p.block.0 < m.blocks) → lane_row m s content granted o ≡ lane_row m s flat granted o
  lane_same granted None inside = refl
  lane_same granted (Some p) inside = pei_same granted p p.phase (inside p refl)

  program_same : (x : CoreNext) (c : CoreId) → FitsMemory m.blocks x → program_turn m s content c x ≡ program_turn m s flat c x
  program_same (Calls x) c fits = ap Some (call_same c x fits)
  program_same (Busy register pei) c fits = refl
  program_same (Ended how) c fits = refl

  pub turn_same : (n : ℕ) (x : CoreNext) (a : Actor) (granted : Bool) → FitsMemory m.blocks x → LooksFit m.blocks s → turn_at_lane n x m s content a granted ≡ turn_at_lane n x m s flat a granted
  turn_same zero x a granted fits looks = program_same x a.core fits
  turn_same (suc n) x a granted fits looks = ap Some (lane_same granted (look_in s a.core a.lane) (λ p is. (looks a.core a.lane p is).1))

turn_is : (n : ℕ) (x : CoreNext) (m : MachineSpec) (image : Contents) (past : List Event) (a : Actor) (granted : Bool) → turn_at_lane n x m (state_after m past) (flat_block image past) a granted ≡ lane_turn n x m image past a granted
turn_is zero x m image past a granted = refl
turn_is (suc n) x m image past a granted = refl

-- the turn in the state is the turn after the history
pub turn_told : (x : CoreNext) (m : MachineSpec) (image : Contents) (past : List Event) (content : BlockNo → Block) (a : Actor) (granted : Bool) → ((b : BlockNo) → b.0 < m.blocks → content b ≡ flat_block image past b) → FitsMemory m.blocks x → LooksFit m.blocks (state_after m past)
    → turn_in x m (state_after m past) content a granted ≡ turn_of x m image past a granted
turn_told x m image past content a granted same fits looks =
    turn_same m (state_after m past) content (flat_block image past) same a.lane.0 x a granted fits looks ∙ turn_is a.lane.0 x m image past a granted

-- ---- all clauses

-- An event of an actor of the machine that the state tells to be its next row, on a free entry, meets every clause.
pub meets_all : (rows : RowsMeetAll) (p : Listing) (m : MachineSpec) (image : Contents) (past : List Event) (content : BlockNo → Block) (e : Event) → RunInOrder p m image past → ((b : BlockNo) → b.0 < m.blocks → content b ≡ flat_block image past b) → LooksFit m.blocks (state_after m past)
    → FitsMemory m.blocks (next_of_core p m image past e.actor.core) → is_actor_of m e.actor ≡ true → length past < m.events → MeetsIn (next_of_core p m image past e.actor.core) m (state_after m past) content e.actor e.kind → Meets p m image past e
meets_all rows p m image past content e order same looks fits actor room meets =
    rows.meets p m image past e order (
      actor,
      enters_told m (state_after m past) e.actor e.kind meets.free,
      (room, sym (turn_told (next_of_core p m image past e.actor.core) m image past content e.actor (is_entering e.kind) same fits looks) ∙ meets.turn),
    )
