-- Laws of the state, which the functions of `laws` prove.
use Rattle.std.specs.Prelude.{◌≡◌, ℕ, true, false, Bool, ◌&&◌, IsTrue, List, [], ◌∷◌, ◌++◌, length, filter, ◌≤◌, ◌<◌, Option, Some, None, ⊤, slice_index, slice_set}
use Rattle.pei_types.specs.declared.identifiers.Actor.{Actor}
use Rattle.pei_types.specs.declared.calls.Call.{Call}
use Rattle.pei_types.specs.declared.identifiers.Block.{Block}
use Rattle.pei_types.specs.declared.identifiers.BlockNo.{BlockNo}
use Rattle.pei_types.specs.declared.identifiers.CoreId.{CoreId}
use Rattle.pei_types.specs.declared.identifiers.Lane.{Lane}
use Rattle.pei_types.specs.declared.identifiers.PeiId.{PeiId}
use Rattle.pei_types.specs.declared.operations.Letter.TheVariants as letter
use Rattle.pei_types.specs.declared.operations.Op.{Op}
use Rattle.pei_types.specs.declared.operations.Operands.{Operands}
use Rattle.pei_types.specs.declared.inflight_looks.PeiLook.{PeiLook}
use Rattle.pei_types.specs.declared.inflight_looks.Phase.TheVariants as phase
use Rattle.pei_types.specs.declared.events.Event.{Event}
use Rattle.pei_types.specs.declared.events.EventKind.{EventKind}
use Rattle.pei_types.specs.declared.machines.MachineSpec.{MachineSpec}
use Rattle.pei_types.specs.declared.events.EventKind.TheVariants as event
use Rattle.pei_types.specs.Blocks.{block_of, same_core, same_lane, same_pei}
use Rattle.pei_types.specs.Calls.{is_actor_of}
use Rattle.pei_types.specs.MachineState.{State, start_state, next_state, state_after, look_in, look_of, entry_is_taken, conflict, letter_of, mark_of, is_i, is_owned, is_phase, pei_id, in_phase, with_l1_front}
use Rattle.pei_types.specs.Guard.{guard}
use Rattle.pei_types.specs.Legal.{Legal, MachineLegal}
use Rattle.pei_types.specs.Next.{Makes, call_row, lane_row}
use Rattle.pei_types.specs.StateClauses.{EvictsLast, PlacesByMonitor, SealsHold}
use Rattle.pei_types.specs.Turns.{is_entering, turn_of}
use Rattle.pei_types.specs.Core.{CoreNext}
use Rattle.pei_types.specs.Replies.{RepliesRightly}
use Rattle.pei_types.specs.FlatMemory.{flat_block}
use Rattle.pei_types.specs.Operation.{is_writer, block_after}
use Rattle.pei_types.specs.Program.{Listing, Contents}
use Rattle.coherence_laws.specs.Invariants.{Invariants, HoldsSeal, IsAsIssued, caches_alone}
use Rattle.coherence_laws.specs.Sets.{Each}
use Rattle.coherence_laws.specs.Holdings.{Holdings, Follows, start_holdings, next_holdings, data_of, with_copy_front}
use Rattle.coherence_laws.specs.Data.{start_data, Data, DataHolds, BuffersHold, next_data, next_flat, data_after, peek, SameWhereThere, at_block, with_copy}

-- each PEI of the state after a journal is in the journal as it was issued
abbrev pub PeisAreAsIssued : MachineSpec → List Event → Type 0
PeisAreAsIssued m journal = let s : State = state_after m journal in Each (IsAsIssued journal) s.peis

-- In a state with the invariants a core has at most as many PEIs on their way as its buffer has entries, and a lane has
-- one: the PEI found in it is the one found under its name, and the other way round.
pub record LanesHoldPeis : Type 0 where
  pub within : (m : MachineSpec) (s : State) (c : CoreId) → Invariants m s → length (filter (λ p. same_core p.id.core c) s.peis) ≤ m.buffer
  pub named : (m : MachineSpec) (s : State) (c : CoreId) (l : Lane) (p : PeiLook) → Invariants m s → look_in s c l ≡ Some p → look_of s p.id ≡ Some p
  pub placed : (m : MachineSpec) (s : State) (a : Actor) (seq : ℕ) (p : PeiLook) → Invariants m s → look_of s (pei_id a seq) ≡ Some p → same_lane p.lane a.lane ≡ true → look_in s a.core a.lane ≡ Some p

-- The first state has the invariants, and every event of an actor of the machine that meets its guard keeps them. So
-- the state after a legal journal has them. The caches of a state that has them have them alone, beside no PEI.
pub record KeepsInvariants : Type 0 where
  pub start : (m : MachineSpec) → Invariants m (start_state m)
  pub next : (m : MachineSpec) (s : State) (a : Actor) (kind : EventKind) → Invariants m s → IsTrue (is_actor_of m a) → IsTrue (guard m s a kind) → Invariants m (next_state m s a kind)
  pub legal : (p : Listing) (m : MachineSpec) (image : Contents) (journal : List Event) → Legal p m image journal → Invariants m (state_after m journal)
  pub alone : (m : MachineSpec) (image : Contents) (journal : List Event) → MachineLegal m image journal → Invariants m (state_after m journal)
  pub caches : (m : MachineSpec) (s : State) → Invariants m s → Invariants m (caches_alone m s.l1 s.llc)

-- What keeps the invariants beside the guards, where a state has but some of the machine's PEIs: the counts of issues may be
-- greater; a PEI may be added that has not entered, with a name and a lane of its own; one may enter in whatever turn
-- where its entry is free; and fences may change.
pub record KeepsParts : Type 0 where
  pub counts : (m : MachineSpec) (s : State) (counts : List ℕ) → Invariants m s → length counts ≡ m.cores → ((c : ℕ) → slice_index s.issues c ≤ slice_index counts c) → Invariants m (record s { issues = counts })
  pub added : (m : MachineSpec) (s : State) (new : PeiLook) (counts : List ℕ) → Invariants m s → new.id.core.0 < m.cores → 0 < new.lane.0 → new.lane.0 ≤ m.buffer → Each (λ p. same_pei p.id new.id ≡ false) s.peis → Each (λ p. (same_core p.id.core new.id.core && same_lane p.lane new.lane) ≡ false) s.peis → new.phase ≡ phase.Issued → length counts ≡ m.cores → ((c : ℕ) → slice_index s.issues c ≤ slice_index counts c) → new.id.seq < slice_index counts new.id.core.0 → Invariants m (record s { peis = s.peis ++ new ∷ []; issues = counts })
  pub entered : (m : MachineSpec) (s : State) (id : PeiId) (p : PeiLook) → Invariants m s → look_of s id ≡ Some p → is_phase p.phase phase.Issued ≡ true → entry_is_taken m s p ≡ false → Invariants m (in_phase s id phase.Entered)
  pub fenced : (m : MachineSpec) (s : State) (c : CoreId) (fence : Option (List PeiId)) → Invariants m s → Invariants m (record s { fences = slice_set s.fences c.0 fence })

-- a load or a store races with no PEI on its way
abbrev pub IsNoRace : State → EventKind → Type 0
IsNoRace s (event.Load addr value) = conflict s (block_of addr) false ≡ None
IsNoRace s (event.Store addr value) = conflict s (block_of addr) true ≡ None
IsNoRace s _ = ⊤

-- The clauses on the state alone: guard, recency, monitor, race.
pub record IsAllowed (m : MachineSpec) (s : State) (a : Actor) (kind : EventKind) : Type 0 where
  pub guarded : IsTrue (guard m s a kind)
  pub recency : EvictsLast m s a kind
  pub monitor : PlacesByMonitor m s a kind
  pub no_race : IsNoRace s kind

-- In a state with the invariants the row of a core's call, or of a PEI in its lane, is allowed, and the seals hold
-- after it. Of an `Enter` this asks that no active PEI conflict with the one that enters.
pub record RowsAreAllowed : Type 0 where
  pub at_call : (m : MachineSpec) (s : State) (content : BlockNo → Block) (a : Actor) (x : Call) (kind : EventKind) → Invariants m s → call_row m s content a.core x ≡ Makes kind → IsAllowed m s a kind
  pub at_lane : (m : MachineSpec) (s : State) (content : BlockNo → Block) (a : Actor) (granted : Bool) (kind : EventKind) → Invariants m s → ((p : PeiLook) → look_in s a.core a.lane ≡ Some p → IsTrue (is_entering kind) → entry_is_taken m s p ≡ false) → lane_row m s content granted (look_in s a.core a.lane) ≡ Makes kind → IsAllowed m s a kind
  pub seals : (m : MachineSpec) (s : State) → Invariants m s → SealsHold m s
  pub seals_after : (m : MachineSpec) (s : State) (a : Actor) (kind : EventKind) → Invariants m s → IsTrue (is_actor_of m a) → IsTrue (guard m s a kind) → SealsHold m (next_state m s a kind)

-- After a journal whose state has the invariants, the turn of an actor, whatever its core does next, is allowed; and
-- its reply is flat memory's, where each PEI is as it was issued. Of an `Enter` this asks that no active PEI conflict
-- with the one that enters.
pub record TurnsAreAllowed : Type 0 where
  pub allowed : (x : CoreNext) (m : MachineSpec) (image : Contents) (journal : List Event) (a : Actor) (granted : Bool) (kind : EventKind) → Invariants m (state_after m journal) → ((p : PeiLook) → look_in (state_after m journal) a.core a.lane ≡ Some p → IsTrue (is_entering kind) → entry_is_taken m (state_after m journal) p ≡ false) → turn_of x m image journal a granted ≡ Some (Makes kind) → IsAllowed m (state_after m journal) a kind
  pub replies : (x : CoreNext) (m : MachineSpec) (image : Contents) (journal : List Event) (a : Actor) (granted : Bool) (kind : EventKind) → PeisAreAsIssued m journal → turn_of x m image journal a granted ≡ Some (Makes kind) → RepliesRightly m image journal a kind

-- Contents that hold some memory, in a state with the invariants: an event that meets its guard leaves contents that
-- hold that memory after the event, where a message changes nothing, and no buffer is out of date. So they do after an
-- issue into any lane, under any name. What is seen of a block is what memory holds.
pub record KeepsContents : Type 0 where
  pub next : (m : MachineSpec) (s : State) (d : Data) (flat : BlockNo → Block) (a : Actor) (kind : EventKind) → Invariants m s → IsTrue (is_actor_of m a) → IsTrue (guard m s a kind) → DataHolds m s d flat → DataHolds m (next_state m s a kind) (next_data m s d a kind) (next_flat s flat a kind)
  pub buffers : (m : MachineSpec) (s : State) (d : Data) (flat : BlockNo → Block) (a : Actor) (kind : EventKind) → Invariants m s → IsTrue (guard m s a kind) → IsNoRace s kind → DataHolds m s d flat → BuffersHold s d flat → BuffersHold (next_state m s a kind) (next_data m s d a kind) (next_flat s flat a kind)
  pub issued : (m : MachineSpec) (s : State) (d : Data) (flat : BlockNo → Block) (new : PeiLook) (counts : List ℕ) → new.phase ≡ phase.Issued → DataHolds m s d flat → BuffersHold s d flat → DataHolds m (record s { peis = s.peis ++ new ∷ []; issues = counts }) d flat × BuffersHold (record s { peis = s.peis ++ new ∷ []; issues = counts }) d flat
  pub seen : (m : MachineSpec) (s : State) (d : Data) (flat : BlockNo → Block) (b : BlockNo) → Invariants m s → DataHolds m s d flat → peek m s d b ≡ flat b
  pub shows : (m : MachineSpec) (s : State) (d : Data) (a : Actor) (kind : EventKind) (b : BlockNo) → Invariants m s → IsTrue (is_actor_of m a) → IsTrue (guard m s a kind) → DataHolds m s d (peek m s d) → peek m (next_state m s a kind) (next_data m s d a kind) b ≡ next_flat s (peek m s d) a kind b
  pub same : (m : MachineSpec) (s : State) (d g : Data) (flat : BlockNo → Block) → Invariants m s → SameWhereThere m s d g → DataHolds m s d flat → DataHolds m s g flat
  pub same_buffers : (m : MachineSpec) (s : State) (d g : Data) (flat : BlockNo → Block) → SameWhereThere m s d g → BuffersHold s d flat → BuffersHold s g flat

-- A block that is written whole, in a state with the invariants: by a core, in a copy that it may write, or by memory,
-- which executes a PEI on a block as under a seal. Then memory holds what was written there, and all else as before.
pub record KeepsWrites : Type 0 where
  pub invariants : (m : MachineSpec) (s : State) (c : CoreId) (b : BlockNo) → Invariants m s → is_owned (letter_of m s c b) ≡ true → Invariants m (with_l1_front m s c b letter.M)
  pub lines : (m : MachineSpec) (s : State) (k : Holdings) (d : Data) (c : CoreId) (b : BlockNo) (content : Block) → Invariants m s → is_owned (letter_of m s c b) ≡ true → Follows m s k d → Follows m (with_l1_front m s c b letter.M) (with_copy_front m k c b letter.M content) (with_copy d c b content)
  pub copies : (m : MachineSpec) (s : State) (d : Data) (flat : BlockNo → Block) (c : CoreId) (b : BlockNo) (content : Block) → Invariants m s → is_owned (letter_of m s c b) ≡ true → DataHolds m s d flat → DataHolds m (with_l1_front m s c b letter.M) (with_copy d c b content) (at_block flat b content)
  pub current : (m : MachineSpec) (s : State) (d : Data) (flat : BlockNo → Block) (b : BlockNo) (writer : Bool) → HoldsSeal (letter_of m s) (mark_of m s) b writer → DataHolds m s d flat → d.vault b ≡ flat b
  pub vaults : (m : MachineSpec) (s : State) (d : Data) (flat : BlockNo → Block) (b : BlockNo) (o : Op) (operands : Operands) → HoldsSeal (letter_of m s) (mark_of m s) b (is_writer o) → DataHolds m s d flat → DataHolds m s (record d { vault = at_block d.vault b (block_after o operands (d.vault b)) }) (at_block flat b (block_after o operands (flat b)))

-- After a legal journal the contents hold flat memory, and so does what is seen of each block and what is in the
-- buffers of PEIs between read and act. Each PEI of the state is as it was issued.
pub record HoldsFlatMemory : Type 0 where
  pub holds : (m : MachineSpec) (image : Contents) (journal : List Event) → MachineLegal m image journal → DataHolds m (state_after m journal) (data_after m image journal) (flat_block image journal)
  pub buffers : (m : MachineSpec) (image : Contents) (journal : List Event) → MachineLegal m image journal → BuffersHold (state_after m journal) (data_after m image journal) (flat_block image journal)
  pub as_issued : (m : MachineSpec) (image : Contents) (journal : List Event) → MachineLegal m image journal → PeisAreAsIssued m journal
  pub seen : (m : MachineSpec) (image : Contents) (journal : List Event) (b : BlockNo) → MachineLegal m image journal → peek m (state_after m journal) (data_after m image journal) b ≡ flat_block image journal b

-- What is read is what memory holds: a core's copy, the buffer of a PEI between its read and its act, and the vault's
-- block of a sealed PEI.
pub record ReadsAreCurrent : Type 0 where
  pub copies : (m : MachineSpec) (s : State) (d : Data) (flat : BlockNo → Block) (c : CoreId) (b : BlockNo) → Invariants m s → DataHolds m s d flat → is_i (letter_of m s c b) ≡ false → d.copy c b ≡ flat b
  pub buffers : (m : MachineSpec) (s : State) (d : Data) (flat : BlockNo → Block) (id : PeiId) (p : PeiLook) → BuffersHold s d flat → look_of s id ≡ Some p → is_phase p.phase phase.Read ≡ true → d.buffer p.id ≡ flat p.block
  pub vaults : (m : MachineSpec) (s : State) (d : Data) (flat : BlockNo → Block) (id : PeiId) (p : PeiLook) → Invariants m s → DataHolds m s d flat → look_of s id ≡ Some p → is_phase p.phase phase.Sealed ≡ true → d.vault p.block ≡ flat p.block

-- Flat memory after one more event is what the event makes of it by the PEIs of the state, where each is as it was
-- issued.
abbrev pub FlatMemoryGoesOn : Type 0
FlatMemoryGoesOn = (m : MachineSpec) (image : Contents) (journal : List Event) (a : Actor) (kind : EventKind) (b : BlockNo) → PeisAreAsIssued m journal → IsTrue (guard m (state_after m journal) a kind) → flat_block image (journal ++ record { actor = a; kind = kind } ∷ []) b ≡ next_flat (state_after m journal) (flat_block image journal) a kind b

-- Lines with contents that follow a state and its contents do so after each event that meets its guard: without their
-- contents they are the state's lists, and they hold the contents. So they hold the memory that those hold.
pub record FollowsContents : Type 0 where
  pub start : (m : MachineSpec) (image : Contents) → Follows m (start_state m) (start_holdings m image) (start_data image)
  pub next : (m : MachineSpec) (s : State) (k : Holdings) (d : Data) (a : Actor) (kind : EventKind) → Invariants m s → IsTrue (is_actor_of m a) → IsTrue (guard m s a kind) → Follows m s k d → Follows m (next_state m s a kind) (next_holdings m s k a kind) (next_data m s d a kind)
  pub holds : (m : MachineSpec) (s : State) (k : Holdings) (d : Data) (flat : BlockNo → Block) → Invariants m s → Follows m s k d → DataHolds m s d flat → DataHolds m s (data_of m k) flat
  pub buffers : (m : MachineSpec) (s : State) (k : Holdings) (d : Data) (flat : BlockNo → Block) → Follows m s k d → BuffersHold s d flat → BuffersHold s (data_of m k) flat
