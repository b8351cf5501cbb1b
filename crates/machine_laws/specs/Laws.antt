-- The laws of this crate.
use Rattle.std.specs.Prelude.{◌≡◌, ◌↔◌, ℕ, ◌<◌, true, false, IsTrue, List, [], ◌∷◌, ◌++◌, length, Some}
use Rattle.std.specs.List.{list_all}
use Rattle.pei_types.specs.declared.identifiers.Actor.{Actor}
use Rattle.pei_types.specs.declared.identifiers.Block.{Block}
use Rattle.pei_types.specs.declared.identifiers.BlockNo.{BlockNo}
use Rattle.pei_types.specs.declared.identifiers.CoreId.{CoreId}
use Rattle.pei_types.specs.declared.identifiers.PeiId.{PeiId}
use Rattle.pei_types.specs.declared.operations.Letter.TheVariants as letter
use Rattle.pei_types.specs.declared.operations.Op.{Op}
use Rattle.pei_types.specs.declared.operations.Operands.{Operands}
use Rattle.pei_types.specs.declared.inflight_looks.PeiLook.{PeiLook}
use Rattle.pei_types.specs.declared.inflight_looks.Phase.TheVariants as phase
use Rattle.pei_types.specs.declared.events.Event.{Event}
use Rattle.pei_types.specs.declared.events.EventKind.{EventKind}
use Rattle.pei_types.specs.declared.events.EventKind.TheVariants as event
use Rattle.pei_types.specs.declared.machines.MachineSpec.{MachineSpec}
use Rattle.pei_types.specs.Calls.{Messages, FollowsPei, is_actor_of, side_of}
use Rattle.pei_types.specs.MachineState.{State, start_state, next_state, state_after, letter_of, mark_of, is_i, is_owned, look_of, is_phase, with_l1_front}
use Rattle.pei_types.specs.Core.{CoreNext}
use Rattle.pei_types.specs.Exclusion.{EntersAlone}
use Rattle.pei_types.specs.FlatMemory.{flat_block}
use Rattle.pei_types.specs.Guard.{guard}
use Rattle.pei_types.specs.Legal.{EachEvent, Legal, MachineLegal, Meets, MeetsAll}
use Rattle.pei_types.specs.Operation.{is_writer, block_after}
use Rattle.pei_types.specs.Program.{Listing, Contents, block_at}
use Rattle.pei_types.specs.Schedule.{Run, Policy, run_at_start, turn, scheduled_run, whole_table, round_robin, serial, by_draws, by_list}
use Rattle.pei_types.specs.Turns.{IsNextOf}
use Rattle.history_laws.specs.Fits.{AsksForFence, EntersFree}
use Rattle.history_laws.specs.Runs.{WholeRun}
use Rattle.history_laws.specs.Sound.{ChoosesActors, IssuesUnfenced, GoesByRow}
use Rattle.coherence_laws.specs.Data.{at_block, next_flat}
use Rattle.coherence_laws.specs.Holdings.{Holdings, held_copy, start_holdings, next_holdings, with_copy_front}
use Rattle.coherence_laws.specs.Invariants.{Invariants, HoldsSeal, caches_alone}
use Rattle.coherence_laws.specs.Laws.{IsNoRace}
use Rattle.machine_laws.specs.Memory.{HoldsMemory, SameHoldings, seen_block, holdings_after}
use Rattle.machine_laws.specs.InOrder.{MachineInOrder, RunInOrder}

-- The machine below the cores starts in order. An event that is the next row of an actor of the machine, where x is what
-- its core does next, and that enters only on a free entry, meets every clause with x; and one that meets every clause
-- is such a row. It leaves the machine in order where the core goes on asking for a fence that is on; a lane's event does
-- so whatever its core does. The machine is in order after each journal of its own in which no core issues while its
-- fence is on. A PEI that is to enter next in its lane conflicts with no active PEI of the journal exactly where it enters on
-- a free entry.
pub record MachineGoesOn : Type 0 where
  pub start : (m : MachineSpec) → MachineInOrder m []
  pub meets : (x : CoreNext) (m : MachineSpec) (image : Contents) (journal : List Event) (e : Event) → MachineInOrder m journal → IsTrue (is_actor_of m e.actor) → EntersFree m (state_after m journal) e.actor e.kind → IsNextOf x m image journal e.actor e.kind → MeetsAll x m image journal e
  pub free : (x : CoreNext) (m : MachineSpec) (image : Contents) (journal : List Event) (e : Event) → MachineInOrder m journal → MeetsAll x m image journal e → EntersFree m (state_after m journal) e.actor e.kind
  pub next : (x : CoreNext) (m : MachineSpec) (image : Contents) (journal : List Event) (e : Event) → MachineInOrder m journal → IsTrue (is_actor_of m e.actor) → EntersFree m (state_after m journal) e.actor e.kind → AsksForFence x journal e.actor.core → IsNextOf x m image journal e.actor e.kind → MachineInOrder m (journal ++ e ∷ [])
  pub lane : (x : CoreNext) (m : MachineSpec) (image : Contents) (journal : List Event) (e : Event) → MachineInOrder m journal → IsTrue (is_actor_of m e.actor) → EntersFree m (state_after m journal) e.actor e.kind → 0 < e.actor.lane.0 → IsNextOf x m image journal e.actor e.kind → MachineInOrder m (journal ++ e ∷ [])
  pub alone : (m : MachineSpec) (image : Contents) (journal : List Event) → MachineLegal m image journal → EachEvent (λ before e. IssuesUnfenced before e.actor e.kind) journal → MachineInOrder m journal
  pub exclusion : (m : MachineSpec) (journal : List Event) (a : Actor) (seq : ℕ) → MachineInOrder m journal → FollowsPei journal a (event.Enter seq) seq → EntersAlone m journal a (event.Enter seq) ↔ EntersFree m (state_after m journal) a (event.Enter seq)

-- A program's run starts in order. An event meets every clause exactly where it goes by its actor's row, and it leaves
-- the run in order.
pub record RowsMeetAll : Type 0 where
  pub start : (p : Listing) (m : MachineSpec) (image : Contents) → RunInOrder p m image []
  pub meets : (p : Listing) (m : MachineSpec) (image : Contents) (journal : List Event) (e : Event) → RunInOrder p m image journal → GoesByRow p m image journal e → Meets p m image journal e
  pub row : (p : Listing) (m : MachineSpec) (image : Contents) (journal : List Event) (e : Event) → RunInOrder p m image journal → Meets p m image journal e → GoesByRow p m image journal e
  pub next : (p : Listing) (m : MachineSpec) (image : Contents) (journal : List Event) (e : Event) → RunInOrder p m image journal → GoesByRow p m image journal e → RunInOrder p m image (journal ++ e ∷ [])
  pub machine : (p : Listing) (m : MachineSpec) (image : Contents) (journal : List Event) → RunInOrder p m image journal → MachineInOrder m journal

-- A journal is legal exactly where each of its events goes by its actor's row; and after a legal journal the run is in
-- order.
pub record RowsMakeLegal : Type 0 where
  pub legal : (p : Listing) (m : MachineSpec) (image : Contents) (journal : List Event) → EachEvent (GoesByRow p m image) journal → Legal p m image journal
  pub rows : (p : Listing) (m : MachineSpec) (image : Contents) (journal : List Event) → Legal p m image journal → EachEvent (GoesByRow p m image) journal
  pub order : (p : Listing) (m : MachineSpec) (image : Contents) (journal : List Event) → Legal p m image journal → RunInOrder p m image journal

-- Every scheduled run of the whole machine is legal, after any number of turns, by any policy that gives turns only to
-- the machine's actors: in turn, one actor until it stalls, by draws, or by a list of such actors. Turn by turn, a run
-- keeps what makes it legal, whoever has the turn.
pub record WholeRunsAreLegal : Type 0 where
  pub start : (p : Listing) (m : MachineSpec) (image : Contents) → WholeRun p m image (run_at_start m)
  pub turn : (p : Listing) (m : MachineSpec) (image : Contents) (r : Run) (a : Actor) → IsTrue (is_actor_of m a) → length r.journal < m.events → WholeRun p m image r → WholeRun p m image (turn (whole_table m image) p m image r a)
  pub so_far : (p : Listing) (m : MachineSpec) (image : Contents) (r : Run) → WholeRun p m image r → Legal p m image r.journal × RunInOrder p m image r.journal
  pub legal : (p : Listing) (m : MachineSpec) (image : Contents) (policy : Policy) (n : ℕ) → ChoosesActors m policy → Legal p m image (scheduled_run (whole_table m image) p m image policy n).journal
  pub in_turn : (p : Listing) (m : MachineSpec) (image : Contents) (n : ℕ) → Legal p m image (scheduled_run (whole_table m image) p m image (round_robin m) n).journal
  pub serial : (p : Listing) (m : MachineSpec) (image : Contents) (n : ℕ) → Legal p m image (scheduled_run (whole_table m image) p m image (serial m) n).journal
  pub drawn : (p : Listing) (m : MachineSpec) (image : Contents) (draws : ℕ → ℕ) (n : ℕ) → Legal p m image (scheduled_run (whole_table m image) p m image (by_draws m draws) n).journal
  pub listed : (p : Listing) (m : MachineSpec) (image : Contents) (list : List Actor) (n : ℕ) → IsTrue (list_all (is_actor_of m) list) → Legal p m image (scheduled_run (whole_table m image) p m image (by_list list) n).journal

-- Caches, vaults and operand buffers that hold some memory. They do from the start. After an event of an actor of the
-- machine that meets its guard and does not race they hold that memory as the event leaves it, changed by a store or an
-- act alone; so a message changes no block. An issue into any lane, under any name, changes none. What is seen of a block,
-- what a core finds in its copy, what is in the buffer of a PEI that has read, and what a sealed PEI finds in its vault, is
-- what memory holds. Next event by next event, with any call, the memory that they hold is flat memory after the journal.
pub record ContentsAreKept : Type 0 where
  pub start : (m : MachineSpec) (image : Contents) → HoldsMemory m (start_state m) (start_holdings m image) (block_at image)
  pub next : (m : MachineSpec) (s : State) (k : Holdings) (memory : BlockNo → Block) (a : Actor) (kind : EventKind) → Invariants m s → IsTrue (is_actor_of m a) → IsTrue (guard m s a kind) → IsNoRace s kind → HoldsMemory m s k memory → HoldsMemory m (next_state m s a kind) (next_holdings m s k a kind) (next_flat s memory a kind)
  pub issued : (m : MachineSpec) (s : State) (k : Holdings) (memory : BlockNo → Block) (new : PeiLook) (counts : List ℕ) → new.phase ≡ phase.Issued → HoldsMemory m s k memory → HoldsMemory m (record s { peis = s.peis ++ new ∷ []; issues = counts }) k memory
  pub message : (m : MachineSpec) (s : State) (k : Holdings) (memory : BlockNo → Block) (a : Actor) (kind : EventKind) → side_of kind ≡ Messages → Invariants m s → IsTrue (is_actor_of m a) → IsTrue (guard m s a kind) → HoldsMemory m s k memory → HoldsMemory m (next_state m s a kind) (next_holdings m s k a kind) memory
  pub seen : (m : MachineSpec) (s : State) (k : Holdings) (memory : BlockNo → Block) (b : BlockNo) → Invariants m s → HoldsMemory m s k memory → seen_block m s k b ≡ memory b
  pub shows : (m : MachineSpec) (s : State) (k : Holdings) (memory : BlockNo → Block) (a : Actor) (kind : EventKind) (b : BlockNo) → Invariants m s → IsTrue (is_actor_of m a) → IsTrue (guard m s a kind) → IsNoRace s kind → HoldsMemory m s k memory → seen_block m (next_state m s a kind) (next_holdings m s k a kind) b ≡ next_flat s (seen_block m s k) a kind b
  pub copies : (m : MachineSpec) (s : State) (k : Holdings) (memory : BlockNo → Block) (c : CoreId) (b : BlockNo) → Invariants m s → HoldsMemory m s k memory → is_i (letter_of m s c b) ≡ false → held_copy m k c b ≡ memory b
  pub buffers : (m : MachineSpec) (s : State) (k : Holdings) (memory : BlockNo → Block) (id : PeiId) (p : PeiLook) → HoldsMemory m s k memory → look_of s id ≡ Some p → is_phase p.phase phase.Read ≡ true → k.buffer p.id ≡ memory p.block
  pub vaults : (m : MachineSpec) (s : State) (k : Holdings) (memory : BlockNo → Block) (id : PeiId) (p : PeiLook) → Invariants m s → HoldsMemory m s k memory → look_of s id ≡ Some p → is_phase p.phase phase.Sealed ≡ true → k.vault p.block ≡ memory p.block
  pub same : (m : MachineSpec) (s : State) (k l : Holdings) (memory : BlockNo → Block) → Invariants m s → SameHoldings s k l → HoldsMemory m s k memory → HoldsMemory m s l memory
  pub event : (x : CoreNext) (m : MachineSpec) (image : Contents) (journal : List Event) (k : Holdings) (e : Event) → MachineInOrder m journal → MeetsAll x m image journal e → HoldsMemory m (state_after m journal) k (flat_block image journal) → HoldsMemory m (state_after m (journal ++ e ∷ [])) (next_holdings m (state_after m journal) k e.actor e.kind) (flat_block image (journal ++ e ∷ []))
  pub journal : (m : MachineSpec) (image : Contents) (journal : List Event) → MachineLegal m image journal → HoldsMemory m (state_after m journal) (holdings_after m image journal) (flat_block image journal)

-- The caches of a machine hold memory by themselves, beside no PEI. Then a block that a core writes whole, in a copy that
-- it may write, or that memory executes a PEI on as under a seal, is what was written, and memory holds all else as before.
pub record CachesHoldMemory : Type 0 where
  pub invariants : (m : MachineSpec) (s : State) → Invariants m s → Invariants m (caches_alone m s.l1 s.llc)
  pub alone : (m : MachineSpec) (s : State) (k : Holdings) (memory : BlockNo → Block) → HoldsMemory m s k memory → HoldsMemory m (caches_alone m s.l1 s.llc) k memory
  pub written : (m : MachineSpec) (s : State) (k : Holdings) (memory : BlockNo → Block) (c : CoreId) (b : BlockNo) (content : Block) → s.peis ≡ [] → Invariants m s → is_owned (letter_of m s c b) ≡ true → HoldsMemory m s k memory → Invariants m (with_l1_front m s c b letter.M) × HoldsMemory m (with_l1_front m s c b letter.M) (with_copy_front m k c b letter.M content) (at_block memory b content)
  pub executed : (m : MachineSpec) (s : State) (k : Holdings) (memory : BlockNo → Block) (b : BlockNo) (o : Op) (operands : Operands) → s.peis ≡ [] → HoldsSeal (letter_of m s) (mark_of m s) b (is_writer o) → HoldsMemory m s k memory → (k.vault b ≡ memory b) × HoldsMemory m s (record k { vault = at_block k.vault b (block_after o operands (k.vault b)) }) (at_block memory b (block_after o operands (memory b)))
