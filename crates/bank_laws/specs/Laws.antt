-- The laws of this crate.
use Rattle.std.specs.Prelude.{◌≡◌, ℕ, ◌<◌, ◌≤◌, Bool, true, false, ◌&&◌, nat_lt, IsTrue, List, [], ◌∷◌, ◌++◌, length, map, filter, Some, is_none, is_some}
use Rattle.std.specs.List.{list_any}
use Rattle.pei_types.specs.declared.stamps.Stamped.{Stamped}
use Rattle.pei_types.specs.declared.identifiers.Actor.{Actor}
use Rattle.pei_types.specs.declared.identifiers.Block.{Block}
use Rattle.pei_types.specs.declared.identifiers.BlockNo.{BlockNo}
use Rattle.pei_types.specs.declared.identifiers.CoreId.{CoreId}
use Rattle.pei_types.specs.declared.identifiers.PeiId.{PeiId}
use Rattle.pei_types.specs.declared.calls.Call.{Call}
use Rattle.pei_types.specs.declared.calls.EndKind.{EndKind}
use Rattle.pei_types.specs.declared.inflight_looks.PeiLook.{PeiLook}
use Rattle.pei_types.specs.declared.inflight_looks.Phase.{Phase}
use Rattle.pei_types.specs.declared.inflight_looks.Phase.TheVariants as phase
use Rattle.pei_types.specs.declared.events.Event.{Event}
use Rattle.pei_types.specs.declared.events.EventKind.{EventKind}
use Rattle.pei_types.specs.declared.machines.MachineSpec.{MachineSpec}
use Rattle.pei_types.specs.Blocks.{same_core}
use Rattle.pei_types.specs.Calls.{is_actor_of}
use Rattle.pei_types.specs.MachineState.{State, next_state, state_after, is_phase, is_i, letter_of, look_of, fence_of}
use Rattle.pei_types.specs.Core.{Calls, events_of}
use Rattle.pei_types.specs.Ends.{IsComplete, end_in}
use Rattle.pei_types.specs.Exclusion.{EntersAlone}
use Rattle.pei_types.specs.Fence.{FencesEarlier}
use Rattle.pei_types.specs.FlatMemory.{flat_block}
use Rattle.pei_types.specs.Guard.{guard}
use Rattle.pei_types.specs.History.{issued_peis}
use Rattle.pei_types.specs.Legal.{EachEvent, Legal, MachineLegal}
use Rattle.pei_types.specs.Next.{Makes, call_row, pei_row}
use Rattle.pei_types.specs.Limits.{IsPowerOfTwo}
use Rattle.pei_types.specs.Operation.{is_writer}
use Rattle.pei_types.specs.Program.{Listing, Contents}
use Rattle.pei_types.specs.Recency.{list_at}
use Rattle.history_laws.specs.Sound.{GoesByRow, IssuesUnfenced}
use Rattle.history_laws.specs.TrackedPeis.{fence_is_on}
use Rattle.coherence_laws.specs.Holdings.{Holdings, bare_copy, bare_line, held_copy, start_holdings, next_holdings}
use Rattle.coherence_laws.specs.Invariants.{HasSets, HasSizes}
use Rattle.coherence_laws.specs.Laws.{IsNoRace}
use Rattle.coherence_laws.specs.Sets.{Each}
use Rattle.machine_laws.specs.Memory.{HoldsMemory, seen_block}
use Rattle.machine_laws.specs.InOrder.{MachineInOrder}
use Rattle.history_laws.specs.Members.{In}
use Rattle.bank_laws.specs.Banks.{HasBanks, Placed, EachPlaced, Stands, StandsRightly, bank_of, journal_of, log_of}
use Rattle.bank_laws.specs.Parts.{SameInBank, SameForCore, is_issued_in}
use Rattle.bank_laws.specs.Own.{next_peis, next_issues}
use Rattle.bank_laws.specs.Local.{IsAccess, IsOwnCall, SameOn, IsLocal, IsOfCore, FindsAlike}
use Rattle.bank_laws.specs.Rows.{IsCallOf, IsRowIn, IsRowOfBank, GoesInBank, MadeRightly, IsGuardedWidely, GoesInSome, bank_look}
use Rattle.bank_laws.specs.Logs.{NextInLogs, event_with, history_below, merged, Rises, AreStamped, AreOwn, IsFront, HandsBack, CoresHandBack}
use Rattle.bank_laws.specs.Across.{HappensBelow, LeavesFirst, ExcludeByStamps, FollowInLogs, FenceByStamps}
use Rattle.bank_laws.specs.Kept.{BankInOrder, FitsInBank}
use Rattle.bank_laws.specs.Merge.{IsWhole, SameCaches, AreIssueStamps, StandByIssue, LastFenceBegan, HoldSame}

-- A machine whose banks are a power of two, and no more than its sets and vaults, has each set and vault in one bank. Where each
-- event stands in the bank that it was made in, the state after the journal is, in each bank, the one after the
-- bank's own log; the PEIs issued in the log are those of the journal that are on the bank's blocks; and flat memory is, on
-- these blocks, that of the log. The state after any journal is, for each core, the one after the core's own events, and so
-- the core looks the same in both.
pub record BanksKeepApart : Type 0 where
  pub banks : (m : MachineSpec) → IsPowerOfTwo m.banks → m.banks ≤ m.l1_sets → m.banks ≤ m.llc_sets → m.banks ≤ m.vaults → HasBanks m
  pub state : (m : MachineSpec) (history : List Placed) (k : ℕ) → HasBanks m → EachPlaced (StandsRightly m) history → SameInBank m k (state_after m (journal_of history)) (state_after m (log_of k history))
  pub issued : (m : MachineSpec) (history : List Placed) (k : ℕ) → EachPlaced (StandsRightly m) history → issued_peis (log_of k history) ≡ filter (is_issued_in m k) (issued_peis (journal_of history))
  pub memory : (m : MachineSpec) (image : Contents) (history : List Placed) (b : BlockNo) → EachPlaced (StandsRightly m) history → flat_block image (journal_of history) b ≡ flat_block image (log_of (bank_of m b) history) b
  pub core : (m : MachineSpec) (journal : List Event) (c : CoreId) → SameForCore c (state_after m journal) (state_after m (events_of c journal))
  pub look : (m : MachineSpec) (journal : List Event) (c : CoreId) → bank_look m (state_after m journal) c ≡ bank_look m (state_after m (events_of c journal)) c

-- Rows and guards are local. The row of an access, and of a PEI that has entered, reads only the bank of its block; that of
-- an issue, an output, an end, and of a PEI that has not entered, only its core; whether a fence begins is its core's too.
-- So do the guards. And the event of a row stands in the bank: every message, and every victim, is of the bank of the block
-- that is wanted.
pub record RowsAreLocal : Type 0 where
  pub access : (m : MachineSpec) (k : ℕ) (s t : State) (content other : BlockNo → Block) (c : CoreId) (x : Call) → HasBanks m → HasSets m s → SameInBank m k s t → SameOn m k content other → IsAccess x → IsCallOf m k (Calls x) → call_row m s content c x ≡ call_row m t other c x
  pub entered : (m : MachineSpec) (k : ℕ) (s t : State) (content other : BlockNo → Block) (granted : Bool) (p : PeiLook) (ph : Phase) → HasBanks m → HasSets m s → SameInBank m k s t → SameOn m k content other → bank_of m p.block ≡ k → is_phase ph phase.Issued ≡ false → pei_row m s content granted p ph ≡ pei_row m t other granted p ph
  pub call : (m : MachineSpec) (s t : State) (content other : BlockNo → Block) (c : CoreId) (x : Call) → SameForCore c s t → IsOwnCall x → call_row m s content c x ≡ call_row m t other c x
  pub entering : (m : MachineSpec) (s t : State) (content other : BlockNo → Block) (granted : Bool) (p : PeiLook) → SameForCore p.id.core s t → pei_row m s content granted p phase.Issued ≡ pei_row m t other granted p phase.Issued
  pub guards : (m : MachineSpec) (k : ℕ) (s t : State) (a : Actor) (kind : EventKind) → SameInBank m k s t → IsLocal kind → Stands m k (FindsAlike m k s t) a kind → guard m s a kind ≡ guard m t a kind
  pub core_guards : (m : MachineSpec) (s t : State) (a : Actor) (kind : EventKind) → SameForCore a.core s t → IsOfCore kind → guard m s a kind ≡ guard m t a kind
  pub call_stays : (m : MachineSpec) (k : ℕ) (s : State) (content : BlockNo → Block) (a : Actor) (x : Call) (kind : EventKind) → HasBanks m → HasSets m s → IsCallOf m k (Calls x) → call_row m s content a.core x ≡ Makes kind → Stands m k (λ _. ⊥) a kind
  pub pei_stays : (m : MachineSpec) (k : ℕ) (s : State) (content : BlockNo → Block) (a : Actor) (granted : Bool) (p : PeiLook) (kind : EventKind) → HasBanks m → HasSets m s → p.id.core ≡ a.core → bank_of m p.block ≡ k → pei_row m s content granted p p.phase ≡ Makes kind → Stands m k (λ id. id ≡ p.id) a kind

-- Where each event goes by its row in its bank, as the bank's own log and the core's own events tell it, enters alone and
-- fences rightly in the journal of all banks, that journal is legal in every clause; and each event stands in its bank, so
-- that each bank's state and memory are those of its log. A legal journal whose events are made in the right banks is such
-- a history, and every legal journal can be so placed: no more was asked than legality.
pub record BanksMakeLegal : Type 0 where
  pub legal : (p : Listing) (m : MachineSpec) (image : Contents) (history : List Placed) → HasBanks m → EachPlaced (GoesInBank p m image) history → Legal p m image (journal_of history)
  pub rows : (p : Listing) (m : MachineSpec) (image : Contents) (history : List Placed) → HasBanks m → EachPlaced (GoesInBank p m image) history → EachEvent (GoesByRow p m image) (journal_of history)
  pub stands : (p : Listing) (m : MachineSpec) (image : Contents) (history : List Placed) → HasBanks m → EachPlaced (GoesInBank p m image) history → EachPlaced (StandsRightly m) history
  pub exact : (p : Listing) (m : MachineSpec) (image : Contents) (history : List Placed) → HasBanks m → Legal p m image (journal_of history) → EachPlaced (MadeRightly p m image) history → EachPlaced (GoesInBank p m image) history
  pub always : (p : Listing) (m : MachineSpec) (image : Contents) (journal : List Event) → HasBanks m → Legal p m image journal → (history : List Placed) × (journal_of history ≡ journal) × EachPlaced (GoesInBank p m image) history

-- The logs of the banks, where their stamps are the numbers below n, each once, and rise along each log; each core hands back
-- its events, and that they go by their rows in what it saw; and in the journal of all banks every PEI enters alone and every
-- fence ends behind the earlier writers. Then that journal is legal, the machine is in order after it, and each event stands in
-- its bank. Each bank's part of the journal is the bank's log, and each core's the core's events; it is complete where each core
-- has handed back its end. What a core hands back stays right when logs grow, and when it makes one more event, that is a row of
-- the bank whose log it holds.
pub record LogsMakeLegal : Type 0 where
  pub legal : (p : Listing) (m : MachineSpec) (image : Contents) (n : ℕ) (logs : List (List Stamped)) (mine : CoreId → List Stamped) (seen : CoreId → List (List Stamped)) → HasBanks m → n ≤ m.events → AreStamped n logs → CoresHandBack p m image logs mine seen → EachEvent (λ before e. EntersAlone m before e.actor e.kind) (merged n logs) → EachEvent (λ before e. FencesEarlier before e.actor e.kind) (merged n logs) → Legal p m image (merged n logs)
  pub order : (p : Listing) (m : MachineSpec) (image : Contents) (n : ℕ) (logs : List (List Stamped)) (mine : CoreId → List Stamped) (seen : CoreId → List (List Stamped)) → HasBanks m → n ≤ m.events → AreStamped n logs → CoresHandBack p m image logs mine seen → EachEvent (λ before e. EntersAlone m before e.actor e.kind) (merged n logs) → EachEvent (λ before e. FencesEarlier before e.actor e.kind) (merged n logs) → MachineInOrder m (merged n logs)
  pub stands : (p : Listing) (m : MachineSpec) (image : Contents) (n : ℕ) (logs : List (List Stamped)) (mine : CoreId → List Stamped) (seen : CoreId → List (List Stamped)) → HasBanks m → n ≤ m.events → AreStamped n logs → CoresHandBack p m image logs mine seen → EachEvent (λ before e. EntersAlone m before e.actor e.kind) (merged n logs) → EachEvent (λ before e. FencesEarlier before e.actor e.kind) (merged n logs) → EachPlaced (StandsRightly m) (history_below n logs)
  pub goes : (p : Listing) (m : MachineSpec) (image : Contents) (n : ℕ) (logs : List (List Stamped)) (mine : CoreId → List Stamped) (seen : CoreId → List (List Stamped)) → n ≤ m.events → AreStamped n logs → CoresHandBack p m image logs mine seen → EachEvent (λ before e. EntersAlone m before e.actor e.kind) (merged n logs) → EachEvent (λ before e. FencesEarlier before e.actor e.kind) (merged n logs) → EachPlaced (GoesInBank p m image) (history_below n logs)
  pub log : (n : ℕ) (logs : List (List Stamped)) (k : ℕ) → AreStamped n logs → log_of k (history_below n logs) ≡ map (λ x. x.event) (list_at logs k)
  pub own : (n : ℕ) (logs : List (List Stamped)) (c : CoreId) (mine : List Stamped) → AreStamped n logs → AreOwn c mine logs → events_of c (merged n logs) ≡ map (λ x. x.event) mine
  pub size : (n : ℕ) (logs : List (List Stamped)) → AreStamped n logs → length (merged n logs) ≡ n
  pub complete : (m : MachineSpec) (n : ℕ) (logs : List (List Stamped)) (mine : CoreId → List Stamped) → AreStamped n logs → ((c : CoreId) → AreOwn c (mine c) logs) → ((c : CoreId) → c.0 < m.cores → (x : Stamped) × (kind : EndKind) × In x (mine c) × (end_in x.event.kind ≡ Some kind)) → IsComplete m (merged n logs)
  pub start : (p : Listing) (m : MachineSpec) (image : Contents) (seen : List (List Stamped)) → HandsBack p m image [] seen
  pub seen : (p : Listing) (m : MachineSpec) (image : Contents) (mine : List Stamped) (seen more : List (List Stamped)) → ((k : ℕ) → IsFront (list_at seen k) (list_at more k)) → ((k : ℕ) → Rises (list_at more k)) → HandsBack p m image mine seen → HandsBack p m image mine more
  pub next : (p : Listing) (m : MachineSpec) (image : Contents) (mine : List Stamped) (seen : List (List Stamped)) (k : ℕ) (log : List Stamped) (x : Stamped) → Rises (mine ++ x ∷ []) → Rises (list_at seen k) → list_at seen k ≡ log ++ x ∷ [] → IsRowIn p m image k (map (λ y. y.event) log) (map (λ y. y.event) mine) x.event → HandsBack p m image mine seen → HandsBack p m image (mine ++ x ∷ []) seen

-- The journal of all banks, event by event: below the last stamp the next event stands in one log, and no log has an event with
-- a greater stamp. A history begins with each shorter one.
pub record LogsGoOn : Type 0 where
  pub next : (n i : ℕ) (logs : List (List Stamped)) → AreStamped n logs → i < n → NextInLogs n i logs
  pub found : (n i : ℕ) (logs : List (List Stamped)) (x : Placed) → AreStamped n logs → event_with i logs ≡ Some x → i < n
  pub front : (i n : ℕ) (logs : List (List Stamped)) → i ≤ n → (rest : List Placed) × (history_below n logs ≡ history_below i logs ++ rest)

-- Banks merge into one machine. The state after the journal of all logs has of each bank what the bank's log leaves, and flat
-- memory too; and no more is needed, since two states with as many lists that are the same in every bank have the same
-- caches, monitors and queues, and PEIs that are the same in every bank and stand by the stamps of their issues are the same.
-- In that state they stand so; and a fence that is on waits for the writers among them whose issues have smaller stamps than
-- its begin. What each bank holds of its own blocks, all together hold.
pub record BanksMerge : Type 0 where
  pub parts : (m : MachineSpec) (n : ℕ) (logs : List (List Stamped)) → HasBanks m → AreStamped n logs → EachPlaced (StandsRightly m) (history_below n logs) → IsWhole m (λ k. state_after m (map (λ x. x.event) (list_at logs k))) (state_after m (merged n logs))
  pub flat : (m : MachineSpec) (image : Contents) (n : ℕ) (logs : List (List Stamped)) (b : BlockNo) → AreStamped n logs → EachPlaced (StandsRightly m) (history_below n logs) → flat_block image (merged n logs) b ≡ flat_block image (map (λ x. x.event) (list_at logs (bank_of m b))) b
  pub sizes : (m : MachineSpec) (journal : List Event) → HasSizes m (state_after m journal)
  pub caches : (m : MachineSpec) (s t : State) → HasSizes m s → HasSizes m t → IsWhole m (λ k. t) s → SameCaches s t
  pub peis : (m : MachineSpec) (stamp : PeiId → ℕ) (s t : State) → StandByIssue stamp s.peis → StandByIssue stamp t.peis → IsWhole m (λ k. t) s → s.peis ≡ t.peis
  pub order : (m : MachineSpec) (n : ℕ) (logs : List (List Stamped)) (stamp : PeiId → ℕ) → AreStamped n logs → AreIssueStamps logs stamp → MachineInOrder m (merged n logs) → StandByIssue stamp (state_after m (merged n logs)).peis
  pub fences : (m : MachineSpec) (n : ℕ) (logs : List (List Stamped)) (stamp : PeiId → ℕ) (c : CoreId) (begin : ℕ) → AreStamped n logs → AreIssueStamps logs stamp → MachineInOrder m (merged n logs) → LastFenceBegan c begin logs → is_none (fence_of (state_after m (merged n logs)) c) ≡ false → fence_of (state_after m (merged n logs)) c ≡ Some (map (λ p. p.id) (filter (λ p. is_writer p.op && nat_lt (stamp p.id) begin) (state_after m (merged n logs)).peis))
  pub memory : (m : MachineSpec) (s : State) (h : Holdings) (memory : BlockNo → Block) (parts : ℕ → State) (held : ℕ → Holdings) (of_bank : ℕ → BlockNo → Block) → map (map (map bare_copy)) h.l1 ≡ s.l1 → map (map bare_line) h.llc ≡ s.llc → IsWhole m parts s → ((k : ℕ) → k < m.banks → HoldSame m k s h (held k)) → ((k : ℕ) → k < m.banks → SameOn m k memory (of_bank k)) → ((k : ℕ) → k < m.banks → HoldsMemory m (parts k) (held k) (of_bank k)) → HoldsMemory m s h memory

-- Banks that know no program: where each event is a row that its bank vouches for, whatever its core called and knew, and with all
-- banks' events before it meets the guards that look at more than one bank, enters alone, fences rightly and issues nothing
-- behind its core's open fence, their journal is one of the machine alone, which is in order, and each event stands in its bank.
-- So it is where each bank vouches for the events of its own log, and the rest holds of the journal of all logs.
pub record BanksMakeMachine : Type 0 where
  pub legal : (m : MachineSpec) (image : Contents) (history : List Placed) → HasBanks m → EachPlaced (GoesInSome m image) history → MachineLegal m image (journal_of history)
  pub order : (m : MachineSpec) (image : Contents) (history : List Placed) → HasBanks m → EachPlaced (GoesInSome m image) history → MachineInOrder m (journal_of history)
  pub stands : (m : MachineSpec) (image : Contents) (history : List Placed) → HasBanks m → EachPlaced (GoesInSome m image) history → EachPlaced (StandsRightly m) history
  pub logs : (m : MachineSpec) (image : Contents) (n : ℕ) (logs : List (List Stamped)) → n ≤ m.events → AreStamped n logs → ((k : ℕ) → EachEvent (IsRowOfBank m image k) (map (λ x. x.event) (list_at logs k))) → EachEvent (λ before e. IsTrue (is_actor_of m e.actor)) (merged n logs) → EachEvent (λ before e. IsGuardedWidely m (state_after m before) e.actor e.kind) (merged n logs) → EachEvent (λ before e. EntersAlone m before e.actor e.kind) (merged n logs) → EachEvent (λ before e. FencesEarlier before e.actor e.kind) (merged n logs) → EachEvent (λ before e. IssuesUnfenced before e.actor e.kind) (merged n logs) → EachPlaced (GoesInSome m image) (history_below n logs)

-- What the stamps say across banks makes the clauses of all: where no two conflicting PEIs are between enter and leave at once,
-- every PEI of the journal of all banks enters alone; it is enough that in each log by itself every event of a PEI is its next,
-- that issues have numbers of their own, and that conflicting PEIs leave first. And where each fence ends behind the leaves of
-- the writers issued before it began, every fence of that journal does so.
pub record StampsTell : Type 0 where
  pub exclusion : (m : MachineSpec) (n : ℕ) (logs : List (List Stamped)) → AreStamped n logs → ExcludeByStamps m logs → EachEvent (λ before e. EntersAlone m before e.actor e.kind) (merged n logs)
  pub excluded : (m : MachineSpec) (n : ℕ) (logs : List (List Stamped)) → AreStamped n logs → FollowInLogs logs → LeavesFirst m logs → ExcludeByStamps m logs
  pub fences : (n : ℕ) (logs : List (List Stamped)) → AreStamped n logs → FenceByStamps logs → EachEvent (λ before e. FencesEarlier before e.actor e.kind) (merged n logs)
  pub happened : (n : ℕ) (logs : List (List Stamped)) (i : ℕ) (test : Event → Bool) → AreStamped n logs → i ≤ n → list_any test (merged i logs) ≡ true → HappensBelow logs test i
  pub happens : (n : ℕ) (logs : List (List Stamped)) (i : ℕ) (test : Event → Bool) → AreStamped n logs → i ≤ n → HappensBelow logs test i → list_any test (merged i logs) ≡ true

-- One bank goes on by itself. It is in order at the start, with all of memory in its vaults, and after each event that is a row
-- of its own state, whatever the core called and knew, where a PEI is issued with a lane and a number that are new to the bank
-- and enters where no active PEI of the bank conflicts. Then the row of a message, an access or a PEI that has entered meets
-- its guard and does not race; and a copy, and the vault's block of a sealed PEI, hold flat memory of the bank's log.
pub record BanksGoOn : Type 0 where
  pub start : (m : MachineSpec) (image : Contents) → BankInOrder m image [] (start_holdings m image)
  pub next : (m : MachineSpec) (image : Contents) (k : ℕ) (log : List Event) (h : Holdings) (e : Event) → BankInOrder m image log h → IsTrue (is_actor_of m e.actor) → IsRowOfBank m image k log e → FitsInBank m log e.actor e.kind → BankInOrder m image (log ++ e ∷ []) (next_holdings m (state_after m log) h e.actor e.kind)
  pub guarded : (m : MachineSpec) (image : Contents) (k : ℕ) (log : List Event) (h : Holdings) (e : Event) → BankInOrder m image log h → IsRowOfBank m image k log e → IsLocal e.kind → IsTrue (guard m (state_after m log) e.actor e.kind) × IsNoRace (state_after m log) e.kind
  pub copies : (m : MachineSpec) (image : Contents) (log : List Event) (h : Holdings) (c : CoreId) (b : BlockNo) → BankInOrder m image log h → is_i (letter_of m (state_after m log) c b) ≡ false → held_copy m h c b ≡ flat_block image log b
  pub seen : (m : MachineSpec) (image : Contents) (log : List Event) (h : Holdings) (b : BlockNo) → BankInOrder m image log h → seen_block m (state_after m log) h b ≡ flat_block image log b
  pub buffers : (m : MachineSpec) (image : Contents) (log : List Event) (h : Holdings) (id : PeiId) (p : PeiLook) → BankInOrder m image log h → look_of (state_after m log) id ≡ Some p → is_phase p.phase phase.Read ≡ true → h.buffer p.id ≡ flat_block image log p.block
  pub vaults : (m : MachineSpec) (image : Contents) (log : List Event) (h : Holdings) (id : PeiId) (p : PeiLook) → BankInOrder m image log h → look_of (state_after m log) id ≡ Some p → is_phase p.phase phase.Sealed ≡ true → h.vault p.block ≡ flat_block image log p.block

-- A core's own events alone tell what it knows of itself, event by event, whatever the caches are: each event does to its PEIs and
-- to its count of issues what `next_peis` and `next_issues` say, and its fence is on from a begin to an end.
pub record CoresGoOn : Type 0 where
  pub step : (m : MachineSpec) (s : State) (a : Actor) (kind : EventKind) → (next_state m s a kind).peis ≡ next_peis a kind s.peis
  pub peis : (m : MachineSpec) (own : List Event) (e : Event) → (state_after m (own ++ e ∷ [])).peis ≡ next_peis e.actor e.kind (state_after m own).peis
  pub issues : (m : MachineSpec) (own : List Event) (e : Event) → (state_after m (own ++ e ∷ [])).issues ≡ next_issues e.actor e.kind (state_after m own).issues
  pub fence : (m : MachineSpec) (own : List Event) (c : CoreId) → c.0 < m.cores → is_some (bank_look m (state_after m own) c).fence ≡ fence_is_on c own
  pub only : (m : MachineSpec) (own : List Event) (c : CoreId) → Each (λ e. same_core e.actor.core c ≡ true) own → Each (λ p. same_core p.id.core c ≡ true) (state_after m own).peis
