-- What an actor does next, as its bank and its core see it: `bank` is the state that the bank's own log leaves, and the core
-- looks as its own events leave it.
use Rattle.std.specs.Prelude.{◌≡◌, ℕ, zero, suc, ◌<◌, Bool, ⊤, IsTrue, List, [], length, Option, Some, None}
use Rattle.pei_types.specs.declared.identifiers.Actor.{Actor}
use Rattle.pei_types.specs.declared.identifiers.Block.{Block}
use Rattle.pei_types.specs.declared.identifiers.BlockNo.{BlockNo}
use Rattle.pei_types.specs.declared.identifiers.CoreId.{CoreId}
use Rattle.pei_types.specs.declared.calls.Call.TheVariants as call
use Rattle.pei_types.specs.declared.identifiers.PeiId.{PeiId}
use Rattle.pei_types.specs.declared.inflight_looks.PeiLook.{PeiLook}
use Rattle.pei_types.specs.declared.inflight_looks.StallCause.TheVariants as stall
use Rattle.pei_types.specs.declared.events.Event.{Event}
use Rattle.pei_types.specs.declared.events.EventKind.{EventKind}
use Rattle.pei_types.specs.declared.events.EventKind.TheVariants as event
use Rattle.pei_types.specs.declared.machines.MachineSpec.{MachineSpec}
use Rattle.pei_types.specs.Blocks.{block_of}
use Rattle.pei_types.specs.Calls.{is_actor_of}
use Rattle.pei_types.specs.MachineState.{State, state_after, look_in, fence_of}
use Rattle.pei_types.specs.Core.{CoreNext, Calls, Busy, Ended, core_next, events_of, next_of_core, core_config}
use Rattle.pei_types.specs.Exclusion.{EntersAlone}
use Rattle.pei_types.specs.Fence.{FencesEarlier}
use Rattle.pei_types.specs.FlatMemory.{flat_block}
use Rattle.pei_types.specs.Guard.{guard}
use Rattle.pei_types.specs.Next.{Turn, Makes, Stalls, CoreLook, core_look, call_row_by, pei_row_by}
use Rattle.pei_types.specs.Program.{Listing, Contents}
use Rattle.pei_types.specs.Turns.{is_entering}
use Rattle.history_laws.specs.Sound.{IssuesUnfenced}
use Rattle.bank_laws.specs.Banks.{Placed, bank_of, journal_of, log_of}

-- a fence that is on, as one that waits for nobody
abbrev pub without_waits : Option (List PeiId) → Option (List PeiId)
without_waits None = None
without_waits (Some waits) = Some []

-- What a core knows of itself. A fence that is on ends here: that the earlier writers have left is asked of all banks.
abbrev pub bank_look : MachineSpec → State → CoreId → CoreLook
bank_look m s c = record (core_look m s c) { fence = without_waits (fence_of s c) }

-- An access goes by the bank, and every other call by what the core knows; a PEI enters by what its core knows, and goes on by
-- its bank.
abbrev pub program_turn_in : MachineSpec → State → CoreLook → (BlockNo → Block) → CoreId → CoreNext → Option Turn
program_turn_in m bank look content c (Calls x) = Some (call_row_by look m bank content c x)
program_turn_in m bank look content c (Busy register pei) = None
program_turn_in m bank look content c (Ended how) = None

abbrev pub pei_turn_in : MachineSpec → State → CoreLook → (BlockNo → Block) → Bool → Option PeiLook → Turn
pei_turn_in m bank look content granted None = Stalls stall.Idle
pei_turn_in m bank look content granted (Some p) = pei_row_by look m bank content granted p p.phase

-- The turn of an actor in a bank, where x is what its core does next and its core looks so. `granted` says that its PEI's
-- directory entry is held.
abbrev pub turn_in : ℕ → CoreNext → MachineSpec → State → CoreLook → (BlockNo → Block) → Actor → Bool → Option Turn
turn_in zero x m bank look content a granted = program_turn_in m bank look content a.core x
turn_in (suc l) x m bank look content a granted = Some (pei_turn_in m bank look content granted (look_in bank a.core a.lane))

-- a call is made in the bank of its block, and one that names no block in any bank
abbrev pub IsCallOf : MachineSpec → ℕ → CoreNext → Type 0
IsCallOf m k (Calls (call.Load pc addr)) = bank_of m (block_of addr) ≡ k
IsCallOf m k (Calls (call.Store pc addr value)) = bank_of m (block_of addr) ≡ k
IsCallOf m k (Calls (call.Pei o b operands)) = bank_of m b ≡ k
IsCallOf m k _ = ⊤

-- a program's event is made in the bank of its call; a lane's in the bank that has its PEI
abbrev pub IsMadeIn : MachineSpec → ℕ → ℕ → CoreNext → Type 0
IsMadeIn m k zero x = IsCallOf m k x
IsMadeIn m k (suc l) x = ⊤

-- An event is a row of bank k, where `log` are the events before it in that bank, `own` those of its core, and x what its core
-- does next: its actor is one of the machine's, x is made in this bank, and it is the row that bank and core see.
pub record IsRowFor (x : CoreNext) (m : MachineSpec) (image : Contents) (k : ℕ) (log own : List Event) (e : Event) : Type 0 where
  pub actor : IsTrue (is_actor_of m e.actor)
  pub made : IsMadeIn m k e.actor.lane.0 x
  pub row : turn_in e.actor.lane.0 x m (state_after m log) (bank_look m (state_after m own) e.actor.core) (flat_block image log) e.actor (is_entering e.kind) ≡ Some (Makes e.kind)

-- the same, where the program says what the core does next
abbrev pub IsRowIn : Listing → MachineSpec → Contents → ℕ → List Event → List Event → Event → Type 0
IsRowIn p m image k log own e = IsRowFor (core_next p image (core_config m) e.actor.core own) m image k log own e

-- An event goes by its row in its bank, behind a history of all banks: there is room for it, and with all banks' events before
-- it, it enters alone and ends a fence behind the earlier writers.
pub record GoesInBank (p : Listing) (m : MachineSpec) (image : Contents) (before : List Placed) (x : Placed) : Type 0 where
  pub room : length before < m.events
  pub row : IsRowIn p m image x.bank (log_of x.bank before) (events_of x.event.actor.core (journal_of before)) x.event
  pub alone : EntersAlone m (journal_of before) x.event.actor x.event.kind
  pub fenced : FencesEarlier (journal_of before) x.event.actor x.event.kind

-- An event is made in the right bank: a program's in that of its call, and a lane's in that of the block of the lane's PEI.
pub record MadeRightly (p : Listing) (m : MachineSpec) (image : Contents) (before : List Placed) (x : Placed) : Type 0 where
  pub call : IsMadeIn m x.bank x.event.actor.lane.0 (next_of_core p m image (journal_of before) x.event.actor.core)
  pub lane : (l : PeiLook) → 0 < x.event.actor.lane.0 → look_in (state_after m (journal_of before)) x.event.actor.core x.event.actor.lane ≡ Some l → bank_of m l.block ≡ x.bank

-- ---- banks that know no program

-- What a bank alone vouches for: the event is a row on the bank's own state, for some call that is made in it, and whatever
-- the core knew of itself.
pub record IsRowOfBank (m : MachineSpec) (image : Contents) (k : ℕ) (log : List Event) (e : Event) : Type 0 where
  pub next : CoreNext
  pub look : CoreLook
  pub made : IsMadeIn m k e.actor.lane.0 next
  pub row : turn_in e.actor.lane.0 next m (state_after m log) look (flat_block image log) e.actor (is_entering e.kind) ≡ Some (Makes e.kind)

-- the guard of an event that looks at more than one bank
abbrev pub IsGuardedWidely : MachineSpec → State → Actor → EventKind → Type 0
IsGuardedWidely m s a (event.Issue seq lane o b operands) = IsTrue (guard m s a (event.Issue seq lane o b operands))
IsGuardedWidely m s a event.FenceBegin = IsTrue (guard m s a event.FenceBegin)
IsGuardedWidely m s a event.FenceEnd = IsTrue (guard m s a event.FenceEnd)
IsGuardedWidely m s a (event.End kind) = IsTrue (guard m s a (event.End kind))
IsGuardedWidely m s a (event.Enter seq) = IsTrue (guard m s a (event.Enter seq))
IsGuardedWidely m s a _ = ⊤

-- An event of banks that know no program, behind a history of all of them: its actor is one of the machine's, there is room, its
-- bank vouches for it, and with all banks' events before it, it meets the guards that look at more than one bank, enters alone,
-- fences rightly, and issues nothing while its core's fence is on.
pub record GoesInSome (m : MachineSpec) (image : Contents) (before : List Placed) (x : Placed) : Type 0 where
  pub actor : IsTrue (is_actor_of m x.event.actor)
  pub room : length before < m.events
  pub row : IsRowOfBank m image x.bank (log_of x.bank before) x.event
  pub guarded : IsGuardedWidely m (state_after m (journal_of before)) x.event.actor x.event.kind
  pub alone : EntersAlone m (journal_of before) x.event.actor x.event.kind
  pub fenced : FencesEarlier (journal_of before) x.event.actor x.event.kind
  pub unfenced : IssuesUnfenced (journal_of before) x.event.actor x.event.kind
