-- What one bank of a fabric is seen as, and what the definitions say of it.
use Rattle.std.specs.Prelude.{◌≡◌, ℕ, ◌<◌, ◌≤◌, Bool, false, ◌&&◌, ◌==◌, nat_lt, ⊤, if◌then◌else◌, List, [], ◌∷◌, ◌++◌, map, find, Option, Some, None, option_map, IsSome}
use Rattle.std.specs.List.{AllByRecursion, list_any, range_with_len}
use Rattle.pei_types.specs.declared.identifiers.Block.{Block}
use Rattle.pei_types.specs.declared.identifiers.BlockNo.{BlockNo}
use Rattle.pei_types.specs.declared.identifiers.CoreId.{CoreId}
use Rattle.pei_types.specs.declared.identifiers.Lane.{Lane}
use Rattle.pei_types.specs.declared.identifiers.PeiId.{PeiId}
use Rattle.pei_types.specs.declared.calls.Call.{Call}
use Rattle.pei_types.specs.declared.calls.Call.TheVariants as call
use Rattle.pei_types.specs.declared.events.Event.{Event}
use Rattle.pei_types.specs.declared.events.EventKind.{EventKind}
use Rattle.pei_types.specs.declared.events.EventKind.TheVariants as event
use Rattle.pei_types.specs.declared.inflight_looks.PeiLook.{PeiLook}
use Rattle.pei_types.specs.declared.inflight_looks.StallCause.{StallCause}
use Rattle.pei_types.specs.declared.inflight_looks.StallCause.TheVariants as stall
use Rattle.pei_types.specs.declared.machines.MachineSpec.{MachineSpec}
use Rattle.pei_types.specs.Blocks.{same_core}
use Rattle.pei_types.specs.Calls.{CallFits}
use Rattle.pei_types.specs.MachineState.{State, state_after, entry_is_taken, fence_of, look_in}
use Rattle.pei_types.specs.Core.{Calls}
use Rattle.pei_types.specs.FlatMemory.{flat_block}
use Rattle.pei_types.specs.History.{pei_of}
use Rattle.pei_types.specs.Next.{Turn as Row, Makes, Stalls, call_row_by}
use Rattle.pei_types.specs.Operation.{is_writer}
use Rattle.pei_types.specs.Program.{Contents}
use Rattle.pei_types.specs.declared.stamps.Stamped.{Stamped}
use Rattle.bank_laws.specs.Rows.{IsCallOf, pei_turn_in}
use Rattle.fabric.specs.Looks.{is_clear, open_fence, seen}
use Rattle.fabric.specs.declared.looks.CoreLook.{CoreLook}

-- The machine, the image of memory that it began with, the bank's number, and the bank's events with their stamps.
pub record BankHistory : Type 0 where
  pub machine : MachineSpec
  pub image : Contents
  pub bank : ℕ
  pub log : List Stamped

abbrev pub events_of : BankHistory → List Event
events_of h = map (λ x. x.event) h.log

-- the state that the log leaves, and the content of each block in its flat memory
abbrev pub bank_state : BankHistory → State
bank_state h = state_after h.machine (events_of h)

abbrev pub bank_content : BankHistory → BlockNo → Block
bank_content h = flat_block h.image (events_of h)

-- the bank's row for a core's call, and for a lane with its PEI
abbrev pub call_turn_of : BankHistory → CoreId → CoreLook → Call → Row
call_turn_of h c look x = call_row_by (seen look) h.machine (bank_state h) (bank_content h) c x

abbrev pub lane_turn_of : BankHistory → Bool → CoreId → Lane → CoreLook → Row
lane_turn_of h granted c l look = pei_turn_in h.machine (bank_state h) (seen look) (bank_content h) granted (look_in (bank_state h) c l)

-- why a row waits
abbrev pub stall_in : Row → Option StallCause
stall_in (Makes kind) = None
stall_in (Stalls cause) = Some cause

-- ---- writers with smaller issue stamps

abbrev pub is_issue : ℕ → EventKind → Bool
is_issue seq (event.Issue n lane o b operands) = n == seq
is_issue seq _ = false

-- whether an event issues this PEI, and whether a log has its issue with a stamp below a bound
abbrev pub issues : PeiId → Event → Bool
issues id e = same_core e.actor.core id.core && is_issue id.seq e.kind

abbrev pub is_issued_below : List Stamped → ℕ → PeiId → Bool
is_issued_below log bound id = list_any (λ x. issues id x.event && nat_lt x.stamp bound) log

-- the first unfinished writer of the bank whose issue has a smaller stamp
abbrev pub waits_of : BankHistory → ℕ → Option PeiId
waits_of h bound = option_map (λ p. p.id) (find (λ p. is_writer p.op && is_issued_below h.log bound p.id) (bank_state h).peis)

-- ---- stalls

-- A fence that is on waits for the bank, until the bits of all banks are set; all else waits as its row does.
abbrev pub fence_stall : BankHistory → CoreLook → Option ℕ → Option StallCause → Option StallCause
fence_stall h look None other = other
fence_stall h look (Some begin) other = if is_clear h.machine look then None else option_map stall.FenceWaits (waits_of h begin)

abbrev pub call_stall_of : BankHistory → CoreId → CoreLook → Call → Option StallCause
call_stall_of h c look x = fence_stall h look (open_fence look x) (stall_in (call_turn_of h c look x))

-- where a fence that is on has bits missing, the bank has a writer that it waits for
abbrev pub HasWaits : BankHistory → CoreLook → Option ℕ → Type 0
HasWaits h look None = ⊤
HasWaits h look (Some begin) = is_clear h.machine look ≡ false → IsSome (waits_of h begin)

-- ---- conditions

-- a stamp is above each of a log
abbrev pub IsNew : List Stamped → ℕ → Type 0
IsNew log stamp = AllByRecursion (λ x. x.stamp < stamp) log

-- a lane of a core's operand buffer that holds no PEI of this bank
pub record IsFreeIn (h : BankHistory) (c : CoreId) (l : Lane) : Type 0 where
  pub first : 1 ≤ l.0
  pub last : l.0 ≤ h.machine.buffer
  pub free : look_in (bank_state h) c l ≡ None

abbrev pub IsLaneFree : BankHistory → CoreId → Option Lane → Type 0
IsLaneFree h c None = ⊤
IsLaneFree h c (Some l) = IsFreeIn h c l

-- a core whose fence is on asks for it
abbrev pub AsksWhileFenced : Option ℕ → Call → Type 0
AsksWhileFenced None x = ⊤
AsksWhileFenced (Some begin) x = x ≡ call.Fence

-- the number of the core's next PEI is new to the bank
abbrev pub IsNumberNew : BankHistory → CoreId → CoreLook → Call → Type 0
IsNumberNew h c look (call.Pei o b operands) = (look.issues < h.machine.events) × (pei_of (events_of h) (record { core = c; seq = look.issues }) ≡ None)
IsNumberNew h c look _ = ⊤

-- a fence and all calls that name no block are made in bank 0
abbrev pub IsHome : ℕ → Call → Type 0
IsHome k call.Fence = k ≡ 0
IsHome k (call.Out value) = k ≡ 0
IsHome k (call.End kind) = k ≡ 0
IsHome k _ = ⊤

-- The bank has a fence of the core on exactly where the core knows it to be on, and then no writer that it waits for.
abbrev pub IsFenceDone : BankHistory → CoreId → Option ℕ → Type 0
IsFenceDone h c None = fence_of (bank_state h) c ≡ None
IsFenceDone h c (Some begin) = IsSome (fence_of (bank_state h) c) × (waits_of h begin ≡ None)

abbrev pub FencesRightly : BankHistory → CoreId → CoreLook → Call → Type 0
FencesRightly h c look call.Fence = IsFenceDone h c look.fence
FencesRightly h c look _ = ⊤

-- What a call in a bank asks, beside a new stamp: its row is an event, it is a call that the machine serves, made in this bank,
-- and what the core knows fits the bank.
pub record MayCall (h : BankHistory) (c : CoreId) (look : CoreLook) (x : Call) : Type 0 where
  pub core : c.0 < h.machine.cores
  pub goes : call_stall_of h c look x ≡ None
  pub fits : CallFits h.machine.blocks x
  pub asks : AsksWhileFenced look.fence x
  pub here : IsCallOf h.machine h.bank (Calls x)
  pub home : IsHome h.bank x
  pub lane : IsLaneFree h c look.free
  pub number : IsNumberNew h c look x
  pub fence : FencesRightly h c look x

-- no active PEI of the bank conflicts with the one in a lane
abbrev pub IsEntryFreeIn : BankHistory → CoreId → Lane → Type 0
IsEntryFreeIn h c l = (p : PeiLook) → look_in (bank_state h) c l ≡ Some p → entry_is_taken h.machine (bank_state h) p ≡ false

-- the bank after one more event
abbrev pub with_event : BankHistory → ℕ → Event → BankHistory
with_event h stamp e = record h { log = h.log ++ record { stamp = stamp; event = e } ∷ [] }

-- ---- all banks

abbrev pub bank_at_start : MachineSpec → Contents → ℕ → BankHistory
bank_at_start m image k = record { machine = m; image = image; bank = k; log = [] }

-- the banks of a machine, each with an empty log
abbrev pub banks_at_start : MachineSpec → Contents → List BankHistory
banks_at_start m image = map (bank_at_start m image) (range_with_len 0 m.banks)
