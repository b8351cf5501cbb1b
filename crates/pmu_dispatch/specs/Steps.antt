-- The answers as rows of the step table.
use Rattle.std.specs.Prelude.{◌≡◌, ℕ, Bool, true, false, if◌then◌else◌, Option, Some, None, slice_index}
use Rattle.pei_types.specs.declared.identifiers.Block.{Block}
use Rattle.pei_types.specs.declared.identifiers.BlockNo.{BlockNo}
use Rattle.pei_types.specs.declared.identifiers.PeiId.{PeiId}
use Rattle.pei_types.specs.declared.inflight_looks.PeiLook.{PeiLook}
use Rattle.pei_types.specs.declared.calls.Call.TheVariants as call
use Rattle.pei_types.specs.declared.events.EventKind.{EventKind}
use Rattle.pei_types.specs.declared.events.EventKind.TheVariants as event
use Rattle.pei_types.specs.declared.machines.MachineSpec.{MachineSpec}
use Rattle.pei_types.specs.Blocks.{block_of, word_of, vault_of, tag_of, llc_set_of}
use Rattle.pei_types.specs.MachineState.{State, conflict}
use Rattle.pei_types.specs.Monitor.{placement}
use Rattle.pei_types.specs.Next.{Turn, Makes, Stalls, call_row, act_kind}
use Rattle.pei_types.specs.Recency.{list_at}
use Rattle.pmu_dispatch.specs.declared.looks.WantLooks.{WantLooks}
use Rattle.pmu_dispatch.specs.declared.accesses.AccessNext.{AccessNext}
use Rattle.pmu_dispatch.specs.declared.accesses.AccessNext.TheVariants as access
use Rattle.pmu_dispatch.specs.declared.lanes.LaneNext.{LaneNext}
use Rattle.pmu_dispatch.specs.declared.lanes.LaneNext.TheVariants as lane
use Rattle.pmu_dispatch.specs.Shown.{AreLooksOf}

-- whether an event is a coherence message
abbrev pub is_message : EventKind → Bool
is_message (event.Invalidate c b) = true
is_message (event.Downgrade c b) = true
is_message (event.EvictL1 c b) = true
is_message (event.Clean b) = true
is_message (event.EvictLlc b) = true
is_message (event.Fill b) = true
is_message (event.GrantS b) = true
is_message (event.GrantE b) = true
is_message (event.GrantM b) = true
is_message _ = false

abbrev pub message_made : EventKind → Option Turn
message_made kind = if is_message kind then Some (Makes kind) else None

-- ---- the row that the answer to an access is, where `hit` is the access itself

abbrev pub access_made : EventKind → ℕ → BlockNo → AccessNext → Option Turn
access_made hit pc b (access.Race by) = Some (Makes (event.Race pc b by))
access_made hit pc b access.Hit = Some (Makes hit)
access_made hit pc b (access.Message kind) = message_made kind

-- whatever the content of memory, the instruction and the word of the block, the answer is the row of the load
abbrev pub IsLoadRow : WantLooks → Option PeiId → AccessNext → Type 0
IsLoadRow looks by answer =
    (m : MachineSpec) (s : State) (content : BlockNo → Block) (pc addr : ℕ) → AreLooksOf m s looks → by ≡ conflict s looks.block false → block_of addr ≡ looks.block
    → access_made (event.Load addr (slice_index (content looks.block).0 (word_of addr))) pc looks.block answer ≡ Some (call_row m s content looks.own (call.Load pc addr))

-- and the row of the store
abbrev pub IsStoreRow : WantLooks → Option PeiId → AccessNext → Type 0
IsStoreRow looks by answer =
    (m : MachineSpec) (s : State) (content : BlockNo → Block) (pc addr value : ℕ) → AreLooksOf m s looks → by ≡ conflict s looks.block true → block_of addr ≡ looks.block
    → access_made (event.Store addr value) pc looks.block answer ≡ Some (call_row m s content looks.own (call.Store pc addr value))

abbrev pub IsAccessRow : Bool → WantLooks → Option PeiId → AccessNext → Type 0
IsAccessRow true looks by answer = IsStoreRow looks by answer
IsAccessRow false looks by answer = IsLoadRow looks by answer

-- ---- the row that the answer to a lane is: the monitor gives the place, the content the reply

abbrev pub pei_made : MachineSpec → State → (BlockNo → Block) → PeiLook → LaneNext → Option Turn
pei_made m s content p (lane.Stall cause) = Some (Stalls cause)
pei_made m s content p lane.Place =
    Some (Makes (event.Place p.id.seq (placement m.placement (tag_of m p.block) (list_at s.monitor (llc_set_of m p.block)))))
pei_made m s content p lane.Read = Some (Makes (event.Read p.id.seq))
pei_made m s content p lane.Seal = Some (Makes (event.Seal p.id.seq (vault_of m p.block)))
pei_made m s content p lane.Act = Some (Makes (act_kind content p))
pei_made m s content p lane.Leave = Some (Makes (event.Leave p.id.seq))
pei_made m s content p (lane.Message kind) = message_made kind

-- a lane that holds no PEI can only stall
abbrev pub lane_made : MachineSpec → State → (BlockNo → Block) → Option PeiLook → LaneNext → Option Turn
lane_made m s content None (lane.Stall cause) = Some (Stalls cause)
lane_made m s content None _ = None
lane_made m s content (Some p) answer = pei_made m s content p answer
