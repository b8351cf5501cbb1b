-- What the table of PEIs on their way is seen as.
use Rattle.std.specs.Prelude.{ℕ, suc, ◌+◌, ◌-◌, ◌*◌, ◌<◌, ◌≤◌, List, [], ◌∷◌, ◌++◌, replicate, drop, find, Option, Some, None, option_map, slice_get, slice_index, slice_set, ◌≡◌, Bool, ◌&&◌, nat_le, nat_lt, if◌then◌else◌}
use Rattle.std.specs.Option.{option_map_or}
use Rattle.pei_types.specs.Operation.{is_writer}
use Rattle.pei_types.specs.declared.identifiers.Block.{Block}
use Rattle.pei_types.specs.declared.identifiers.BlockNo.{BlockNo}
use Rattle.pei_types.specs.declared.identifiers.CoreId.{CoreId}
use Rattle.pei_types.specs.declared.identifiers.Lane.{Lane}
use Rattle.pei_types.specs.declared.identifiers.PeiId.{PeiId}
use Rattle.pei_types.specs.declared.inflight_looks.PeiLook.{PeiLook}
use Rattle.pei_types.specs.declared.operations.Op.{Op}
use Rattle.pei_types.specs.declared.operations.Operands.{Operands}
use Rattle.pei_types.specs.declared.operations.Place.{Place}
use Rattle.pei_types.specs.declared.operations.Place.TheVariants as place
use Rattle.pei_types.specs.declared.inflight_looks.Phase.{Phase}
use Rattle.pei_types.specs.declared.inflight_looks.Phase.TheVariants as phase
use Rattle.pei_types.specs.declared.machines.MachineSpec.{MachineSpec}
use Rattle.pei_types.specs.MachineState.{State, start_state, pei_state, look_in, in_phase, with_queued, queue_of, after_leaving, unfinished_writers}
use Rattle.pei_types.specs.Blocks.{same_block, same_pei, vault_of}
use Rattle.pei_types.specs.Recency.{change_at}
use Rattle.inflight.specs.Entries.{behind}

-- The machine; its state without caches and monitor; and the block in each operand buffer entry.
pub record OnTheWay : Type 0 where
  pub machine : MachineSpec
  pub state : State
  pub buffers : List Block

-- the place among the buffers of the entry of a core's lane
abbrev pub buffer_place : CoreId → Lane → ℕ
buffer_place c l = 4 * c.0 + l.0 - 1

abbrev pub zero_block : Block
zero_block = record { 0 = replicate 8 0 }

-- where no PEI has been issued
abbrev pub none_issued : MachineSpec → OnTheWay
none_issued m = record { machine = m; state = pei_state (start_state m); buffers = replicate 32 zero_block }

-- a core of the machine, and the lane of one of its operand buffer entries
pub record IsLaneOf (m : MachineSpec) (c : CoreId) (l : Lane) : Type 0 where
  pub core : c.0 < m.cores
  pub first : 1 ≤ l.0
  pub last : l.0 ≤ m.buffer

-- the phase of the PEI in a lane, if it holds one
abbrev pub phase_in : State → CoreId → Lane → Option Phase
phase_in s c l = option_map (λ p. p.phase) (look_in s c l)

-- the phase of a PEI that is placed
abbrev pub phase_at : Place → Phase
phase_at place.Host = phase.HostPlaced
phase_at place.Memory = phase.MemoryPlaced

-- the state after the issue of a PEI, which is the core's next
abbrev pub after_issuing : State → CoreId → Lane → Op → BlockNo → Operands → State
after_issuing s c l o b operands =
    record s {
      peis =
          s.peis
          ++ record {
            id = record { core = c; seq = slice_index s.issues c.0 };
            lane = l;
            op = o;
            block = b;
            operands = operands;
            phase = phase.Issued;
          }
          ∷ [];
      issues = change_at s.issues c.0 suc;
    }

-- the counts of issues, where a core's is above this number
abbrev pub counting : List ℕ → CoreId → ℕ → List ℕ
counting issues c n = if nat_le (slice_index issues c.0) n then slice_set issues c.0 (n + 1) else issues

-- the state after the issue of a PEI under a number that is given
abbrev pub after_issuing_as : State → CoreId → Lane → ℕ → Op → BlockNo → Operands → State
after_issuing_as s c l n o b operands =
    record s {
      peis =
          s.peis
          ++ record {
            id = record { core = c; seq = n };
            lane = l;
            op = o;
            block = b;
            operands = operands;
            phase = phase.Issued;
          }
          ∷ [];
      issues = counting s.issues c n;
    }

-- the place of a lane in a list of numbers, and whether a PEI writes and its lane's number is below a bound
abbrev pub number_place : CoreId → Lane → ℕ
number_place c l = 4 * c.0 + l.0

abbrev pub is_writer_below : List ℕ → ℕ → PeiLook → Bool
is_writer_below numbers bound p = is_writer p.op && nat_lt (slice_index numbers (number_place p.id.core p.lane)) bound

-- the state with the PEI of a lane in another phase, and without the PEI
abbrev pub lane_in_phase : State → CoreId → Lane → Phase → State
lane_in_phase s c l ph = option_map_or (λ p. in_phase s p.id ph) (look_in s c l) s

abbrev pub without_lane : State → CoreId → Lane → State
without_lane s c l = option_map_or (λ p. after_leaving s p.id) (look_in s c l) s

-- the state after the beginning of a core's fence, and after its end
abbrev pub after_fence_begin : State → CoreId → State
after_fence_begin s c = record s { fences = slice_set s.fences c.0 (Some (unfinished_writers s)) }

abbrev pub after_fence_end : State → CoreId → State
after_fence_end s c = record s { fences = slice_set s.fences c.0 None }

-- the first PEI on the block of a lane's PEI, of those issued after it
abbrev pub next_on_block : State → CoreId → Lane → Option PeiId
next_on_block s c l =
    option_map_or (λ p. option_map (λ q. q.id) (find (λ q. same_block q.block p.block) (behind (λ q. same_pei q.id p.id) s.peis))) (look_in s c l) None

-- the state with the PEI of a lane sealed, at the back of a vault's queue
abbrev pub after_sealing : State → CoreId → Lane → ℕ → State
after_sealing s c l v = option_map_or (λ p. in_phase (with_queued s v p.id) p.id phase.Sealed) (look_in s c l) s

-- a sealed PEI that heads the queue of its block's vault
abbrev pub IsHead : MachineSpec → State → Option PeiLook → Type 0
IsHead m s None = ⊥
IsHead m s (Some p) = (p.phase ≡ phase.Sealed) × (slice_get (queue_of s (vault_of m p.block)) 0 ≡ Some p.id)

-- the vault of a sealed PEI's block
abbrev pub vault_in : MachineSpec → PeiLook → Phase → Option ℕ
vault_in m p phase.Sealed = Some (vault_of m p.block)
vault_in m p _ = None

abbrev pub sealed_vault : MachineSpec → Option PeiLook → Option ℕ
sealed_vault m None = None
sealed_vault m (Some p) = vault_in m p p.phase

-- the state without the head of the queue of the vault of a lane's PEI
abbrev pub without_head : MachineSpec → State → CoreId → Lane → State
without_head m s c l = option_map_or (λ p. record s { queues = change_at s.queues (vault_of m p.block) (drop 1) }) (look_in s c l) s
