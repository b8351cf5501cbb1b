-- What the bus keeps true of its caches and vaults, and what they are seen as together.
use Rattle.std.specs.Prelude.{◌≡◌, ℕ, ◌<◌, List, [], length, map}
use Rattle.std.specs.List.{AllByRecursion}
use Rattle.pei_types.specs.declared.identifiers.Block.{Block}
use Rattle.pei_types.specs.declared.identifiers.BlockNo.{BlockNo}
use Rattle.pei_types.specs.declared.lines.HeldLine.{HeldLine}
use Rattle.pei_types.specs.declared.machines.MachineSpec.{MachineSpec}
use Rattle.pei_types.specs.MachineState.{State}
use Rattle.pei_types.specs.Recency.{list_at}
use Rattle.coherence_laws.specs.Holdings.{Holdings, bare_copy, bare_line}
use Rattle.coherence_laws.specs.Invariants.{Invariants, caches_alone}
use Rattle.machine_laws.specs.Memory.{HoldsMemory, seen_block}
use Rattle.mesi_l1.specs.Cache as private
use Rattle.llc.specs.Cache as shared
use Rattle.stack_vaults.specs.Blocks.{Stack, content_of}
use Rattle.coherence_bus.specs.Hierarchy.{Hierarchy, all_blocks}
use Rattle.coherence_bus.specs.declared.bus.Bus.TheInside.{Inside}

-- what the private caches, the last-level cache and the vaults hold
abbrev pub holdings : List private.Cache → shared.Cache → Stack → Holdings
holdings caches llc vaults =
    record { l1 = map (λ v. v.sets) caches; llc = llc.sets; vault = λ b. content_of vaults b; buffer = λ id. record { 0 = [] } }

-- the state of the caches, beside no PEI
abbrev pub bare_state : MachineSpec → Holdings → State
bare_state m k = caches_alone m (map (map (map bare_copy)) k.l1) (map (map bare_line) k.llc)

-- what is seen of each block
abbrev pub seen : MachineSpec → Holdings → BlockNo → Block
seen m k b = seen_block m (bare_state m k) k b

abbrev pub hierarchy_of : MachineSpec → Holdings → Hierarchy
hierarchy_of m k =
    record { machine = m; l1 = map (map (map bare_copy)) k.l1; llc = map (map bare_line) k.llc; memory = all_blocks m (seen m k) }

-- The caches have their invariants, hold the memory that is seen in them, and hold no block but of that memory.
pub record Coheres (m : MachineSpec) (k : Holdings) : Type 0 where
  pub invariants : Invariants m (bare_state m k)
  pub holds : HoldsMemory m (bare_state m k) k (seen m k)
  pub within : (set : ℕ) → AllByRecursion (λ (x : HeldLine). x.block.0 < m.blocks) (list_at k.llc set)

-- the caches and the vaults have the machine's sizes
pub record HasSizes (m : MachineSpec) (caches : List private.Cache) (llc : shared.Cache) (vaults : Stack) : Type 0 where
  pub l1_ways : AllByRecursion (λ (v : private.Cache). v.ways ≡ m.l1_ways) caches
  pub llc_ways : llc.ways ≡ m.llc_ways
  pub blocks : length vaults.blocks ≡ m.blocks

abbrev pub held : Inside → Holdings
held i = holdings i.caches.items i.llc i.vaults

abbrev pub shown : Inside → Hierarchy
shown i = hierarchy_of i.machine (held i)

pub record IsKept (i : Inside) : Type 0 where
  pub sizes : HasSizes i.machine i.caches.items i.llc i.vaults
  pub coheres : Coheres i.machine (held i)
