-- What the bus is seen as: the lines of all caches without their contents, and one memory.
use Rattle.std.specs.Prelude.{⊤, ℕ, ◌<◌, Bool, true, false, List, [], map, slice_index_or, slice_set}
use Rattle.std.specs.List.{range_with_len}
use Rattle.pei_types.specs.declared.identifiers.Actor.{Actor}
use Rattle.pei_types.specs.declared.identifiers.Block.{Block}
use Rattle.pei_types.specs.declared.identifiers.BlockNo.{BlockNo}
use Rattle.pei_types.specs.declared.identifiers.CoreId.{CoreId}
use Rattle.pei_types.specs.declared.operations.Letter.{Letter}
use Rattle.pei_types.specs.declared.operations.Letter.TheVariants as letter
use Rattle.pei_types.specs.declared.events.EventKind.{EventKind}
use Rattle.pei_types.specs.declared.events.EventKind.TheVariants as event
use Rattle.pei_types.specs.declared.machines.MachineSpec.{MachineSpec}
use Rattle.pei_types.specs.MachineState.{State, Line, LlcLine, start_state, next_state}
use Rattle.pei_types.specs.Program.{Contents, block_at}
use Rattle.coherence_laws.specs.Invariants.{caches_alone}

-- The machine's sizes; for each core and set the lines of its private cache, and for each set the lines of the last-level
-- cache, most recent first; and the content of each block, as all cores see it.
pub record Hierarchy : Type 0 where
  pub machine : MachineSpec
  pub l1 : List (List (List Line))
  pub llc : List (List LlcLine)
  pub memory : List Block

-- what all blocks of a memory have
abbrev pub all_blocks : MachineSpec → (BlockNo → Block) → List Block
all_blocks m memory = map (λ n. memory (record { 0 = n })) (range_with_len 0 m.blocks)

-- no line in any cache, and the memory of an image
abbrev pub empty_hierarchy : MachineSpec → Contents → Hierarchy
empty_hierarchy m image = let s : State = start_state m in record { machine = m; l1 = s.l1; llc = s.llc; memory = all_blocks m (block_at image) }

-- the caches as a state of the machine, in which no PEI was issued
abbrev pub state_of : Hierarchy → State
state_of h = caches_alone h.machine h.l1 h.llc

-- with the caches of a state
abbrev pub with_caches : Hierarchy → State → Hierarchy
with_caches h s = record h { l1 = s.l1; llc = s.llc }

-- the content of a block, and with another content for it
abbrev pub content_of : Hierarchy → BlockNo → Block
content_of h b = slice_index_or h.memory b.0 (record { 0 = [] })

abbrev pub with_content : Hierarchy → BlockNo → Block → Hierarchy
with_content h b content = record h { memory = slice_set h.memory b.0 content }

-- the actor that is a core's program
abbrev pub program_of : CoreId → Actor
program_of c = record { core = c; lane = record { 0 = 0 } }

-- the caches after an event of a core's program
abbrev pub after : Hierarchy → CoreId → EventKind → Hierarchy
after h c kind = with_caches h (next_state h.machine (state_of h) (program_of c) kind)

-- the message that grants a block with a letter
abbrev pub granting : Letter → BlockNo → EventKind
granting letter.M b = event.GrantM b
granting letter.E b = event.GrantE b
granting _ b = event.GrantS b

-- whether a message grants a block that its core may then write
abbrev pub grants_to_write : EventKind → Bool
grants_to_write (event.GrantE b) = true
grants_to_write (event.GrantM b) = true
grants_to_write _ = false

-- a message that fills a line fills it with a block of memory
abbrev pub FillsFrom : ℕ → EventKind → Type 0
FillsFrom blocks (event.Fill b) = b.0 < blocks
FillsFrom blocks _ = ⊤
