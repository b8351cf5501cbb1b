-- The caches, the vaults and the operand buffers, with what they hold.
use Rattle.std.specs.Prelude.{◌≡◌, true, List, map}
use Rattle.pei_types.specs.declared.identifiers.Block.{Block}
use Rattle.pei_types.specs.declared.identifiers.BlockNo.{BlockNo}
use Rattle.pei_types.specs.declared.inflight_looks.Phase.TheVariants as phase
use Rattle.pei_types.specs.declared.events.Event.{Event}
use Rattle.pei_types.specs.declared.machines.MachineSpec.{MachineSpec}
use Rattle.pei_types.specs.MachineState.{State, state_after, is_phase}
use Rattle.pei_types.specs.History.{fold_history}
use Rattle.pei_types.specs.Program.{Contents}
use Rattle.coherence_laws.specs.Data.{DataHolds, BuffersHold, peek}
use Rattle.coherence_laws.specs.Holdings.{Holdings, bare_copy, bare_line, data_of, start_holdings, next_holdings}
use Rattle.coherence_laws.specs.Sets.{Each}

-- What is seen of a block: the content of the copy with M, else of the last-level cache's line, else of the vault.
abbrev pub seen_block : MachineSpec → State → Holdings → BlockNo → Block
seen_block m s k b = peek m s (data_of m k) b

-- Without their contents the lines are the state's, in its order; each block's copies, line and vault hold `memory` as
-- far as its letters and mark say that they are current; and so does the buffer of each PEI between its read and its act.
pub record HoldsMemory (m : MachineSpec) (s : State) (k : Holdings) (memory : BlockNo → Block) : Type 0 where
  pub l1 : map (map (map bare_copy)) k.l1 ≡ s.l1
  pub llc : map (map bare_line) k.llc ≡ s.llc
  pub current : DataHolds m s (data_of m k) memory
  pub buffers : BuffersHold s (data_of m k) memory

-- the same lines and vaults, and the same buffers where a PEI has read and not acted
pub record SameHoldings (s : State) (k l : Holdings) : Type 0 where
  pub l1 : l.l1 ≡ k.l1
  pub llc : l.llc ≡ k.llc
  pub vaults : (b : BlockNo) → l.vault b ≡ k.vault b
  pub buffers : Each (λ p. is_phase p.phase phase.Read ≡ true → l.buffer p.id ≡ k.buffer p.id) s.peis

-- what events leave in the caches, the vaults and the buffers
abbrev pub holdings_after : MachineSpec → Contents → List Event → Holdings
holdings_after m image events = fold_history (λ past k e. next_holdings m (state_after m past) k e.actor e.kind) (start_holdings m image) events
