-- What the caches of a state show a core of a block, and what a state shows of a PEI.
use Rattle.std.specs.Prelude.{◌≡◌, ℕ, ◌-◌, ◌<◌, Bool, not, ⊤, if◌then◌else◌, List, ◌++◌, replicate, Option, Some, None, option_map, slice_get, slice_set}
use Rattle.std.specs.List.{position_from}
use Rattle.pei_types.specs.declared.identifiers.BlockNo.{BlockNo}
use Rattle.pei_types.specs.declared.identifiers.CoreId.{CoreId}
use Rattle.pei_types.specs.declared.identifiers.PeiId.{PeiId}
use Rattle.pei_types.specs.declared.inflight_looks.PeiLook.{PeiLook}
use Rattle.pei_types.specs.declared.machines.MachineSpec.{MachineSpec}
use Rattle.pei_types.specs.declared.operations.Letter.{Letter}
use Rattle.pei_types.specs.declared.operations.Letter.TheVariants as letter
use Rattle.pei_types.specs.Blocks.{vault_of}
use Rattle.pei_types.specs.MachineState.{State, LlcLine, letters_of, mark_of, is_absent, is_i, is_owned, llc_set, is_sealed, first_unentered, queue_of, queue_is_full}
use Rattle.pei_types.specs.Next.{l1_victim as own_victim}
use Rattle.pei_types.specs.Recency.{victim}
use Rattle.pmu_dispatch.specs.declared.looks.WantLooks.{WantLooks}
use Rattle.pmu_dispatch.specs.declared.looks.Victim.{Victim}

-- whether a letter lets its core read its copy, or write it
abbrev pub suffices : Bool → Letter → Bool
suffices modify l = if modify then is_owned l else not (is_i l)

-- the lowest core whose letter passes
abbrev pub core_of : ℕ → CoreId
core_of c = record { 0 = c }

abbrev pub first_core : (Letter → Bool) → List Letter → Option CoreId
first_core test letters = option_map core_of (position_from test 0 letters)

-- the letters without that of the own core
abbrev pub other_letters : WantLooks → List Letter
other_letters looks = slice_set looks.letters looks.own.0 letter.I

-- the letters of a block in eight cores, of which those that the machine lacks have no copy
abbrev pub eight_letters : MachineSpec → State → BlockNo → List Letter
eight_letters m s b = letters_of m s b ++ replicate (8 - m.cores) letter.I

abbrev pub victim_shown : MachineSpec → State → LlcLine → Victim
victim_shown m s line = record { block = line.block; letters = eight_letters m s line.block; mark = mark_of m s line.block }

-- the line that the last-level cache has to give up for a block that it lacks
abbrev pub llc_victim_shown : MachineSpec → State → BlockNo → Option Victim
llc_victim_shown m s b = if is_absent (mark_of m s b) then option_map (victim_shown m s) (victim m.llc_ways (llc_set m s b)) else None

-- what the caches show core c of block b, where `sealed` says whether a PEI is sealed on it
abbrev pub looks_with : MachineSpec → State → Bool → CoreId → BlockNo → WantLooks
looks_with m s sealed c b =
    record {
      block = b;
      own = c;
      letters = eight_letters m s b;
      mark = mark_of m s b;
      sealed = sealed;
      llc_victim = llc_victim_shown m s b;
      l1_victim = option_map (λ line. line.block) (own_victim m s c b);
    }

-- The looks are taken from a state: they are what it shows a core of the machine of a block.
pub record AreLooksOf (m : MachineSpec) (s : State) (looks : WantLooks) : Type 0 where
  pub core : looks.own.0 < m.cores
  pub shown : looks ≡ looks_with m s (is_sealed s looks.block) looks.own looks.block

-- for the block and the core of a PEI
pub record AreBlocksLooksOf (m : MachineSpec) (s : State) (looks : WantLooks) (p : PeiLook) : Type 0 where
  pub taken : AreLooksOf m s looks
  pub core : looks.own ≡ p.id.core
  pub block : looks.block ≡ p.block

-- the vault of a PEI's block, where its queue is full
abbrev pub IsFullOf : MachineSpec → State → PeiLook → Option ℕ → Type 0
IsFullOf m s p full = full ≡ (if queue_is_full m s (vault_of m p.block) then Some (vault_of m p.block) else None)

-- All that a lane's next step needs is taken from a state: the looks at the block of its PEI, the first PEI of the core
-- that has not entered, whether the queue of the vault is full, and the head of the queue.
pub record ArePeisLooksOf (m : MachineSpec) (s : State) (looks : WantLooks) (p : PeiLook) (first : Option PeiId) (full : Option ℕ) (head : Option PeiId) : Type 0 where
  pub block_looks : AreBlocksLooksOf m s looks p
  pub unentered : first ≡ first_unentered s p.id.core
  pub queue : IsFullOf m s p full
  pub queue_head : head ≡ slice_get (queue_of s (vault_of m p.block)) 0

-- a lane that holds no PEI needs none
abbrev pub AreLanesLooksOf : MachineSpec → State → WantLooks → Option PeiLook → Option PeiId → Option ℕ → Option PeiId → Type 0
AreLanesLooksOf m s looks None first full head = ⊤
AreLanesLooksOf m s looks (Some p) first full head = ArePeisLooksOf m s looks p first full head
