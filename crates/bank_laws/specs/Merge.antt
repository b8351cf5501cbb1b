-- What a state has of all banks, and memory that is held in parts.
use Rattle.std.specs.Prelude.{◌≡◌, ℕ, ◌<◌, ◌≤◌, true, List, Some}
use Rattle.pei_types.specs.declared.stamps.Stamped.{Stamped}
use Rattle.pei_types.specs.declared.identifiers.BlockNo.{BlockNo}
use Rattle.pei_types.specs.declared.identifiers.CoreId.{CoreId}
use Rattle.pei_types.specs.declared.identifiers.PeiId.{PeiId}
use Rattle.pei_types.specs.declared.inflight_looks.PeiLook.{PeiLook}
use Rattle.pei_types.specs.declared.machines.MachineSpec.{MachineSpec}
use Rattle.pei_types.specs.MachineState.{State}
use Rattle.pei_types.specs.History.{Pei, pei_issued_by, begins_fence}
use Rattle.pei_types.specs.Recency.{list_at}
use Rattle.history_laws.specs.Members.{In}
use Rattle.coherence_laws.specs.Holdings.{Holdings, held_copy, held_line}
use Rattle.coherence_laws.specs.Sets.{Each, EachPair}
use Rattle.bank_laws.specs.Banks.{bank_of}
use Rattle.bank_laws.specs.Parts.{SameInBank}

-- a state has of each bank what the bank's part has
abbrev pub IsWhole : MachineSpec → (ℕ → State) → State → Type 0
IsWhole m parts s = (k : ℕ) → k < m.banks → SameInBank m k s (parts k)

-- two states have the same caches, monitors and queues
pub record SameCaches (s t : State) : Type 0 where
  pub l1 : s.l1 ≡ t.l1
  pub llc : s.llc ≡ t.llc
  pub monitor : s.monitor ≡ t.monitor
  pub queues : s.queues ≡ t.queues

-- the stamp of each PEI's issue, in the logs of the banks
abbrev pub AreIssueStamps : List (List Stamped) → (PeiId → ℕ) → Type 0
AreIssueStamps logs stamp = (k : ℕ) (x : Stamped) (p : Pei) → In x (list_at logs k) → pei_issued_by x.event.actor x.event.kind ≡ Some p → stamp p.id ≡ x.stamp

-- PEIs stand in the order of their issue
abbrev pub StandByIssue : (PeiId → ℕ) → List PeiLook → Type 0
StandByIssue stamp ps = EachPair (λ p q. stamp p.id < stamp q.id) ps

-- on a bank's blocks two holdings hold the same in each copy, line and vault, and in the buffers of its PEIs
pub record HoldSame (m : MachineSpec) (k : ℕ) (s : State) (h g : Holdings) : Type 0 where
  pub copies : (c : CoreId) (b : BlockNo) → bank_of m b ≡ k → held_copy m h c b ≡ held_copy m g c b
  pub lines : (b : BlockNo) → bank_of m b ≡ k → held_line m h b ≡ held_line m g b
  pub vaults : (b : BlockNo) → bank_of m b ≡ k → h.vault b ≡ g.vault b
  pub buffers : Each (λ p. bank_of m p.block ≡ k → h.buffer p.id ≡ g.buffer p.id) s.peis

-- a core's last fence began with this stamp
pub record LastFenceBegan (c : CoreId) (begin : ℕ) (logs : List (List Stamped)) : Type 0 where
  pub bank : ℕ
  pub item : Stamped
  pub there : In item (list_at logs bank)
  pub stamp : item.stamp ≡ begin
  pub begins : begins_fence c item.event ≡ true
  pub last : (k : ℕ) (y : Stamped) → In y (list_at logs k) → begins_fence c y.event ≡ true → y.stamp ≤ begin
