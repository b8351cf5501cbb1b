-- What a bank keeps for the merging of all banks.
use Rattle.std.specs.Prelude.{◌≡◌, List, [], ◌≤◌, Option, Some, None, vec_capacity}
use Rattle.pei_types.specs.declared.machines.MachineSpec.{MachineSpec}
use Rattle.pei_types.specs.Program.{Contents}
use Rattle.fabric.specs.Banks.{BankHistory}
use Rattle.fabric.specs.Kept.{Keeps}
use Rattle.fabric.specs.declared.bank.Bank.TheInside.{Inside}
use Rattle.fabric.specs.declared.bank.Reserve.{Reserve}

-- parts at the start of a run, an empty journal, these banks, and room for all
pub record IsReserve (m : MachineSpec) (start : Contents) (items : List BankHistory) (r : Reserve) : Type 0 where
  pub machine : r.parts.machine ≡ m
  pub image : r.image.value ≡ start
  pub keeps : Keeps r.parts r.journal start
  pub empty : r.journal.events ≡ []
  pub banks : r.banks.items ≡ items
  pub room : m.banks ≤ vec_capacity r.banks

abbrev pub IsFresh : MachineSpec → Contents → Reserve → Type 0
IsFresh m start r = IsReserve m start [] r

abbrev pub Has : MachineSpec → Contents → Option Reserve → Type 0
Has m image None = ⊥
Has m image (Some r) = IsFresh m image r

-- bank 0 has a reserve
abbrev pub IsReady : Inside → Type 0
IsReady i = i.section.bank ≡ 0 → Has i.section.machine i.section.image i.reserve
