-- What a bank tells of its log.
use Rattle.std.specs.Prelude.{ℕ, List}
use Rattle.pei_types.specs.declared.events.Event.{Event}
use Rattle.pei_types.specs.declared.machines.MachineSpec.{MachineSpec}
use Rattle.pei_types.specs.Legal.{EachEvent}
use Rattle.pei_types.specs.Program.{Contents}
use Rattle.bank_laws.specs.Kept.{FitsInBank}
use Rattle.bank_laws.specs.Rows.{IsRowOfBank}

-- Each event of the log is a row of bank k behind the events before it, and fits there.
pub record IsBankLog (m : MachineSpec) (image : Contents) (k : ℕ) (log : List Event) : Type 0 where
  pub rows : EachEvent (IsRowOfBank m image k) log
  pub fitting : EachEvent (λ before e. FitsInBank m before e.actor e.kind) log
