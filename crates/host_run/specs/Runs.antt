-- What a run by threads comes to.
use Rattle.std.specs.Prelude.{◌≡◌, ◌⊎◌, List, [], length, map, Option, None, false}
use Rattle.std.proofs.Common.{lit≤}
use Rattle.pei_types.specs.declared.calls.EndKind.{EndKind}
use Rattle.pei_types.specs.declared.events.Event.{Event}
use Rattle.pei_types.specs.declared.machines.MachineSpec.{MachineSpec}
use Rattle.pei_types.specs.MachineState.{cores_of}
use Rattle.pei_types.specs.Core.{events_of}
use Rattle.pei_types.specs.Ends.{IsComplete, ends_of}
use Rattle.pei_types.specs.Legal.{Legal}
use Rattle.pei_types.specs.BuiltIns.{built_in}
use Rattle.pei_types.specs.Program.{Listing, Contents}
use Rattle.shared_table.specs.Receipts.{Account}

-- The receipt has for each core, in order, its events of the journal.
abbrev pub IsReceiptOf : MachineSpec → List Event → List Account → Type 0
IsReceiptOf m journal accounts =
    (map (λ a. a.core) accounts ≡ map (λ c. c.0) (cores_of m)) × (map (λ a. map (λ x. x.event) a.events) accounts ≡ map (λ c. events_of c journal) (cores_of m))

-- The run is over: each core has ended, or the journal is full.
abbrev pub IsOver : MachineSpec → List Event → Type 0
IsOver m journal = IsComplete m journal ⊎ (length journal ≡ m.events)

-- A run of the program on the machine from this image: its journal is legal, the cores ended as it says, it is over, and
-- each core's thread had the core's events of it.
pub record IsRunOf (p : Listing) (m : MachineSpec) (image : Contents) (journal : List Event) (ends : List (Option EndKind)) (accounts : List Account) : Type 0 where
  pub legal : Legal p m image journal
  pub ends_are : ends ≡ ends_of journal
  pub over : IsOver m journal
  pub receipt : IsReceiptOf m journal accounts

-- what a run is of that nobody has begun
abbrev pub no_program : Listing
no_program = record { instrs = []; lines = []; asks = []; own_entries = []; common_entry = None; statistics = false }

abbrev pub no_machine : MachineSpec
no_machine = built_in 1 (lit≤ tt, lit≤ tt)

abbrev pub no_image : Contents
no_image = record { words = []; entries = [] }
