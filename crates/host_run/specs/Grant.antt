-- What an event that lets a PEI enter has of the directory.
use Rattle.std.specs.Prelude.{◌≡◌, ◌<◌, true, false, Some}
use Rattle.pei_types.specs.declared.events.Event.{Event}
use Rattle.pei_types.specs.declared.machines.MachineSpec.{MachineSpec}
use Rattle.pei_types.specs.Turns.{is_entering}
use Rattle.shared_table.specs.Own.{Has}
use Rattle.shared_table.specs.Parts.{claims}
use Rattle.shared_table.specs.Place.{SeatView}
use Rattle.shared_table.specs.declared.claims.Claim.TheVariants.{Held}
use Rattle.host_run.specs.Own.{entry_of, is_spent, pei_in}
use Rattle.host_run.specs.declared.own_peis.OwnPei.{OwnPei}
use Rattle.host_run.specs.declared.own_peis.OwnPeis.{OwnPeis}

-- The PEI of the event's lane, if the event lets one enter, has not entered, and the lane holds its entry in its mode.
abbrev pub IsGranted : MachineSpec → SeatView → OwnPeis → Event → Type 0
IsGranted m s o e =
    is_entering e.kind ≡ true → (p : OwnPei) × (pei_in o e.actor.lane.0 ≡ Some p) × (p.entered ≡ false) × (is_spent o e.actor.lane.0 ≡ false) × Has (claims s) e.actor.lane.0 (Held (entry_of m p) p.mode)
