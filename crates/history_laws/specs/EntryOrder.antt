-- PEIs enter in the order of their issue, and no two that conflict are active at once.
use Rattle.std.specs.Prelude.{◌≡◌, ◌<◌, Bool, true, false}
use Rattle.pei_types.specs.declared.identifiers.Actor.{Actor}
use Rattle.pei_types.specs.declared.inflight_looks.PeiLook.{PeiLook}
use Rattle.pei_types.specs.declared.events.EventKind.{EventKind}
use Rattle.pei_types.specs.declared.events.EventKind.TheVariants as event
use Rattle.pei_types.specs.declared.machines.MachineSpec.{MachineSpec}
use Rattle.pei_types.specs.Blocks.{same_core, same_lane, same_pei}
use Rattle.pei_types.specs.MachineState.{State, look_of, pei_id}
use Rattle.pei_types.specs.Exclusion.{conflicts}
use Rattle.pei_types.specs.Guard.{pei_guard}
use Rattle.history_laws.specs.Members.{In}
use Rattle.history_laws.specs.TrackedPeis.{is_past_issue}

-- where a PEI is active, each earlier one of its core is; two active PEIs do not conflict
pub record InTurn (m : MachineSpec) (s : State) : Type 0 where
  pub entered : (p q : PeiLook) → In p s.peis → In q s.peis → same_core p.id.core q.id.core ≡ true → p.id.seq < q.id.seq → is_past_issue q ≡ true → is_past_issue p ≡ true
  pub alone : (p q : PeiLook) → In p s.peis → In q s.peis → same_pei p.id q.id ≡ false → is_past_issue p ≡ true → is_past_issue q ≡ true → conflicts m p.block p.op q.block q.op ≡ false

-- no two PEIs of a core are in one lane
abbrev pub LanesApart : State → Type 0
LanesApart s = (p q : PeiLook) → In p s.peis → In q s.peis → same_core p.id.core q.id.core ≡ true → same_lane p.lane q.lane ≡ true → p ≡ q

-- a PEI enters first of its core, on an entry that is not taken
abbrev pub enters_rightly : MachineSpec → State → Actor → EventKind → Bool
enters_rightly m s a (event.Enter seq) = pei_guard m s (event.Enter seq) (look_of s (pei_id a seq))
enters_rightly m s a _ = true
