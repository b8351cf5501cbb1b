-- Exclusion and fences across banks, by the stamps of events.
use Rattle.std.specs.Prelude.{◌≡◌, ◌⊎◌, ℕ, ◌<◌, ◌≤◌, Bool, true, false, ◌&&◌, ⊤, List, map, Some}
use Rattle.pei_types.specs.declared.stamps.Stamped.{Stamped}
use Rattle.pei_types.specs.declared.identifiers.Actor.{Actor}
use Rattle.pei_types.specs.declared.identifiers.CoreId.{CoreId}
use Rattle.pei_types.specs.declared.identifiers.PeiId.{PeiId}
use Rattle.pei_types.specs.declared.events.Event.{Event}
use Rattle.pei_types.specs.declared.events.EventKind.{EventKind}
use Rattle.pei_types.specs.declared.machines.MachineSpec.{MachineSpec}
use Rattle.pei_types.specs.Blocks.{same_core, same_pei}
use Rattle.pei_types.specs.Calls.{Side, Peis, FollowsPei, side_of}
use Rattle.pei_types.specs.Exclusion.{conflicts}
use Rattle.pei_types.specs.History.{Pei, pei_issued_by, is_enter, is_leave, begins_fence, ends_fence}
use Rattle.pei_types.specs.Legal.{EachEvent}
use Rattle.pei_types.specs.Operation.{is_writer}
use Rattle.pei_types.specs.Recency.{list_at}
use Rattle.history_laws.specs.Members.{In}

-- some log has an event with this stamp that passes
pub record Happens (logs : List (List Stamped)) (test : Event → Bool) (stamp : ℕ) : Type 0 where
  pub bank : ℕ
  pub item : Stamped
  pub there : In item (list_at logs bank)
  pub at : item.stamp ≡ stamp
  pub passes : test item.event ≡ true

-- some log has the issue of this PEI, with this stamp
pub record Issues (logs : List (List Stamped)) (p : Pei) (stamp : ℕ) : Type 0 where
  pub bank : ℕ
  pub item : Stamped
  pub there : In item (list_at logs bank)
  pub at : item.stamp ≡ stamp
  pub issues : pei_issued_by item.event.actor item.event.kind ≡ Some p

-- it happens before a stamp
abbrev pub HappensBelow : List (List Stamped) → (Event → Bool) → ℕ → Type 0
HappensBelow logs test n = (i : ℕ) × (i < n) × Happens logs test i

-- whether an event has this PEI enter, and leave
abbrev pub enters : PeiId → Event → Bool
enters id e = same_core e.actor.core id.core && is_enter e.kind id.seq

abbrev pub leaves : PeiId → Event → Bool
leaves id e = same_core e.actor.core id.core && is_leave e.kind id.seq

-- of two conflicting PEIs that have both entered, one's leave has a smaller stamp than the other's enter
abbrev pub LeavesFirst : MachineSpec → List (List Stamped) → Type 0
LeavesFirst m logs =
    (p q : Pei) (i j k l : ℕ) → Issues logs p k → Issues logs q l → same_pei p.id q.id ≡ false → conflicts m p.block p.op q.block q.op ≡ true
    → Happens logs (enters p.id) i → Happens logs (enters q.id) j → HappensBelow logs (leaves p.id) j ⊎ HappensBelow logs (leaves q.id) i

-- A PEI enters once, and leaves behind that, and conflicting PEIs leave first.
pub record ExcludeByStamps (m : MachineSpec) (logs : List (List Stamped)) : Type 0 where
  pub once : (id : PeiId) (i j : ℕ) → Happens logs (enters id) i → Happens logs (enters id) j → i ≡ j
  pub later : (id : PeiId) (i j : ℕ) → Happens logs (enters id) i → Happens logs (leaves id) j → i < j
  pub apart : LeavesFirst m logs

-- an event of a PEI is the PEI's next
abbrev pub FollowsSide : Side → List Event → Actor → EventKind → Type 0
FollowsSide (Peis seq) before a kind = FollowsPei before a kind seq
FollowsSide _ before a kind = ⊤

abbrev pub FollowsItsPei : List Event → Actor → EventKind → Type 0
FollowsItsPei before a kind = FollowsSide (side_of kind) before a kind

-- In each log by itself every event of a PEI is the PEI's next; and over all logs no two issues of a core have one number.
pub record FollowInLogs (logs : List (List Stamped)) : Type 0 where
  pub follows : (k : ℕ) → EachEvent (λ before e. FollowsItsPei before e.actor e.kind) (map (λ x. x.event) (list_at logs k))
  pub numbered : (p q : Pei) (i j : ℕ) → Issues logs p i → Issues logs q j → same_pei p.id q.id ≡ true → i ≡ j

-- Where a fence of a core ends, each writer whose issue has a smaller stamp than the fence's begin, the core's last before,
-- has left with a smaller stamp.
abbrev pub FenceByStamps : List (List Stamped) → Type 0
FenceByStamps logs =
    (c : CoreId) (begin end : ℕ) → begin < end → Happens logs (begins_fence c) begin → Happens logs (ends_fence c) end
    → ((i : ℕ) → i < end → Happens logs (begins_fence c) i → i ≤ begin)
    → (p : Pei) (k : ℕ) → Issues logs p k → k < begin → is_writer p.op ≡ true → HappensBelow logs (leaves p.id) end
