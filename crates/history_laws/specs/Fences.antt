-- What a core's fences leave behind.
use Rattle.std.specs.Prelude.{◌≡◌, Bool, true, false, IsTrue, List, ◌∷◌, ◌++◌, Some, is_none}
use Rattle.std.specs.List.{list_any}
use Rattle.pei_types.specs.declared.identifiers.Actor.{Actor}
use Rattle.pei_types.specs.declared.identifiers.CoreId.{CoreId}
use Rattle.pei_types.specs.declared.events.Event.{Event}
use Rattle.pei_types.specs.declared.events.EventKind.{EventKind}
use Rattle.pei_types.specs.declared.events.EventKind.TheVariants as event
use Rattle.pei_types.specs.Blocks.{same_core}
use Rattle.pei_types.specs.MachineState.{State, fence_of}
use Rattle.pei_types.specs.Fence.{earlier_writers_left}
use Rattle.pei_types.specs.Guard.{waits_for_none}
use Rattle.pei_types.specs.History.{Pei, pei_issued_by, has_left, ends_fence, before_fence}
use Rattle.pei_types.specs.Operation.{is_writer}
use Rattle.history_laws.specs.TrackedPeis.{issued_by, fence_is_on}

-- While a core's fence is on, the core has issued nothing since it began; each writer of a core has left, behind whose
-- issue a fence of the core ended; and where no fence of a core is on, each writer of any core that was issued before its
-- last fence began has left.
pub record Settles (journal : List Event) : Type 0 where
  pub still : (c : CoreId) → fence_is_on c journal ≡ true → issued_by c journal ≡ issued_by c (before_fence c journal)
  pub settled : (c : CoreId) (front rest : List Event) (e : Event) (p : Pei) → journal ≡ front ++ e ∷ rest → pei_issued_by e.actor e.kind ≡ Some p → same_core p.id.core c ≡ true → is_writer p.op ≡ true → list_any (ends_fence c) rest ≡ true → has_left journal p.id ≡ true
  pub over : (c : CoreId) → fence_is_on c journal ≡ false → IsTrue (earlier_writers_left journal c)

-- a core issues nothing while its fence is on, and ends a fence only where it is on and waits for no writer
abbrev pub fences_rightly : State → Actor → EventKind → Bool
fences_rightly s a (event.Issue seq lane o block operands) = is_none (fence_of s a.core)
fences_rightly s a event.FenceEnd = waits_for_none (fence_of s a.core)
fences_rightly s a _ = true
