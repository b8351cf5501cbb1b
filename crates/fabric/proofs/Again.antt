-- Events that parts make again.
use Rattle.std.proofs.Common.{◌≡◌, ℕ, Bool, true, false, Option, Some, None, refl, sym, ◌∙◌, ap}
use Rattle.std.specs.Prelude.{if◌then◌else◌}
use Rattle.pei_types.specs.declared.identifiers.Actor.{Actor}
use Rattle.pei_types.specs.declared.identifiers.Block.{Block}
use Rattle.pei_types.specs.declared.identifiers.BlockNo.{BlockNo}
use Rattle.pei_types.specs.declared.identifiers.CoreId.{CoreId}
use Rattle.pei_types.specs.declared.identifiers.Lane.{Lane}
use Rattle.pei_types.specs.declared.identifiers.PeiId.{PeiId}
use Rattle.pei_types.specs.declared.inflight_looks.PeiLook.{PeiLook}
use Rattle.pei_types.specs.declared.inflight_looks.Phase.{Phase}
use Rattle.pei_types.specs.declared.inflight_looks.Phase.TheVariants as phase
use Rattle.pei_types.specs.declared.inflight_looks.StallCause.TheVariants as stall
use Rattle.pei_types.specs.declared.events.EventKind.{EventKind}
use Rattle.pei_types.specs.declared.events.EventKind.TheVariants as event
use Rattle.pei_types.specs.declared.machines.MachineSpec.{MachineSpec}
use Rattle.pei_types.specs.Blocks.{same_pei}
use Rattle.pei_types.specs.MachineState.{State, first_unentered, look_in}
use Rattle.pei_types.specs.Guard.{is_pei}
use Rattle.pei_types.specs.Next.{Makes, Stalls, enter_row, lane_row, pei_row}
use Rattle.pei_types.specs.Turns.{is_entering}
use Rattle.fabric.specs.Moves.{after_event, after_move, row_of}
use Rattle.fabric.specs.Needs.{IsFirst}
use Rattle.fabric.specs.Whole.{Whole}
use Rattle.fabric.specs.declared.turns.Move.{Move}
use Rattle.fabric.specs.declared.turns.Move.TheVariants as moves
use Rattle.fabric.proofs.Entering.{row_not_entering}
use Rattle.pei_types.proofs.Identities.{look_core, makes_is}

-- ---- a PEI that enters is its core's first

-- the row of a PEI that enters
first_by : (p : PeiLook) (o : Option PeiId) (kind : EventKind) → enter_row p true o ≡ Makes kind → is_pei o p.id ≡ true
first_by p None kind e = absurd (cc e)
first_by p (Some first) kind e = by (same_pei first p.id) refl e
  where
    by : (t : Bool) → same_pei first p.id ≡ t → (if t then Makes (event.Enter p.id.seq) else Stalls (stall.NotOldest first)) ≡ Makes kind → same_pei first p.id ≡ true
    by true is k = is
    by false is k = absurd (cc k)

-- one that has entered does not enter
never : (m : MachineSpec) (s : State) (content : BlockNo → Block) (p : PeiLook) (kind : EventKind) → is_entering kind ≡ true → pei_row m s content false p p.phase ≡ Makes kind → ⊥
never m s content p kind enters e = cc (sym enters, row_not_entering m s content (Some p) kind e)

first_in_phase : (m : MachineSpec) (s : State) (content : BlockNo → Block) (p : PeiLook) (kind : EventKind) (ph : Phase) → p.phase ≡ ph → is_entering kind ≡ true → pei_row m s content true p ph ≡ Makes kind → is_pei (first_unentered s p.id.core) p.id ≡ true
first_in_phase m s content p kind phase.Issued at enters e = first_by p (first_unentered s p.id.core) kind e
first_in_phase m s content p kind phase.Entered at enters e = absurd (never m s content p kind enters (ap (pei_row m s content false p) at ∙ e))
first_in_phase m s content p kind phase.HostPlaced at enters e = absurd (never m s content p kind enters (ap (pei_row m s content false p) at ∙ e))
first_in_phase m s content p kind phase.MemoryPlaced at enters e = absurd (never m s content p kind enters (ap (pei_row m s content false p) at ∙ e))
first_in_phase m s content p kind phase.Read at enters e = absurd (never m s content p kind enters (ap (pei_row m s content false p) at ∙ e))
first_in_phase m s content p kind phase.Sealed at enters e = absurd (never m s content p kind enters (ap (pei_row m s content false p) at ∙ e))
first_in_phase m s content p kind phase.Acted at enters e = absurd (never m s content p kind enters (ap (pei_row m s content false p) at ∙ e))

pub first_of_row : (m : MachineSpec) (s : State) (content : BlockNo → Block) (c : CoreId) (l : Lane) (kind : EventKind) → is_entering kind ≡ true → lane_row m s content true (look_in s c l) ≡ Makes kind → IsFirst s c (look_in s c l)
first_of_row m s content c l kind enters e = by (look_in s c l) refl e
  where
    by : (o : Option PeiLook) → look_in s c l ≡ o → lane_row m s content true o ≡ Makes kind → IsFirst s c o
    by None is k = absurd (cc k)
    by (Some p) is k = ap (λ d. is_pei (first_unentered s d) p.id) (sym (look_core s c l p is)) ∙ first_in_phase m s content p kind p.phase refl enters k

-- ---- moves

pub not_entering : (kind : EventKind) → ((seq : ℕ) → kind ≡ event.Enter seq → ⊥) → is_entering kind ≡ false
not_entering (event.Enter seq) other = absurd (other seq refl)
not_entering _ other = refl

-- the move that makes an event leaves what the event does
pub moved_is : (v : Whole) (a : Actor) (made : Move) (kind : EventKind) → row_of made ≡ Makes kind → after_move v a made ≡ after_event v a kind
moved_is v a (moves.Makes k) kind e = ap (after_event v a) (makes_is k kind e)
moved_is v a (moves.Stalls cause) kind e = absurd (cc e)
