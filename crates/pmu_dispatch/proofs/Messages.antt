-- What a core wants of a block comes by a coherence message.
use Rattle.std.proofs.Common.{◌≡◌, Bool, true, false, not, ◌||◌, if◌then◌else◌, Option, Some, None, refl}
use Rattle.pei_types.specs.declared.identifiers.BlockNo.{BlockNo}
use Rattle.pei_types.specs.declared.identifiers.CoreId.{CoreId}
use Rattle.pei_types.specs.declared.events.EventKind.{EventKind}
use Rattle.pei_types.specs.declared.machines.MachineSpec.{MachineSpec}
use Rattle.pei_types.specs.MachineState.{State, Line, LlcLine, is_absent, is_dirty, is_sealed, mark_of, llc_set, no_other_has}
use Rattle.pei_types.specs.Next.{want, bring_in, evict, make_room, grant, grant_shared, grant_modify, holder, other_holder, other_owner, l1_victim}
use Rattle.pei_types.specs.Recency.{victim}
use Rattle.pmu_dispatch.specs.Steps.{is_message}

either : (b : Bool) (x y : EventKind) → is_message x ≡ true → is_message y ≡ true → is_message (if b then x else y) ≡ true
either true x y hx hy = hx
either false x y hx hy = hy

message_evict : (m : MachineSpec) (s : State) (v : BlockNo) (o : Option CoreId) → is_message (evict m s v o) ≡ true
message_evict m s v (Some c) = refl
message_evict m s v None = either (is_dirty (mark_of m s v)) _ _ refl refl

message_bring_in : (m : MachineSpec) (s : State) (b : BlockNo) (o : Option LlcLine) → is_message (bring_in m s b o) ≡ true
message_bring_in m s b (Some line) = message_evict m s line.block (holder m s line.block)
message_bring_in m s b None = refl

message_shared : (m : MachineSpec) (s : State) (own : CoreId) (b : BlockNo) (o : Option CoreId) → is_message (grant_shared m s own b o) ≡ true
message_shared m s own b (Some c) = refl
message_shared m s own b None = either (not (no_other_has m s own b) || is_sealed s b) _ _ refl refl

message_modify : (b : BlockNo) (o : Option CoreId) → is_message (grant_modify b o) ≡ true
message_modify b (Some c) = refl
message_modify b None = refl

message_grant : (m : MachineSpec) (s : State) (own : CoreId) (b : BlockNo) (modify : Bool) → is_message (grant m s own b modify) ≡ true
message_grant m s own b true = message_modify b (other_holder m s own b)
message_grant m s own b false = message_shared m s own b (other_owner m s own b)

message_room : (m : MachineSpec) (s : State) (own : CoreId) (b : BlockNo) (modify : Bool) (o : Option Line) → is_message (make_room m s own b modify o) ≡ true
message_room m s own b modify (Some line) = refl
message_room m s own b modify None = message_grant m s own b modify

pub message_want : (m : MachineSpec) (s : State) (own : CoreId) (b : BlockNo) (modify : Bool) → is_message (want m s own b modify) ≡ true
message_want m s own b modify =
    either (is_absent (mark_of m s b)) _ _ (message_bring_in m s b (victim m.llc_ways (llc_set m s b))) (message_room m s own b modify (l1_victim m s own b))
