-- Tests of equality as equations, and whose core an actor and a PEI are of.
use Rattle.std.proofs.Common.{◌≡◌, ℕ, ◌<◌, true, ◌&&◌, Some, IsTrue, nat_lt, nat_le, eqb, ap, ap₂}
use Rattle.std.proofs.lemmas.Bool.{and_parts, eqb-true, ltb-true}
use Rattle.pei_types.specs.declared.events.EventKind.{EventKind}
use Rattle.pei_types.specs.declared.identifiers.Actor.{Actor}
use Rattle.pei_types.specs.declared.identifiers.BlockNo.{BlockNo}
use Rattle.pei_types.specs.declared.identifiers.CoreId.{CoreId}
use Rattle.pei_types.specs.declared.identifiers.Lane.{Lane}
use Rattle.pei_types.specs.declared.identifiers.PeiId.{PeiId}
use Rattle.pei_types.specs.declared.inflight_looks.PeiLook.{PeiLook}
use Rattle.pei_types.specs.declared.machines.MachineSpec.{MachineSpec}
use Rattle.pei_types.specs.Blocks.{same_block, same_core, same_lane, same_pei}
use Rattle.pei_types.specs.Calls.{is_actor_of}
use Rattle.pei_types.specs.MachineState.{State, look_in}
use Rattle.pei_types.specs.Next.{Makes}
use Rattle.pei_types.proofs.Lists.{found_passes}
use Rattle.pei_types.proofs.Tests.{eqb_sym, same_self}

make_block : ℕ → BlockNo
make_block n = record { 0 = n }

make_core : ℕ → CoreId
make_core n = record { 0 = n }

make_lane : ℕ → Lane
make_lane n = record { 0 = n }

make_id : ℕ → ℕ → PeiId
make_id c n = record { core = record { 0 = c }; seq = n }

pub same_block_is : (a b : BlockNo) → same_block a b ≡ true → a ≡ b
unfolding make_block
same_block_is a b h = ap make_block (eqb-true a.0 b.0 h)

pub same_core_is : (a b : CoreId) → same_core a b ≡ true → a ≡ b
unfolding make_core
same_core_is a b h = ap make_core (eqb-true a.0 b.0 h)

pub same_lane_is : (a b : Lane) → same_lane a b ≡ true → a ≡ b
unfolding make_lane
same_lane_is a b h = ap make_lane (eqb-true a.0 b.0 h)

pub same_pei_is : (p q : PeiId) → same_pei p q ≡ true → p ≡ q
unfolding make_id
same_pei_is p q h =
    let both = and_parts (eqb p.core.0 q.core.0) (eqb p.seq q.seq) h
    in ap₂ make_id (eqb-true p.core.0 q.core.0 both.0) (eqb-true p.seq q.seq both.1)

pub same_pei_refl : (p : PeiId) → same_pei p p ≡ true
same_pei_refl p = rw (same_self p.core.0) (same_self p.seq)

pub same_pei_sym : (p q : PeiId) → same_pei p q ≡ same_pei q p
same_pei_sym p q = ap₂ (λ x y. x && y) (eqb_sym p.core.0 q.core.0) (eqb_sym p.seq q.seq)

pub makes_is : (k l : EventKind) → Makes k ≡ Makes l → k ≡ l
makes_is k l h = search

-- an actor of the machine is of one of its cores
pub core_within : (m : MachineSpec) (a : Actor) → IsTrue (is_actor_of m a) → a.core.0 < m.cores
core_within m a h = ltb-true a.core.0 m.cores (and_parts (nat_lt a.core.0 m.cores) (nat_le a.lane.0 m.buffer) h).0

-- the PEI in a lane of a core is the core's
pub look_core : (s : State) (c : CoreId) (l : Lane) (p : PeiLook) → look_in s c l ≡ Some p → p.id.core ≡ c
look_core s c l p e = same_core_is p.id.core c ((and_parts (same_core p.id.core c) (same_lane p.lane l) (found_passes (λ x. same_core x.id.core c && same_lane x.lane l) s.peis p e)).0)
