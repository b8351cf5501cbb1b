-- What the caches come to by an event, from the laws of the machine.
use Rattle.std.proofs.Common.{◌≡◌, ◌<◌, IsTrue, refl, sym, subst, arith, true, ℕ, Bool}
use Rattle.std.specs.Prelude.{◌&&◌, nat_lt, nat_le}
use Rattle.std.specs.List.{AllByRecursion}
use Rattle.std.proofs.Math.Path.{fun_ext}
use Rattle.std.proofs.lemmas.Bool.{lt-ltb, le-leb}
use Rattle.pei_types.specs.declared.identifiers.Block.{Block}
use Rattle.pei_types.specs.declared.identifiers.BlockNo.{BlockNo}
use Rattle.pei_types.specs.declared.identifiers.CoreId.{CoreId}
use Rattle.pei_types.specs.declared.events.EventKind.{EventKind}
use Rattle.pei_types.specs.declared.lines.HeldLine.{HeldLine}
use Rattle.pei_types.specs.declared.machines.MachineSpec.{MachineSpec}
use Rattle.pei_types.specs.Calls.{Messages, is_actor_of, side_of}
use Rattle.pei_types.specs.MachineState.{State, next_state}
use Rattle.pei_types.specs.Guard.{guard}
use Rattle.pei_types.specs.Recency.{list_at}
use Rattle.coherence_laws.specs.Data.{next_flat}
use Rattle.coherence_laws.specs.Holdings.{Holdings, next_holdings}
use Rattle.coherence_laws.specs.Invariants.{Invariants, caches_alone}
use Rattle.coherence_laws.specs.Laws.{IsNoRace}
use Rattle.machine_laws.specs.Memory.{HoldsMemory}
use Rattle.coherence_bus.specs.Hierarchy.{all_blocks, after, program_of}
use Rattle.coherence_bus.specs.Inside.{Coheres, bare_state, hierarchy_of, seen}
use Rattle.coherence_bus.specs.Laws.{Laws}

-- each line of the last-level cache holds a block of memory
abbrev pub Within : MachineSpec → Holdings → Type 0
Within m k = (set : ℕ) → AllByRecursion (λ (x : HeldLine). x.block.0 < m.blocks) (list_at k.llc set)

-- caches that are a state's and hold a memory
pub settled : Laws → (m : MachineSpec) (s : State) (k : Holdings) (memory : BlockNo → Block) → Invariants m s → HoldsMemory m s k memory → Within m k
    → Coheres m k × (hierarchy_of m k ≡ record { machine = m; l1 = s.l1; llc = s.llc; memory = all_blocks m memory })
settled laws m s k memory i h within =
    let same : bare_state m k ≡ caches_alone m s.l1 s.llc = λ j. caches_alone m (h.l1 j) (h.llc j)
    in let alone : Invariants m (bare_state m k) = subst (Invariants m) (sym same) (laws.caches.invariants m s i)
    in let held : HoldsMemory m (bare_state m k) k memory = subst (λ x. HoldsMemory m x k memory) (sym same) (laws.caches.alone m s k memory h)
    in let is : seen m k ≡ memory = fun_ext (λ b. laws.contents.seen m (bare_state m k) k memory b alone held)
    in (
      record { invariants = alone; holds = subst (HoldsMemory m (bare_state m k) k) (sym is) held; within = within },
      λ j. record { machine = m; l1 = h.l1 j; llc = h.llc j; memory = all_blocks m (is j) },
    )

-- a core's program is an actor
pub is_actor : (m : MachineSpec) (c : CoreId) → c.0 < m.cores → IsTrue (is_actor_of m (program_of c))
is_actor m c within = both (nat_lt c.0 m.cores) (nat_le 0 m.buffer) (lt-ltb c.0 m.cores within) (le-leb 0 m.buffer (omega arith))
  where
    both : (t u : Bool) → t ≡ true → u ≡ true → (t && u) ≡ true
    both t u h g = rw (h, g) refl

-- after a message
pub by_message : Laws → (m : MachineSpec) (k l : Holdings) (c : CoreId) (kind : EventKind) → Coheres m k → side_of kind ≡ Messages → c.0 < m.cores → IsTrue (guard m (bare_state m k) (program_of c) kind)
    → l ≡ next_holdings m (bare_state m k) k (program_of c) kind → Within m l → Coheres m l × (hierarchy_of m l ≡ after (hierarchy_of m k) c kind)
by_message laws m k l c kind co message own ok is within =
    settled laws m (next_state m (bare_state m k) (program_of c) kind) l (seen m k)
    (laws.invariants.next m (bare_state m k) (program_of c) kind co.invariants (is_actor m c own) ok)
    (subst (λ x. HoldsMemory m (next_state m (bare_state m k) (program_of c) kind) x (seen m k)) (sym is) (laws.contents.message m (bare_state m k) k (seen m k) (program_of c) kind message co.invariants (is_actor m c own) ok co.holds))
    within

-- after a load or a store
pub by_access : Laws → (m : MachineSpec) (k l : Holdings) (c : CoreId) (kind : EventKind) → Coheres m k → IsNoRace (bare_state m k) kind → c.0 < m.cores → IsTrue (guard m (bare_state m k) (program_of c) kind)
    → l ≡ next_holdings m (bare_state m k) k (program_of c) kind → Within m l
    → Coheres m l × (hierarchy_of m l ≡ record (after (hierarchy_of m k) c kind) { memory = all_blocks m (next_flat (bare_state m k) (seen m k) (program_of c) kind) })
by_access laws m k l c kind co alone own ok is within =
    settled laws m (next_state m (bare_state m k) (program_of c) kind) l (next_flat (bare_state m k) (seen m k) (program_of c) kind)
    (laws.invariants.next m (bare_state m k) (program_of c) kind co.invariants (is_actor m c own) ok)
    (subst (λ x. HoldsMemory m (next_state m (bare_state m k) (program_of c) kind) x (next_flat (bare_state m k) (seen m k) (program_of c) kind)) (sym is) (laws.contents.next m (bare_state m k) k (seen m k) (program_of c) kind co.invariants (is_actor m c own) ok alone co.holds))
    within
