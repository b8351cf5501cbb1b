-- Guards read only the bank of their block, or only their core.
use Rattle.std.proofs.Common.{◌≡◌, ℕ, Bool, true, false, not, ◌&&◌, ◌||◌, Option, Some, None, is_none, refl, sym, ◌∙◌, ap, ap₂, subst, slice_get, eqb-true}
use Rattle.std.specs.Prelude.{◌==◌, IfSome}
use Rattle.std.specs.List.{list_all}
use Rattle.std.proofs.lemmas.Bool.{and_parts}
use Rattle.pei_types.specs.declared.identifiers.Actor.{Actor}
use Rattle.pei_types.specs.declared.identifiers.BlockNo.{BlockNo}
use Rattle.pei_types.specs.declared.identifiers.CoreId.{CoreId}
use Rattle.pei_types.specs.declared.identifiers.PeiId.{PeiId}
use Rattle.pei_types.specs.declared.inflight_looks.PeiLook.{PeiLook}
use Rattle.pei_types.specs.declared.inflight_looks.Phase.{Phase}
use Rattle.pei_types.specs.declared.inflight_looks.Phase.TheVariants as phase
use Rattle.pei_types.specs.declared.events.EventKind.{EventKind}
use Rattle.pei_types.specs.declared.events.EventKind.TheVariants as event
use Rattle.pei_types.specs.declared.machines.MachineSpec.{MachineSpec}
use Rattle.pei_types.specs.Blocks.{block_of, same_block, same_core, vault_of}
use Rattle.pei_types.specs.MachineState.{State, letter_of, is_i, is_owned, is_absent, is_clean, is_dirty, is_phase, none_has, none_owns, no_other_owns, cores_of, look_of, pei_id, writer_is_sealed, queue_is_full, is_line_of, is_llc_line_of, is_ahead}
use Rattle.pei_types.specs.Guard.{guard, pei_guard, seal_guard, act_guard, is_pei, is_lane, memory_is_current}
use Rattle.pei_types.specs.Operation.{is_writer}
use Rattle.pei_types.specs.Recency.{has_room}
use Rattle.bank_laws.specs.Banks.{Stands, bank_of}
use Rattle.bank_laws.specs.Parts.{SameInBank, SameForCore}
use Rattle.bank_laws.specs.Local.{IsLocal, IsOfCore, FindsAlike}
use Rattle.bank_laws.proofs.Lists.{all_same, map_same}
use Rattle.bank_laws.proofs.Locality.{letter_same, mark_same, conflict_same, any_on_block, any_of_block, no_other_has_same, serves_same, queue_full_same, unfinished_same, free_lane_same}

module _ (m : MachineSpec) (k : ℕ) (s t : State) (h : SameInBank m k s t) where
  none_has_same : (b : BlockNo) → bank_of m b ≡ k → none_has m s b ≡ none_has m t b
  none_has_same b own = ap (list_all is_i) (map_same (λ c. letter_of m s c b) (λ c. letter_of m t c b) (λ c. letter_same m k s t c b h own) (cores_of m))

  none_owns_same : (b : BlockNo) → bank_of m b ≡ k → none_owns m s b ≡ none_owns m t b
  none_owns_same b own = ap (list_all (λ l. not (is_owned l || is_ahead l))) (map_same (λ c. letter_of m s c b) (λ c. letter_of m t c b) (λ c. letter_same m k s t c b h own) (cores_of m))

  no_other_owns_same : (d : CoreId) (b : BlockNo) → bank_of m b ≡ k → no_other_owns m s d b ≡ no_other_owns m t d b
  no_other_owns_same d b own = all_same _ _ (λ c. ap (λ l. same_core c d || not (is_owned l)) (letter_same m k s t c b h own)) (cores_of m)

  writer_sealed_same : (b : BlockNo) → bank_of m b ≡ k → writer_is_sealed s b ≡ writer_is_sealed t b
  writer_sealed_same b own =
      any_of_block m k s t b (λ p. same_block p.block b && is_writer p.op && is_phase p.phase phase.Sealed)
      (λ p e. (and_parts (same_block p.block b) (is_writer p.op) (and_parts (same_block p.block b && is_writer p.op) (is_phase p.phase phase.Sealed) e).0).0) h own

  current_same : (p : PeiLook) → bank_of m p.block ≡ k → memory_is_current m s p ≡ memory_is_current m t p
  current_same p own =
      ap₂ (λ x y. x && y) (ap₂ (λ x y. x && not (is_dirty y)) (none_owns_same p.block own) (mark_same m k s t p.block h own))
      (ap₂ (λ x y. not (is_writer p.op) || (x && is_absent y)) (none_has_same p.block own) (mark_same m k s t p.block h own))

  seal_guard_same : (v : ℕ) (p : PeiLook) → bank_of m p.block ≡ k → seal_guard m s v p ≡ seal_guard m t v p
  seal_guard_same v p own = ap₂ (λ x y. x && y) (by (v == vault_of m p.block) refl) (current_same p own)
    where
      by : (b : Bool) → (v == vault_of m p.block) ≡ b → (is_phase p.phase phase.MemoryPlaced && b && not (queue_is_full m s v)) ≡ (is_phase p.phase phase.MemoryPlaced && b && not (queue_is_full m t v))
      by true e =
          ap (λ x. is_phase p.phase phase.MemoryPlaced && true && not x) (subst (λ w. queue_is_full m s w ≡ queue_is_full m t w) (sym (eqb-true v (vault_of m p.block) e)) (queue_full_same m k s t p.block h own))
      by false e = no (is_phase p.phase phase.MemoryPlaced)
        where
          no : (x : Bool) → (x && false && not (queue_is_full m s v)) ≡ (x && false && not (queue_is_full m t v))
          no true = refl
          no false = refl

  act_guard_same : (p : PeiLook) (ph : Phase) → bank_of m p.block ≡ k → act_guard m s p ph ≡ act_guard m t p ph
  act_guard_same p phase.Read own = ap (λ l. not (is_writer p.op) || is_owned l) (letter_same m k s t p.id.core p.block h own)
  act_guard_same p phase.Sealed own = ap (λ q. is_pei (slice_get q 0) p.id) (h.queues p.block own)
  act_guard_same p _ own = refl

  -- on the PEI that both find
  pei_guard_same : (kind : EventKind) (o : Option PeiLook) → IsLocal kind → IfSome o (λ p. bank_of m p.block ≡ k) → pei_guard m s kind o ≡ pei_guard m t kind o
  pei_guard_same kind None local own = refl
  pei_guard_same (event.Enter seq) (Some p) local own = absurd local
  pei_guard_same (event.Place seq where_to) (Some p) local own = refl
  pei_guard_same (event.Read seq) (Some p) local own = ap (λ x. is_phase p.phase phase.HostPlaced && x) (serves_same m k s t p h own)
  pei_guard_same (event.Seal seq vault) (Some p) local own = seal_guard_same vault p own
  pei_guard_same (event.Act seq reply) (Some p) local own = act_guard_same p p.phase own
  pei_guard_same (event.Leave seq) (Some p) local own = refl
  pei_guard_same _ (Some p) local own = refl

  found_guard_same : (kind : EventKind) (id : PeiId) → IsLocal kind → FindsAlike m k s t id → pei_guard m s kind (look_of s id) ≡ pei_guard m t kind (look_of t id)
  found_guard_same kind id local f = pei_guard_same kind (look_of s id) local f.there ∙ ap (pei_guard m t kind) f.same

  pub guard_same : (a : Actor) (kind : EventKind) → IsLocal kind → Stands m k (FindsAlike m k s t) a kind → guard m s a kind ≡ guard m t a kind
  guard_same a (event.Load addr value) local own = ap (λ l. not (is_i l)) (letter_same m k s t a.core (block_of addr) h own)
  guard_same a (event.Store addr value) local own = ap is_owned (letter_same m k s t a.core (block_of addr) h own)
  guard_same a (event.Race pc b by) local own = ap₂ (λ x y. is_pei x by || is_pei y by) (conflict_same m k s t b true h own) (conflict_same m k s t b false h own)
  guard_same a (event.Place seq where_to) local own = found_guard_same (event.Place seq where_to) (pei_id a seq) local own
  guard_same a (event.Read seq) local own = found_guard_same (event.Read seq) (pei_id a seq) local own
  guard_same a (event.Seal seq vault) local own = found_guard_same (event.Seal seq vault) (pei_id a seq) local own.0
  guard_same a (event.Act seq reply) local own = found_guard_same (event.Act seq reply) (pei_id a seq) local own
  guard_same a (event.Leave seq) local own = found_guard_same (event.Leave seq) (pei_id a seq) local own
  guard_same a (event.Invalidate c b) local own = ap (λ l. not (is_i l)) (letter_same m k s t c b h own)
  guard_same a (event.Downgrade c b) local own = ap is_owned (letter_same m k s t c b h own)
  guard_same a (event.EvictL1 c b) local own = ap (λ l. same_core c a.core && not (is_i l)) (letter_same m k s t c b h own)
  guard_same a (event.Clean b) local own = ap₂ (λ x y. is_dirty x && y) (mark_same m k s t b h own) (none_owns_same b own)
  guard_same a (event.EvictLlc b) local own = ap₂ (λ x y. is_clean x && y) (mark_same m k s t b h own) (none_has_same b own)
  guard_same a (event.Fill b) local own =
      ap₂ (λ x y. x && y) (ap₂ (λ x y. is_absent x && not y) (mark_same m k s t b h own) (writer_sealed_same b own)) (ap (has_room m.llc_ways (is_llc_line_of b)) (h.llc b own))
  guard_same a (event.GrantS b) local own =
      ap₂ (λ x y. x && y)
      (ap₂ (λ x y. x && y) (ap₂ (λ x y. is_i x && not (is_absent y)) (letter_same m k s t a.core b h own) (mark_same m k s t b h own)) (no_other_owns_same a.core b own))
      (ap (has_room m.l1_ways (is_line_of b)) (h.l1 a.core b own))
  guard_same a (event.GrantE b) local own =
      ap₂ (λ x y. x && y)
      (ap₂ (λ x y. x && not y)
      (ap₂ (λ x y. x && y) (ap₂ (λ x y. is_i x && not (is_absent y)) (letter_same m k s t a.core b h own) (mark_same m k s t b h own)) (no_other_has_same m k s t a.core b h own))
      (any_on_block m k s t b (λ p. is_phase p.phase phase.Sealed) h own))
      (ap (has_room m.l1_ways (is_line_of b)) (h.l1 a.core b own))
  guard_same a (event.GrantM b) local own =
      ap₂ (λ x y. x && y)
      (ap₂ (λ x y. x && not y)
      (ap₂ (λ x y. x && y) (ap₂ (λ x y. not (is_owned x) && not (is_absent y)) (letter_same m k s t a.core b h own) (mark_same m k s t b h own)) (no_other_has_same m k s t a.core b h own))
      (any_on_block m k s t b (λ p. is_phase p.phase phase.Sealed) h own))
      (ap₂ (λ x y. not (is_i x) || y) (letter_same m k s t a.core b h own) (ap (has_room m.l1_ways (is_line_of b)) (h.l1 a.core b own)))
  guard_same a (event.Out value) local own = refl
  guard_same a (event.Issue seq lane o b operands) local own = absurd local
  guard_same a event.FenceBegin local own = absurd local
  guard_same a event.FenceEnd local own = absurd local
  guard_same a (event.End kind) local own = absurd local
  guard_same a (event.Enter seq) local own = absurd local

-- the guards that a core's own events decide
pub core_guard_same : (m : MachineSpec) (s t : State) (a : Actor) (kind : EventKind) → IsOfCore kind → SameForCore a.core s t → guard m s a kind ≡ guard m t a kind
core_guard_same m s t a (event.Issue seq lane o b operands) local h =
    ap₂ (λ x n. is_lane x lane && (seq == n)) (free_lane_same m a.core s t h) h.issues
core_guard_same m s t a event.FenceBegin local h = h.fence
core_guard_same m s t a (event.Out value) local h = refl
core_guard_same m s t a (event.End kind) local h = ap is_none (unfinished_same a.core s t h)
core_guard_same m s t a _ local h = absurd local
