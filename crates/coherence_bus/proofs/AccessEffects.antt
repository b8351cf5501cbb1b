-- What loads, stores and PEIs make of the caches and the vaults.
use Rattle.std.proofs.Common.{◌≡◌, ℕ, ◌<◌, ◌*◌, Bool, true, false, [], ◌∷◌, length, refl, sym, subst, ap, ◌∙◌, arith, get_or}
use Rattle.std.specs.Prelude.{not, slice_set, if◌then◌else◌, find, Some, None}
use Rattle.std.proofs.lemmas.List.{length-set}
use Rattle.pei_types.specs.declared.identifiers.Block.{Block}
use Rattle.pei_types.specs.declared.identifiers.BlockNo.{BlockNo}
use Rattle.pei_types.specs.declared.identifiers.CoreId.{CoreId}
use Rattle.pei_types.specs.declared.operations.Letter.{Letter}
use Rattle.pei_types.specs.declared.operations.Letter.TheVariants as letter
use Rattle.pei_types.specs.declared.operations.Op.{Op}
use Rattle.pei_types.specs.declared.operations.Operands.{Operands}
use Rattle.pei_types.specs.declared.events.EventKind.TheVariants as event
use Rattle.pei_types.specs.declared.machines.MachineSpec.{MachineSpec}
use Rattle.pei_types.specs.Blocks.{block_of}
use Rattle.pei_types.specs.MachineState.{State, cores_of, letter_of, mark_of, is_absent, is_i, is_ahead, is_owned, with_l1_front, with_l1_touch}
use Rattle.pei_types.specs.Operation.{is_writer, block_after}
use Rattle.pei_types.specs.Recency.{to_front, without}
use Rattle.pei_types.proofs.Lists.{found_passes}
use Rattle.coherence_laws.specs.Data.{at_block, peek_at}
use Rattle.coherence_laws.specs.Holdings.{Holdings, data_of, held_line, with_copy_front}
use Rattle.coherence_laws.specs.Invariants.{HoldsSeal}
use Rattle.machine_laws.specs.Memory.{HoldsMemory}
use Rattle.mesi_l1.specs.Cache as private
use Rattle.llc.specs.Cache as shared
use Rattle.stack_vaults.specs.Blocks.{Stack, with_block}
use Rattle.stack_vaults.specs.Blocks as vaults
use Rattle.coherence_bus.specs.Hierarchy.{content_of, with_caches, with_content}
use Rattle.coherence_bus.specs.Inside.{IsKept, bare_state, held, holdings, seen, shown}
use Rattle.coherence_bus.specs.declared.bus.Bus.TheInside.{Inside}
use Rattle.coherence_bus.specs.Laws.{Laws}
use Rattle.coherence_bus.proofs.Blocks.{content_in, content_set}
use Rattle.coherence_bus.proofs.Effects.{vaults_after}
use Rattle.coherence_bus.proofs.MessageEffects.{Comes, caches_after, copy_here, included, line_here, mark_is, owned_has, present_within}
use Rattle.coherence_bus.proofs.Settling.{by_access, settled}

pub block_at_start : (b : BlockNo) → block_of (64 * b.0) ≡ b
block_at_start b = ap (λ n. record { 0 = n }) (omega arith)

m_has : (l : Letter) → is_ahead l ≡ true → is_i l ≡ false
m_has letter.M h = refl
m_has letter.E h = refl
m_has letter.S h = refl
m_has letter.I h = absurd (cc h)

module _ (laws : Laws) (i : Inside) (kept : IsKept i) where
  abbrev m : MachineSpec
  m = i.machine

  abbrev k : Holdings
  k = held i

  abbrev s : State
  s = bare_state i.machine (held i)

  -- a block that a core has is one of memory
  pub copy_within : (c : CoreId) (b : BlockNo) → is_i (letter_of i.machine (bare_state i.machine (held i)) c b) ≡ false → b.0 < i.machine.blocks
  copy_within c b there = present_within laws i kept b (included laws i kept c b there)

  -- what is seen of a block is its content
  pub seen_is : (b : BlockNo) → b.0 < i.machine.blocks → content_of (shown i) b ≡ seen i.machine (held i) b
  seen_is b within = content_in m (seen m k) b (record { 0 = [] }) within

  -- a core's copy is what is seen
  pub copy_seen : (c : CoreId) (v d : private.Cache) (b : BlockNo) → c.0 < i.machine.cores → v ≡ get_or i.caches.items c.0 d → is_i (letter_of i.machine (bare_state i.machine (held i)) c b) ≡ false → private.content_of v b ≡ content_of (shown i) b
  copy_seen c v d b own is there =
      copy_here laws i kept c v d b own is ∙ laws.contents.copies m s k (seen m k) c b kept.coheres.invariants kept.coheres.holds there ∙ sym (seen_is b (copy_within c b there))

  -- ---- what is seen

  -- the core with a modified copy has a copy
  pub modified_has : (c : CoreId) (b : BlockNo) → find (λ d. is_ahead (letter_of i.machine (bare_state i.machine (held i)) d b)) (cores_of i.machine) ≡ Some c → is_i (letter_of i.machine (bare_state i.machine (held i)) c b) ≡ false
  modified_has c b is = m_has (letter_of m s c b) (found_passes (λ d. is_ahead (letter_of m s d b)) (cores_of m) c is)

  -- without one, the line or the block of the vault is what is seen
  pub peeked : (b : BlockNo) (t : Bool) → b.0 < i.machine.blocks → find (λ d. is_ahead (letter_of i.machine (bare_state i.machine (held i)) d b)) (cores_of i.machine) ≡ None → is_absent (shared.mark_of i.llc b) ≡ t
      → (if t then vaults.content_of i.vaults b else shared.content_of i.llc b) ≡ content_of (shown i) b
  peeked b t within none absent =
      by_mark t ∙ ap (λ u. if u then vaults.content_of i.vaults b else held_line m k b) (sym absent ∙ ap is_absent (sym (mark_is laws i kept b)))
      ∙ sym (ap (λ o. peek_at (data_of m k) b o (mark_of m s b)) none) ∙ sym (seen_is b within)
    where
      by_mark : (u : Bool) → (if u then vaults.content_of i.vaults b else shared.content_of i.llc b) ≡ (if u then vaults.content_of i.vaults b else held_line i.machine (held i) b)
      by_mark true = refl
      by_mark false = line_here laws i kept b

  -- ---- reads

  touched_at : (c : CoreId) (v w d : private.Cache) (addr : ℕ) → c.0 < i.machine.cores → v ≡ get_or i.caches.items c.0 d → is_i (letter_of i.machine (bare_state i.machine (held i)) c (block_of addr)) ≡ false → w ≡ private.with_touch v (block_of addr)
      → Comes i.machine (slice_set i.caches.items c.0 w) i.llc i.vaults (with_caches (shown i) (with_l1_touch i.machine (bare_state i.machine (held i)) c (block_of addr)))
  touched_at c v w d addr own is there change =
      let copies = caches_after laws i kept c v w d (block_of addr) (to_front (private.is_copy_of (block_of addr))) own is (ap (λ (x : private.Cache). x.ways) change) (ap (λ (x : private.Cache). x.sets) change)
      in let by = by_access laws m k (holdings (slice_set i.caches.items c.0 w) i.llc i.vaults) c (event.Load addr 0) kept.coheres refl own (ap not there)
      (λ j. record { l1 = copies.0 j; llc = k.llc; vault = λ e. vaults.content_of i.vaults e; buffer = λ id. record { 0 = [] } })
      kept.coheres.within
      in record { sizes = record { l1_ways = copies.1; llc_ways = kept.sizes.llc_ways; blocks = kept.sizes.blocks }; coheres = by.0; shows = by.1 }

  pub touched : (c : CoreId) (v w d : private.Cache) (b : BlockNo) → c.0 < i.machine.cores → v ≡ get_or i.caches.items c.0 d → is_i (letter_of i.machine (bare_state i.machine (held i)) c b) ≡ false → w ≡ private.with_touch v b
      → Comes i.machine (slice_set i.caches.items c.0 w) i.llc i.vaults (with_caches (shown i) (with_l1_touch i.machine (bare_state i.machine (held i)) c b))
  touched c v w d b = subst (λ (x : BlockNo). c.0 < i.machine.cores → v ≡ get_or i.caches.items c.0 d → is_i (letter_of i.machine (bare_state i.machine (held i)) c x) ≡ false → w ≡ private.with_touch v x
      → Comes i.machine (slice_set i.caches.items c.0 w) i.llc i.vaults (with_caches (shown i) (with_l1_touch i.machine (bare_state i.machine (held i)) c x))) (block_at_start b) (touched_at c v w d (64 * b.0))

  -- ---- writes

  pub written : (c : CoreId) (v w d : private.Cache) (b : BlockNo) (content : Block) → c.0 < i.machine.cores → v ≡ get_or i.caches.items c.0 d → is_owned (letter_of i.machine (bare_state i.machine (held i)) c b) ≡ true → w ≡ private.with_front v b letter.M content
      → Comes i.machine (slice_set i.caches.items c.0 w) i.llc i.vaults (with_content (with_caches (shown i) (with_l1_front i.machine (bare_state i.machine (held i)) c b letter.M)) b content)
  written c v w d b content own is owned change =
      let copies = caches_after laws i kept c v w d b (λ set. record { block = b; letter = letter.M; content = content } ∷ without (private.is_copy_of b) set) own is (ap (λ (x : private.Cache). x.ways) change) (ap (λ (x : private.Cache). x.sets) change)
      in let same : with_copy_front m k c b letter.M content ≡ holdings (slice_set i.caches.items c.0 w) i.llc i.vaults = λ j. record { l1 = sym copies.0 j; llc = k.llc; vault = λ e. vaults.content_of i.vaults e; buffer = λ id. record { 0 = [] } }
      in let held = laws.caches.written m s k (seen m k) c b content refl kept.coheres.invariants owned kept.coheres.holds
      in let by = settled laws m (with_l1_front m s c b letter.M) (holdings (slice_set i.caches.items c.0 w) i.llc i.vaults) (at_block (seen m k) b content) held.0
      (subst (λ x. HoldsMemory m (with_l1_front m s c b letter.M) x (at_block (seen m k) b content)) same held.1) kept.coheres.within
      in record {
        sizes = record { l1_ways = copies.1; llc_ways = kept.sizes.llc_ways; blocks = kept.sizes.blocks };
        coheres = by.0;
        shows = by.1 ∙ ap (λ memory. record (with_caches (shown i) (with_l1_front m s c b letter.M)) { memory = memory }) (content_set m (seen m k) b content (copy_within c b (owned_has (letter_of m s c b) owned)));
      }

  -- ---- PEIs in memory

  pub vault_seen : (b : BlockNo) (o : Op) → b.0 < i.machine.blocks → HoldsSeal (letter_of i.machine (bare_state i.machine (held i))) (mark_of i.machine (bare_state i.machine (held i))) b (is_writer o) → vaults.content_of i.vaults b ≡ content_of (shown i) b
  vault_seen b o within seal = (laws.caches.executed m s k (seen m k) b o (record { 0 = [] }) refl seal kept.coheres.holds).0 ∙ sym (seen_is b within)

  pub executed : (b : BlockNo) (o : Op) (operands : Operands) (stack : Stack) → b.0 < i.machine.blocks → HoldsSeal (letter_of i.machine (bare_state i.machine (held i))) (mark_of i.machine (bare_state i.machine (held i))) b (is_writer o)
      → stack ≡ with_block i.vaults b (block_after o operands (vaults.content_of i.vaults b)) → Comes i.machine i.caches.items i.llc stack (with_content (shown i) b (block_after o operands (content_of (shown i) b)))
  executed b o operands stack within seal blocks =
      let content : Block = block_after o operands (vaults.content_of i.vaults b)
      in let vault : at_block (λ e. vaults.content_of i.vaults e) b content ≡ (λ e. vaults.content_of stack e) =
      sym (ap (λ (v : Stack). λ e. vaults.content_of v e) blocks ∙ vaults_after i.vaults b content (omega (arith, within, kept.sizes.blocks)))
      in let held = (laws.caches.executed m s k (seen m k) b o operands refl seal kept.coheres.holds).1
      in let by = settled laws m s (holdings i.caches.items i.llc stack) (at_block (seen m k) b (block_after o operands (seen m k b))) kept.coheres.invariants
      (subst (λ x. HoldsMemory m s x (at_block (seen m k) b (block_after o operands (seen m k b)))) (λ j. record { l1 = k.l1; llc = k.llc; vault = vault j; buffer = λ id. record { 0 = [] } }) held) kept.coheres.within
      in record {
        sizes = record { l1_ways = kept.sizes.l1_ways; llc_ways = kept.sizes.llc_ways; blocks = ap (λ (v : Stack). length v.blocks) blocks ∙ length-set i.vaults.blocks b.0 content ∙ kept.sizes.blocks };
        coheres = by.0;
        shows = by.1 ∙ ap (λ memory. record (shown i) { memory = memory }) (content_set m (seen m k) b (block_after o operands (seen m k b)) within) ∙ ap (λ x. with_content (shown i) b (block_after o operands x)) (sym (seen_is b within));
      }
