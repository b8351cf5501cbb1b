-- What each message makes of the caches and the vaults.
use Rattle.std.proofs.Common.{◌≡◌, ℕ, ◌<◌, Bool, true, false, List, [], ◌∷◌, length, map, refl, sym, subst, ap, ◌∙◌, arith, get_or, Option, Some, None, IsTrue}
use Rattle.std.specs.Prelude.{◌&&◌, ◌||◌, if◌then◌else◌, not, nat_lt, slice_set, option_map}
use Rattle.std.proofs.lemmas.Bool.{and_parts, not-true, ltb-true, ne_eqb}
use Rattle.std.specs.List.{AllByRecursion, list_any, last_or}
use Rattle.std.proofs.lemmas.List.{length-set}
use Rattle.pei_types.specs.declared.identifiers.Block.{Block}
use Rattle.pei_types.specs.declared.identifiers.BlockNo.{BlockNo}
use Rattle.pei_types.specs.declared.identifiers.CoreId.{CoreId}
use Rattle.pei_types.specs.declared.operations.Letter.{Letter}
use Rattle.pei_types.specs.declared.operations.Letter.TheVariants as letter
use Rattle.pei_types.specs.declared.operations.Mark.{Mark}
use Rattle.pei_types.specs.declared.operations.Mark.TheVariants as mark
use Rattle.pei_types.specs.declared.events.EventKind.TheVariants as event
use Rattle.pei_types.specs.declared.lines.CopyLine.{CopyLine}
use Rattle.pei_types.specs.declared.lines.HeldLine.{HeldLine}
use Rattle.pei_types.specs.declared.machines.MachineSpec.{MachineSpec}
use Rattle.pei_types.specs.Blocks.{l1_set_of, llc_set_of}
use Rattle.pei_types.specs.MachineState.{State, letter_of, mark_of, cores_of, is_i, is_ahead, is_owned, is_absent, is_clean, is_dirty, none_has, none_owns, no_other_has, no_other_owns, is_sealed, writer_is_sealed, llc_set, l1_set, is_line_of, is_llc_line_of, after_invalidating, after_downgrading}
use Rattle.pei_types.specs.Guard.{guard, l1_has_room, llc_has_room}
use Rattle.pei_types.specs.Recency.{change_at, without, to_front, victim}
use Rattle.pei_types.proofs.Identities.{same_block_is}
use Rattle.pei_types.proofs.Lists.{found_has, found_passes}
use Rattle.coherence_laws.specs.Data.{at_block}
use Rattle.coherence_laws.specs.Holdings.{Holdings, held_copy, held_line, next_holdings, held_after_granting, held_after_taking, with_copy_set, with_held_dirty}
use Rattle.mesi_l1.specs.Cache as private
use Rattle.llc.specs.Cache as shared
use Rattle.stack_vaults.specs.Blocks.{Stack, content_of, with_block}
use Rattle.coherence_bus.specs.Hierarchy.{Hierarchy, after, granting, program_of, with_caches}
use Rattle.coherence_bus.specs.Inside.{Coheres, HasSizes, IsKept, bare_state, held, hierarchy_of, holdings, seen, shown}
use Rattle.coherence_bus.specs.declared.bus.Bus.TheInside.{Inside}
use Rattle.coherence_bus.specs.Laws.{Laws}
use Rattle.coherence_bus.proofs.Effects.{l1_after, ways_after, copy_is, llc_after, line_is, vaults_after, IsInside, within_after, within_same, keeps_without, keeps_front, keeps_map}
use Rattle.coherence_bus.proofs.Searching.{none_ahead}
use Rattle.coherence_bus.proofs.Settling.{by_message, Within}
use Rattle.coherence_bus.proofs.Standing.{cache_is, core_within, count_caches, llc_is}

-- caches and vaults of these sizes cohere, and are seen so
pub record Comes (m : MachineSpec) (caches : List private.Cache) (llc : shared.Cache) (vaults : Stack) (h : Hierarchy) : Type 0 where
  pub sizes : HasSizes m caches llc vaults
  pub coheres : Coheres m (holdings caches llc vaults)
  pub shows : hierarchy_of m (holdings caches llc vaults) ≡ h

-- the first core is one of the machine's
pub first_core : (m : MachineSpec) → 0 < m.cores
first_core m = omega (arith, m.cores_in_limits)

dirty_is : (k : Mark) → is_dirty k ≡ true → k ≡ mark.Dirty
dirty_is mark.Dirty h = refl
dirty_is mark.Clean h = absurd (cc h)
dirty_is mark.Absent h = absurd (cc h)

clean_is : (k : Mark) → is_clean k ≡ true → k ≡ mark.Clean
clean_is mark.Clean h = refl
clean_is mark.Dirty h = absurd (cc h)
clean_is mark.Absent h = absurd (cc h)

pub owned_has : (l : Letter) → is_owned l ≡ true → is_i l ≡ false
owned_has letter.M h = refl
owned_has letter.E h = refl
owned_has letter.S h = absurd (cc h)
owned_has letter.I h = absurd (cc h)

pub shared_is : (l : Letter) → is_i l ≡ false → is_owned l ≡ false → l ≡ letter.S
shared_is letter.S h g = refl
shared_is letter.M h g = absurd (cc g)
shared_is letter.E h g = absurd (cc g)
shared_is letter.I h g = absurd (cc h)

pub not_i : (l : Letter) → (l ≡ letter.I → ⊥) → is_i l ≡ false
not_i letter.I h = absurd (h refl)
not_i letter.M h = refl
not_i letter.E h = refl
not_i letter.S h = refl

four_parts : (p q t u : Bool) → (p && q && t && u) ≡ true → (p ≡ true) × (q ≡ true) × (t ≡ true) × (u ≡ true)
four_parts p q t u h = let g = and_parts (p && q && t) u h in let f = and_parts (p && q) t g.0 in let e = and_parts p q f.0 in (e.0, e.1, f.1, g.1)

five_parts : (p q t u v : Bool) → (p && q && t && u && v) ≡ true → (p ≡ true) × (q ≡ true) × (t ≡ true) × (u ≡ true) × (v ≡ true)
five_parts p q t u v h = let g = and_parts (p && q && t && u) v h in let f = four_parts p q t u g.0 in (f.0, f.1, f.2, f.3, g.1)

-- ---- lines that change and keep their blocks

abbrev made_clean : BlockNo → HeldLine → HeldLine
made_clean b x = if shared.is_held_of b x then record { block = x.block; mark = mark.Clean; content = x.content } else x

abbrev made_dirty : BlockNo → Block → HeldLine → HeldLine
made_dirty b content x = if shared.is_held_of b x then record { block = x.block; mark = mark.Dirty; content = content } else x

keeps_block : (u : Bool) (x : HeldLine) (k : Mark) (content : Block) → (if u then record { block = x.block; mark = k; content = content } else x).block ≡ x.block
keeps_block true x k content = refl
keeps_block false x k content = refl

module _ (laws : Laws) (i : Inside) (kept : IsKept i) where
  abbrev m : MachineSpec
  m = i.machine

  abbrev k : Holdings
  k = held i

  abbrev s : State
  s = bare_state i.machine (held i)

  -- the mark of a block
  pub mark_is : (b : BlockNo) → mark_of i.machine (bare_state i.machine (held i)) b ≡ shared.mark_of i.llc b
  mark_is b = laws.llc.marks m s i.llc b (llc_is m i.caches.items i.llc i.vaults kept.sizes kept.coheres)

  pub sets_of : length i.llc.sets ≡ i.machine.llc_sets
  sets_of = let t = llc_is m i.caches.items i.llc i.vaults kept.sizes kept.coheres in t.sets

  pub core_at : (c : CoreId) → c.0 < i.machine.cores → c.0 < length i.caches.items
  core_at c own = omega (arith, own, count_caches m i.caches.items i.llc i.vaults kept.coheres)

  -- a core that has a copy of a block is one of the machine's
  pub has_core : (c : CoreId) (b : BlockNo) → is_i (letter_of i.machine (bare_state i.machine (held i)) c b) ≡ false → c.0 < i.machine.cores
  has_core c b there = core_within m s c b kept.coheres.invariants.sizes.cores there

  -- the letter of a block in a core's cache
  pub letter_is : (c : CoreId) (v d : private.Cache) (b : BlockNo) → c.0 < i.machine.cores → v ≡ get_or i.caches.items c.0 d → letter_of i.machine (bare_state i.machine (held i)) c b ≡ private.letter_of v b
  letter_is c v d b own is = laws.l1.letter m s c v b (cache_is m i.caches.items i.llc i.vaults c v d kept.sizes kept.coheres own is)

  pub sets_in : (c : CoreId) (v d : private.Cache) → c.0 < i.machine.cores → v ≡ get_or i.caches.items c.0 d → length v.sets ≡ i.machine.l1_sets
  sets_in c v d own is = let t = cache_is m i.caches.items i.llc i.vaults c v d kept.sizes kept.coheres own is in t.sets

  pub ways_in : (c : CoreId) (v d : private.Cache) → c.0 < i.machine.cores → v ≡ get_or i.caches.items c.0 d → v.ways ≡ i.machine.l1_ways
  ways_in c v d own is = let t = cache_is m i.caches.items i.llc i.vaults c v d kept.sizes kept.coheres own is in t.ways

  -- a block with a line is a block of memory
  line_within : (b : BlockNo) (o : Option HeldLine) → shared.held_of i.llc b ≡ o → is_absent (shared.mark_in o) ≡ false → b.0 < i.machine.blocks
  line_within b None is there = absurd (cc there)
  line_within b (Some x) is there =
      let inside : x.block.0 < i.machine.blocks = found_has (IsInside i.machine) (shared.is_held_of b) (shared.lines_of i.llc b) x (kept.coheres.within (shared.set_of i.llc b)) is
      in subst (λ (y : BlockNo). y.0 < i.machine.blocks) (same_block_is x.block b (found_passes (shared.is_held_of b) (shared.lines_of i.llc b) x is)) inside

  pub present_within : (b : BlockNo) → is_absent (shared.mark_of i.llc b) ≡ false → b.0 < i.machine.blocks
  present_within b there = line_within b (shared.held_of i.llc b) refl there

  -- what a core has is in the last-level cache
  pub included : (c : CoreId) (b : BlockNo) → is_i (letter_of i.machine (bare_state i.machine (held i)) c b) ≡ false → is_absent (shared.mark_of i.llc b) ≡ false
  included c b there = ap is_absent (sym (mark_is b)) ∙ kept.coheres.invariants.agree.included c b there

  -- ---- clean

  pub is_dirty_here : (b : BlockNo) (c : CoreId) → IsTrue (guard i.machine (bare_state i.machine (held i)) (program_of c) (event.Clean b)) → shared.mark_of i.llc b ≡ mark.Dirty
  is_dirty_here b c ok = sym (mark_is b) ∙ dirty_is (mark_of m s b) (and_parts (is_dirty (mark_of m s b)) (none_owns m s b) ok).0

  pub cleaned : (b : BlockNo) (next : shared.Cache) (stack : Stack) → IsTrue (guard i.machine (bare_state i.machine (held i)) (program_of (record { 0 = 0 })) (event.Clean b))
      → next ≡ shared.with_clean i.llc b → stack ≡ with_block i.vaults b (shared.content_of i.llc b) → Comes i.machine i.caches.items next stack (after (shown i) (record { 0 = 0 }) (event.Clean b))
  cleaned b next stack ok lines blocks =
      let inside = present_within b (ap is_absent (is_dirty_here b (record { 0 = 0 }) ok))
      in let change : next.sets ≡ (next_holdings m s k (program_of (record { 0 = 0 })) (event.Clean b)).llc = ap (λ (v : shared.Cache). v.sets) lines ∙ llc_after m i.llc b (map (made_clean b)) sets_of
      in let vault : (λ e. content_of stack e) ≡ at_block (λ e. content_of i.vaults e) b (held_line m k b) =
      ap (λ (v : Stack). λ e. content_of v e) blocks ∙ vaults_after i.vaults b (shared.content_of i.llc b) (omega (arith, inside, kept.sizes.blocks)) ∙ ap (at_block (λ e. content_of i.vaults e) b) (line_is m i.caches.items i.llc i.vaults b sets_of)
      in let t = by_message laws m k (holdings i.caches.items next stack) (record { 0 = 0 }) (event.Clean b) kept.coheres refl (first_core m) ok
      (λ j. record { l1 = k.l1; llc = change j; vault = vault j; buffer = λ id. record { 0 = [] } })
      (within_after m k (holdings i.caches.items next stack) b (map (made_clean b)) change (λ set. keeps_map m (made_clean b) set (λ x. keeps_block (shared.is_held_of b x) x mark.Clean x.content)) kept.coheres.within)
      in record {
        sizes = record { l1_ways = kept.sizes.l1_ways; llc_ways = ap (λ (v : shared.Cache). v.ways) lines ∙ kept.sizes.llc_ways; blocks = ap (λ (v : Stack). length v.blocks) blocks ∙ length-set i.vaults.blocks b.0 (shared.content_of i.llc b) ∙ kept.sizes.blocks };
        coheres = t.0;
        shows = t.1;
      }

  -- ---- evict

  pub is_clean_here : (b : BlockNo) (c : CoreId) → IsTrue (guard i.machine (bare_state i.machine (held i)) (program_of c) (event.EvictLlc b)) → shared.mark_of i.llc b ≡ mark.Clean
  is_clean_here b c ok = sym (mark_is b) ∙ clean_is (mark_of m s b) (and_parts (is_clean (mark_of m s b)) (none_has m s b) ok).0

  pub evicted : (b : BlockNo) (next : shared.Cache) → IsTrue (guard i.machine (bare_state i.machine (held i)) (program_of (record { 0 = 0 })) (event.EvictLlc b))
      → next ≡ record (shared.without_line i.llc b) { slots = next.slots } → Comes i.machine i.caches.items next i.vaults (after (shown i) (record { 0 = 0 }) (event.EvictLlc b))
  evicted b next ok lines =
      let change : next.sets ≡ (next_holdings m s k (program_of (record { 0 = 0 })) (event.EvictLlc b)).llc = ap (λ (v : shared.Cache). v.sets) lines ∙ llc_after m i.llc b (without (shared.is_held_of b)) sets_of
      in let t = by_message laws m k (holdings i.caches.items next i.vaults) (record { 0 = 0 }) (event.EvictLlc b) kept.coheres refl (first_core m) ok
      (λ j. record { l1 = k.l1; llc = change j; vault = λ e. content_of i.vaults e; buffer = λ id. record { 0 = [] } })
      (within_after m k (holdings i.caches.items next i.vaults) b (without (shared.is_held_of b)) change (keeps_without m (shared.is_held_of b)) kept.coheres.within)
      in record { sizes = record { l1_ways = kept.sizes.l1_ways; llc_ways = ap (λ (v : shared.Cache). v.ways) lines ∙ kept.sizes.llc_ways; blocks = kept.sizes.blocks }; coheres = t.0; shows = t.1 }

  -- ---- fill

  pub is_absent_here : (b : BlockNo) (c : CoreId) → IsTrue (guard i.machine (bare_state i.machine (held i)) (program_of c) (event.Fill b)) → is_absent (shared.mark_of i.llc b) ≡ true
  is_absent_here b c ok = ap is_absent (sym (mark_is b)) ∙ (and_parts (is_absent (mark_of m s b)) (not (writer_is_sealed s b)) (and_parts (is_absent (mark_of m s b) && not (writer_is_sealed s b)) (llc_has_room m s b) ok).0).0

  free : {A : Type 0} (ways : ℕ) (there : Bool) (set : List A) (block : A → BlockNo) → (not there && nat_lt (length set) ways) ≡ true → (if there then None else option_map block (victim ways set)) ≡ None
  free ways there set block ok =
      let g = and_parts (not there) (nat_lt (length set) ways) ok
      in rw (not-true there g.0) (ap (option_map block) (ap (λ u. if u then last_or None set else None) (ne_eqb (length set) ways (λ e. omega (arith, e, ltb-true (length set) ways g.1)))))

  pub room_here : (b : BlockNo) (c : CoreId) → IsTrue (guard i.machine (bare_state i.machine (held i)) (program_of c) (event.Fill b)) → shared.room_for i.llc b ≡ None
  room_here b c ok =
      let g = and_parts (is_absent (mark_of m s b) && not (writer_is_sealed s b)) (llc_has_room m s b) ok
      in laws.llc.room m s i.llc b (llc_is m i.caches.items i.llc i.vaults kept.sizes kept.coheres)
      ∙ free m.llc_ways (list_any (is_llc_line_of b) (llc_set m s b)) (llc_set m s b) (λ x. x.block) g.1

  pub filled : (b : BlockNo) (next : shared.Cache) → b.0 < i.machine.blocks → IsTrue (guard i.machine (bare_state i.machine (held i)) (program_of (record { 0 = 0 })) (event.Fill b))
      → next ≡ record (shared.with_line i.llc b (content_of i.vaults b)) { slots = next.slots } → Comes i.machine i.caches.items next i.vaults (after (shown i) (record { 0 = 0 }) (event.Fill b))
  filled b next inside ok lines =
      let new : HeldLine = record { block = b; mark = mark.Clean; content = content_of i.vaults b }
      in let change : next.sets ≡ (next_holdings m s k (program_of (record { 0 = 0 })) (event.Fill b)).llc = ap (λ (v : shared.Cache). v.sets) lines ∙ llc_after m i.llc b (λ set. new ∷ set) sets_of
      in let t = by_message laws m k (holdings i.caches.items next i.vaults) (record { 0 = 0 }) (event.Fill b) kept.coheres refl (first_core m) ok
      (λ j. record { l1 = k.l1; llc = change j; vault = λ e. content_of i.vaults e; buffer = λ id. record { 0 = [] } })
      (within_after m k (holdings i.caches.items next i.vaults) b (λ set. new ∷ set) change (λ set all. (inside, all)) kept.coheres.within)
      in record { sizes = record { l1_ways = kept.sizes.l1_ways; llc_ways = ap (λ (v : shared.Cache). v.ways) lines ∙ kept.sizes.llc_ways; blocks = kept.sizes.blocks }; coheres = t.0; shows = t.1 }

  -- ---- a copy is taken away, or downgraded

  -- the caches once one of them has other lines
  pub caches_after : (c : CoreId) (v w d : private.Cache) (b : BlockNo) (f : List CopyLine → List CopyLine) → c.0 < i.machine.cores → v ≡ get_or i.caches.items c.0 d → w.ways ≡ v.ways → w.sets ≡ change_at v.sets (private.set_of v b) f
      → (map (λ (x : private.Cache). x.sets) (slice_set i.caches.items c.0 w) ≡ change_at (map (λ (x : private.Cache). x.sets) i.caches.items) c.0 (λ sets. change_at sets (l1_set_of i.machine b) f)) × AllByRecursion (λ (x : private.Cache). x.ways ≡ i.machine.l1_ways) (slice_set i.caches.items c.0 w)
  caches_after c v w d b f own is ways change = (
    l1_after m i.caches.items c v w d b f (core_at c own) is (sets_in c v d own is) change,
    ways_after m.l1_ways i.caches.items c.0 w (ways ∙ ways_in c v d own is) kept.sizes.l1_ways,
  )

  pub copy_here : (c : CoreId) (v d : private.Cache) (b : BlockNo) → c.0 < i.machine.cores → v ≡ get_or i.caches.items c.0 d → private.content_of v b ≡ held_copy i.machine (held i) c b
  copy_here c v d b own is = copy_is m i.caches.items i.llc i.vaults c v d b (core_at c own) is (sets_in c v d own is)

  -- whether the last-level cache takes a modified copy back
  taking : (c : CoreId) (v d : private.Cache) (b : BlockNo) (next : shared.Cache) (t : Bool) → c.0 < i.machine.cores → v ≡ get_or i.caches.items c.0 d
      → next ≡ (if t then shared.with_dirty i.llc b (private.content_of v b) else i.llc)
      → (next.sets ≡ (if t then change_at i.llc.sets (llc_set_of i.machine b) (map (made_dirty b (held_copy i.machine (held i) c b))) else i.llc.sets)) × (next.ways ≡ i.llc.ways) × Within i.machine (holdings i.caches.items next i.vaults)
  taking c v d b next true own is lines =
      let change : next.sets ≡ change_at i.llc.sets (llc_set_of i.machine b) (map (made_dirty b (held_copy i.machine (held i) c b))) =
      ap (λ (x : shared.Cache). x.sets) lines ∙ llc_after m i.llc b (map (made_dirty b (private.content_of v b))) sets_of ∙ ap (λ content. change_at i.llc.sets (llc_set_of m b) (map (made_dirty b content))) (copy_here c v d b own is)
      in (
        change,
        ap (λ (x : shared.Cache). x.ways) lines,
        within_after m k (holdings i.caches.items next i.vaults) b (map (made_dirty b (held_copy i.machine (held i) c b))) change
            (λ set. keeps_map m (made_dirty b (held_copy i.machine (held i) c b)) set (λ x. keeps_block (shared.is_held_of b x) x mark.Dirty (held_copy i.machine (held i) c b))) kept.coheres.within,
      )
  taking c v d b next false own is lines =
      (ap (λ (x : shared.Cache). x.sets) lines, ap (λ (x : shared.Cache). x.ways) lines, within_same m k (holdings i.caches.items next i.vaults) (ap (λ (x : shared.Cache). x.sets) lines) kept.coheres.within)

  -- one cache has another set, and the last-level cache has taken a modified copy back
  taken_same : (c : CoreId) (b : BlockNo) (f : List CopyLine → List CopyLine) (caches : List private.Cache) (next : shared.Cache) (t : Bool) → is_ahead (letter_of i.machine (bare_state i.machine (held i)) c b) ≡ t
      → map (λ (x : private.Cache). x.sets) caches ≡ change_at (map (λ (x : private.Cache). x.sets) i.caches.items) c.0 (λ sets. change_at sets (l1_set_of i.machine b) f)
      → next.sets ≡ (if t then change_at i.llc.sets (llc_set_of i.machine b) (map (made_dirty b (held_copy i.machine (held i) c b))) else i.llc.sets)
      → holdings caches next i.vaults ≡ with_copy_set i.machine (held_after_taking i.machine (held i) c b (letter_of i.machine (bare_state i.machine (held i)) c b)) c b f
  taken_same c b f caches next t modified copies lines =
      subst (λ u. holdings caches next i.vaults ≡ with_copy_set m (if u then with_held_dirty m k b (held_copy m k c b) else k) c b f) (sym modified) (by_case t lines)
    where
      by_case : (u : Bool) → next.sets ≡ (if u then change_at i.llc.sets (llc_set_of i.machine b) (map (made_dirty b (held_copy i.machine (held i) c b))) else i.llc.sets)
          → holdings caches next i.vaults ≡ with_copy_set i.machine (if u then with_held_dirty i.machine (held i) b (held_copy i.machine (held i) c b) else held i) c b f
      by_case true is = λ j. record { l1 = copies j; llc = is j; vault = λ e. content_of i.vaults e; buffer = λ id. record { 0 = [] } }
      by_case false is = λ j. record { l1 = copies j; llc = is j; vault = λ e. content_of i.vaults e; buffer = λ id. record { 0 = [] } }

  pub taken : (c : CoreId) (v w d : private.Cache) (b : BlockNo) (next : shared.Cache) (t : Bool) → c.0 < i.machine.cores → v ≡ get_or i.caches.items c.0 d → is_i (letter_of i.machine (bare_state i.machine (held i)) c b) ≡ false
      → is_ahead (letter_of i.machine (bare_state i.machine (held i)) c b) ≡ t → w ≡ record (private.without_copy v b) { slots = w.slots } → next ≡ (if t then shared.with_dirty i.llc b (private.content_of v b) else i.llc)
      → Comes i.machine (slice_set i.caches.items c.0 w) next i.vaults (with_caches (shown i) (after_invalidating i.machine (bare_state i.machine (held i)) c b))
  taken c v w d b next t own is there modified lines back =
      let copies = caches_after c v w d b (without (private.is_copy_of b)) own is (ap (λ (x : private.Cache). x.ways) lines) (ap (λ (x : private.Cache). x.sets) lines)
      in let line = taking c v d b next t own is back
      in let by = by_message laws m k (holdings (slice_set i.caches.items c.0 w) next i.vaults) c (event.Invalidate c b) kept.coheres refl own (ap not there)
      (taken_same c b (without (private.is_copy_of b)) (slice_set i.caches.items c.0 w) next t modified copies.0 line.0)
      (within_same m (holdings i.caches.items next i.vaults) (holdings (slice_set i.caches.items c.0 w) next i.vaults) refl line.2)
      in record { sizes = record { l1_ways = copies.1; llc_ways = line.1 ∙ kept.sizes.llc_ways; blocks = kept.sizes.blocks }; coheres = by.0; shows = by.1 }

  pub lowered : (c : CoreId) (v w d : private.Cache) (b : BlockNo) (next : shared.Cache) (t : Bool) → c.0 < i.machine.cores → v ≡ get_or i.caches.items c.0 d → is_owned (letter_of i.machine (bare_state i.machine (held i)) c b) ≡ true
      → is_ahead (letter_of i.machine (bare_state i.machine (held i)) c b) ≡ t → w ≡ private.with_shared v b → next ≡ (if t then shared.with_dirty i.llc b (private.content_of v b) else i.llc)
      → Comes i.machine (slice_set i.caches.items c.0 w) next i.vaults (with_caches (shown i) (after_downgrading i.machine (bare_state i.machine (held i)) c b))
  lowered c v w d b next t own is owned modified lines back =
      let shares : List CopyLine → List CopyLine = map (λ x. if private.is_copy_of b x then record { block = x.block; letter = letter.S; content = x.content } else x)
      in let copies = caches_after c v w d b shares own is (ap (λ (x : private.Cache). x.ways) lines) (ap (λ (x : private.Cache). x.sets) lines)
      in let line = taking c v d b next t own is back
      in let by = by_message laws m k (holdings (slice_set i.caches.items c.0 w) next i.vaults) c (event.Downgrade c b) kept.coheres refl own owned
      (taken_same c b shares (slice_set i.caches.items c.0 w) next t modified copies.0 line.0)
      (within_same m (holdings i.caches.items next i.vaults) (holdings (slice_set i.caches.items c.0 w) next i.vaults) refl line.2)
      in record { sizes = record { l1_ways = copies.1; llc_ways = line.1 ∙ kept.sizes.llc_ways; blocks = kept.sizes.blocks }; coheres = by.0; shows = by.1 }

  -- ---- a block is granted

  -- what each grant needs
  pub grants : (c : CoreId) (b : BlockNo) (l : Letter) → is_i l ≡ false → is_i (letter_of i.machine (bare_state i.machine (held i)) c b) ≡ true → IsTrue (guard i.machine (bare_state i.machine (held i)) (program_of c) (granting l b))
      → (is_absent (shared.mark_of i.llc b) ≡ false) × (l1_has_room i.machine (bare_state i.machine (held i)) c b ≡ true)
  grants c b letter.S some none ok =
      let g = four_parts (is_i (letter_of m s c b)) (not (is_absent (mark_of m s b))) (no_other_owns m s c b) (l1_has_room m s c b) ok
      in (ap is_absent (sym (mark_is b)) ∙ not-true (is_absent (mark_of m s b)) g.1, g.3)
  grants c b letter.E some none ok =
      let g = five_parts (is_i (letter_of m s c b)) (not (is_absent (mark_of m s b))) (no_other_has m s c b) (not (is_sealed s b)) (l1_has_room m s c b) ok
      in (ap is_absent (sym (mark_is b)) ∙ not-true (is_absent (mark_of m s b)) g.1, g.4)
  grants c b letter.M some none ok =
      let g = five_parts (not (is_owned (letter_of m s c b))) (not (is_absent (mark_of m s b))) (no_other_has m s c b) (not (is_sealed s b)) (not (is_i (letter_of m s c b)) || l1_has_room m s c b) ok
      in (ap is_absent (sym (mark_is b)) ∙ not-true (is_absent (mark_of m s b)) g.1, rw none at g.4)
  grants c b letter.I some none ok = absurd (cc some)

  pub room_in : (c : CoreId) (v d : private.Cache) (b : BlockNo) → c.0 < i.machine.cores → v ≡ get_or i.caches.items c.0 d → l1_has_room i.machine (bare_state i.machine (held i)) c b ≡ true → private.room_for v b ≡ None
  room_in c v d b own is room =
      laws.l1.room m s c v b (cache_is m i.caches.items i.llc i.vaults c v d kept.sizes kept.coheres own is)
      ∙ free m.l1_ways (list_any (is_line_of b) (l1_set m s c b)) (l1_set m s c b) (λ x. x.block) room

  -- the block is in front of both caches, with the letter and the line's content
  front_same : (c : CoreId) (v w d : private.Cache) (b : BlockNo) (l : Letter) (next : shared.Cache) → c.0 < i.machine.cores → v ≡ get_or i.caches.items c.0 d → w.ways ≡ v.ways → w.sets ≡ (private.with_front v b l (held_line i.machine (held i) b)).sets → next ≡ shared.with_touch i.llc b
      → (holdings (slice_set i.caches.items c.0 w) next i.vaults ≡ held_after_granting i.machine (held i) c b l) × HasSizes i.machine (slice_set i.caches.items c.0 w) next i.vaults × Within i.machine (holdings (slice_set i.caches.items c.0 w) next i.vaults)
  front_same c v w d b l next own is ways sets lines =
      let copies = caches_after c v w d b (λ set. record { block = b; letter = l; content = held_line m k b } ∷ without (private.is_copy_of b) set) own is ways sets
      in let change : next.sets ≡ change_at i.llc.sets (llc_set_of m b) (to_front (shared.is_held_of b)) = ap (λ (x : shared.Cache). x.sets) lines ∙ llc_after m i.llc b (to_front (shared.is_held_of b)) sets_of
      in (
        (λ j. record { l1 = copies.0 j; llc = change j; vault = λ e. content_of i.vaults e; buffer = λ id. record { 0 = [] } }),
        record { l1_ways = copies.1; llc_ways = ap (λ (x : shared.Cache). x.ways) lines ∙ kept.sizes.llc_ways; blocks = kept.sizes.blocks },
        within_after m k (holdings (slice_set i.caches.items c.0 w) next i.vaults) b (to_front (shared.is_held_of b)) change (keeps_front m (shared.is_held_of b)) kept.coheres.within,
      )

  pub granted : (c : CoreId) (v w d : private.Cache) (b : BlockNo) (l : Letter) (next : shared.Cache) → c.0 < i.machine.cores → is_i l ≡ false → v ≡ get_or i.caches.items c.0 d → IsTrue (guard i.machine (bare_state i.machine (held i)) (program_of c) (granting l b))
      → w.ways ≡ v.ways → w.sets ≡ (private.with_front v b l (held_line i.machine (held i) b)).sets → next ≡ shared.with_touch i.llc b → Comes i.machine (slice_set i.caches.items c.0 w) next i.vaults (after (shown i) c (granting l b))
  granted c v w d b l next own some is ok ways sets lines =
      let t = front_same c v w d b l next own is ways sets lines
      in let by = by_letter l some ok t.0 t.2
      in record { sizes = t.1; coheres = by.0; shows = by.1 }
    where
      by_letter : (x : Letter) → is_i x ≡ false → IsTrue (guard i.machine (bare_state i.machine (held i)) (program_of c) (granting x b)) → holdings (slice_set i.caches.items c.0 w) next i.vaults ≡ held_after_granting i.machine (held i) c b x
          → Within i.machine (holdings (slice_set i.caches.items c.0 w) next i.vaults) → Coheres i.machine (holdings (slice_set i.caches.items c.0 w) next i.vaults) × (hierarchy_of i.machine (holdings (slice_set i.caches.items c.0 w) next i.vaults) ≡ after (shown i) c (granting x b))
      by_letter letter.S some ok same within = by_message laws m k (holdings (slice_set i.caches.items c.0 w) next i.vaults) c (event.GrantS b) kept.coheres refl own ok same within
      by_letter letter.E some ok same within = by_message laws m k (holdings (slice_set i.caches.items c.0 w) next i.vaults) c (event.GrantE b) kept.coheres refl own ok same within
      by_letter letter.M some ok same within = by_message laws m k (holdings (slice_set i.caches.items c.0 w) next i.vaults) c (event.GrantM b) kept.coheres refl own ok same within
      by_letter letter.I some ok same within = absurd (cc some)

  pub line_here : (b : BlockNo) → shared.content_of i.llc b ≡ held_line i.machine (held i) b
  line_here b = line_is m i.caches.items i.llc i.vaults b sets_of

  -- ---- a shared copy may be written

  pub raises : (c : CoreId) (b : BlockNo) → is_i (letter_of i.machine (bare_state i.machine (held i)) c b) ≡ false → IsTrue (guard i.machine (bare_state i.machine (held i)) (program_of c) (event.GrantM b))
      → (letter_of i.machine (bare_state i.machine (held i)) c b ≡ letter.S) × (is_absent (shared.mark_of i.llc b) ≡ false)
  raises c b there ok =
      let g = five_parts (not (is_owned (letter_of m s c b))) (not (is_absent (mark_of m s b))) (no_other_has m s c b) (not (is_sealed s b)) (not (is_i (letter_of m s c b)) || l1_has_room m s c b) ok
      in (shared_is (letter_of m s c b) there (not-true (is_owned (letter_of m s c b)) g.0), ap is_absent (sym (mark_is b)) ∙ not-true (is_absent (mark_of m s b)) g.1)

  -- a shared copy that may be written from now on has the line's content
  pub shared_content : (c : CoreId) (v d : private.Cache) (b : BlockNo) → c.0 < i.machine.cores → v ≡ get_or i.caches.items c.0 d → letter_of i.machine (bare_state i.machine (held i)) c b ≡ letter.S → IsTrue (guard i.machine (bare_state i.machine (held i)) (program_of c) (event.GrantM b)) → private.content_of v b ≡ held_line i.machine (held i) b
  shared_content c v d b own is letter ok =
      let g = five_parts (not (is_owned (letter_of m s c b))) (not (is_absent (mark_of m s b))) (no_other_has m s c b) (not (is_sealed s b)) (not (is_i (letter_of m s c b)) || l1_has_room m s c b) ok
      in let none = none_ahead (λ x. letter_of m s x b) c (cores_of m) letter g.2
      in let line : seen m k b ≡ held_line m k b = rw (none, not-true (is_absent (mark_of m s b)) g.1) refl
      in copy_here c v d b own is ∙ (kept.coheres.holds.current b).copy c (ap is_i letter) ∙ line
