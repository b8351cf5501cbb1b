-- Look-ups of blocks in the lines of a cache.
use Rattle.std.proofs.Common.{◌≡◌, ℕ, ◌%◌, ◌<◌, true, false, true≢false, List, length, map, Option, Some, None, find, option_map, if◌then◌else◌, refl, sym, ◌∙◌, ap, subst, arith}
use Rattle.std.specs.Prelude.{slice_index_or, IfSome, is_some}
use Rattle.std.specs.List.{list_any}
use Rattle.std.proofs.lemmas.List.{get_or_default}
use Rattle.pei_types.specs.declared.identifiers.BlockNo.{BlockNo}
use Rattle.pei_types.specs.MachineState.{is_absent}
use Rattle.pei_types.specs.Recency.{list_at, victim}
use Rattle.set_lists.specs.Placed.{Placed, IsAt, IsListed, key_at, is_key, has_key}
use Rattle.set_lists.specs.Laws.{held, Tells, SetsFollow}
use Rattle.pei_types.specs.declared.lines.HeldLine.{HeldLine}
use Rattle.llc.specs.Cache.{set_of, lines_of, is_held_of, held_of, mark_of, mark_in, content_of, content_in, room_for}
use Rattle.llc.specs.Inside.{line_at, cache_of, IsKept, blank}

pub set_is : SetsFollow HeldLine → (v : Placed) (lines : List HeldLine) (b : BlockNo) → set_of (cache_of v lines) b ≡ b.0 % length v.lists
set_is laws v lines b = ap (λ n. b.0 % n) (laws.count (line_at lines) v.lists)

-- the lines of a block's set
pub lines_are : SetsFollow HeldLine → (v : Placed) (lines : List HeldLine) (b : BlockNo) (set : ℕ) → set ≡ b.0 % length v.lists → lines_of (cache_of v lines) b ≡ map (line_at lines) (list_at v.lists set)
lines_are laws v lines b set at = ap (λ s. list_at (held (line_at lines) v.lists) s) (set_is laws v lines b ∙ sym at) ∙ laws.at_set (line_at lines) v.lists set

-- the test of a block finds the slot of its number
pub tells_block : (v : Placed) (lines : List HeldLine) → IsKept v lines → (b : BlockNo) (set : ℕ) → Tells v set b.0 (line_at lines) (is_held_of b)
tells_block v lines kept b set slot here = sym (ap (is_key b.0) (kept.each set slot here).key)

pub held_at : SetsFollow HeldLine → (v : Placed) (lines : List HeldLine) → IsKept v lines → (b : BlockNo) (set slot : ℕ) → set ≡ b.0 % length v.lists → set < length v.lists → IsAt v set b.0 slot → held_of (cache_of v lines) b ≡ Some (line_at lines slot)
held_at laws v lines kept b set slot home within at =
    ap (find (is_held_of b)) (lines_are laws v lines b set home)
    ∙ (laws.follows v kept.placed set b.0 slot (line_at lines) (line_at lines) (is_held_of b) within at (tells_block v lines kept b set) (λ s x here apart. refl)).found

-- a block whose mark is Absent is not there
absent_in : SetsFollow HeldLine → (v : Placed) (lines : List HeldLine) → IsKept v lines → (b : BlockNo) (set : ℕ) → set ≡ b.0 % length v.lists → set < length v.lists → is_absent (mark_of (cache_of v lines) b) ≡ true
    → (found : Option ℕ) → find (has_key v.keys b.0) (list_at v.lists set) ≡ found → found ≡ None
absent_in laws v lines kept b set home within none None is = refl
absent_in laws v lines kept b set home within none (Some slot) is =
    let at = laws.known v set b.0 slot is
    in absurd (true≢false (sym none ∙ ap (λ x. is_absent (mark_in x)) (held_at laws v lines kept b set slot home within at) ∙ (kept.each set slot at.listed).present))

pub lacks_block : SetsFollow HeldLine → (v : Placed) (lines : List HeldLine) → IsKept v lines → (b : BlockNo) (set : ℕ) → set ≡ b.0 % length v.lists → set < length v.lists → is_absent (mark_of (cache_of v lines) b) ≡ true → find (has_key v.keys b.0) (list_at v.lists set) ≡ None
lacks_block laws v lines kept b set home within none =
    absent_in laws v lines kept b set home within none (find (has_key v.keys b.0) (list_at v.lists set)) refl

-- ---- room

pub no_room_needed : SetsFollow HeldLine → (v : Placed) (lines : List HeldLine) → IsKept v lines → (b : BlockNo) (set slot : ℕ) → set ≡ b.0 % length v.lists → set < length v.lists → IsAt v set b.0 slot → room_for (cache_of v lines) b ≡ None
no_room_needed laws v lines kept b set slot home within at =
    let there : list_any (is_held_of b) (lines_of (cache_of v lines) b) ≡ true =
    ap (list_any (is_held_of b)) (lines_are laws v lines b set home)
    ∙ (laws.follows v kept.placed set b.0 slot (line_at lines) (line_at lines) (is_held_of b) within at (tells_block v lines kept b set) (λ s x here apart. refl)).there
    in ap (λ t. if t then None else option_map (λ x. x.block) (victim v.ways (lines_of (cache_of v lines) b))) there

pub room_is : SetsFollow HeldLine → (v : Placed) (lines : List HeldLine) → IsKept v lines → (b : BlockNo) (set : ℕ) → set ≡ b.0 % length v.lists → find (has_key v.keys b.0) (list_at v.lists set) ≡ None
    → room_for (cache_of v lines) b ≡ option_map (λ x. x.block) (option_map (line_at lines) (victim v.ways (list_at v.lists set)))
room_is laws v lines kept b set home absent =
    let lacks : list_any (is_held_of b) (lines_of (cache_of v lines) b) ≡ false =
    ap (list_any (is_held_of b)) (lines_are laws v lines b set home) ∙ laws.lacks v set b.0 (line_at lines) (is_held_of b) (tells_block v lines kept b set) absent
    in ap (λ t. if t then None else option_map (λ x. x.block) (victim v.ways (lines_of (cache_of v lines) b))) lacks
    ∙ ap (λ xs. option_map (λ x. x.block) (victim v.ways xs)) (lines_are laws v lines b set home)
    ∙ ap (option_map (λ x. x.block)) (laws.last (line_at lines) v.ways (list_at v.lists set))

pub found_room : SetsFollow HeldLine → (v : Placed) (lines : List HeldLine) → IsKept v lines → (b : BlockNo) (set : ℕ) → set ≡ b.0 % length v.lists → set < length v.lists → (found : Option ℕ) → IfSome found (λ slot. IsAt v set b.0 slot) → is_some found ≡ true → None ≡ room_for (cache_of v lines) b
found_room laws v lines kept b set home within None at is = absurd (true≢false (sym is))
found_room laws v lines kept b set home within (Some slot) at is = sym (no_room_needed laws v lines kept b set slot home within at)

no_block : (b : BlockNo) → Some b ≡ None → ⊥
no_block b h = cc h

no_line : (o : Option ℕ) (hold : ℕ → HeldLine) → option_map (λ x. x.block) (option_map hold o) ≡ None → o ≡ None
no_line None hold h = refl
no_line (Some slot) hold h = absurd (no_block (hold slot).block h)

-- where no block has to leave, the set has room
pub has_room : SetsFollow HeldLine → (v : Placed) (lines : List HeldLine) → IsKept v lines → (b : BlockNo) (set : ℕ) → set ≡ b.0 % length v.lists → set < length v.lists → is_absent (mark_of (cache_of v lines) b) ≡ true → room_for (cache_of v lines) b ≡ None → length (list_at v.lists set) < v.ways
has_room laws v lines kept b set home within absent none =
    laws.room v.ways (list_at v.lists set) kept.placed.some_ways (kept.placed.within set)
    (no_line (victim v.ways (list_at v.lists set)) (line_at lines) (sym (room_is laws v lines kept b set home (lacks_block laws v lines kept b set home within absent)) ∙ none))

-- ---- slots

-- a slot that has a block's number is the block's
pub only_slot : (v : Placed) (lines : List HeldLine) → IsKept v lines → (b : BlockNo) (set slot : ℕ) → set ≡ b.0 % length v.lists → IsAt v set b.0 slot → (other : ℕ) → key_at v.keys other ≡ Some b.0 → other ≡ slot
only_slot v lines kept b set slot home at other has =
    let found = kept.placed.listed other b.0 has
    in let line = kept.each found.0 other found.1
    in let e : Some (line_at lines other).block.0 ≡ Some b.0 = sym line.key ∙ has
    in let n : (line_at lines other).block.0 ≡ b.0 = cc e
    in let same : found.0 ≡ set = sym line.home ∙ ap (λ k. k % length v.lists) n ∙ sym home
    in kept.placed.once set b.0 other slot (record { listed = subst (λ s. IsListed v s other) same found.1; kept = has }) at

-- ---- reading a line

-- what was read from a slot's place
pub line_read : (v : Placed) (lines : List HeldLine) → IsKept v lines → (slot : ℕ) (x : HeldLine) → slot < length v.keys → x ≡ slice_index_or lines slot x → x ≡ line_at lines slot
line_read v lines kept slot x within read = read ∙ get_or_default lines slot x blank (omega (arith, within, kept.room))

pub mark_read : SetsFollow HeldLine → (v : Placed) (lines : List HeldLine) → IsKept v lines → (b : BlockNo) (set slot : ℕ) (x : HeldLine) → set ≡ b.0 % length v.lists → set < length v.lists → slot < length v.keys → IsAt v set b.0 slot
    → x ≡ slice_index_or lines slot x → x.mark ≡ mark_of (cache_of v lines) b
mark_read laws v lines kept b set slot x home within in_range at read =
    ap (λ (y : HeldLine). y.mark) (line_read v lines kept slot x in_range read) ∙ ap mark_in (sym (held_at laws v lines kept b set slot home within at))

pub content_read : SetsFollow HeldLine → (v : Placed) (lines : List HeldLine) → IsKept v lines → (b : BlockNo) (set slot : ℕ) (x : HeldLine) → set ≡ b.0 % length v.lists → set < length v.lists → slot < length v.keys → IsAt v set b.0 slot
    → x ≡ slice_index_or lines slot x → x.content ≡ content_of (cache_of v lines) b
content_read laws v lines kept b set slot x home within in_range at read =
    ap (λ (y : HeldLine). y.content) (line_read v lines kept slot x in_range read) ∙ ap content_in (sym (held_at laws v lines kept b set slot home within at))
