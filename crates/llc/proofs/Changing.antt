-- What the calls make of the lines of a cache.
use Rattle.std.proofs.Common.{◌≡◌, ℕ, ◌%◌, ◌<◌, if◌then◌else◌, List, ◌∷◌, length, map, Option, Some, None, refl, sym, ◌∙◌, ap, arith}
use Rattle.std.specs.Prelude.{slice_set}
use Rattle.pei_types.specs.declared.identifiers.Block.{Block}
use Rattle.pei_types.specs.declared.identifiers.BlockNo.{BlockNo}
use Rattle.pei_types.specs.declared.operations.Mark.TheVariants as mark
use Rattle.pei_types.specs.Recency.{change_at, without, to_front}
use Rattle.set_lists.specs.Placed.{Placed, IsAt, key_at, touched, inserted, removed}
use Rattle.set_lists.specs.Laws.{held, FollowsKey, SetsFollow}
use Rattle.pei_types.specs.declared.lines.HeldLine.{HeldLine}
use Rattle.llc.specs.Cache.{is_held_of, with_set, with_touch, with_line, with_dirty, with_clean, without_line}
use Rattle.llc.specs.Inside.{line_at, cache_of, IsKept}
use Rattle.llc.proofs.Looking.{set_is, tells_block}
use Rattle.llc.proofs.Keeping.{set_same, set_other}

-- one set of what is held changes
held_changes : SetsFollow HeldLine → (v : Placed) (lines : List HeldLine) (b : BlockNo) (set : ℕ) (sets : List (List HeldLine)) (slots : List (Option ℕ)) (change : List HeldLine → List HeldLine) → set ≡ b.0 % length v.lists
    → sets ≡ change_at (held (line_at lines) v.lists) set change → record { ways = v.ways; sets = sets; slots = slots } ≡ record (with_set (cache_of v lines) b change) { slots = slots }
held_changes laws v lines b set sets slots change home is =
    ap (λ s. record { ways = v.ways; sets = s; slots = slots }) (is ∙ ap (λ n. change_at (held (line_at lines) v.lists) n change) (home ∙ sym (set_is laws v lines b)))

-- what follows where the line in a block's slot is set
follows_set : SetsFollow HeldLine → (v : Placed) (lines : List HeldLine) → IsKept v lines → (b : BlockNo) (set slot : ℕ) (x : HeldLine) → set < length v.lists → IsAt v set b.0 slot
    → FollowsKey v set b.0 slot (line_at lines) (line_at (slice_set lines slot x)) (is_held_of b)
follows_set laws v lines kept b set slot x within at =
    laws.follows v kept.placed set b.0 slot (line_at lines) (line_at (slice_set lines slot x)) (is_held_of b) within at (tells_block v lines kept b set) (λ s y here apart. set_other lines slot y x apart)

follows_same : SetsFollow HeldLine → (v : Placed) (lines : List HeldLine) → IsKept v lines → (b : BlockNo) (set slot : ℕ) → set < length v.lists → IsAt v set b.0 slot
    → FollowsKey v set b.0 slot (line_at lines) (line_at lines) (is_held_of b)
follows_same laws v lines kept b set slot within at =
    laws.follows v kept.placed set b.0 slot (line_at lines) (line_at lines) (is_held_of b) within at (tells_block v lines kept b set) (λ s y here apart. refl)

pub touch_is : SetsFollow HeldLine → (v : Placed) (lines : List HeldLine) → IsKept v lines → (b : BlockNo) (set slot : ℕ) → set ≡ b.0 % length v.lists → set < length v.lists → IsAt v set b.0 slot
    → cache_of (touched v set slot) lines ≡ with_touch (cache_of v lines) b
touch_is laws v lines kept b set slot home within at =
    held_changes laws v lines b set (held (line_at lines) (touched v set slot).lists) v.keys (to_front (is_held_of b)) home ((follows_same laws v lines kept b set slot within at).moved refl)

-- the line in a block's slot changes where it stands
changed_is : SetsFollow HeldLine → (v : Placed) (lines : List HeldLine) → IsKept v lines → (b : BlockNo) (set slot : ℕ) (x : HeldLine) (change : HeldLine → HeldLine) → set ≡ b.0 % length v.lists → set < length v.lists → slot < length v.keys → IsAt v set b.0 slot
    → x ≡ change (line_at lines slot) → cache_of v (slice_set lines slot x) ≡ with_set (cache_of v lines) b (map (λ y. if is_held_of b y then change y else y))
changed_is laws v lines kept b set slot x change home within in_range at is =
    held_changes laws v lines b set (held (line_at (slice_set lines slot x)) v.lists) v.keys (map (λ y. if is_held_of b y then change y else y)) home
    ((follows_set laws v lines kept b set slot x within at).changed change (set_same lines slot x (omega (arith, in_range, kept.room)) ∙ is))

pub dirty_is : SetsFollow HeldLine → (v : Placed) (lines : List HeldLine) → IsKept v lines → (b : BlockNo) (set slot : ℕ) (content : Block) (x : HeldLine) → set ≡ b.0 % length v.lists → set < length v.lists → slot < length v.keys → IsAt v set b.0 slot
    → x ≡ record { block = (line_at lines slot).block; mark = mark.Dirty; content = content } → cache_of v (slice_set lines slot x) ≡ with_dirty (cache_of v lines) b content
dirty_is laws v lines kept b set slot content x home within in_range at is =
    changed_is laws v lines kept b set slot x (λ y. record { block = y.block; mark = mark.Dirty; content = content }) home within in_range at is

pub clean_is : SetsFollow HeldLine → (v : Placed) (lines : List HeldLine) → IsKept v lines → (b : BlockNo) (set slot : ℕ) (x : HeldLine) → set ≡ b.0 % length v.lists → set < length v.lists → slot < length v.keys → IsAt v set b.0 slot
    → x ≡ record { block = (line_at lines slot).block; mark = mark.Clean; content = (line_at lines slot).content } → cache_of v (slice_set lines slot x) ≡ with_clean (cache_of v lines) b
clean_is laws v lines kept b set slot x home within in_range at is =
    changed_is laws v lines kept b set slot x (λ y. record { block = y.block; mark = mark.Clean; content = y.content }) home within in_range at is

pub out_is : SetsFollow HeldLine → (v : Placed) (lines : List HeldLine) → IsKept v lines → (b : BlockNo) (set slot : ℕ) → set ≡ b.0 % length v.lists → set < length v.lists → IsAt v set b.0 slot
    → cache_of (removed v set slot) lines ≡ record (without_line (cache_of v lines) b) { slots = slice_set v.keys slot None }
out_is laws v lines kept b set slot home within at =
    held_changes laws v lines b set (held (line_at lines) (removed v set slot).lists) (slice_set v.keys slot None) (without (is_held_of b)) home (follows_same laws v lines kept b set slot within at).taken

pub put_is : SetsFollow HeldLine → (v : Placed) (lines : List HeldLine) → IsKept v lines → (b : BlockNo) (set slot : ℕ) (content : Block) → set ≡ b.0 % length v.lists → slot < length v.keys → key_at v.keys slot ≡ None
    → cache_of (inserted v set slot b.0) (slice_set lines slot (record { block = b; mark = mark.Clean; content = content }))
    ≡ record (with_line (cache_of v lines) b content) { slots = slice_set v.keys slot (Some b.0) }
put_is laws v lines kept b set slot content home in_range free =
    let x : HeldLine = record { block = b; mark = mark.Clean; content = content }
    in held_changes laws v lines b set (held (line_at (slice_set lines slot x)) (inserted v set slot b.0).lists) (slice_set v.keys slot (Some b.0)) (λ ys. x ∷ ys) home
    (laws.put v kept.placed set b.0 slot (line_at lines) (line_at (slice_set lines slot x)) free (λ s y here apart. set_other lines slot y x apart)
    ∙ ap (λ y. change_at (held (line_at lines) v.lists) set (λ ys. y ∷ ys)) (set_same lines slot x (omega (arith, in_range, kept.room))))
