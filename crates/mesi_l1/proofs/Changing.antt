-- What the calls make of the lines of a cache.
use Rattle.std.proofs.Common.{◌≡◌, ℕ, ◌%◌, ◌<◌, Bool, if◌then◌else◌, List, [], ◌∷◌, length, map, find, Option, Some, None, refl, sym, ◌∙◌, ap, inl, inr, arith}
use Rattle.std.specs.Prelude.{slice_set}
use Rattle.pei_types.specs.declared.identifiers.Block.{Block}
use Rattle.pei_types.specs.declared.identifiers.BlockNo.{BlockNo}
use Rattle.pei_types.specs.declared.operations.Letter.{Letter}
use Rattle.pei_types.specs.declared.operations.Letter.TheVariants as letter
use Rattle.pei_types.specs.Recency.{change_at, list_at, without, to_front}
use Rattle.set_lists.specs.Placed.{Placed, IsAt, key_at, has_key, touched, inserted, removed}
use Rattle.set_lists.specs.Laws.{held, FollowsKey, SetsFollow}
use Rattle.pei_types.specs.declared.lines.CopyLine.{CopyLine}
use Rattle.mesi_l1.specs.Cache.{is_copy_of, with_set, with_touch, with_front, with_shared, without_copy}
use Rattle.mesi_l1.specs.Inside.{line_at, cache_of, IsKept}
use Rattle.mesi_l1.proofs.Looking.{set_is, tells_block}
use Rattle.mesi_l1.proofs.Keeping.{set_same, set_other}
use Rattle.std.proofs.lemmas.Bool.{cases_Bool}

-- one set of what is held changes
held_changes : SetsFollow CopyLine → (v : Placed) (lines : List CopyLine) (b : BlockNo) (set : ℕ) (sets : List (List CopyLine)) (slots : List (Option ℕ)) (change : List CopyLine → List CopyLine) → set ≡ b.0 % length v.lists
    → sets ≡ change_at (held (line_at lines) v.lists) set change → record { ways = v.ways; sets = sets; slots = slots } ≡ record (with_set (cache_of v lines) b change) { slots = slots }
held_changes laws v lines b set sets slots change home is =
    ap (λ s. record { ways = v.ways; sets = s; slots = slots }) (is ∙ ap (λ n. change_at (held (line_at lines) v.lists) n change) (home ∙ sym (set_is laws v lines b)))

-- what follows where the line in a block's slot is set
follows_set : SetsFollow CopyLine → (v : Placed) (lines : List CopyLine) → IsKept v lines → (b : BlockNo) (set slot : ℕ) (x : CopyLine) → set < length v.lists → IsAt v set b.0 slot
    → FollowsKey v set b.0 slot (line_at lines) (line_at (slice_set lines slot x)) (is_copy_of b)
follows_set laws v lines kept b set slot x within at =
    laws.follows v kept.placed set b.0 slot (line_at lines) (line_at (slice_set lines slot x)) (is_copy_of b) within at (tells_block v lines kept b set) (λ s y here apart. set_other lines slot y x apart)

follows_same : SetsFollow CopyLine → (v : Placed) (lines : List CopyLine) → IsKept v lines → (b : BlockNo) (set slot : ℕ) → set < length v.lists → IsAt v set b.0 slot
    → FollowsKey v set b.0 slot (line_at lines) (line_at lines) (is_copy_of b)
follows_same laws v lines kept b set slot within at =
    laws.follows v kept.placed set b.0 slot (line_at lines) (line_at lines) (is_copy_of b) within at (tells_block v lines kept b set) (λ s y here apart. refl)

pub touch_is : SetsFollow CopyLine → (v : Placed) (lines : List CopyLine) → IsKept v lines → (b : BlockNo) (set slot : ℕ) → set ≡ b.0 % length v.lists → set < length v.lists → IsAt v set b.0 slot
    → cache_of (touched v set slot) lines ≡ with_touch (cache_of v lines) b
touch_is laws v lines kept b set slot home within at =
    held_changes laws v lines b set (held (line_at lines) (touched v set slot).lists) v.keys (to_front (is_copy_of b)) home ((follows_same laws v lines kept b set slot within at).moved refl)

pub front_is : SetsFollow CopyLine → (v : Placed) (lines : List CopyLine) → IsKept v lines → (b : BlockNo) (set slot : ℕ) (l : Letter) (content : Block) (x : CopyLine) → set ≡ b.0 % length v.lists → set < length v.lists → slot < length v.keys → IsAt v set b.0 slot
    → x ≡ record { block = b; letter = l; content = content } → cache_of (touched v set slot) (slice_set lines slot x) ≡ with_front (cache_of v lines) b l content
front_is laws v lines kept b set slot l content x home within in_range at is =
    held_changes laws v lines b set (held (line_at (slice_set lines slot x)) (touched v set slot).lists) v.keys (λ ys. record { block = b; letter = l; content = content } ∷ without (is_copy_of b) ys) home
    ((follows_set laws v lines kept b set slot x within at).renewed
    ∙ ap (λ y. change_at (held (line_at lines) v.lists) set (λ ys. y ∷ without (is_copy_of b) ys)) (set_same lines slot x (omega (arith, in_range, kept.room)) ∙ is))

pub shared_is : SetsFollow CopyLine → (v : Placed) (lines : List CopyLine) → IsKept v lines → (b : BlockNo) (set slot : ℕ) (x : CopyLine) → set ≡ b.0 % length v.lists → set < length v.lists → slot < length v.keys → IsAt v set b.0 slot
    → x ≡ record { block = (line_at lines slot).block; letter = letter.S; content = (line_at lines slot).content } → cache_of v (slice_set lines slot x) ≡ with_shared (cache_of v lines) b
shared_is laws v lines kept b set slot x home within in_range at is =
    held_changes laws v lines b set (held (line_at (slice_set lines slot x)) v.lists) v.keys (map (λ y. if is_copy_of b y then record { block = y.block; letter = letter.S; content = y.content } else y)) home
    ((follows_set laws v lines kept b set slot x within at).changed (λ y. record { block = y.block; letter = letter.S; content = y.content }) (set_same lines slot x (omega (arith, in_range, kept.room)) ∙ is))

pub out_is : SetsFollow CopyLine → (v : Placed) (lines : List CopyLine) → IsKept v lines → (b : BlockNo) (set slot : ℕ) → set ≡ b.0 % length v.lists → set < length v.lists → IsAt v set b.0 slot
    → cache_of (removed v set slot) lines ≡ record (without_copy (cache_of v lines) b) { slots = slice_set v.keys slot None }
out_is laws v lines kept b set slot home within at =
    held_changes laws v lines b set (held (line_at lines) (removed v set slot).lists) (slice_set v.keys slot None) (without (is_copy_of b)) home (follows_same laws v lines kept b set slot within at).taken

-- ---- a new line

lacked : {A : Type 0} (test : A → Bool) (xs : List A) → find test xs ≡ None → without test xs ≡ xs
lacked test [] absent = refl
lacked test (x ∷ xs) absent = elim (cases_Bool (test x)) [
  | inl passes ↦ let e : Some x ≡ None = rw passes at absent in cc e
  | inr fails ↦ rw fails (ap (λ l. x ∷ l) (lacked test xs (rw fails at absent)))
]

pub put_is : SetsFollow CopyLine → (v : Placed) (lines : List CopyLine) → IsKept v lines → (b : BlockNo) (set slot : ℕ) (l : Letter) (content : Block) → set ≡ b.0 % length v.lists → slot < length v.keys
    → find (has_key v.keys b.0) (list_at v.lists set) ≡ None → key_at v.keys slot ≡ None
    → cache_of (inserted v set slot b.0) (slice_set lines slot (record { block = b; letter = l; content = content }))
    ≡ record (with_front (cache_of v lines) b l content) { slots = slice_set v.keys slot (Some b.0) }
put_is laws v lines kept b set slot l content home in_range absent free =
    let x : CopyLine = record { block = b; letter = l; content = content }
    in let none : find (is_copy_of b) (list_at (held (line_at lines) v.lists) set) ≡ None =
    ap (find (is_copy_of b)) (laws.at_set (line_at lines) v.lists set) ∙ laws.absent v set b.0 (line_at lines) (is_copy_of b) (tells_block v lines kept b set) absent
    in held_changes laws v lines b set (held (line_at (slice_set lines slot x)) (inserted v set slot b.0).lists) (slice_set v.keys slot (Some b.0)) (λ ys. x ∷ without (is_copy_of b) ys) home
    (laws.put v kept.placed set b.0 slot (line_at lines) (line_at (slice_set lines slot x)) free (λ s y here apart. set_other lines slot y x apart)
    ∙ ap (λ y. change_at (held (line_at lines) v.lists) set (λ ys. y ∷ ys)) (set_same lines slot x (omega (arith, in_range, kept.room)))
    ∙ laws.agree (λ ys. x ∷ ys) (λ ys. x ∷ without (is_copy_of b) ys) (held (line_at lines) v.lists) set (ap (λ ys. x ∷ ys) (sym (lacked (is_copy_of b) (list_at (held (line_at lines) v.lists) set) none))))
