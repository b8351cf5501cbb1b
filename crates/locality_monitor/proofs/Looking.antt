-- Look-ups of tags in the entries of a monitor.
use Rattle.std.proofs.Common.{◌≡◌, ℕ, ◌/◌, ◌%◌, ◌<◌, Bool, true, false, if◌then◌else◌, List, length, Some, None, find, refl, sym, ◌∙◌, ap, arith}
use Rattle.std.specs.Prelude.{slice_index_or}
use Rattle.std.specs.List.{list_any}
use Rattle.std.proofs.lemmas.List.{get_or_default}
use Rattle.pei_types.specs.declared.identifiers.BlockNo.{BlockNo}
use Rattle.pei_types.specs.declared.operations.Place.TheVariants as place
use Rattle.pei_types.specs.Blocks.{fold_of}
use Rattle.pei_types.specs.Monitor.{MonitorEntry, has_tag, place_by}
use Rattle.pei_types.specs.Recency.{list_at}
use Rattle.set_lists.specs.Placed.{Placed, IsAt, is_key, has_key}
use Rattle.set_lists.specs.Laws.{held, Tells, FollowsKey, SetsFollow}
use Rattle.locality_monitor.specs.Table.{set_of, tag_of, entry_of, place_of}
use Rattle.locality_monitor.specs.Inside.{blank, entry_at, table_of, IsKept}

pub tells_tag : (v : Placed) (entries : List MonitorEntry) → IsKept v entries → (set tag : ℕ) → Tells v set tag (entry_at entries) (has_tag tag)
tells_tag v entries kept set tag slot here = sym (ap (is_key tag) (kept.each set slot here))

pub follows_same : SetsFollow MonitorEntry → (v : Placed) (entries : List MonitorEntry) → IsKept v entries → (set tag slot : ℕ) → set < length v.lists → IsAt v set tag slot → FollowsKey v set tag slot (entry_at entries) (entry_at entries) (has_tag tag)
follows_same laws v entries kept set tag slot within at =
    laws.follows v kept.placed set tag slot (entry_at entries) (entry_at entries) (has_tag tag) within at (tells_tag v entries kept set tag) (λ s x here apart. refl)

pub entry_found : SetsFollow MonitorEntry → (v : Placed) (entries : List MonitorEntry) → IsKept v entries → (set tag slot : ℕ) → set < length v.lists → IsAt v set tag slot → find (has_tag tag) (list_at (held (entry_at entries) v.lists) set) ≡ Some (entry_at entries slot)
entry_found laws v entries kept set tag slot within at =
    ap (find (has_tag tag)) (laws.at_set (entry_at entries) v.lists set) ∙ (follows_same laws v entries kept set tag slot within at).found

pub entry_there : SetsFollow MonitorEntry → (v : Placed) (entries : List MonitorEntry) → IsKept v entries → (set tag slot : ℕ) → set < length v.lists → IsAt v set tag slot → list_any (has_tag tag) (list_at (held (entry_at entries) v.lists) set) ≡ true
entry_there laws v entries kept set tag slot within at =
    ap (list_any (has_tag tag)) (laws.at_set (entry_at entries) v.lists set) ∙ (follows_same laws v entries kept set tag slot within at).there

pub entry_absent : SetsFollow MonitorEntry → (v : Placed) (entries : List MonitorEntry) → IsKept v entries → (set tag : ℕ) → find (has_key v.keys tag) (list_at v.lists set) ≡ None → find (has_tag tag) (list_at (held (entry_at entries) v.lists) set) ≡ None
entry_absent laws v entries kept set tag absent =
    ap (find (has_tag tag)) (laws.at_set (entry_at entries) v.lists set) ∙ laws.absent v set tag (entry_at entries) (has_tag tag) (tells_tag v entries kept set tag) absent

pub entry_lacked : SetsFollow MonitorEntry → (v : Placed) (entries : List MonitorEntry) → IsKept v entries → (set tag : ℕ) → find (has_key v.keys tag) (list_at v.lists set) ≡ None → list_any (has_tag tag) (list_at (held (entry_at entries) v.lists) set) ≡ false
entry_lacked laws v entries kept set tag absent =
    ap (list_any (has_tag tag)) (laws.at_set (entry_at entries) v.lists set) ∙ laws.lacks v set tag (entry_at entries) (has_tag tag) (tells_tag v entries kept set tag) absent

-- the tag of the entry in a tag's slot
pub tag_at : (v : Placed) (entries : List MonitorEntry) → IsKept v entries → (set tag slot : ℕ) → IsAt v set tag slot → (entry_at entries slot).tag ≡ tag
tag_at v entries kept set tag slot at = let e : Some (entry_at entries slot).tag ≡ Some tag = sym (kept.each set slot at.listed) ∙ at.kept in cc e

-- ---- a block's set and tag

pub set_is : SetsFollow MonitorEntry → (v : Placed) (entries : List MonitorEntry) (b : BlockNo) → set_of (table_of v entries) b ≡ b.0 % length v.lists
set_is laws v entries b = ap (λ n. b.0 % n) (laws.count (entry_at entries) v.lists)

pub tag_is : SetsFollow MonitorEntry → (v : Placed) (entries : List MonitorEntry) (b : BlockNo) → tag_of (table_of v entries) b ≡ fold_of (b.0 / length v.lists) 10
tag_is laws v entries b = ap (λ n. fold_of (b.0 / n) 10) (laws.count (entry_at entries) v.lists)

pub entry_is : SetsFollow MonitorEntry → (v : Placed) (entries : List MonitorEntry) (b : BlockNo) (set tag : ℕ) → set ≡ b.0 % length v.lists → tag ≡ fold_of (b.0 / length v.lists) 10 → entry_of (table_of v entries) b ≡ find (has_tag tag) (list_at (held (entry_at entries) v.lists) set)
entry_is laws v entries b set tag home is =
    ap (λ t. find (has_tag t) (list_at (held (entry_at entries) v.lists) (set_of (table_of v entries) b))) (tag_is laws v entries b ∙ sym is)
    ∙ ap (λ s. find (has_tag tag) (list_at (held (entry_at entries) v.lists) s)) (set_is laws v entries b ∙ sym home)

-- where a PEI is placed
pub place_at : SetsFollow MonitorEntry → (v : Placed) (entries : List MonitorEntry) → IsKept v entries → (b : BlockNo) (set tag slot : ℕ) (flag : Bool) → set ≡ b.0 % length v.lists → tag ≡ fold_of (b.0 / length v.lists) 10 → set < length v.lists → IsAt v set tag slot → (entry_at entries slot).flag ≡ flag
    → place_of (table_of v entries) b ≡ (if flag then place.Memory else place.Host)
place_at laws v entries kept b set tag slot flag home is within at has =
    ap place_by (entry_is laws v entries b set tag home is ∙ entry_found laws v entries kept set tag slot within at) ∙ ap (λ f. if f then place.Memory else place.Host) has

pub place_absent : SetsFollow MonitorEntry → (v : Placed) (entries : List MonitorEntry) → IsKept v entries → (b : BlockNo) (set tag : ℕ) → set ≡ b.0 % length v.lists → tag ≡ fold_of (b.0 / length v.lists) 10 → find (has_key v.keys tag) (list_at v.lists set) ≡ None
    → place_of (table_of v entries) b ≡ place.Memory
place_absent laws v entries kept b set tag home is absent =
    ap place_by (entry_is laws v entries b set tag home is ∙ entry_absent laws v entries kept set tag absent)

-- ---- reading an entry

pub entry_read : (v : Placed) (entries : List MonitorEntry) → IsKept v entries → (slot : ℕ) (x : MonitorEntry) → slot < length v.keys → x ≡ slice_index_or entries slot x → x ≡ entry_at entries slot
entry_read v entries kept slot x within read = read ∙ get_or_default entries slot x blank (omega (arith, within, kept.room))

-- the flag of the entry that was read from a slot's place
pub flag_read : (v : Placed) (entries : List MonitorEntry) → IsKept v entries → (slot : ℕ) (x y : MonitorEntry) → slot < length v.keys → x ≡ slice_index_or entries slot x → y ≡ x → (entry_at entries slot).flag ≡ y.flag
flag_read v entries kept slot x y within read is = ap (λ (e : MonitorEntry). e.flag) (sym (entry_read v entries kept slot x within read) ∙ sym is)
