-- What an access and a placement make of the entries of a monitor.
use Rattle.std.proofs.Common.{◌≡◌, ℕ, ◌/◌, ◌%◌, ◌<◌, Bool, true, false, if◌then◌else◌, List, ◌∷◌, length, Option, Some, None, find, refl, sym, ◌∙◌, ap, arith}
use Rattle.std.specs.Prelude.{slice_set}
use Rattle.pei_types.specs.declared.identifiers.BlockNo.{BlockNo}
use Rattle.pei_types.specs.Blocks.{fold_of}
use Rattle.pei_types.specs.Monitor.{MonitorEntry, has_tag, after_access, after_placement, with_placement}
use Rattle.pei_types.specs.Recency.{change_at, list_at, without, to_front, victim, with_new}
use Rattle.set_lists.specs.Placed.{Placed, IsAt, IsPlaced, key_at, has_key, touched, inserted, without_victim, room_made}
use Rattle.set_lists.specs.Laws.{held, SetsFollow}
use Rattle.locality_monitor.specs.Table.{set_of, tag_of}
use Rattle.locality_monitor.specs.Inside.{entry_at, table_of, IsKept}
use Rattle.locality_monitor.proofs.Looking.{tells_tag, follows_same, entry_found, entry_there, entry_absent, entry_lacked, set_is, tag_is}
use Rattle.locality_monitor.proofs.Keeping.{set_same, set_other}

-- one set of what is held changes, by the block's tag
pub table_changes : SetsFollow MonitorEntry → (v : Placed) (entries : List MonitorEntry) (b : BlockNo) (set tag : ℕ) (sets : List (List MonitorEntry)) (change : ℕ → List MonitorEntry → List MonitorEntry)
    → set ≡ b.0 % length v.lists → tag ≡ fold_of (b.0 / length v.lists) 10 → sets ≡ change_at (held (entry_at entries) v.lists) set (change tag)
    → record (table_of v entries) { sets = sets } ≡ record (table_of v entries) { sets = change_at (held (entry_at entries) v.lists) (set_of (table_of v entries) b) (change (tag_of (table_of v entries) b)) }
table_changes laws v entries b set tag sets change home is changed =
    ap (λ s. record (table_of v entries) { sets = s }) (changed
    ∙ ap (λ n. change_at (held (entry_at entries) v.lists) n (change tag)) (home ∙ sym (set_is laws v entries b))
    ∙ ap (λ t. change_at (held (entry_at entries) v.lists) (set_of (table_of v entries) b) (change t)) (is ∙ sym (tag_is laws v entries b)))

ways_by : (v : Placed) (set : ℕ) (o : Option ℕ) → (without_victim v set o).ways ≡ v.ways
ways_by v set None = refl
ways_by v set (Some slot) = refl

pub ways_made : (set : ℕ) (v : Placed) → (room_made v set).ways ≡ v.ways
ways_made set v = ways_by v set (victim v.ways (list_at v.lists set))

-- a new entry, where a full set drops its last entry first
pub added : SetsFollow MonitorEntry → (v : Placed) (entries : List MonitorEntry) → IsKept v entries → (set tag slot : ℕ) (flag : Bool) → IsPlaced (room_made v set) → key_at (room_made v set).keys slot ≡ None → slot < length v.keys
    → held (entry_at (slice_set entries slot (record { tag = tag; flag = flag }))) (inserted (room_made v set) set slot tag).lists ≡ change_at (held (entry_at entries) v.lists) set (with_new v.ways (record { tag = tag; flag = flag }))
added laws v entries kept set tag slot flag made free within =
    let x : MonitorEntry = record { tag = tag; flag = flag }
    in laws.renewed v kept.placed set tag slot (entry_at entries) (entry_at (slice_set entries slot x)) made free (λ s y here apart. set_other entries slot y x apart)
    ∙ ap (λ y. change_at (held (entry_at entries) v.lists) set (with_new v.ways y)) (set_same entries slot x (omega (arith, within, kept.room)))

-- ---- an access

pub access_hits : SetsFollow MonitorEntry → (v : Placed) (entries : List MonitorEntry) → IsKept v entries → (set tag slot : ℕ) → set < length v.lists → IsAt v set tag slot
    → held (entry_at entries) (touched v set slot).lists ≡ change_at (held (entry_at entries) v.lists) set (after_access v.ways tag)
access_hits laws v entries kept set tag slot within at =
    let xs : List MonitorEntry = list_at (held (entry_at entries) v.lists) set
    in (follows_same laws v entries kept set tag slot within at).moved refl
    ∙ laws.agree (to_front (has_tag tag)) (after_access v.ways tag) (held (entry_at entries) v.lists) set
    (sym (ap (λ t. if t then to_front (has_tag tag) xs else with_new v.ways (record { tag = tag; flag = false }) xs) (entry_there laws v entries kept set tag slot within at)))

pub access_misses : SetsFollow MonitorEntry → (v : Placed) (entries : List MonitorEntry) → IsKept v entries → (set tag : ℕ) (sets : List (List MonitorEntry)) → find (has_key v.keys tag) (list_at v.lists set) ≡ None
    → sets ≡ change_at (held (entry_at entries) v.lists) set (with_new v.ways (record { tag = tag; flag = false })) → sets ≡ change_at (held (entry_at entries) v.lists) set (after_access v.ways tag)
access_misses laws v entries kept set tag sets absent added =
    let xs : List MonitorEntry = list_at (held (entry_at entries) v.lists) set
    in added
    ∙ laws.agree (with_new v.ways (record { tag = tag; flag = false })) (after_access v.ways tag) (held (entry_at entries) v.lists) set
    (sym (ap (λ t. if t then to_front (has_tag tag) xs else with_new v.ways (record { tag = tag; flag = false }) xs) (entry_lacked laws v entries kept set tag absent)))

-- ---- a placement

-- a hit with the flag clear changes nothing
pub placed_clear : SetsFollow MonitorEntry → (v : Placed) (entries : List MonitorEntry) → IsKept v entries → (set tag slot : ℕ) → set < length v.lists → IsAt v set tag slot → (entry_at entries slot).flag ≡ false
    → held (entry_at entries) v.lists ≡ change_at (held (entry_at entries) v.lists) set (after_placement v.ways tag)
placed_clear laws v entries kept set tag slot within at clear =
    let xs : List MonitorEntry = list_at (held (entry_at entries) v.lists) set
    in sym (laws.stays (after_placement v.ways tag) (held (entry_at entries) v.lists) set
    (ap (λ o. with_placement v.ways tag o xs) (entry_found laws v entries kept set tag slot within at)
    ∙ ap (λ f. if f then record { tag = tag; flag = false } ∷ without (has_tag tag) xs else xs) clear))

-- a hit with the flag set clears it
pub placed_set : SetsFollow MonitorEntry → (v : Placed) (entries : List MonitorEntry) → IsKept v entries → (set tag slot : ℕ) (x : MonitorEntry) → set < length v.lists → slot < length v.keys → IsAt v set tag slot → (entry_at entries slot).flag ≡ true
    → x ≡ record { tag = tag; flag = false }
    → held (entry_at (slice_set entries slot x)) (touched v set slot).lists ≡ change_at (held (entry_at entries) v.lists) set (after_placement v.ways tag)
placed_set laws v entries kept set tag slot x within in_range at flag is =
    let xs : List MonitorEntry = list_at (held (entry_at entries) v.lists) set
    in let fresh : entry_at (slice_set entries slot x) slot ≡ record { tag = tag; flag = false } =
    set_same entries slot x (omega (arith, in_range, kept.room)) ∙ is
    in (laws.follows v kept.placed set tag slot (entry_at entries) (entry_at (slice_set entries slot x)) (has_tag tag) within at (tells_tag v entries kept set tag) (λ s y here apart. set_other entries slot y x apart)).renewed
    ∙ ap (λ y. change_at (held (entry_at entries) v.lists) set (λ ys. y ∷ without (has_tag tag) ys)) fresh
    ∙ laws.agree (λ ys. record { tag = tag; flag = false } ∷ without (has_tag tag) ys) (after_placement v.ways tag) (held (entry_at entries) v.lists) set
    (sym (ap (λ o. with_placement v.ways tag o xs) (entry_found laws v entries kept set tag slot within at)
    ∙ ap (λ f. if f then record { tag = tag; flag = false } ∷ without (has_tag tag) xs else xs) flag))

pub placed_new : SetsFollow MonitorEntry → (v : Placed) (entries : List MonitorEntry) → IsKept v entries → (set tag : ℕ) (sets : List (List MonitorEntry)) → find (has_key v.keys tag) (list_at v.lists set) ≡ None
    → sets ≡ change_at (held (entry_at entries) v.lists) set (with_new v.ways (record { tag = tag; flag = true })) → sets ≡ change_at (held (entry_at entries) v.lists) set (after_placement v.ways tag)
placed_new laws v entries kept set tag sets absent added =
    let xs : List MonitorEntry = list_at (held (entry_at entries) v.lists) set
    in added
    ∙ laws.agree (with_new v.ways (record { tag = tag; flag = true })) (after_placement v.ways tag) (held (entry_at entries) v.lists) set
    (sym (ap (λ o. with_placement v.ways tag o xs) (entry_absent laws v entries kept set tag absent)))
