-- Room is made in a full set by its last slot.
use Rattle.std.proofs.Common.{◌≡◌, ◌≢◌, ℕ, zero, suc, ◌-◌, ◌<◌, true, if◌then◌else◌, List, [], ◌∷◌, length, take, nat_eq, nat_lt, Option, Some, None, find, refl, sym, ◌∙◌, ap, inl, inr, arith}
use Rattle.std.specs.List.{IsDistinct, last_or}
use Rattle.std.proofs.lemmas.List.{get_or-set_other, length-set, length-map, take-map}
use Rattle.std.proofs.lemmas.Bool.{ne_eqb, lt-ltb, le-ltb}
use Rattle.std.proofs.lemmas.Bool.Decides.{eqb_tells}
use Rattle.pei_types.specs.Recency.{change_at, list_at, without, victim, with_new}
use Rattle.link_list.specs.Linked.{has_node}
use Rattle.link_list.specs.Laws.{HeldFollow}
use Rattle.set_lists.specs.Placed.{Placed, IsListed, IsPlaced, key_at, is_key, has_key, inserted, without_victim, room_made}
use Rattle.set_lists.specs.Laws.{held, SameElse}
use Rattle.set_lists.proofs.Slots.{less_without}
use Rattle.set_lists.proofs.Finding.{find_none, find_passes}
use Rattle.set_lists.proofs.Listing.{removing}
use Rattle.set_lists.proofs.Holding.{room_left, unchanged, same_change, list_held, put_held}
use Rattle.pei_types.proofs.Lists.{change_at-change_at, length-change_at}
use Rattle.pei_types.proofs.Members.{last_is_member, distinct-head, distinct-tail}
use Rattle.pei_types.proofs.Tests.{not_both}

no_last : (slot : ℕ) → None ≡ Some slot → ⊥
no_last slot h = cc h

without_last : (xs : List ℕ) (slot : ℕ) → IsDistinct nat_eq xs → last_or None xs ≡ Some slot → without (nat_eq slot) xs ≡ take (length xs - 1) xs
without_last [] slot d h = absurd (no_last slot h)
without_last (x ∷ []) slot d h = elim (eqb_tells slot x) [
  | inl same ↦ rw same.0 refl
  | inr other ↦ let e : x ≡ slot = cc h in absurd (other.1 (sym e))
]
without_last (x ∷ y ∷ ys) slot d h =
    let apart : slot ≢ x = λ e. not_both (has_node (y ∷ ys) x) (ap (λ z. has_node (y ∷ ys) z) (sym e) ∙ last_is_member (y ∷ ys) slot h) (distinct-head x (y ∷ ys) d)
    in let more : length (x ∷ y ∷ ys) - 1 ≡ suc (length (y ∷ ys) - 1) = omega arith
    in rw (ne_eqb slot x apart, more) (ap (λ l. x ∷ l) (without_last (y ∷ ys) slot (distinct-tail x (y ∷ ys) d) h))

-- the victim is the last of a full set
victim_last : (ways : ℕ) (xs : List ℕ) (slot : ℕ) → victim ways xs ≡ Some slot → (length xs ≡ ways) × (last_or None xs ≡ Some slot)
victim_last ways xs slot h = elim (eqb_tells (length xs) ways) [
  | inl full ↦ (full.1, rw full.0 at h)
  | inr other ↦ absurd (no_last slot (rw other.0 at h))
]

victim_in : (ways : ℕ) (xs : List ℕ) (slot : ℕ) → victim ways xs ≡ Some slot → has_node xs slot ≡ true
victim_in ways xs slot h = last_is_member xs slot (victim_last ways xs slot h).1

at_changed : (lists : List (List ℕ)) (i : ℕ) (f : List ℕ → List ℕ) → i < length lists → list_at (change_at lists i f) i ≡ f (list_at lists i)
at_changed [] i f h = absurd (omega arith)
at_changed (x ∷ xs) zero f h = refl
at_changed (x ∷ xs) (suc i) f h = at_changed xs i f (omega arith)

-- ---- by the victim

making_by : (v : Placed) → IsPlaced v → (set : ℕ) (o : Option ℕ) → victim v.ways (list_at v.lists set) ≡ o → (other x : ℕ) → IsListed (without_victim v set o) other x → IsListed v other x × (key_at (without_victim v set o).keys x ≡ key_at v.keys x)
making_by v placed set None is other x here = (here, refl)
making_by v placed set (Some slot) is other x here =
    let was = removing v placed set slot (victim_in v.ways (list_at v.lists set) slot is) other x here
    in (was.0, get_or-set_other v.keys slot x None None was.1)

pub making_room : (v : Placed) → IsPlaced v → (set : ℕ) → (other x : ℕ) → IsListed (room_made v set) other x → IsListed v other x × (key_at (room_made v set).keys x ≡ key_at v.keys x)
making_room v placed set other x here = making_by v placed set (victim v.ways (list_at v.lists set)) refl other x here

keys_by : (v : Placed) (set : ℕ) (o : Option ℕ) → length (without_victim v set o).keys ≡ length v.keys
keys_by v set None = refl
keys_by v set (Some slot) = length-set v.keys slot None

pub keys_room : (v : Placed) (set : ℕ) → length (room_made v set).keys ≡ length v.keys
keys_room v set = keys_by v set (victim v.ways (list_at v.lists set))

count_by : (v : Placed) (set : ℕ) (o : Option ℕ) → length (without_victim v set o).lists ≡ length v.lists
count_by v set None = refl
count_by v set (Some slot) = length-change_at v.lists set (without (nat_eq slot))

pub count_room : (v : Placed) (set : ℕ) → length (room_made v set).lists ≡ length v.lists
count_room v set = count_by v set (victim v.ways (list_at v.lists set))

room_by : (v : Placed) → IsPlaced v → (set : ℕ) → set < length v.lists → (o : Option ℕ) → victim v.ways (list_at v.lists set) ≡ o → length (list_at (without_victim v set o).lists set) < (without_victim v set o).ways
room_by v placed set within None is = room_left v.ways (list_at v.lists set) placed.some_ways (placed.within set) is
room_by v placed set within (Some slot) is =
    let full = victim_last v.ways (list_at v.lists set) slot is
    in omega (arith, ap length (at_changed v.lists set (without (nat_eq slot)) within), less_without slot (list_at v.lists set) (last_is_member (list_at v.lists set) slot full.1), full.0)

pub room_is_made : (v : Placed) → IsPlaced v → (set : ℕ) → set < length v.lists → length (list_at (room_made v set).lists set) < (room_made v set).ways
room_is_made v placed set within = room_by v placed set within (victim v.ways (list_at v.lists set)) refl

pub still_lacks : (v : Placed) → IsPlaced v → (set key : ℕ) → find (has_key v.keys key) (list_at v.lists set) ≡ None → find (has_key (room_made v set).keys key) (list_at (room_made v set).lists set) ≡ None
still_lacks v placed set key absent =
    find_none (has_key (room_made v set).keys key) (list_at (room_made v set).lists set) (λ x here.
    let was = making_room v placed set set x here
    in ap (is_key key) was.1 ∙ find_passes (has_key v.keys key) (list_at v.lists set) absent x was.0)

-- ---- what is held

held_by : {A : Type 0} → HeldFollow A → (v : Placed) → IsPlaced v → (set : ℕ) (hold : ℕ → A) (o : Option ℕ) → victim v.ways (list_at v.lists set) ≡ o
    → held hold (without_victim v set o).lists ≡ change_at (held hold v.lists) set (λ xs. if nat_lt (length xs) v.ways then xs else take (length xs - 1) xs)
held_by laws v placed set hold None is =
    let xs = list_at (held hold v.lists) set
    in let few : length xs < v.ways = rw (list_held hold v.lists set, length-map (list_at v.lists set) hold) (room_left v.ways (list_at v.lists set) placed.some_ways (placed.within set) is)
    in sym (unchanged (held hold v.lists) set)
    ∙ same_change (λ ys. ys) (λ ys. if nat_lt (length ys) v.ways then ys else take (length ys - 1) ys) (held hold v.lists) set (rw (lt-ltb (length xs) v.ways few) refl)
held_by laws v placed set hold (Some slot) is =
    let xs = list_at v.lists set
    in let full = victim_last v.ways xs slot is
    in laws.changed_held hold hold v.lists set (without (nat_eq slot)) (λ ys. if nat_lt (length ys) v.ways then ys else take (length ys - 1) ys) (λ other apart. refl)
    (rw (length-map xs hold, le-ltb (length xs) v.ways (omega (arith, full.0)), without_last xs slot (placed.distinct set) full.1) (sym (take-map hold (length xs - 1) xs)))

pub renewed_held : {A : Type 0} → HeldFollow A → (v : Placed) → IsPlaced v → (set key slot : ℕ) (hold new_hold : ℕ → A) → IsPlaced (room_made v set) → key_at (room_made v set).keys slot ≡ None → SameElse (room_made v set) slot hold new_hold
    → held new_hold (inserted (room_made v set) set slot key).lists ≡ change_at (held hold v.lists) set (with_new v.ways (new_hold slot))
renewed_held laws v placed set key slot hold new_hold made free same =
    put_held laws (room_made v set) made set key slot hold new_hold free same
    ∙ ap (λ l. change_at l set (λ xs. new_hold slot ∷ xs)) (held_by laws v placed set hold (victim v.ways (list_at v.lists set)) refl)
    ∙ change_at-change_at (λ xs. if nat_lt (length xs) v.ways then xs else take (length xs - 1) xs) (λ xs. new_hold slot ∷ xs) (held hold v.lists) set
