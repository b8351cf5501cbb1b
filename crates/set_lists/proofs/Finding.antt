-- What a walk over the slots of a set finds.
use Rattle.std.proofs.Common.{◌≡◌, ◌≢◌, ℕ, ◌+◌, ◌*◌, ◌<◌, ◌≤◌, ◌==◌, Bool, true, false, not, true≢false, List, [], ◌∷◌, length, Option, Some, None, find, refl, sym, ◌∙◌, ap, inl, inr, arith}
use Rattle.std.specs.Prelude.{IfSome, IfNone, is_some, is_none}
use Rattle.std.proofs.lemmas.Bool.{eq-eqb, ne_eqb, cases_Bool}
use Rattle.std.proofs.lemmas.Bool.Decides.{eqb_tells}
use Rattle.pei_types.specs.Recency.{list_at}
use Rattle.link_list.specs.Linked.{has_node}
use Rattle.set_lists.specs.Placed.{Placed, IsAt, IsListed, IsOfSet, IsPlaced, key_at, is_key, has_key}
use Rattle.set_lists.proofs.Members.{later_is}
use Rattle.set_lists.proofs.Slots.{row_end, fills, fits_less, same_set}
use Rattle.pei_types.proofs.Tests.{not_both}
use Rattle.pei_types.proofs.Members.{first_is_member}

-- the key that a slot has
pub key_of : (key : ℕ) (o : Option ℕ) → is_key key o ≡ true → o ≡ Some key
key_of key None h = absurd (true≢false (sym h))
key_of key (Some other) h = elim (eqb_tells other key) [
  | inl same ↦ ap Some same.1
  | inr apart ↦ absurd (true≢false (sym h ∙ apart.0))
]

pub is_the_key : (key : ℕ) (o : Option ℕ) → o ≡ Some key → is_key key o ≡ true
is_the_key key o h = ap (is_key key) h ∙ eq-eqb key key refl

pub is_no_key : (key : ℕ) (o : Option ℕ) → o ≢ Some key → is_key key o ≡ false
is_no_key key o h = elim (cases_Bool (is_key key o)) [
  | inl passes ↦ absurd (h (key_of key o passes))
  | inr fails ↦ fails
]

none_or_some : (slot : ℕ) → None ≡ Some slot → ⊥
none_or_some slot h = cc h

pub find_none : (p : ℕ → Bool) (xs : List ℕ) → ((slot : ℕ) → has_node xs slot ≡ true → p slot ≡ false) → find p xs ≡ None
find_none p [] none = refl
find_none p (x ∷ xs) none = rw (none x (first_is_member x xs)) (find_none p xs (λ slot here. none slot (later_is slot x xs here)))

find_some : (p : ℕ → Bool) (slot : ℕ) (xs : List ℕ) → has_node xs slot ≡ true → p slot ≡ true → ((other : ℕ) → has_node xs other ≡ true → p other ≡ true → other ≡ slot) → find p xs ≡ Some slot
find_some p slot [] here passes alone = absurd (true≢false (sym here))
find_some p slot (x ∷ xs) here passes alone = elim (cases_Bool (p x)) [
  | inl at_x ↦ rw at_x (ap Some (alone x (first_is_member x xs) at_x))
  | inr not_x ↦ elim (eqb_tells slot x) [
    | inl same ↦ absurd (not_both (p x) (ap p (sym same.1) ∙ passes) not_x)
    | inr other ↦ rw not_x (find_some p slot xs (rw other.0 at here) passes (λ y there. alone y (later_is y x xs there)))
  ]
]

pub find_passes : (p : ℕ → Bool) (xs : List ℕ) → find p xs ≡ None → (slot : ℕ) → has_node xs slot ≡ true → p slot ≡ false
find_passes p [] none slot here = absurd (true≢false (sym here))
find_passes p (x ∷ xs) none slot here = elim (cases_Bool (p x)) [
  | inl at_x ↦ let e : Some x ≡ None = rw at_x at none in cc e
  | inr not_x ↦ elim (eqb_tells slot x) [
    | inl same ↦ ap p same.1 ∙ not_x
    | inr other ↦ find_passes p xs (rw not_x at none) slot (rw other.0 at here)
  ]
]

find_is_in : (p : ℕ → Bool) (xs : List ℕ) (slot : ℕ) → find p xs ≡ Some slot → (has_node xs slot ≡ true) × (p slot ≡ true)
find_is_in p [] slot h = absurd (none_or_some slot h)
find_is_in p (x ∷ xs) slot h = elim (cases_Bool (p x)) [
  | inl at_x ↦ let same : Some x ≡ Some slot = rw at_x at h in let e : x ≡ slot = cc same in (ap (λ z. has_node (x ∷ xs) z) (sym e) ∙ first_is_member x xs, ap p (sym e) ∙ at_x)
  | inr not_x ↦ let rest = find_is_in p xs slot (rw not_x at h) in (later_is slot x xs rest.0, rest.1)
]

pub known : (v : Placed) (set key slot : ℕ) → find (has_key v.keys key) (list_at v.lists set) ≡ Some slot → IsAt v set key slot
known v set key slot h =
    let found = find_is_in (has_key v.keys key) (list_at v.lists set) slot h
    in record { listed = found.0; kept = key_of key (key_at v.keys slot) found.1 }

-- a slot of a set's row that has a key is in the set's list
pub listed_here : (v : Placed) → IsPlaced v → (set slot key : ℕ) → IsOfSet v.ways set slot → key_at v.keys slot ≡ Some key → IsListed v set slot
listed_here v placed set slot key own kept =
    let found = placed.listed slot key kept
    in ap (λ s. has_node (list_at v.lists s) slot) (same_set v.ways set found.0 slot own (placed.own found.0 slot found.1)) ∙ found.1

pub found_at : (v : Placed) → IsPlaced v → (set key slot : ℕ) → IsAt v set key slot → Some slot ≡ find (has_key v.keys key) (list_at v.lists set)
found_at v placed set key slot at =
    sym (find_some (has_key v.keys key) slot (list_at v.lists set) at.listed (is_the_key key (key_at v.keys slot) at.kept)
    (λ other here passes. placed.once set key other slot (record { listed = here; kept = key_of key (key_at v.keys other) passes }) at))

pub found_none : (v : Placed) → IsPlaced v → (set key : ℕ) → ((slot : ℕ) → set * v.ways ≤ slot → slot < set * v.ways + v.ways → key_at v.keys slot ≢ Some key) → None ≡ find (has_key v.keys key) (list_at v.lists set)
found_none v placed set key none =
    sym (find_none (has_key v.keys key) (list_at v.lists set) (λ slot here.
    is_no_key key (key_at v.keys slot) (none slot (placed.own set slot here).first (placed.own set slot here).last)))

some_key : (o : Option ℕ) → o ≢ None → (key : ℕ) × (o ≡ Some key)
some_key None h = absurd (h refl)
some_key (Some key) h = (key, refl)

-- a set's slots are in range
pub in_range : (v : Placed) → IsPlaced v → (set slot : ℕ) → set < length v.lists → IsOfSet v.ways set slot → slot < length v.keys
in_range v placed set slot here own = omega (arith, own.first, own.last, placed.slots, row_end set (length v.lists) v.ways here)

-- a set without a free slot is full
pub full : (v : Placed) → IsPlaced v → (set : ℕ) → ((slot : ℕ) → set * v.ways ≤ slot → slot < set * v.ways + v.ways → key_at v.keys slot ≢ None) → length (list_at v.lists set) ≡ v.ways
full v placed set taken =
    let many = fills v.ways (set * v.ways) (list_at v.lists set) (λ slot from to.
    let some = some_key (key_at v.keys slot) (taken slot from to)
    in listed_here v placed set slot some.0 (record { first = from; last = to }) some.1)
    in omega (arith, many, placed.within set)

pub not_listed : (v : Placed) → IsPlaced v → (set slot : ℕ) → key_at v.keys slot ≡ None → has_node (list_at v.lists set) slot ≡ false
not_listed v placed set slot free = elim (cases_Bool (has_node (list_at v.lists set) slot)) [
  | inl here ↦ let found = placed.keyed set slot here in let e : None ≡ Some found.0 = sym free ∙ found.1 in cc e
  | inr absent ↦ absent
]

pub not_full : (v : Placed) → IsPlaced v → (set slot : ℕ) → set * v.ways ≤ slot → slot < set * v.ways + v.ways → key_at v.keys slot ≡ None → length (list_at v.lists set) < v.ways
not_full v placed set slot from to free =
    fits_less v.ways (set * v.ways) slot (list_at v.lists set) (placed.distinct set) (λ x here. ((placed.own set x here).first, (placed.own set x here).last)) from to (not_listed v placed set slot free)

-- ---- what a scan of a set's row cases_Bool

pub find_is : (v : Placed) → IsPlaced v → (set key : ℕ) (r : Option ℕ)
    → IfSome r (λ slot. (set * v.ways ≤ slot) × (slot < set * v.ways + v.ways) × (key_at v.keys slot ≡ Some key))
    → IfNone r ((slot : ℕ) → set * v.ways ≤ slot → slot < set * v.ways + v.ways → key_at v.keys slot ≢ Some key)
    → (r ≡ find (has_key v.keys key) (list_at v.lists set)) × IfSome r (λ slot. IsAt v set key slot)
find_is v placed set key None some none = (found_none v placed set key none, tt)
find_is v placed set key (Some slot) some none =
    let at : IsAt v set key slot = record { listed = listed_here v placed set slot key (record { first = some.0; last = some.1 }) some.2; kept = some.2 }
    in (found_at v placed set key slot at, at)

is_none_of : (r : Option ℕ) (n : Bool) → is_some r ≡ not n → is_none r ≡ n
is_none_of None true h = refl
is_none_of None false h = absurd (true≢false (sym h))
is_none_of (Some x) true h = absurd (true≢false h)
is_none_of (Some x) false h = refl

pub full_is : (v : Placed) → IsPlaced v → (set : ℕ) (r : Option ℕ)
    → IfSome r (λ slot. (set * v.ways ≤ slot) × (slot < set * v.ways + v.ways) × (key_at v.keys slot ≡ None))
    → IfNone r ((slot : ℕ) → set * v.ways ≤ slot → slot < set * v.ways + v.ways → key_at v.keys slot ≢ None)
    → (n : Bool) → is_some r ≡ not n → n ≡ (length (list_at v.lists set) == v.ways)
full_is v placed set None some none n h = sym (is_none_of None n h) ∙ sym (eq-eqb (length (list_at v.lists set)) v.ways (full v placed set none))
full_is v placed set (Some slot) some none n h =
    sym (is_none_of (Some slot) n h) ∙ sym (ne_eqb (length (list_at v.lists set)) v.ways (λ e. absurd (omega (arith, e, not_full v placed set slot some.0 some.1 some.2))))

-- a key that a set lacks
pub lacks_key : (keys : List (Option ℕ)) (key : ℕ) (xs : List ℕ) → find (has_key keys key) xs ≡ None → (slot : ℕ) → has_node xs slot ≡ true → has_key keys key slot ≡ false
lacks_key keys key xs absent slot here = find_passes (has_key keys key) xs absent slot here
