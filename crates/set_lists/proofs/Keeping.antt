-- Each call keeps the sets placed.
use Rattle.std.proofs.Common.{◌≡◌, ◌≢◌, ℕ, ◌*◌, ◌<◌, true, false, List, length, nat_eq, Option, Some, None, refl, sym, ◌∙◌, ap, inl, inr}
use Rattle.std.specs.Prelude.{slice_set}
use Rattle.std.specs.List.{IsDistinct}
use Rattle.std.proofs.lemmas.List.{get_or-set_same, get_or-set_other, length-set}
use Rattle.std.proofs.lemmas.Bool.{eq-eqb}
use Rattle.std.proofs.lemmas.Bool.Decides.{eqb_tells}
use Rattle.pei_types.specs.Recency.{list_at}
use Rattle.link_list.specs.Linked.{Linked, IsWellFormed, has_node, list_of}
use Rattle.link_list.specs.Laws.{NodesAreListed}
use Rattle.set_lists.specs.Placed.{Placed, IsAt, IsListed, IsOfSet, IsPlaced, key_at, is_key, has_key}
use Rattle.set_lists.proofs.Slots.{fits}
use Rattle.pei_types.proofs.Tests.{not_both}

-- what a placement is, but for the number of slots in each list
pub placed_by : (v : Placed) → 0 < length v.lists → 0 < v.ways → length v.keys ≡ length v.lists * v.ways
    → ((set slot : ℕ) → IsListed v set slot → IsOfSet v.ways set slot)
    → ((set : ℕ) → IsDistinct nat_eq (list_at v.lists set))
    → ((set other slot : ℕ) → IsListed v set slot → IsListed v other slot → set ≡ other)
    → ((set slot : ℕ) → IsListed v set slot → (key : ℕ) × (key_at v.keys slot ≡ Some key))
    → ((slot key : ℕ) → key_at v.keys slot ≡ Some key → (set : ℕ) × IsListed v set slot)
    → ((set key slot other : ℕ) → IsAt v set key slot → IsAt v set key other → slot ≡ other)
    → IsPlaced v
placed_by v some_sets some_ways slots own distinct apart keyed listed once = record {
  some_sets = some_sets;
  some_ways = some_ways;
  slots = slots;
  own = own;
  distinct = distinct;
  apart = apart;
  keyed = keyed;
  listed = listed;
  once = once;
  within = λ set. fits v.ways (set * v.ways) (list_at v.lists set) (distinct set) (λ slot here. ((own set slot here).first, (own set slot here).last));
}

-- a slot that is in the lists after a call where the list of each slot stays
pub listed_same : NodesAreListed → (o n : Linked) → IsWellFormed n → (slot : ℕ) → list_of n slot ≡ list_of o slot → (set : ℕ) → has_node (list_at n.lists set) slot ≡ true → has_node (list_at o.lists set) slot ≡ true
listed_same laws o n formed slot same set here = (laws.found o slot set (sym same ∙ laws.listed n formed slot set here)).1

-- ---- the most recent slot

pub placed-touched : NodesAreListed → (ways : ℕ) (keys : List (Option ℕ)) (o n : Linked) → IsWellFormed o → IsWellFormed n → length n.lists ≡ length o.lists → ((slot : ℕ) → list_of n slot ≡ list_of o slot)
    → IsPlaced (record { ways = ways; keys = keys; lists = o.lists }) → IsPlaced (record { ways = ways; keys = keys; lists = n.lists })
placed-touched laws ways keys o n old new many same placed =
    let was : (set slot : ℕ) → has_node (list_at n.lists set) slot ≡ true → has_node (list_at o.lists set) slot ≡ true = λ set slot here. listed_same laws o n new slot (same slot) set here
    in placed_by (record { ways = ways; keys = keys; lists = n.lists }) (rw many placed.some_sets) placed.some_ways (rw many placed.slots)
    (λ set slot here. placed.own set slot (was set slot here))
    new.distinct
    new.apart
    (λ set slot here. placed.keyed set slot (was set slot here))
    (λ slot key h. let found = placed.listed slot key h in (found.0, listed_same laws n o old slot (sym (same slot)) found.0 found.1))
    (λ set key slot other here there. placed.once set key slot other
    (record { listed = was set slot here.listed; kept = here.kept }) (record { listed = was set other there.listed; kept = there.kept }))

-- ---- a slot that becomes free

some_none : (keys : List (Option ℕ)) (slot key : ℕ) → slot < length keys → key_at (slice_set keys slot None) slot ≡ Some key → ⊥
some_none keys slot key in_range h = let e : None ≡ Some key = sym (get_or-set_same keys slot None None in_range) ∙ h in cc e

pub placed-removed : NodesAreListed → (ways : ℕ) (keys : List (Option ℕ)) (o n : Linked) (slot : ℕ) → slot < length keys → IsWellFormed o → IsWellFormed n → length n.lists ≡ length o.lists
    → list_of n slot ≡ None → ((other : ℕ) → other ≢ slot → list_of n other ≡ list_of o other)
    → IsPlaced (record { ways = ways; keys = keys; lists = o.lists }) → IsPlaced (record { ways = ways; keys = slice_set keys slot None; lists = n.lists })
placed-removed laws ways keys o n slot in_range old new many free same placed =
    let other : (set x : ℕ) → has_node (list_at n.lists set) x ≡ true → x ≢ slot =
    λ set x here e. let h : None ≡ Some set = sym free ∙ ap (λ z. list_of n z) (sym e) ∙ laws.listed n new x set here in cc h
    in let was : (set x : ℕ) → has_node (list_at n.lists set) x ≡ true → has_node (list_at o.lists set) x ≡ true =
    λ set x here. listed_same laws o n new x (same x (other set x here)) set here
    in let stays : (x : ℕ) → x ≢ slot → key_at (slice_set keys slot None) x ≡ key_at keys x = λ x apart. get_or-set_other keys slot x None None apart
    in placed_by (record { ways = ways; keys = slice_set keys slot None; lists = n.lists }) (rw many placed.some_sets) placed.some_ways (length-set keys slot None ∙ rw many placed.slots)
    (λ set x here. placed.own set x (was set x here))
    new.distinct
    new.apart
    (λ set x here. rw (stays x (other set x here)) (placed.keyed set x (was set x here)))
    (λ x key h. elim (eqb_tells x slot) [
      | inl here ↦ absurd (some_none keys slot key in_range (ap (λ z. key_at (slice_set keys slot None) z) (sym here.1) ∙ h))
      | inr apart ↦ let found = placed.listed x key (sym (stays x apart.1) ∙ h) in (found.0, listed_same laws n o old x (sym (same x apart.1)) found.0 found.1)
    ])
    (λ set key x y here there. placed.once set key x y
    (record { listed = was set x here.listed; kept = sym (stays x (other set x here.listed)) ∙ here.kept })
    (record { listed = was set y there.listed; kept = sym (stays y (other set y there.listed)) ∙ there.kept }))

-- ---- a key that comes into a free slot

pub placed-inserted : NodesAreListed → (ways : ℕ) (keys : List (Option ℕ)) (o n : Linked) (set slot key : ℕ) → slot < length keys → IsWellFormed o → IsWellFormed n → length n.lists ≡ length o.lists
    → list_of n slot ≡ Some set → ((other : ℕ) → other ≢ slot → list_of n other ≡ list_of o other)
    → IsOfSet ways set slot → ((other : ℕ) → has_node (list_at o.lists set) other ≡ true → has_key keys key other ≡ false)
    → IsPlaced (record { ways = ways; keys = keys; lists = o.lists }) → IsPlaced (record { ways = ways; keys = slice_set keys slot (Some key); lists = n.lists })
placed-inserted laws ways keys o n set slot key in_range old new many on same own lacks placed =
    let new_keys : List (Option ℕ) = slice_set keys slot (Some key)
    in let here_now : key_at new_keys slot ≡ Some key = get_or-set_same keys slot (Some key) None in_range
    in let stays : (x : ℕ) → x ≢ slot → key_at new_keys x ≡ key_at keys x = λ x apart. get_or-set_other keys slot x (Some key) None apart
    in let its_set : (s : ℕ) → has_node (list_at n.lists s) slot ≡ true → s ≡ set =
    λ s here. let h : Some s ≡ Some set = sym (laws.listed n new slot s here) ∙ on in cc h
    in let was : (s x : ℕ) → x ≢ slot → has_node (list_at n.lists s) x ≡ true → has_node (list_at o.lists s) x ≡ true =
    λ s x apart here. listed_same laws o n new x (same x apart) s here
    in let not_there : (x : ℕ) → x ≢ slot → has_node (list_at n.lists set) x ≡ true → key_at new_keys x ≡ Some key → ⊥ =
    λ x apart here h. not_both (has_key keys key x) (ap (is_key key) (sym (stays x apart) ∙ h) ∙ eq-eqb key key refl) (lacks x (was set x apart here))
    in placed_by (record { ways = ways; keys = new_keys; lists = n.lists }) (rw many placed.some_sets) placed.some_ways (length-set keys slot (Some key) ∙ rw many placed.slots)
    (λ s x here. elim (eqb_tells x slot) [
      | inl at_slot ↦ rw (at_slot.1, its_set s (ap (λ z. has_node (list_at n.lists s) z) (sym at_slot.1) ∙ here)) own
      | inr apart ↦ placed.own s x (was s x apart.1 here)
    ])
    new.distinct
    new.apart
    (λ s x here. elim (eqb_tells x slot) [
      | inl at_slot ↦ (key, ap (λ z. key_at new_keys z) at_slot.1 ∙ here_now)
      | inr apart ↦ rw (stays x apart.1) (placed.keyed s x (was s x apart.1 here))
    ])
    (λ x k h. elim (eqb_tells x slot) [
      | inl at_slot ↦ (set, ap (λ z. has_node (list_at n.lists set) z) at_slot.1 ∙ (laws.found n slot set on).1)
      | inr apart ↦ let found = placed.listed x k (sym (stays x apart.1) ∙ h) in (found.0, listed_same laws n o old x (sym (same x apart.1)) found.0 found.1)
    ])
    (λ s k x y here there. elim (eqb_tells x slot) [
      | inl x_is ↦ elim (eqb_tells y slot) [
        | inl y_is ↦ x_is.1 ∙ sym y_is.1
        | inr y_not ↦
            let the_set : s ≡ set = its_set s (ap (λ z. has_node (list_at n.lists s) z) (sym x_is.1) ∙ here.listed)
            in let the_key : Some k ≡ Some key = sym here.kept ∙ ap (λ z. key_at new_keys z) x_is.1 ∙ here_now
            in absurd (not_there y y_not.1 (ap (λ z. has_node (list_at n.lists z) y) (sym the_set) ∙ there.listed) (there.kept ∙ the_key))
      ]
      | inr x_not ↦ elim (eqb_tells y slot) [
        | inl y_is ↦
            let the_set : s ≡ set = its_set s (ap (λ z. has_node (list_at n.lists s) z) (sym y_is.1) ∙ there.listed)
            in let the_key : Some k ≡ Some key = sym there.kept ∙ ap (λ z. key_at new_keys z) y_is.1 ∙ here_now
            in absurd (not_there x x_not.1 (ap (λ z. has_node (list_at n.lists z) x) (sym the_set) ∙ here.listed) (here.kept ∙ the_key))
        | inr y_not ↦ placed.once s k x y
            (record { listed = was s x x_not.1 here.listed; kept = sym (stays x x_not.1) ∙ here.kept })
            (record { listed = was s y y_not.1 there.listed; kept = sym (stays y y_not.1) ∙ there.kept })
      ]
    ])
