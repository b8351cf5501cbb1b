-- What the slots of sets hold, as the sets change.
use Rattle.std.proofs.Common.{◌≡◌, ◌≢◌, ℕ, zero, suc, ◌<◌, ◌≤◌, ◌==◌, Bool, true, false, true≢false, if◌then◌else◌, List, [], ◌∷◌, ◌++◌, length, map, nat_eq, Option, Some, None, find, option_map, replicate, refl, sym, ◌∙◌, ap, inl, inr, arith}
use Rattle.std.specs.List.{list_any, last_or}
use Rattle.std.proofs.lemmas.List.{length-map}
use Rattle.std.proofs.lemmas.Bool.Decides.{eqb_tells}
use Rattle.pei_types.specs.Recency.{change_at, list_at, without, to_front, victim}
use Rattle.link_list.specs.Linked.{has_node}
use Rattle.link_list.specs.Laws.{HeldFollow}
use Rattle.set_lists.specs.Placed.{Placed, IsAt, IsListed, IsPlaced, key_at, has_key, inserted}
use Rattle.set_lists.specs.Laws.{held, Tells, SameElse, FollowsKey}
use Rattle.set_lists.proofs.Members.{later_is, other_without}
use Rattle.set_lists.proofs.Finding.{is_the_key, is_no_key, lacks_key}
use Rattle.pei_types.proofs.Members.{map-filter, first_is_member, filter-once, member_before-without}
use Rattle.std.proofs.lemmas.Bool.{cases_Bool}

-- ---- one list

find_held : {A : Type 0} (hold : ℕ → A) (test : A → Bool) (slot : ℕ) (xs : List ℕ) → has_node xs slot ≡ true → ((other : ℕ) → has_node xs other ≡ true → test (hold other) ≡ nat_eq slot other) → find test (map hold xs) ≡ Some (hold slot)
find_held hold test slot [] here agree = absurd (true≢false (sym here))
find_held hold test slot (x ∷ xs) here agree = elim (eqb_tells slot x) [
  | inl same ↦ rw (agree x (first_is_member x xs) ∙ same.0) (ap (λ y. Some (hold y)) (sym same.1))
  | inr other ↦ rw (agree x (first_is_member x xs) ∙ other.0) (find_held hold test slot xs (rw other.0 at here) (λ y there. agree y (later_is y x xs there)))
]

any_held : {A : Type 0} (hold : ℕ → A) (test : A → Bool) (slot : ℕ) (xs : List ℕ) → has_node xs slot ≡ true → ((other : ℕ) → has_node xs other ≡ true → test (hold other) ≡ nat_eq slot other) → list_any test (map hold xs) ≡ true
any_held hold test slot [] here agree = absurd (true≢false (sym here))
any_held hold test slot (x ∷ xs) here agree = elim (eqb_tells slot x) [
  | inl same ↦ rw (agree x (first_is_member x xs) ∙ same.0) refl
  | inr other ↦ rw (agree x (first_is_member x xs) ∙ other.0) (any_held hold test slot xs (rw other.0 at here) (λ y there. agree y (later_is y x xs there)))
]

none_held : {A : Type 0} (hold : ℕ → A) (test : A → Bool) (xs : List ℕ) → ((other : ℕ) → has_node xs other ≡ true → test (hold other) ≡ false) → find test (map hold xs) ≡ None
none_held hold test [] fails = refl
none_held hold test (x ∷ xs) fails = rw (fails x (first_is_member x xs)) (none_held hold test xs (λ y there. fails y (later_is y x xs there)))

not_any_held : {A : Type 0} (hold : ℕ → A) (test : A → Bool) (xs : List ℕ) → ((other : ℕ) → has_node xs other ≡ true → test (hold other) ≡ false) → list_any test (map hold xs) ≡ false
not_any_held hold test [] fails = refl
not_any_held hold test (x ∷ xs) fails = rw (fails x (first_is_member x xs)) (not_any_held hold test xs (λ y there. fails y (later_is y x xs there)))

-- one of the slots holds something else
changed_held : {A : Type 0} (hold new_hold : ℕ → A) (test : A → Bool) (change : A → A) (slot : ℕ) (xs : List ℕ) → new_hold slot ≡ change (hold slot)
    → ((other : ℕ) → has_node xs other ≡ true → other ≢ slot → new_hold other ≡ hold other)
    → ((other : ℕ) → has_node xs other ≡ true → test (hold other) ≡ nat_eq slot other)
    → map new_hold xs ≡ map (λ x. if test x then change x else x) (map hold xs)
changed_held hold new_hold test change slot [] at_slot same agree = refl
changed_held hold new_hold test change slot (x ∷ xs) at_slot same agree =
    let rest = changed_held hold new_hold test change slot xs at_slot (λ y there. same y (later_is y x xs there)) (λ y there. agree y (later_is y x xs there))
    in elim (eqb_tells slot x) [
      | inl here ↦ rw (agree x (first_is_member x xs) ∙ here.0, rest) (ap (λ y. y ∷ map (λ x. if test x then change x else x) (map hold xs)) (ap new_hold (sym here.1) ∙ at_slot ∙ ap (λ y. change (hold y)) here.1))
      | inr other ↦ rw (agree x (first_is_member x xs) ∙ other.0, rest) (ap (λ y. y ∷ map (λ x. if test x then change x else x) (map hold xs)) (same x (first_is_member x xs) (λ e. other.1 (sym e))))
    ]

last_held : {A : Type 0} (hold : ℕ → A) (o : Option ℕ) (xs : List ℕ) → last_or (option_map hold o) (map hold xs) ≡ option_map hold (last_or o xs)
last_held hold o [] = refl
last_held hold o (x ∷ xs) = last_held hold (Some x) xs

pub victim_held : {A : Type 0} (hold : ℕ → A) (ways : ℕ) (xs : List ℕ) → victim ways (map hold xs) ≡ option_map hold (victim ways xs)
victim_held hold ways xs = rw (length-map xs hold) (elim (cases_Bool (length xs == ways)) [
  | inl full ↦ rw full (last_held hold None xs)
  | inr room ↦ rw room refl
])

some_last : (x : ℕ) (xs : List ℕ) → last_or (Some x) xs ≡ None → ⊥
some_last x [] h = cc h
some_last x (y ∷ ys) h = some_last y ys h

-- a set that has no victim has room
pub room_left : (ways : ℕ) (xs : List ℕ) → 0 < ways → length xs ≤ ways → victim ways xs ≡ None → length xs < ways
room_left ways [] some within none = some
room_left ways (x ∷ xs) some within none = elim (eqb_tells (length (x ∷ xs)) ways) [
  | inl full ↦ absurd (some_last x xs (rw full.0 at none))
  | inr other ↦ omega (arith, within, other.1)
]

-- ---- all lists

pub unchanged : {A : Type 0} (lists : List A) (set : ℕ) → change_at lists set (λ x. x) ≡ lists
unchanged [] set = refl
unchanged (x ∷ xs) zero = refl
unchanged (x ∷ xs) (suc set) = ap (λ l. x ∷ l) (unchanged xs set)

-- changes that agree on the list that they change
pub same_change : {A : Type 0} (f g : List A → List A) (lists : List (List A)) (i : ℕ) → f (list_at lists i) ≡ g (list_at lists i) → change_at lists i f ≡ change_at lists i g
same_change f g [] i same = refl
same_change f g (x ∷ xs) zero same = ap (λ y. y ∷ xs) same
same_change f g (x ∷ xs) (suc i) same = ap (λ ys. x ∷ ys) (same_change f g xs i same)

pub stays_held : {A : Type 0} (f : List A → List A) (lists : List (List A)) (set : ℕ) → f (list_at lists set) ≡ list_at lists set → change_at lists set f ≡ lists
stays_held f lists set same = same_change f (λ xs. xs) lists set same ∙ unchanged lists set

pub empty_held : {A : Type 0} (hold : ℕ → A) (sets : ℕ) → held hold (replicate sets []) ≡ replicate sets []
empty_held hold zero = refl
empty_held hold (suc sets) = ap (λ l. [] ∷ l) (empty_held hold sets)

pub list_held : {A : Type 0} (hold : ℕ → A) (lists : List (List ℕ)) (set : ℕ) → list_at (held hold lists) set ≡ map hold (list_at lists set)
list_held hold [] set = refl
list_held hold (xs ∷ lists) zero = refl
list_held hold (xs ∷ lists) (suc set) = list_held hold lists set

-- a test of what is held cases_Bool the slot of a key
tells_slot : {A : Type 0} (v : Placed) → IsPlaced v → (set key slot : ℕ) (hold : ℕ → A) (test : A → Bool) → IsAt v set key slot → Tells v set key hold test → (other : ℕ) → IsListed v set other → test (hold other) ≡ nat_eq slot other
tells_slot v placed set key slot hold test at agree other here = agree other here ∙ elim (eqb_tells slot other) [
  | inl same ↦ is_the_key key (key_at v.keys other) (ap (λ z. key_at v.keys z) (sym same.1) ∙ at.kept) ∙ sym same.0
  | inr apart ↦ is_no_key key (key_at v.keys other) (λ e. apart.1 (placed.once set key slot other at (record { listed = here; kept = e }))) ∙ sym apart.0
]

pub follows : {A : Type 0} → HeldFollow A → (v : Placed) → IsPlaced v → (set key slot : ℕ) (hold new_hold : ℕ → A) (test : A → Bool) → set < length v.lists → IsAt v set key slot → Tells v set key hold test → SameElse v slot hold new_hold
    → FollowsKey v set key slot hold new_hold test
follows {A} laws v placed set key slot hold new_hold test within at agree same =
    let xs : List ℕ = list_at v.lists set
    in let tell : (other : ℕ) → has_node xs other ≡ true → test (hold other) ≡ nat_eq slot other = tells_slot v placed set key slot hold test at agree
    in let others : (other : ℕ) → other ≢ set → map new_hold (list_at v.lists other) ≡ map hold (list_at v.lists other) =
    λ other apart. laws.same_held new_hold hold (list_at v.lists other) (λ x here. same other x here (λ e. apart (placed.apart other set slot (ap (λ z. has_node (list_at v.lists other) z) (sym e) ∙ here) at.listed)))
    in let rest : map new_hold (without (nat_eq slot) xs) ≡ without test (map hold xs) =
    laws.same_held new_hold hold (without (nat_eq slot) xs) (λ x here. same set x (member_before-without x slot xs here) (other_without x slot xs here)) ∙ laws.unlinked_held hold test slot xs tell
    in record {
      found = find_held hold test slot xs at.listed tell;
      there = any_held hold test slot xs at.listed tell;
      moved = λ kept. laws.changed_held hold new_hold v.lists set (λ ys. slot ∷ without (nat_eq slot) ys) (to_front test) others
          (ap (λ l. new_hold slot ∷ l) rest ∙ ap (λ x. x ∷ without test (map hold xs)) kept
          ∙ ap (λ l. l ++ without test (map hold xs)) (ap (map hold) (sym (filter-once slot xs (placed.distinct set) at.listed)) ∙ map-filter hold test (nat_eq slot) xs tell));
      renewed = laws.changed_held hold new_hold v.lists set (λ ys. slot ∷ without (nat_eq slot) ys) (λ ys. new_hold slot ∷ without test ys) others (ap (λ l. new_hold slot ∷ l) rest);
      changed = λ change at_slot. ap (held new_hold) (sym (unchanged v.lists set))
          ∙ laws.changed_held hold new_hold v.lists set (λ ys. ys) (map (λ x. if test x then change x else x)) others (changed_held hold new_hold test change slot xs at_slot (λ y here. same set y here) tell);
      taken = laws.changed_held hold new_hold v.lists set (without (nat_eq slot)) (without test) others rest;
    }

pub absent_held : {A : Type 0} (v : Placed) (set key : ℕ) (hold : ℕ → A) (test : A → Bool) → Tells v set key hold test → find (has_key v.keys key) (list_at v.lists set) ≡ None → find test (map hold (list_at v.lists set)) ≡ None
absent_held v set key hold test agree absent = none_held hold test (list_at v.lists set) (λ slot here. agree slot here ∙ lacks_key v.keys key (list_at v.lists set) absent slot here)

pub lacks_held : {A : Type 0} (v : Placed) (set key : ℕ) (hold : ℕ → A) (test : A → Bool) → Tells v set key hold test → find (has_key v.keys key) (list_at v.lists set) ≡ None → list_any test (map hold (list_at v.lists set)) ≡ false
lacks_held v set key hold test agree absent = not_any_held hold test (list_at v.lists set) (λ slot here. agree slot here ∙ lacks_key v.keys key (list_at v.lists set) absent slot here)

pub put_held : {A : Type 0} → HeldFollow A → (v : Placed) → IsPlaced v → (set key slot : ℕ) (hold new_hold : ℕ → A) → key_at v.keys slot ≡ None → SameElse v slot hold new_hold
    → held new_hold (inserted v set slot key).lists ≡ change_at (held hold v.lists) set (λ xs. new_hold slot ∷ xs)
put_held laws v placed set key slot hold new_hold free same =
    let stays : (s : ℕ) → map new_hold (list_at v.lists s) ≡ map hold (list_at v.lists s) =
    λ s. laws.same_held new_hold hold (list_at v.lists s) (λ x here. same s x here (λ e.
    let kept = placed.keyed s x here in let h : None ≡ Some kept.0 = sym free ∙ ap (λ z. key_at v.keys z) (sym e) ∙ kept.1 in cc h))
    in laws.changed_held hold new_hold v.lists set (λ xs. slot ∷ xs) (λ xs. new_hold slot ∷ xs) (λ other apart. stays other) (ap (λ l. new_hold slot ∷ l) (stays set))
