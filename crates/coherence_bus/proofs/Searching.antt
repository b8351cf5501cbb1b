-- Searches among the cores, and in the sets of caches.
use Rattle.std.proofs.Common.{◌≡◌, ℕ, suc, ◌+◌, ◌-◌, ◌<◌, Bool, true, false, List, [], ◌∷◌, ◌++◌, length, map, find, replicate, Option, Some, None, refl, sym, ap, ◌∙◌, arith, append_assoc}
use Rattle.std.specs.Prelude.{◌||◌, not, slice_set}
use Rattle.std.specs.List.{AllByRecursion, list_all, list_any, range_with_len}
use Rattle.std.proofs.Math.Seq.{set-append_seam}
use Rattle.std.proofs.lemmas.Bool.{and_parts}
use Rattle.pei_types.specs.declared.identifiers.CoreId.{CoreId}
use Rattle.pei_types.specs.declared.operations.Letter.{Letter}
use Rattle.pei_types.specs.declared.operations.Letter.TheVariants as letter
use Rattle.pei_types.specs.Blocks.{same_core}
use Rattle.pei_types.specs.MachineState.{is_i, is_ahead}
use Rattle.pei_types.proofs.Identities.{same_core_is}

-- a core that passes, and past one that fails
pub core_here : (test : CoreId → Bool) (answer : Option CoreId) (core cores : ℕ) → core < cores → test (record { 0 = core }) ≡ true → answer ≡ find test (map (λ n. record { 0 = n }) (range_with_len core (cores - core))) → Some (record { 0 = core }) ≡ answer
core_here test answer core cores within passes so_far =
    let one_less : cores - core ≡ suc (cores - (core + 1)) = omega (arith, within)
    in sym (rw passes at (rw one_less at so_far))

pub core_past : (test : CoreId → Bool) (answer : Option CoreId) (core cores : ℕ) → core < cores → test (record { 0 = core }) ≡ false → answer ≡ find test (map (λ n. record { 0 = n }) (range_with_len core (cores - core))) → answer ≡ find test (map (λ n. record { 0 = n }) (range_with_len (core + 1) (cores - (core + 1))))
core_past test answer core cores within fails so_far =
    let one_less : cores - core ≡ suc (cores - (core + 1)) = omega (arith, within)
    in rw fails at (rw one_less at so_far)

-- some item passes exactly where one is found
pub any_is_found : {A : Type 0} (test : A → Bool) (lacks : Option A → Bool) (xs : List A) → lacks None ≡ true → AllByRecursion (λ y. lacks (Some y) ≡ false) xs → list_any test xs ≡ not (lacks (find test xs))
any_is_found test lacks [] none all = rw none refl
any_is_found test lacks (x ∷ xs) none all = go (test x) refl (any_is_found test lacks xs none all.1)
  where
    go : (t : Bool) → test x ≡ t → list_any test xs ≡ not (lacks (find test xs)) → list_any test (x ∷ xs) ≡ not (lacks (find test (x ∷ xs)))
    go true passes rest = rw passes (rw all.0 refl)
    go false fails rest = rw fails rest

-- where one core shares a block and no other has it, no copy is ahead
pub none_ahead : (letters : CoreId → Letter) (c : CoreId) (cores : List CoreId) → letters c ≡ letter.S → list_all (λ d. same_core d c || is_i (letters d)) cores ≡ true → find (λ d. is_ahead (letters d)) cores ≡ None
none_ahead letters c [] shared alone = refl
none_ahead letters c (d ∷ cores) shared alone =
    let k = and_parts (same_core d c || is_i (letters d)) (list_all (λ x. same_core x c || is_i (letters x)) cores) alone
    in rw (not_ahead (same_core d c) refl k.0) (none_ahead letters c cores shared k.1)
  where
    of_letter : (l : Letter) → is_i l ≡ true → is_ahead l ≡ false
    of_letter letter.M h = absurd (cc h)
    of_letter letter.E h = refl
    of_letter letter.S h = refl
    of_letter letter.I h = refl

    not_ahead : (t : Bool) → same_core d c ≡ t → (t || is_i (letters d)) ≡ true → is_ahead (letters d) ≡ false
    not_ahead true same here = rw (same_core_is d c same, shared) refl
    not_ahead false same here = of_letter (letters d) here

-- one more item in front of those that are left
pub set_next : {A : Type 0} (xs : List A) (i r : ℕ) (y z : A) → length xs ≡ i → slice_set (xs ++ replicate (suc r) z) i y ≡ (xs ++ y ∷ []) ++ replicate r z
set_next xs i r y z count = ap (λ n. slice_set (xs ++ replicate (suc r) z) n y) (sym count) ∙ set-append_seam xs z (replicate r z) y ∙ sym (append_assoc xs (y ∷ []) (replicate r z))

pub map_twice : {A B C : Type 0} (f : B → C) (g : A → B) (xs : List A) → map f (map g xs) ≡ map (λ x. f (g x)) xs
map_twice f g [] = refl
map_twice f g (x ∷ xs) = ap (λ ys. f (g x) ∷ ys) (map_twice f g xs)
