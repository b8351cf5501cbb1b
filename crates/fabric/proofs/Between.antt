-- Stamps that rise past a number without having it.
use Rattle.std.proofs.Common.{◌≡◌, ◌≢◌, inl, inr, ℕ, suc, ◌<◌, ◌≤◌, nat_lt, Bool, true, false, List, [], ◌∷◌, length, get_or, refl, sym, subst, arith}
use Rattle.std.specs.Prelude.{AllPairs}
use Rattle.std.specs.List.{AllByRecursion}
use Rattle.std.proofs.lemmas.Bool.Decides.{nat_tests}
use Rattle.std.proofs.lemmas.Option.{get_or_from_slice_get, slice_get_within}
use Rattle.fabric.specs.Places.{IsAboveLast, IsBelowNext}

less_of : (x y : ℕ) → nat_lt x y ≡ true → x < y
less_of x y e = grind (arith, nat_tests)

most_of : (x y : ℕ) → nat_lt x y ≡ false → y ≤ x
most_of x y e = grind (arith, nat_tests)

each_from : (P : ℕ → Type 0) (ns : List ℕ) → ((k d : ℕ) → k < length ns → P (get_or ns k d)) → AllByRecursion P ns
each_from P [] h = tt
each_from P (n ∷ ns) h = (h 0 n (omega arith), each_from P ns (λ k d l. h (suc k) d (omega (arith, l))))

-- those before the place are smaller
before : (ns : List ℕ) → AllPairs (λ x y. x < y) ns → (n place : ℕ) → IsAboveLast ns n place → (k d : ℕ) → k < place → get_or ns k d < n
before ns rise n place (inl first) k d l = absurd (omega (arith, first, l))
before ns rise n place (inr (i, p, is, at, less)) k d l = by (nat_lt k i) refl
  where
    here : get_or ns i d ≡ p
    here = get_or_from_slice_get ns i p d at

    by : (b : Bool) → nat_lt k i ≡ b → get_or ns k d < n
    by true e =
        let smaller : k < i = less_of k i e
        in let pair = rise k i d smaller (slice_get_within ns i p at)
        in omega (arith, pair, here, less)
    by false e =
        let most = most_of k i e
        in let same : k ≡ i = omega (arith, most, is, l)
        in subst (λ j. get_or ns j d < n) (sym same) (omega (arith, here, less))

-- those from it on are larger
from_on : (ns : List ℕ) → AllPairs (λ x y. x < y) ns → (n i : ℕ) → IsBelowNext ns n i → (k d : ℕ) → k < length ns → i ≤ k → n < get_or ns k d
from_on ns rise n i (inl past) k d l m = absurd (omega (arith, past, l, m))
from_on ns rise n i (inr (q, at, more)) k d l m = by (nat_lt i k) refl
  where
    here : get_or ns i d ≡ q
    here = get_or_from_slice_get ns i q d at

    by : (b : Bool) → nat_lt i k ≡ b → n < get_or ns k d
    by true e =
        let smaller : i < k = less_of i k e
        in let pair = rise i k d smaller l
        in omega (arith, pair, here, more)
    by false e =
        let most = most_of i k e
        in let same : k ≡ i = omega (arith, m, most)
        in subst (λ j. n < get_or ns j d) (sym same) (omega (arith, here, more))

pub none_between : (ns : List ℕ) → AllPairs (λ x y. x < y) ns → (n i : ℕ) → IsAboveLast ns n i → IsBelowNext ns n i → AllByRecursion (λ x. x ≢ n) ns
none_between ns rise n i below above = each_from (λ x. x ≢ n) ns at
  where
    at : (k d : ℕ) → k < length ns → get_or ns k d ≢ n
    at k d l same = by (nat_lt k i) refl
      where
        by : (b : Bool) → nat_lt k i ≡ b → ⊥
        by true e =
            let less = before ns rise n i below k d (less_of k i e)
            in omega (arith, less, same)
        by false e =
            let more = from_on ns rise n i above k d l (most_of k i e)
            in omega (arith, more, same)
