-- A stamp among stamps that rise.
use Rattle.std.proofs.Common.{◌≡◌, ◌≢◌, ◌⊎◌, inl, inr, ℕ, zero, suc, ◌<◌, ◌≤◌, true, false, List, [], ◌∷◌, length, get_or, subst, arith}
use Rattle.std.proofs.Math.Dec.{eqb}
use Rattle.std.proofs.lemmas.Bool.Decides.{eqb_tells, nat_tests}
use Rattle.std.specs.List.{AllByRecursion, AllPairs}

pub rises_at : (xs : List ℕ) → AllPairs (λ x y. x < y) xs → (i j : ℕ) → i ≤ j → j < length xs → get_or xs i 0 ≤ get_or xs j 0
rises_at xs h i j le l = by (eqb_tells i j)
  where
    below : (i j : ℕ) → i ≤ j → i ≢ j → i < j
    below i j le other = grind (arith, nat_tests)

    by : ((eqb i j ≡ true) × (i ≡ j)) ⊎ ((eqb i j ≡ false) × (i ≢ j)) → get_or xs i 0 ≤ get_or xs j 0
    by (inl same) = subst (λ k. get_or xs i 0 ≤ get_or xs k 0) same.1 (omega arith)
    by (inr other) = let up : get_or xs i 0 < get_or xs j 0 = h i j 0 (below i j le other.1) l in omega (arith, up)

-- items below and above it are others
pub all_others : (xs : List ℕ) (x i : ℕ) → ((k : ℕ) → k < i → get_or xs k 0 < x) → ((k : ℕ) → i ≤ k → k < length xs → x < get_or xs k 0) → AllByRecursion (λ y. y ≢ x) xs
all_others [] x i low high = tt
all_others (y ∷ ys) x zero low high =
    ((λ same. let above = high 0 (omega arith) (omega arith) in omega (arith, above, same)), all_others ys x zero (λ k l. absurd (omega (arith, l))) (λ k a l. high (suc k) (omega arith) (omega (arith, l))))
all_others (y ∷ ys) x (suc i) low high =
    ((λ same. let below = low 0 (omega arith) in omega (arith, below, same)), all_others ys x i (λ k l. low (suc k) (omega (arith, l))) (λ k a l. high (suc k) (omega (arith, a)) (omega (arith, l))))
