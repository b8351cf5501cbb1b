-- A number is a power of two exactly where it is 2 to its whole logarithm.
use Rattle.std.proofs.Common.{◌≡◌, ℕ, ◌+◌, ◌*◌, ◌^◌, ◌<◌, ◌≤◌, Bool, true, false, ◌==◌, refl, sym, ◌∙◌, ap, subst, arith, inl, inr, ◌⊎◌}
use Rattle.std.proofs.lemmas.Bool.{cases_order, false≢true, eqb-true}
use Rattle.std.proofs.lemmas.Bool.Decides.{nat_tests}
use Rattle.std.proofs.lemmas.Nat.{pow_below, pow-add}
use Rattle.machine_file.specs.Machine.{is_power_of_two}
use Rattle.pei_types.specs.Limits.{IsPowerOfTwo, log_two}
use Rattle.pei_types.proofs.Powers.{power_of_log, power_is}

test_if : (a b : ℕ) → a ≡ b → (a == b) ≡ true
test_if a b e = grind (arith, nat_tests)

module _ (n r k : ℕ) (same : 2 ^ k ≡ n) (low : 2 ^ r ≤ n) (high : n < 2 * 2 ^ r) where
  twice : 2 ^ (r + 1) ≡ 2 ^ r * 2
  twice = pow-add 2 r 1

  by_next : (r + 1 ≡ k) ⊎ ((r + 1 < k) ⊎ (k < r + 1)) → r < k → 2 ^ r ≡ n
  by_next (inl e) above = let g : 2 ^ (r + 1) ≡ 2 ^ k = ap (λ x. 2 ^ x) e in absurd (omega (arith, g, twice, same, high))
  by_next (inr (inl further)) above = let g : 2 ^ (r + 1) < 2 ^ k = pow_below (r + 1) k further in absurd (omega (arith, g, twice, same, high))
  by_next (inr (inr below)) above = absurd (omega (arith, below, above))

  by_order : (k ≡ r) ⊎ ((k < r) ⊎ (r < k)) → 2 ^ r ≡ n
  by_order (inl e) = ap (λ x. 2 ^ x) (sym e) ∙ same
  by_order (inr (inl below)) = let g : 2 ^ k < 2 ^ r = pow_below k r below in absurd (omega (arith, g, same, low))
  by_order (inr (inr above)) = by_next (cases_order (r + 1) k) above

  -- a power of two between 2 to the power r and twice as much
  one_power : 2 ^ r ≡ n
  one_power = by_order (cases_order k r)

module _ (n r : ℕ) (small : r < 32) (low : 2 ^ r ≤ n) (high : n < 2 * 2 ^ r) where
  by_tests : (a b : Bool) → (2 ^ r == n) ≡ a → is_power_of_two n ≡ b → a ≡ b
  by_tests true true p q = refl
  by_tests false false p q = refl
  by_tests true false p q = let t : is_power_of_two n ≡ true = subst IsPowerOfTwo (eqb-true (2 ^ r) n p) (power_is r small) in absurd (false≢true (sym q ∙ t))
  by_tests false true p q = absurd (false≢true (sym p ∙ test_if (2 ^ r) n (one_power n r _ (power_of_log n q) low high)))

  pub power_test : (2 ^ r == n) ≡ is_power_of_two n
  power_test = by_tests (2 ^ r == n) (is_power_of_two n) refl refl

-- 0 is none
pub zero_is_no_power : false ≡ is_power_of_two 0
unfolding log_two
zero_is_no_power = refl
