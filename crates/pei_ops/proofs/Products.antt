-- Products of signed lanes, and their sum.
use Rattle.std.proofs.Common.{◌≡◌, ℕ, suc, ◌+◌, ◌*◌, ◌^◌, ◌≤◌, ℤ, pos, negsuc, neg_ℤ, ◌+ℤ◌, ◌*ℤ◌, ◌≤ℤ◌, arith, SFits, to_z, of_z, refl, lit<, subst, ◌∙◌}
use Rattle.std.specs.Prelude.{unsigned_abs}
use Rattle.std.specs.Int.{w16, w32, w64}
use Rattle.std.proofs.lemmas.Int.{ints, unsigned_abs-mul, fits_signed_mul, to_z-of_z}
use Rattle.std.proofs.Math.Facts.{sfits_widen}
use Rattle.std.proofs.lemmas.Nat.{mul-le}
use Rattle.pei_types.specs.Operation.{sum_from}

-- z lies between -n and n
pub record IsWithin (n : ℕ) (z : ℤ) : Type 0 where
  pub at_least : neg_ℤ (pos n) ≤ℤ z
  pub at_most : z ≤ℤ pos n

-- a number of absolute value at most n
IsWithin-from_abs : (n : ℕ) (z : ℤ) → unsigned_abs z ≤ n → IsWithin n z
IsWithin-from_abs n (pos a) h = record { at_least = omega (arith, ints); at_most = omega (arith, ints) }
IsWithin-from_abs n (negsuc a) h = record { at_least = omega (arith, ints); at_most = omega (arith, ints) }

-- the absolute values of lanes
abs_of_w32 : (z : ℤ) → SFits w32 z → unsigned_abs z ≤ 2 ^ 31
abs_of_w32 (pos a) h = omega (arith, h.sfits)
abs_of_w32 (negsuc a) h = omega (arith, h.sfits)

abs_of_w16 : (z : ℤ) → SFits w16 z → unsigned_abs z ≤ 2 ^ 15
abs_of_w16 (pos a) h = omega (arith, h.sfits)
abs_of_w16 (negsuc a) h = omega (arith, h.sfits)

-- what the code's product of a 32-bit lane and a 16-bit lane gives
pub product_of_lanes : (a b : ℤ) → SFits w32 a → SFits w16 b → to_z w64 (of_z w64 (to_z w64 (of_z w64 a) *ℤ to_z w64 (of_z w64 b))) ≡ a *ℤ b
product_of_lanes a b p q =
    let fits : SFits w64 (a *ℤ b) = fits_signed_mul w64 a b (2 ^ 31) (2 ^ 15) (abs_of_w32 a p) (abs_of_w16 b q) (lit< tt) in
    rw (to_z-of_z w64 a (sfits_widen tt p), to_z-of_z w64 b (sfits_widen tt q), to_z-of_z w64 (a *ℤ b) fits) refl

-- its bounds
pub IsWithin-product_of_lanes : (a b : ℤ) → SFits w32 a → SFits w16 b → IsWithin (2 ^ 46) (to_z w64 (of_z w64 (to_z w64 (of_z w64 a) *ℤ to_z w64 (of_z w64 b))))
IsWithin-product_of_lanes a b p q =
    let size : unsigned_abs a * unsigned_abs b ≤ 2 ^ 46 = mul-le (unsigned_abs a) (unsigned_abs b) (2 ^ 31) (2 ^ 15) (abs_of_w32 a p) (abs_of_w16 b q) in
    rw (product_of_lanes a b p q) (IsWithin-from_abs (2 ^ 46) (a *ℤ b) (rw unsigned_abs-mul size))

-- s and the next terms from place i on make the sum of all up to there
abbrev pub IsSumBelow : (ℕ → ℤ) → ℕ → ℤ → Type 0
IsSumBelow f i s = (n : ℕ) → s +ℤ sum_from f i n ≡ sum_from f 0 (i + n)

-- one term more
pub IsSumBelow-more : (f : ℕ → ℤ) (i : ℕ) (s x t : ℤ) → IsSumBelow f i s → x ≡ f i → t ≡ s +ℤ x → IsSumBelow f (i + 1) t
IsSumBelow-more f i s x t h e total n =
    let whole : s +ℤ (f i +ℤ sum_from f (i + 1) n) ≡ sum_from f 0 (i + suc n) = h (suc n) in
    let count : i + 1 + n ≡ i + suc n = omega arith in
    rw (total, e, count) (omega (arith, ints, whole))

-- all sixteen terms
pub IsSumBelow_all : (f : ℕ → ℤ) (i : ℕ) (s : ℤ) → i ≡ 16 → IsSumBelow f i s → s ≡ sum_from f 0 16
IsSumBelow_all f i s e h =
    let whole : s +ℤ pos 0 ≡ sum_from f 0 (i + 0) = h 0 in
    let count : i + 0 ≡ 16 = omega arith in
    let P : ℕ → Type 0 = λ k. s +ℤ pos 0 ≡ sum_from f 0 k in
    let all : s +ℤ pos 0 ≡ sum_from f 0 16 = subst P count whole in
    let same : s ≡ s +ℤ pos 0 = omega (arith, ints) in
    same ∙ all
