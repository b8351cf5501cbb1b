-- The lowest bits of a number.
use Rattle.std.proofs.Common.{◌≡◌, ℕ, zero, suc, ◌+◌, ◌-◌, ◌<◌, ◌≤◌, ◌%◌, ◌^◌, ◌==◌, Bool, true, refl, sym, ◌∙◌, ap, ap₂, subst, arith, eq-eqb}
use Rattle.std.proofs.Math.Nat.{mod-suc}
use Rattle.std.proofs.Math.Pow.{pow-sub-lt}

-- a number that has as many bits as there are banks has those of all banks
pub all_bits : (count banks bits : ℕ) → bits ≡ 2 ^ count - 1 → count ≡ banks → (bits % 2 ^ banks + 1 == 2 ^ banks) ≡ true
all_bits count banks bits is all = by (2 ^ banks) (pow-sub-lt banks {a = 1} (omega arith)) refl
  where
    suc_less : (n : ℕ) → suc n - 1 ≡ n
    suc_less n = omega arith

    same : (n : ℕ) → 2 ^ banks ≡ n → bits ≡ n - 1
    same n e = is ∙ ap (λ k. 2 ^ k - 1) all ∙ ap (λ k. k - 1) e

    by : (n : ℕ) → 2 ^ banks - 1 < 2 ^ banks → 2 ^ banks ≡ n → (bits % 2 ^ banks + 1 == 2 ^ banks) ≡ true
    by zero less e = absurd (omega (arith, less, e))
    by (suc n) less e =
        let low : bits ≡ n = same (suc n) e ∙ suc_less n
        in let rest : bits % 2 ^ banks ≡ n = ap₂ (λ a b. a % b) low e ∙ mod-suc n
        in let sum : bits % 2 ^ banks + 1 ≡ 2 ^ banks = omega (arith, rest, e)
        in eq-eqb (bits % 2 ^ banks + 1) (2 ^ banks) sum
