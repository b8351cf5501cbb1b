-- One step over the bytes of a line.
use Rattle.std.proofs.Common.{◌≡◌, ℕ, zero, suc, ◌+◌, ◌-◌, ◌<◌, false, if◌then◌else◌, List, [], ◌∷◌, ◌++◌, length, drop, refl, sym, ◌∙◌, ap, arith}
use Rattle.std.specs.Prelude.{slice_index}
use Rattle.asm_statements.specs.Tokens.{front, tokens_from, begins_comment}

-- what is skipped is left out
pub skip_is_drop : (skip column : ℕ) (bytes : List ℕ) → tokens_from skip column bytes ≡ tokens_from 0 (column + skip) (drop skip bytes)
skip_is_drop zero column bytes = let same : column + 0 ≡ column = omega arith in rw same refl
skip_is_drop (suc skip) column [] = refl
skip_is_drop (suc skip) column (b ∷ bytes) =
    let same : (column + 1) + skip ≡ column + suc skip = omega arith
    in skip_is_drop skip (column + 1) bytes ∙ ap (λ c. tokens_from 0 c (drop skip bytes)) same

-- the tokens that stand first, and then those of the bytes behind them
pub tokens_step : (column : ℕ) (bytes : List ℕ) (len : ℕ) → 0 < length bytes → begins_comment (slice_index bytes 0) ≡ false → 0 < len → len ≡ (front column bytes).len
    → tokens_from 0 column bytes ≡ (front column bytes).tokens ++ tokens_from 0 (column + len) (drop len bytes)
tokens_step column [] len some plain positive e = absurd (omega (arith, some))
tokens_step column (b ∷ bytes) zero some plain positive e = absurd (omega (arith, positive))
tokens_step column (b ∷ bytes) (suc n) some plain positive e =
    ap (λ c. if c then [] else (front column (b ∷ bytes)).tokens ++ tokens_from ((front column (b ∷ bytes)).len - 1) (column + 1) bytes) plain
    ∙ ap (λ k. (front column (b ∷ bytes)).tokens ++ tokens_from (k - 1) (column + 1) bytes) (sym e)
    ∙ ap (λ k. (front column (b ∷ bytes)).tokens ++ tokens_from k (column + 1) bytes) less
    ∙ ap (λ ts. (front column (b ∷ bytes)).tokens ++ ts) (skip_is_drop n (column + 1) bytes ∙ ap (λ c. tokens_from 0 c (drop n bytes)) same)
  where
    less : suc n - 1 ≡ n
    less = omega arith

    same : (column + 1) + n ≡ column + suc n
    same = omega arith
