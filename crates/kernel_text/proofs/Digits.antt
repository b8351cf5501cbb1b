-- The value of digits, step by step.
use Rattle.std.proofs.Common.{◌≡◌, ℕ, suc, ◌+◌, ◌*◌, ◌<◌, ◌≤◌, ◌^◌, nat_lt, true, false, List, [], ◌∷◌, length, drop, fold, Some, None, refl, ◌∙◌, ap, arith}
use Rattle.std.specs.Prelude.{slice_index}
use Rattle.std.specs.Char.{digit_value}
use Rattle.std.proofs.lemmas.List.{drop_all}
use Rattle.std.proofs.Math.Seq.{drop-cons}
use Rattle.std.proofs.lemmas.Bool.{le-ltb, lt-ltb}
use Rattle.kernel_text.specs.Lexemes.{below_two_to_64}

-- further digits make no number smaller
grows : (n : ℕ) (ds : List ℕ) → n ≤ fold (λ k d. k * 10 + digit_value d) n ds
grows n [] = omega arith
grows n (d ∷ ds) =
    let next = grows (n * 10 + digit_value d) ds
    in omega (arith, next)

past : (n : ℕ) → 2 ^ 64 ≤ n → below_two_to_64 n ≡ None
past n h = let no : nat_lt n (2 ^ 64) ≡ false = le-ltb n (2 ^ 64) h in rw no refl

-- a digit more
pub digit_step : (n : ℕ) (ds : List ℕ) (i : ℕ) → i < length ds
    → fold (λ k d. k * 10 + digit_value d) n (drop i ds) ≡ fold (λ k d. k * 10 + digit_value d) (n * 10 + digit_value (slice_index ds i)) (drop (suc i) ds)
digit_step n ds i h = ap (fold (λ k d. k * 10 + digit_value d) n) (drop-cons ds i 0 h)

-- a number that is past the range stays so
pub past_the_range : (n : ℕ) (ds : List ℕ) (i : ℕ) → i < length ds → 2 ^ 64 ≤ n * 10 + digit_value (slice_index ds i)
    → below_two_to_64 (fold (λ k d. k * 10 + digit_value d) n (drop i ds)) ≡ None
past_the_range n ds i h large =
    let more = grows (n * 10 + digit_value (slice_index ds i)) (drop (suc i) ds)
    in let far : 2 ^ 64 ≤ fold (λ k d. k * 10 + digit_value d) (n * 10 + digit_value (slice_index ds i)) (drop (suc i) ds) = omega (arith, more, large)
    in ap below_two_to_64 (digit_step n ds i h) ∙ past _ far

-- no digit is left
pub no_more_digits : (n : ℕ) (ds : List ℕ) (i : ℕ) → length ds ≤ i → fold (λ k d. k * 10 + digit_value d) n (drop i ds) ≡ n
no_more_digits n ds i h = ap (fold (λ k d. k * 10 + digit_value d) n) (drop_all i ds h)

pub is_below : (n : ℕ) → n < 2 ^ 64 → below_two_to_64 n ≡ Some n
is_below n h = let yes : nat_lt n (2 ^ 64) ≡ true = lt-ltb n (2 ^ 64) h in rw yes refl
