-- The value of digits, step by step.
use Rattle.std.proofs.Common.{◌≡◌, ℕ, suc, ◌+◌, ◌*◌, ◌<◌, ◌≤◌, ◌^◌, nat_lt, true, false, List, [], ◌∷◌, length, drop, fold, Some, None, refl, ◌∙◌, ap, arith}
use Rattle.std.specs.Prelude.{slice_index}
use Rattle.std.specs.Char.{digit_value}
use Rattle.std.proofs.lemmas.List.{drop_all}
use Rattle.std.proofs.Math.Seq.{drop-cons}
use Rattle.std.proofs.Math.Nat.{le-mul_of_pos_right}
use Rattle.std.proofs.lemmas.Bool.{le-ltb, lt-ltb}
use Rattle.asm_statements.specs.Rows.{below_two_to_64}

-- further digits make no number smaller
grows : (base n : ℕ) (ds : List ℕ) → 0 < base → n ≤ fold (λ k d. k * base + digit_value d) n ds
grows base n [] h = omega arith
grows base n (d ∷ ds) h =
    let more : n ≤ n * base = le-mul_of_pos_right n h
    in let next = grows base (n * base + digit_value d) ds h
    in omega (arith, more, next)

past : (n : ℕ) → 2 ^ 64 ≤ n → below_two_to_64 n ≡ None
past n h = let no : nat_lt n (2 ^ 64) ≡ false = le-ltb n (2 ^ 64) h in rw no refl

-- a digit more
pub digit_step : (base n : ℕ) (ds : List ℕ) (i : ℕ) → i < length ds
    → fold (λ k d. k * base + digit_value d) n (drop i ds) ≡ fold (λ k d. k * base + digit_value d) (n * base + digit_value (slice_index ds i)) (drop (suc i) ds)
digit_step base n ds i h = ap (fold (λ k d. k * base + digit_value d) n) (drop-cons ds i 0 h)

-- a number that is past the range stays so
pub past_the_range : (base n : ℕ) (ds : List ℕ) (i : ℕ) → 0 < base → i < length ds → 2 ^ 64 ≤ n * base + digit_value (slice_index ds i)
    → below_two_to_64 (fold (λ k d. k * base + digit_value d) n (drop i ds)) ≡ None
past_the_range base n ds i positive h large =
    let more = grows base (n * base + digit_value (slice_index ds i)) (drop (suc i) ds) positive
    in let far : 2 ^ 64 ≤ fold (λ k d. k * base + digit_value d) (n * base + digit_value (slice_index ds i)) (drop (suc i) ds) = omega (arith, more, large)
    in ap below_two_to_64 (digit_step base n ds i h) ∙ past _ far

-- no digit is left
pub no_more_digits : (base n : ℕ) (ds : List ℕ) (i : ℕ) → length ds ≤ i → fold (λ k d. k * base + digit_value d) n (drop i ds) ≡ n
no_more_digits base n ds i h = ap (fold (λ k d. k * base + digit_value d) n) (drop_all i ds h)

pub is_below : (n : ℕ) → n < 2 ^ 64 → below_two_to_64 n ≡ Some n
is_below n h = let yes : nat_lt n (2 ^ 64) ≡ true = lt-ltb n (2 ^ 64) h in rw yes refl
