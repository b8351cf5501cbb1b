-- The bins of a histogram as the bytes of a word.
use Rattle.std.proofs.Common.{◌≡◌, ℕ, zero, suc, ◌+◌, ◌-◌, ◌*◌, ◌/◌, ◌%◌, ◌^◌, ◌<◌, ◌≤◌, List, arith, lit<, lit≤, ap, ◌∙◌, subst}
use Rattle.std.specs.Prelude.{bit_and, bit_or}
use Rattle.std.proofs.Math.Nat.{pow-le-pow_right}
use Rattle.std.proofs.lemmas.Nat.{and_mask, or_shifted, shl_whole, pow-add, mod_below}
use Rattle.pei_types.specs.Operation.{half_word, bins}

-- n bins are n bytes
bins-below : (shift : ℕ) (words : List ℕ) (i n : ℕ) → bins shift words i n < 2 ^ (8 * n)
bins-below shift words i zero = lit< tt
bins-below shift words i (suc n) =
    let behind : bins shift words (i + 1) n < 2 ^ (8 * n) = bins-below shift words (i + 1) n in
    let bits : 8 * suc n ≡ 8 + 8 * n = omega arith in
    let size : 2 ^ (8 * suc n) ≡ 2 ^ 8 * 2 ^ (8 * n) = ap (λ k. 2 ^ k) bits ∙ pow-add 2 8 (8 * n) in
    let bin : half_word words i / 2 ^ shift % 256 < 256 = mod_below (half_word words i / 2 ^ shift) 256 (lit< tt) in
    rw size (omega arith)

-- a low byte put behind n others
or_byte : (bytes x n : ℕ) → n < 8 → bytes < 2 ^ (8 * n) → bit_or (bytes * 2 ^ 8 % 2 ^ 64) (bit_and x 255) ≡ x % 256 + 256 * bytes
or_byte bytes x n few below =
    let bits : 8 * n ≤ 56 = omega arith in
    let most : 2 ^ (8 * n) ≤ 2 ^ 56 = pow-le-pow_right (lit< tt) bits in
    let whole : bytes * 2 ^ 8 % 2 ^ 64 ≡ bytes * 2 ^ 8 = shl_whole bytes 56 8 64 (omega arith) (lit≤ tt) in
    let mask : bit_and x 255 ≡ x % 256 = and_mask x 8 in
    let joined : bit_or (bytes * 2 ^ 8) (x % 256) ≡ bytes * 2 ^ 8 + x % 256 = or_shifted bytes 8 (x % 256) (mod_below x 256 (lit< tt)) in
    rw (whole, mask, joined) (omega arith)

-- One more bin, in front of those from i + 1 on.
pub bins-more : (shift : ℕ) (words : List ℕ) (i m n bytes : ℕ) → n < 8 → m ≡ suc n → bytes ≡ bins shift words (i + 1) n → bit_or (bytes * 2 ^ 8 % 2 ^ 64) (bit_and (half_word words i / 2 ^ shift) 255) ≡ bins shift words i m
bins-more shift words i m n bytes few count e =
    rw (count, e) (or_byte (bins shift words (i + 1) n) (half_word words i / 2 ^ shift) n few (bins-below shift words (i + 1) n))

-- all eight bins
pub bins_all : (shift : ℕ) (words : List ℕ) (first k bytes : ℕ) → k ≡ 0 → bytes ≡ bins shift words (first + k) (8 - k) → bytes ≡ bins shift words first 8
bins_all shift words first k bytes e h =
    let start : first + k ≡ first = omega arith in
    let P : ℕ → Type 0 = λ i. bytes ≡ bins shift words i 8 in
    let Q : ℕ → Type 0 = λ j. bytes ≡ bins shift words (first + k) (8 - j) in
    subst P start (subst Q e h)
