-- Decimal digits, read from the front.
use Rattle.std.proofs.Common.{◌≡◌, ℕ, ◌+◌, ◌*◌, ◌<◌, ◌≤◌, Bool, true, false, ◌&&◌, nat_lt, List, [], ◌∷◌, length, get_or, drop, fold, Option, None, refl, sym, ◌∙◌, ap, arith}
use Rattle.std.specs.List.{list_all}
use Rattle.std.specs.Char.{is_ascii_digit, digit_value}
use Rattle.std.proofs.lemmas.Bool.Decides.{nat_tests}
use Rattle.pei_cli.specs.Commands.{number_if, value_of_digits, decimal_below}

-- the number that these digits write behind those of a value
abbrev pub value_from : ℕ → List ℕ → ℕ
value_from value rest = fold (λ n d. n * 10 + digit_value d) value rest

abbrev pub rest_below : ℕ → ℕ → List ℕ → Option ℕ
rest_below limit value rest = number_if (list_all is_ascii_digit rest && nat_lt (value_from value rest) limit) (value_from value rest)

-- a word that is not empty is such a rest
pub begins : (limit : ℕ) (word : List ℕ) → 0 < length word → decimal_below limit word ≡ rest_below limit 0 word
begins limit word h = ap (λ b. number_if (b && list_all is_ascii_digit word && nat_lt (value_of_digits word) limit) (value_of_digits word)) (less 0 (length word) h)
  where
    less : (i j : ℕ) → i < j → nat_lt i j ≡ true
    less i j t = grind (arith, nat_tests)

-- a value only grows
grows : (value : ℕ) (rest : List ℕ) → value ≤ value_from value rest
grows value [] = omega arith
grows value (d ∷ rest) = further (grows (value * 10 + digit_value d) rest)
  where
    further : value * 10 + digit_value d ≤ value_from (value * 10 + digit_value d) rest → value ≤ value_from (value * 10 + digit_value d) rest
    further h = omega (arith, h)

-- one that has come to the limit is not below it
pub too_large : (limit value : ℕ) (rest : List ℕ) → limit ≤ value → rest_below limit value rest ≡ None
too_large limit value rest h = by (list_all is_ascii_digit rest) (not_less (value_from value rest) limit (further (grows value rest)))
  where
    further : value ≤ value_from value rest → limit ≤ value_from value rest
    further g = omega (arith, h, g)

    not_less : (i j : ℕ) → j ≤ i → nat_lt i j ≡ false
    not_less i j t = grind (arith, nat_tests)

    by : (b : Bool) → nat_lt (value_from value rest) limit ≡ false → number_if (b && nat_lt (value_from value rest) limit) (value_from value rest) ≡ None
    by true e = ap (λ c. number_if c (value_from value rest)) e
    by false e = refl

-- a digit goes into the value
pub digit_on : (limit value d : ℕ) (rest : List ℕ) → is_ascii_digit d ≡ true → rest_below limit value (d ∷ rest) ≡ rest_below limit (value * 10 + digit_value d) rest
digit_on limit value d rest h = ap (λ b. number_if ((b && list_all is_ascii_digit rest) && nat_lt (value_from (value * 10 + digit_value d) rest) limit) (value_from (value * 10 + digit_value d) rest)) h

-- what is no digit ends it
pub no_digit : (limit value d : ℕ) (rest : List ℕ) → is_ascii_digit d ≡ false → rest_below limit value (d ∷ rest) ≡ None
no_digit limit value d rest h = ap (λ b. number_if ((b && list_all is_ascii_digit rest) && nat_lt (value_from (value * 10 + digit_value d) rest) limit) (value_from (value * 10 + digit_value d) rest)) h

-- One more byte brings the value to the limit: whether it is a digit or not, no number below the limit is written.
pub overflows : (limit value d : ℕ) (rest : List ℕ) → limit ≤ value * 10 + digit_value d → rest_below limit value (d ∷ rest) ≡ None
overflows limit value d rest h = by (is_ascii_digit d) refl
  where
    by : (b : Bool) → is_ascii_digit d ≡ b → rest_below limit value (d ∷ rest) ≡ None
    by true e = digit_on limit value d rest e ∙ too_large limit (value * 10 + digit_value d) rest h
    by false e = no_digit limit value d rest e

-- the byte at the front
pub fronted : (rest : List ℕ) → 0 < length rest → rest ≡ get_or rest 0 0 ∷ drop 1 rest
fronted [] h = absurd (omega (arith, h))
fronted (d ∷ rest) h = refl

pub overflows_at : (limit value : ℕ) (word rest : List ℕ) → 0 < length word → 0 < length rest → rest_below limit value rest ≡ rest_below limit 0 word → limit ≤ value * 10 + digit_value (get_or rest 0 0) → decimal_below limit word ≡ None
overflows_at limit value word rest some more so_far large =
    begins limit word some ∙ sym so_far ∙ ap (rest_below limit value) (fronted rest more) ∙ overflows limit value (get_or rest 0 0) (drop 1 rest) large
