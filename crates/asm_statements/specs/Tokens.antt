-- The tokens of a line.
use Rattle.std.specs.Prelude.{ℕ, zero, suc, ◌+◌, ◌-◌, ◌*◌, Bool, ◌&&◌, ◌||◌, ◌==◌, nat_lt, if◌then◌else◌, List, [], ◌∷◌, ◌++◌, take, drop, fold, slice_index}
use Rattle.std.specs.List.{prefix_len}
use Rattle.std.specs.Char.{is_ascii_alphabetic, is_ascii_digit, is_ascii_hexdigit, digit_value}
use Rattle.std.specs.Str.{byte}

-- A token. A stray character begins none, or is a letter that stands right behind a number.
pub data Token : Type 0 where
  name : (text : List ℕ) → Token
  number : (negative : Bool) → (magnitude : ℕ) → Token
  comma : Token
  colon : Token
  star : Token
  stray : Token

-- a token, and the column of its first byte, counted from 1
pub record Placed : Type 0 where
  pub column : ℕ
  pub token : Token

-- ---- characters

abbrev pub is_blank : ℕ → Bool
is_blank b = (b == byte " ") || (b == byte "\t") || (b == byte "\r")

abbrev pub begins_comment : ℕ → Bool
begins_comment b = (b == byte "#") || (b == byte ";")

abbrev pub begins_name : ℕ → Bool
begins_name b = is_ascii_alphabetic b || (b == byte "_") || (b == byte ".")

abbrev pub continues_name : ℕ → Bool
continues_name b = begins_name b || is_ascii_digit b

-- ---- numbers

-- the number that digits write
abbrev pub value_of_digits : ℕ → List ℕ → ℕ
value_of_digits base digits = fold (λ n d. n * base + digit_value d) 0 digits

-- the bytes begin with a hexadecimal number
abbrev pub is_hexadecimal : List ℕ → Bool
is_hexadecimal bytes = (slice_index bytes 0 == byte "0") && (slice_index bytes 1 == byte "x") && is_ascii_hexdigit (slice_index bytes 2)

abbrev pub hexadecimal_digits : List ℕ → List ℕ
hexadecimal_digits bytes = take (prefix_len is_ascii_hexdigit (drop 2 bytes)) (drop 2 bytes)

abbrev pub decimal_digits : List ℕ → List ℕ
decimal_digits bytes = take (prefix_len is_ascii_digit bytes) bytes

-- how many bytes the number without a sign takes that the bytes begin with, 0 where there is none, and its value
abbrev pub unsigned_len : List ℕ → ℕ
unsigned_len bytes = if is_hexadecimal bytes then 2 + prefix_len is_ascii_hexdigit (drop 2 bytes) else prefix_len is_ascii_digit bytes

abbrev pub unsigned_value : List ℕ → ℕ
unsigned_value bytes = if is_hexadecimal bytes then value_of_digits 16 (hexadecimal_digits bytes) else value_of_digits 10 (decimal_digits bytes)

-- the sign, and the number with its sign
abbrev pub has_sign : List ℕ → Bool
has_sign bytes = slice_index bytes 0 == byte "-"

abbrev pub behind_sign : List ℕ → List ℕ
behind_sign bytes = if has_sign bytes then drop 1 bytes else bytes

abbrev pub begins_number : List ℕ → Bool
begins_number bytes = nat_lt 0 (unsigned_len (behind_sign bytes))

abbrev pub number_len : List ℕ → ℕ
number_len bytes = (if has_sign bytes then 1 else 0) + unsigned_len (behind_sign bytes)

abbrev pub number_token : List ℕ → Token
number_token bytes = number (has_sign bytes) (unsigned_value (behind_sign bytes))

-- ---- tokens

-- some tokens, and how many bytes they take
pub record Front : Type 0 where
  pub tokens : List Placed
  pub len : ℕ

abbrev pub one_token : ℕ → Token → ℕ → Front
one_token column t len = record { tokens = record { column = column; token = t } ∷ []; len = len }

-- a letter right behind a number is stray
abbrev pub number_front : ℕ → ℕ → Token → Bool → Front
number_front column len t runs_on =
    if runs_on then record { tokens = record { column = column; token = t } ∷ record { column = column + len; token = stray } ∷ []; len = len + 1 }
    else one_token column t len

-- a character by itself
abbrev pub mark_front : ℕ → ℕ → Front
mark_front column b =
    if is_blank b then record { tokens = []; len = 1 }
    else (if b == byte "," then one_token column comma 1
    else (if b == byte ":" then one_token column colon 1
    else (if b == byte "*" then one_token column star 1
    else one_token column stray 1)))

-- what stands first in some bytes, of which the first is in this column
abbrev pub front : ℕ → List ℕ → Front
front column bytes =
    if begins_name (slice_index bytes 0) then one_token column (name (take (prefix_len continues_name bytes) bytes)) (prefix_len continues_name bytes)
    else (if begins_number bytes then number_front column (number_len bytes) (number_token bytes) (is_ascii_alphabetic (slice_index bytes (number_len bytes)))
    else mark_front column (slice_index bytes 0))

-- The tokens of the bytes behind the first `skip`, where the first byte is in this column. A comment has none.
abbrev pub tokens_from : ℕ → ℕ → List ℕ → List Placed
tokens_from skip column [] = []
tokens_from (suc skip) column (b ∷ bytes) = tokens_from skip (column + 1) bytes
tokens_from zero column (b ∷ bytes) =
    if begins_comment b then []
    else (front column (b ∷ bytes)).tokens ++ tokens_from ((front column (b ∷ bytes)).len - 1) (column + 1) bytes

-- the tokens of a line
abbrev pub tokens_of : List ℕ → List Placed
tokens_of line = tokens_from 0 1 line
