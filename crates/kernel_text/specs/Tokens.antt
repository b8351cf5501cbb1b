-- The tokens of a kernel's text, each with its place.
use Rattle.std.specs.Prelude.{ℕ, zero, suc, ◌+◌, ◌-◌, ◌*◌, Bool, true, false, not, ◌&&◌, ◌||◌, ◌==◌, nat_lt, if◌then◌else◌, List, [], ◌∷◌, ◌++◌, take, fold, slice_index, codes}
use Rattle.std.specs.List.{prefix_len, list_any}
use Rattle.std.specs.Char.{is_ascii_alphabetic, is_ascii_digit, digit_value}
use Rattle.std.specs.Str.{byte, bytes_eq}
use Rattle.kernel_text.specs.declared.places.Place.{Place}

-- A token: a name or a keyword, a number, or a mark, which is one byte. A stray byte begins none, or is a letter that
-- stands right behind a number, or is above 127.
pub data Token : Type 0 where
  word : (text : List ℕ) → Token
  number : (value : ℕ) → Token
  mark : (symbol : ℕ) → Token
  stray : Token

-- a token, and the place of its first byte
pub record Placed : Type 0 where
  pub place : Place
  pub token : Token

-- ---- kinds of tokens

abbrev pub keywords : List (List ℕ)
keywords =
    codes "table" ∷ codes "array" ∷ codes "print" ∷ codes "inc" ∷ codes "min" ∷ codes "probe" ∷ codes "hist" ∷ codes "dot"
    ∷ codes "for" ∷ []

abbrev pub is_keyword : List ℕ → Bool
is_keyword text = list_any (bytes_eq text) keywords

abbrev pub is_word : List ℕ → Token → Bool
is_word text (word other) = bytes_eq text other
is_word text _ = false

abbrev pub is_mark : ℕ → Token → Bool
is_mark symbol (mark other) = symbol == other
is_mark symbol _ = false

abbrev pub is_name : Token → Bool
is_name (word text) = not (is_keyword text)
is_name _ = false

abbrev pub is_number : Token → Bool
is_number (number value) = true
is_number _ = false

abbrev pub text_of : Token → List ℕ
text_of (word text) = text
text_of _ = []

abbrev pub value_of : Token → ℕ
value_of (number value) = value
value_of _ = 0

-- ---- characters

abbrev pub is_line_feed : ℕ → Bool
is_line_feed b = b == byte "\n"

abbrev pub is_blank : ℕ → Bool
is_blank b = (b == byte " ") || (b == byte "\t") || (b == byte "\r") || is_line_feed b

abbrev pub begins_comment : ℕ → Bool
begins_comment b = b == byte "#"

abbrev pub is_in_line : ℕ → Bool
is_in_line b = not (is_line_feed b)

-- what stands in a comment
abbrev pub is_remark : ℕ → Bool
is_remark b = is_in_line b && nat_lt b 128

abbrev pub begins_word : ℕ → Bool
begins_word b = is_ascii_alphabetic b || (b == byte "_")

abbrev pub continues_word : ℕ → Bool
continues_word b = begins_word b || is_ascii_digit b

abbrev pub marks : List ℕ
marks = codes "[](){}=,;<+-*&|^"

abbrev pub is_mark_byte : ℕ → Bool
is_mark_byte b = list_any (λ m. m == b) marks

-- ---- places

abbrev pub at_column : Place → ℕ → Place
at_column at skipped = record { line = at.line; column = at.column + skipped }

-- the place behind a byte
abbrev pub behind : Place → ℕ → Place
behind at b = if is_line_feed b then record { line = at.line + 1; column = 1 } else at_column at 1

abbrev pub start : Place
start = record { line = 1; column = 1 }

-- the place behind the last byte
abbrev pub end_of : List ℕ → Place
end_of text = fold behind start text

-- ---- what stands first in some bytes

-- its tokens, and how many bytes it takes
pub record Front : Type 0 where
  pub tokens : List Placed
  pub len : ℕ

abbrev pub nothing : ℕ → Front
nothing len = record { tokens = []; len = len }

abbrev pub one_token : Place → Token → ℕ → Front
one_token at t len = record { tokens = record { place = at; token = t } ∷ []; len = len }

-- a comment, up to the end of its line: the first byte above 127 in it is stray
abbrev pub comment_front : Place → List ℕ → Front
comment_front at bytes =
    if prefix_len is_remark bytes == prefix_len is_in_line bytes then nothing (prefix_len is_in_line bytes)
    else one_token (at_column at (prefix_len is_remark bytes)) stray (prefix_len is_in_line bytes)

abbrev pub word_front : Place → List ℕ → Front
word_front at bytes = one_token at (word (take (prefix_len continues_word bytes) bytes)) (prefix_len continues_word bytes)

-- the number that digits write
abbrev pub value_of_digits : List ℕ → ℕ
value_of_digits digits = fold (λ n d. n * 10 + digit_value d) 0 digits

abbrev pub number_of : List ℕ → Token
number_of bytes = number (value_of_digits (take (prefix_len is_ascii_digit bytes) bytes))

-- a number: a letter or `_` right behind it is stray
abbrev pub number_front : Place → List ℕ → Front
number_front at bytes =
    if begins_word (slice_index bytes (prefix_len is_ascii_digit bytes))
    then record {
      tokens = record { place = at; token = number_of bytes } ∷ record { place = at_column at (prefix_len is_ascii_digit bytes); token = stray } ∷ [];
      len = prefix_len is_ascii_digit bytes + 1;
    }
    else one_token at (number_of bytes) (prefix_len is_ascii_digit bytes)

abbrev pub mark_front : Place → ℕ → Front
mark_front at b = one_token at (if is_mark_byte b then mark b else stray) 1

abbrev pub front : Place → List ℕ → Front
front at bytes =
    if begins_comment (slice_index bytes 0) then comment_front at bytes
    else (if is_blank (slice_index bytes 0) then nothing 1
    else (if begins_word (slice_index bytes 0) then word_front at bytes
    else (if is_ascii_digit (slice_index bytes 0) then number_front at bytes
    else mark_front at (slice_index bytes 0))))

-- ---- tokens

-- The tokens of some bytes behind the first `skip`, where the first byte has this place.
abbrev pub tokens_from : ℕ → Place → List ℕ → List Placed
tokens_from skip at [] = []
tokens_from (suc skip) at (b ∷ bytes) = tokens_from skip (behind at b) bytes
tokens_from zero at (b ∷ bytes) =
    (front at (b ∷ bytes)).tokens ++ tokens_from ((front at (b ∷ bytes)).len - 1) (behind at b) bytes

-- the tokens of a text
abbrev pub tokens_of : List ℕ → List Placed
tokens_of text = tokens_from 0 start text
