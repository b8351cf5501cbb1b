-- The tokens that lexemes stand for.
use Rattle.std.specs.Prelude.{◌≡◌, ℕ, ◌<◌, ◌≤◌, List, [], ◌∷◌, length, Option, Some, None, nat_lt, ◌+◌, ◌^◌, fold, take, slice_index, if◌then◌else◌}
use Rattle.kernel_text.specs.declared.places.Place.{Place}
use Rattle.kernel_text.specs.declared.tokens.Lexeme.{Lexeme}
use Rattle.kernel_text.specs.declared.tokens.Token as declared
use Rattle.kernel_text.specs.declared.tokens.Token.TheVariants as code
use Rattle.kernel_text.specs.Tokens.{Token, word, number, mark, Placed, is_line_feed, at_column, behind, front}
use Rattle.kernel_text.specs.Characters.{first_character_fault}

abbrev pub token_of : declared.Token → Token
token_of (code.Word text) = word text.now
token_of (code.Number value) = number value
token_of (code.Mark symbol) = mark symbol

abbrev pub placed_of : Lexeme → Placed
placed_of x = record { place = x.place; token = token_of x.token }

abbrev pub found : Place → Option declared.Token → List Placed
found at None = []
found at (Some t) = record { place = at; token = token_of t } ∷ []

-- the place behind what begins with this byte and takes so many: a line feed, or a part of a line
abbrev pub place_behind : Place → ℕ → ℕ → Place
place_behind at first len = if is_line_feed first then record { line = at.line + 1; column = 1 } else at_column at len

-- This token, or none, stands first in the bytes, and takes so many of them; no character of it is at fault, and it has
-- no line feed in it unless it is one.
pub record StandsFirst (at : Place) (bytes : List ℕ) (t : Option declared.Token) (len : ℕ) : Type 0 where
  pub tokens : (front at bytes).tokens ≡ found at t
  pub takes : (front at bytes).len ≡ len
  pub some : 0 < len
  pub within : len ≤ length bytes
  pub sound : first_character_fault (front at bytes).tokens ≡ None
  pub ends : fold behind at (take len bytes) ≡ place_behind at (slice_index bytes 0) len

-- a number, where it is below 2^64
abbrev pub below_two_to_64 : ℕ → Option ℕ
below_two_to_64 n = if nat_lt n (2 ^ 64) then Some n else None
