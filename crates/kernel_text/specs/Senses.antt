-- Senses of tokens, as readings.
use Rattle.std.specs.Prelude.{List, Option, Some, None}
use Rattle.kernel_text.specs.declared.senses.Sense.{Sense}
use Rattle.kernel_text.specs.declared.senses.Wanted.{Wanted}
use Rattle.kernel_text.specs.declared.tokens.Token as declared
use Rattle.kernel_text.specs.Tokens.{Token}
use Rattle.kernel_text.specs.Lexemes.{token_of}
use Rattle.kernel_text.specs.Readings.{Reading}

abbrev pub reading_of : Sense → List Wanted → Reading
reading_of s behind = record { role = s.role; begins = s.begins; wanted = behind }

-- the reading, if there is one, where all of this is wanted behind it
abbrev pub taken : Option Sense → List Wanted → Option Reading
taken None behind = None
taken (Some s) behind = Some (reading_of s behind)

abbrev pub next_token : Option declared.Token → Option Token
next_token None = None
next_token (Some t) = Some (token_of t)
