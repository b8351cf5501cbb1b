-- The tokens that lexemes stand for.
use Rattle.asm_statements.specs.Tokens.{Token, name, comma, colon, star, stray, Placed, number_token}
use Rattle.asm_statements.specs.declared.tokens.Lexeme.{Lexeme}
use Rattle.asm_statements.specs.declared.tokens.Word.{Word}
use Rattle.asm_statements.specs.declared.tokens.Word.TheVariants as word

abbrev pub token_of : Word → Token
token_of (word.Name text) = name text.now
token_of (word.Number text) = number_token text.now
token_of word.Comma = comma
token_of word.Colon = colon
token_of word.Star = star
token_of word.Stray = stray

abbrev pub placed_of : Lexeme → Placed
placed_of x = record { column = x.column; token = token_of x.word }
