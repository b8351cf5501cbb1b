-- Tokens that begin a statement or a declaration.
use Rattle.std.specs.Prelude.{Bool, false, ◌||◌, Option, Some, None, codes}
use Rattle.kernel_text.specs.Tokens.{Token, is_name, is_word}

abbrev pub begins_statement : Option Token → Bool
begins_statement None = false
begins_statement (Some t) = is_name t || is_word (codes "print") t || is_word (codes "inc") t || is_word (codes "min") t || is_word (codes "for") t

abbrev pub begins_declaration : Option Token → Bool
begins_declaration None = false
begins_declaration (Some t) = is_word (codes "table") t || is_word (codes "array") t
