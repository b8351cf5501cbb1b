-- How trees are built: what was wanted has been read, or cannot be.
use Rattle.std.specs.Prelude.{◌≡◌, ℕ, Bool, true, false, List, [], ◌∷◌, ◌++◌, Option, Some, None, map}
use Rattle.kernel_text.specs.declared.senses.Wanted.{Wanted}
use Rattle.kernel_text.specs.declared.senses.Wanted.TheVariants as wanted
use Rattle.kernel_text.specs.declared.tokens.Lexeme.{Lexeme}
use Rattle.kernel_text.specs.declared.tree.Stmt.{Stmt}
use Rattle.kernel_text.specs.Views.{with_statement}
use Rattle.kernel_text.specs.Trees.{done}
use Rattle.kernel_text.specs.Grammar.{statements, are_statements}
use Rattle.kernel_text.specs.Tokens.{Token, is_mark, is_word}
use Rattle.kernel_text.specs.Lexemes.{token_of}
use Rattle.kernel_text.specs.Readings.{Reading, read, may_end}

abbrev pub tokens_in : List Lexeme → List Token
tokens_in items = map (λ x. token_of x.token) items

abbrev pub first : List Token → Option Token
first [] = None
first (t ∷ ts) = Some t

abbrev pub goes_on : (List Wanted → Bool) → Option Reading → Bool
goes_on later None = false
goes_on later (Some r) = later r.wanted

-- whether tokens are in the grammar where this is wanted
unfoldable pub continues : List Token → List Wanted → Bool
continues [] behind = may_end behind
continues (t ∷ ts) behind = goes_on (continues ts) (read behind t (first ts))

-- This was wanted, and the tokens up to these have it.
abbrev pub Reads : List Wanted → List Token → List Token → Type 0
Reads behind ts us = (rest : List Wanted) → continues ts (behind ++ rest) ≡ continues us rest

-- The tokens do not begin with what was wanted.
abbrev pub Sticks : List Wanted → List Token → Type 0
Sticks behind ts = (rest : List Wanted) → continues ts (behind ++ rest) ≡ false

-- ---- kinds of tokens that are wanted

abbrev pub begins_with_word : List ℕ → List Token → Bool
begins_with_word text [] = false
begins_with_word text (t ∷ ts) = is_word text t

abbrev pub begins_with_mark : ℕ → List Token → Bool
begins_with_mark symbol [] = false
begins_with_mark symbol (t ∷ ts) = is_mark symbol t

abbrev pub wants_name : Wanted → Bool
wants_name (wanted.DeclaredName array) = true
wants_name wanted.SecondVariable = true
wants_name wanted.Counter = true
wants_name wanted.ArrayName = true
wants_name wanted.TableName = true
wants_name wanted.Operand = true
wants_name _ = false

abbrev pub wants_number : Wanted → Bool
wants_number wanted.Size = true
wants_number wanted.Value = true
wants_number wanted.TurnCount = true
wants_number wanted.Shift = true
wants_number _ = false

-- ---- a statement

abbrev pub spelled_statement : Stmt → List Token
spelled_statement s = statements (with_statement s done)

abbrev pub is_statement : Stmt → Bool
is_statement s = are_statements (with_statement s done)
