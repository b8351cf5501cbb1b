-- How the tokens of a text are read from left to right: what each token does where it stands, and what is wanted next.
-- Each phrase that can be wanted begins with a token, so that the token, and whether a bracket follows it, decides.
use Rattle.std.specs.Prelude.{ℕ, ◌-◌, Bool, true, false, ◌&&◌, if◌then◌else◌, List, [], ◌∷◌, ◌++◌, Option, Some, None, codes}
use Rattle.std.specs.List.{list_all, list_any}
use Rattle.std.specs.Option.{option_or}
use Rattle.std.specs.Str.{byte}
use Rattle.kernel_text.specs.declared.senses.Role.{Role}
use Rattle.kernel_text.specs.declared.senses.Role.TheVariants as role
use Rattle.kernel_text.specs.declared.senses.Wanted.{Wanted}
use Rattle.kernel_text.specs.declared.senses.Wanted.TheVariants as wanted
use Rattle.kernel_text.specs.Tokens.{Token, is_word, is_mark, is_name, is_number}

-- What a token does, whether a statement, an operator or a term begins with it, and what is wanted behind it.
pub record Reading : Type 0 where
  pub role : Role
  pub begins : Bool
  pub wanted : List Wanted

abbrev pub reading : Role → Bool → List Wanted → Option Reading
reading r begins behind = Some (record { role = r; begins = begins; wanted = behind })

-- ---- phrases

-- The expression may have so many levels: the first term as many, and each other one less.
abbrev pub expression : ℕ → List Wanted
expression room = wanted.Term room ∷ wanted.MoreTerms room ∷ []

abbrev pub bracketed : ℕ → List Wanted
bracketed room = wanted.Mark (byte "[") ∷ expression room ++ wanted.Mark (byte "]") ∷ []

abbrev pub deepest : ℕ
deepest = 4

abbrev pub value : List Wanted
value = expression deepest

abbrev pub index : List Wanted
index = bracketed deepest

abbrev pub comma : List Wanted
comma = wanted.Mark (byte ",") ∷ []

abbrev pub ending : List Wanted
ending = wanted.Mark (byte ";") ∷ []

abbrev pub sized : Bool → List Wanted
sized array = wanted.DeclaredName array ∷ wanted.Mark (byte "[") ∷ wanted.Size ∷ wanted.Mark (byte "]") ∷ []

abbrev pub operands : List Wanted
operands = wanted.Operand ∷ comma ++ wanted.Operand ∷ comma ++ wanted.Operand ∷ comma ++ wanted.Operand ∷ []

-- ---- tokens

abbrev pub is_operator : Token → Bool
is_operator t = list_any (λ b. is_mark b t) (codes "+-*&|^")

abbrev pub opens_bracket : Option Token → Bool
opens_bracket None = false
opens_bracket (Some t) = is_mark (byte "[") t

-- a reading with more behind what it wants
abbrev pub before : Option Reading → List Wanted → Option Reading
before None more = None
before (Some r) more = Some (record r { wanted = r.wanted ++ more })

-- ---- what the next token does where this is wanted, if it may stand there

-- a token that wants nothing behind it
abbrev pub only : Bool → Role → Option Reading
only fits r = if fits then reading r false [] else None

abbrev pub of_declarations : Token → Option Reading
of_declarations t =
    if is_word (codes "table") t then reading role.Plain false (sized false ++ wanted.Mark (byte "=") ∷ wanted.Value ∷ wanted.MoreValues ∷ ending ++ wanted.Declarations ∷ [])
    else (if is_word (codes "array") t then reading role.Plain false (sized true ++ ending ++ wanted.Declarations ∷ [])
    else None)

-- a statement, and the statements behind it
abbrev pub statement : Role → List Wanted → Option Reading
statement r behind = reading r true (behind ++ wanted.Statements ∷ [])

abbrev pub of_statements : Token → Option Token → Option Reading
of_statements t next =
    if is_name t && opens_bracket next then statement role.Writes (index ++ wanted.Mark (byte "=") ∷ value ++ ending)
    else (if is_name t then statement role.Assigns (wanted.BehindVariable ∷ [])
    else (if is_word (codes "print") t then statement role.Plain (value ++ ending)
    else (if is_word (codes "inc") t then statement role.Plain (wanted.ArrayName ∷ index ++ ending)
    else (if is_word (codes "min") t then statement role.Plain (wanted.ArrayName ∷ index ++ comma ++ value ++ ending)
    else (if is_word (codes "for") t then statement role.Plain (wanted.Counter ∷ wanted.Mark (byte "<") ∷ wanted.TurnCount ∷ wanted.Mark (byte "{") ∷ wanted.Statements ∷ wanted.ClosingBrace ∷ [])
    else None)))))

abbrev pub of_term : ℕ → Token → Option Token → Option Reading
of_term room t next =
    if is_number t then reading (role.ReadsNumber room) true []
    else (if is_name t && opens_bracket next then reading role.ReadsItem true (bracketed room)
    else (if is_name t then reading (role.ReadsVariable room) true []
    else (if is_mark (byte "(") t then reading role.Plain true (expression room ++ wanted.Mark (byte ")") ∷ [])
    else None)))

abbrev pub behind_variable : Token → Option Reading
behind_variable t =
    if is_mark (byte "=") t then reading role.Plain false (wanted.OneWord ∷ [])
    else (if is_mark (byte ",") t then reading role.Plain false (wanted.SecondVariable ∷ wanted.Mark (byte "=") ∷ wanted.TwoWords ∷ [])
    else None)

abbrev pub one_word : Token → Option Token → Option Reading
one_word t next =
    if is_word (codes "dot") t then reading role.Plain false (wanted.TableName ∷ index ++ comma ++ operands ++ ending)
    else before (of_term deepest t next) (wanted.MoreTerms deepest ∷ ending)

abbrev pub two_words : Token → Option Reading
two_words t =
    if is_word (codes "probe") t then reading role.Plain false (wanted.TableName ∷ index ++ comma ++ value ++ ending)
    else (if is_word (codes "hist") t then reading role.Plain false (wanted.TableName ∷ index ++ comma ++ wanted.Shift ∷ ending)
    else None)

abbrev pub more_values : Token → Option Reading
more_values t = if is_mark (byte ",") t then reading role.Plain false (wanted.Value ∷ wanted.MoreValues ∷ []) else None

abbrev pub more_terms : ℕ → Token → Option Reading
more_terms room t = if is_operator t then reading role.Plain true (wanted.Term (room - 1) ∷ wanted.MoreTerms room ∷ []) else None

abbrev pub of_wanted : Wanted → Token → Option Token → Option Reading
of_wanted (wanted.Mark b) t next = only (is_mark b t) role.Plain
of_wanted wanted.ClosingBrace t next = only (is_mark (byte "}") t) role.Leaves
of_wanted wanted.Declarations t next = of_declarations t
of_wanted (wanted.DeclaredName array) t next = only (is_name t) (role.Declares array)
of_wanted wanted.Size t next = only (is_number t) role.Sizes
of_wanted wanted.Value t next = only (is_number t) role.Gives
of_wanted wanted.MoreValues t next = more_values t
of_wanted wanted.Statements t next = of_statements t next
of_wanted wanted.BehindVariable t next = behind_variable t
of_wanted wanted.OneWord t next = one_word t next
of_wanted wanted.TwoWords t next = two_words t
of_wanted wanted.SecondVariable t next = only (is_name t) role.Assigns
of_wanted wanted.Counter t next = only (is_name t) role.Counts
of_wanted wanted.TurnCount t next = only (is_number t) role.Turns
of_wanted wanted.Shift t next = only (is_number t) role.Shifts
of_wanted wanted.ArrayName t next = only (is_name t) role.Writes
of_wanted wanted.TableName t next = only (is_name t) role.LooksUp
of_wanted wanted.Operand t next = only (is_name t) role.Passes
of_wanted (wanted.Term room) t next = of_term room t next
of_wanted (wanted.MoreTerms room) t next = more_terms room t

-- what may be left out
abbrev pub is_optional : Wanted → Bool
is_optional wanted.Declarations = true
is_optional wanted.MoreValues = true
is_optional wanted.Statements = true
is_optional (wanted.MoreTerms room) = true
is_optional _ = false

-- The reading of a token where these are wanted in order. There is none where the token does not continue the grammar.
abbrev pub read : List Wanted → Token → Option Token → Option Reading
read [] t next = None
read (w ∷ more) t next = option_or (before (of_wanted w t next) more) (if is_optional w then read more t next else None)

-- what a kernel is, and whether a text may end where these are wanted
abbrev pub a_kernel : List Wanted
a_kernel = wanted.Declarations ∷ wanted.Statements ∷ []

abbrev pub may_end : List Wanted → Bool
may_end behind = list_all is_optional behind
