-- The first fault of a kernel's text.
use Rattle.std.specs.Prelude.{ℕ, ◌+◌, Bool, false, not, ◌&&◌, ◌||◌, ◌==◌, nat_lt, if◌then◌else◌, List, [], ◌∷◌, length, find, Option, Some, None, option_map, is_some}
use Rattle.std.specs.List.{list_any}
use Rattle.std.specs.Option.{option_or}
use Rattle.kernel_text.specs.declared.faults.KernelFault.{KernelFault}
use Rattle.kernel_text.specs.declared.faults.KernelKind.{KernelKind}
use Rattle.kernel_text.specs.declared.faults.KernelKind.TheVariants as kind
use Rattle.kernel_text.specs.declared.places.Place.{Place}
use Rattle.kernel_text.specs.declared.senses.Role.{Role}
use Rattle.kernel_text.specs.declared.senses.Role.TheVariants as role
use Rattle.kernel_text.specs.Tokens.{Token, Placed, text_of, value_of, tokens_of, end_of}
use Rattle.kernel_text.specs.Characters.{fault_at, first_character_fault}
use Rattle.kernel_text.specs.Readings.{Reading, read, may_end}
use Rattle.kernel_text.specs.Known.{Known, at_start, kind_of, is_in, opens, count_of, sets, known_after}

-- ---- the kinds: whether each applies to a token with this role

-- the seventeenth open bracket
abbrev pub is_too_nested : ℕ → Token → Bool
is_too_nested brackets t = opens t && not (nat_lt brackets 16)

abbrev pub is_declared : Option Bool → Bool
is_declared declared = is_some declared

abbrev pub is_array : Option Bool → Bool
is_array None = false
is_array (Some array) = array

abbrev pub is_table : Option Bool → Bool
is_table None = false
is_table (Some array) = not array

-- `declared` is the kind of the name, if it is declared, and `variable` tells whether it is a variable that is known
abbrev pub is_double_name : Role → Option Bool → Bool
is_double_name (role.Declares array) declared = is_declared declared
is_double_name _ declared = false

abbrev pub is_unknown_name : Option Bool → Bool → Bool
is_unknown_name declared variable = not (is_declared declared) && not variable

abbrev pub is_unknown : Role → Option Bool → Bool → Bool
is_unknown (role.ReadsVariable room) declared variable = is_unknown_name declared variable
is_unknown role.ReadsItem declared variable = is_unknown_name declared variable
is_unknown role.Passes declared variable = is_unknown_name declared variable
is_unknown _ declared variable = false

abbrev pub is_wrong_kind : Role → Option Bool → Bool → Bool
is_wrong_kind role.Writes declared variable = not (is_array declared)
is_wrong_kind role.LooksUp declared variable = not (is_table declared)
is_wrong_kind role.ReadsItem declared variable = variable
is_wrong_kind (role.ReadsVariable room) declared variable = is_declared declared
is_wrong_kind role.Passes declared variable = is_declared declared
is_wrong_kind role.Assigns declared variable = is_declared declared
is_wrong_kind role.Counts declared variable = is_declared declared
is_wrong_kind _ declared variable = false

abbrev pub is_loop_variable : Role → List (List ℕ) → List ℕ → Bool
is_loop_variable r loops name = sets r && is_in loops name

-- the ninth variable
abbrev pub is_one_variable_too_many : Role → List (List ℕ) → List ℕ → Bool
is_one_variable_too_many r variables name = sets r && not (is_in variables name) && not (nat_lt (length variables) 8)

abbrev pub sizes_allowed : List ℕ
sizes_allowed = 8 ∷ 16 ∷ 32 ∷ 64 ∷ 128 ∷ 256 ∷ 512 ∷ 1024 ∷ 2048 ∷ 4096 ∷ []

abbrev pub is_bad_size : Role → ℕ → Bool
is_bad_size role.Sizes n = not (list_any (λ size. size == n) sizes_allowed)
is_bad_size role.Turns n = nat_lt n 1 || nat_lt 1000000 n
is_bad_size role.Shifts n = nat_lt 24 n
is_bad_size _ n = false

abbrev pub is_one_value_too_many : Role → (values size : ℕ) → Bool
is_one_value_too_many role.Gives values size = not (nat_lt values size)
is_one_value_too_many _ values size = false

abbrev pub has_too_many_words : Role → (words n : ℕ) → Bool
has_too_many_words role.Sizes words n = nat_lt 32768 (words + n)
has_too_many_words _ words n = false

-- a number or a variable is a level by itself
abbrev pub is_too_deep : Role → Bool
is_too_deep (role.ReadsNumber room) = room == 0
is_too_deep (role.ReadsVariable room) = room == 0
is_too_deep _ = false

abbrev pub is_too_long : ℕ → Bool → Bool
is_too_long begun begins = nat_lt 4000 (begun + count_of begins)

-- the kinds in the order in which a token that continues the grammar is tried for them
abbrev pub trials : Known → Reading → Token → List (KernelKind × Bool)
trials k r t =
    (kind.TooNested, is_too_nested k.brackets t)
    ∷ (kind.DoubleName, is_double_name r.role (kind_of k.declared (text_of t)))
    ∷ (kind.Unknown, is_unknown r.role (kind_of k.declared (text_of t)) (is_in k.variables (text_of t)))
    ∷ (kind.WrongKind, is_wrong_kind r.role (kind_of k.declared (text_of t)) (is_in k.variables (text_of t)))
    ∷ (kind.LoopVariable, is_loop_variable r.role k.loops (text_of t))
    ∷ (kind.TooManyVariables, is_one_variable_too_many r.role k.variables (text_of t))
    ∷ (kind.BadSize, is_bad_size r.role (value_of t))
    ∷ (kind.TooManyValues, is_one_value_too_many r.role k.values k.size)
    ∷ (kind.TooManyWords, has_too_many_words r.role k.words (value_of t))
    ∷ (kind.TooDeep, is_too_deep r.role)
    ∷ (kind.TooLong, is_too_long k.begun r.begins)
    ∷ []

abbrev pub kind_of_trials : List (KernelKind × Bool) → Option KernelKind
kind_of_trials trials = option_map (λ trial. trial.0) (find (λ trial. trial.1) trials)

-- ---- the first fault

abbrev pub next_of : List Placed → Option Token
next_of [] = None
next_of (t ∷ rest) = Some t.token

-- the fault of a token that continues the grammar as read
abbrev pub fault_of_token : Known → Placed → Reading → Option KernelFault
fault_of_token k t r = option_map (fault_at t.place) (kind_of_trials (trials k r t.token))

-- what comes behind a token: its own fault, or that of a later one
abbrev pub behind_token : Known → Placed → (Known → Option KernelFault) → Option Reading → Option KernelFault
behind_token k t later None = Some (fault_at t.place kind.Syntax)
behind_token k t later (Some r) = option_or (fault_of_token k t r) (later (known_after k r t.token))

-- the first fault of some tokens, of which the last ends at this place
abbrev pub first_token_fault : Place → List Placed → Known → Option KernelFault
first_token_fault end [] k = if may_end k.wanted then None else Some (fault_at end kind.Syntax)
first_token_fault end (t ∷ rest) k =
    behind_token k t (first_token_fault end rest) (read k.wanted t.token (next_of rest))

-- The first fault of a text: the first of its characters and numbers, and else that of its first token with one.
abbrev pub first_fault : List ℕ → Option KernelFault
first_fault text = option_or (first_character_fault (tokens_of text)) (first_token_fault (end_of text) (tokens_of text) at_start)
