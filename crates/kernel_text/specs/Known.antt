-- What is known of a kernel's text where a token stands, and what is known behind it.
use Rattle.std.specs.Prelude.{ℕ, ◌+◌, ◌-◌, Bool, true, false, ◌||◌, if◌then◌else◌, List, [], ◌∷◌, ◌++◌, length, take, Option}
use Rattle.std.specs.List.{list_any}
use Rattle.std.specs.Map.{lookup}
use Rattle.std.specs.Str.{byte, bytes_eq}
use Rattle.kernel_text.specs.declared.senses.Role.{Role}
use Rattle.kernel_text.specs.declared.senses.Role.TheVariants as role
use Rattle.kernel_text.specs.declared.senses.Wanted.{Wanted}
use Rattle.kernel_text.specs.Tokens.{Token, is_mark, text_of, value_of}
use Rattle.kernel_text.specs.Readings.{Reading, a_kernel}

-- What is wanted; the names that are declared, and whether each is an array; the size of the last of them, how many
-- numbers it has, and all sizes together; the variables that were assigned or counted, and those of the loops around;
-- how many brackets are open; and how many statements, operators and terms have begun.
pub record Known : Type 0 where
  pub wanted : List Wanted
  pub declared : List (List ℕ × Bool)
  pub size : ℕ
  pub values : ℕ
  pub words : ℕ
  pub variables : List (List ℕ)
  pub loops : List (List ℕ)
  pub brackets : ℕ
  pub begun : ℕ

abbrev pub at_start : Known
at_start = record { wanted = a_kernel; declared = []; size = 0; values = 0; words = 0; variables = []; loops = []; brackets = 0; begun = 0 }

-- ---- names

-- whether the name is that of an array, if it is declared
abbrev pub kind_of : List (List ℕ × Bool) → List ℕ → Option Bool
kind_of declared name = lookup (bytes_eq name) declared

abbrev pub is_in : List (List ℕ) → List ℕ → Bool
is_in names name = list_any (bytes_eq name) names

-- ---- brackets and parts

abbrev pub opens : Token → Bool
opens t = is_mark (byte "[") t || is_mark (byte "(") t || is_mark (byte "{") t

abbrev pub closes : Token → Bool
closes t = is_mark (byte "]") t || is_mark (byte ")") t || is_mark (byte "}") t

abbrev pub count_of : Bool → ℕ
count_of b = if b then 1 else 0

-- a variable is assigned or counted
abbrev pub sets : Role → Bool
sets role.Assigns = true
sets role.Counts = true
sets _ = false

-- ---- behind a token

abbrev pub declared_after : List (List ℕ × Bool) → Role → List ℕ → List (List ℕ × Bool)
declared_after declared (role.Declares array) name = declared ++ (name, array) ∷ []
declared_after declared _ name = declared

abbrev pub size_after : ℕ → Role → ℕ → ℕ
size_after size role.Sizes n = n
size_after size _ n = size

abbrev pub values_after : ℕ → Role → ℕ
values_after values role.Sizes = 0
values_after values role.Gives = values + 1
values_after values _ = values

abbrev pub words_after : ℕ → Role → ℕ → ℕ
words_after words role.Sizes n = words + n
words_after words _ n = words

abbrev pub with_name : List (List ℕ) → List ℕ → List (List ℕ)
with_name names name = if is_in names name then names else names ++ name ∷ []

abbrev pub variables_after : List (List ℕ) → Role → List ℕ → List (List ℕ)
variables_after variables r name = if sets r then with_name variables name else variables

-- the innermost loop is the last
abbrev pub loops_after : List (List ℕ) → Role → List ℕ → List (List ℕ)
loops_after loops role.Counts name = loops ++ name ∷ []
loops_after loops role.Leaves name = take (length loops - 1) loops
loops_after loops _ name = loops

abbrev pub known_after : Known → Reading → Token → Known
known_after k r t =
    record {
      wanted = r.wanted;
      declared = declared_after k.declared r.role (text_of t);
      size = size_after k.size r.role (value_of t);
      values = values_after k.values r.role;
      words = words_after k.words r.role (value_of t);
      variables = variables_after k.variables r.role (text_of t);
      loops = loops_after k.loops r.role (text_of t);
      brackets = k.brackets + count_of (opens t) - count_of (closes t);
      begun = k.begun + count_of r.begins;
    }
