-- Where the declared names lie in memory, and which register has which variable.
use Rattle.std.specs.Prelude.{ℕ, ◌+◌, ◌*◌, ◌≤◌, Bool, true, false, not, List, [], ◌∷◌, length, Option, Some, None}
use Rattle.std.specs.List.{AllByRecursion, prefix_len}
use Rattle.std.specs.Map.{lookup}
use Rattle.std.specs.Str.{bytes_eq}
use Rattle.kernel_text.specs.Sound.{behind_statements}
use Rattle.kernel_text.specs.Trees.{Declaration, Kernel, table, array}
use Rattle.kernel_lang.specs.declared.homes.Home.{Home}

abbrev pub home_at : ℕ → ℕ → Bool → Home
home_at base size is_array = record { base = base; size = size; array = is_array }

-- the home of each declared name, where the first lies at this address: one behind the other, eight bytes a word
abbrev pub homes_from : ℕ → List Declaration → List (List ℕ × Home)
homes_from base [] = []
homes_from base (table name size values ∷ rest) = (name, home_at base size false) ∷ homes_from (base + 8 * size) rest
homes_from base (array name size ∷ rest) = (name, home_at base size true) ∷ homes_from (base + 8 * size) rest

-- Where all names are: those declared, and the variables in the order of their registers, which begin with register 0.
pub record Frame : Type 0 where
  pub homes : List (List ℕ × Home)
  pub variables : List (List ℕ)

abbrev pub frame_of : Kernel → Frame
frame_of k = record { homes = homes_from 0 k.declarations; variables = behind_statements [] k.statements }

abbrev pub or_nowhere : Option Home → Home
or_nowhere None = home_at 0 8 false
or_nowhere (Some home) = home

-- a sound kernel names nothing that is not declared
abbrev pub home_of : Frame → List ℕ → Home
home_of f name = or_nowhere (lookup (bytes_eq name) f.homes)

-- how many names stand before this one
abbrev pub place_among : List (List ℕ) → List ℕ → ℕ
place_among names name = prefix_len (λ other. not (bytes_eq name other)) names

-- the register of a variable
abbrev pub register_of : Frame → List ℕ → ℕ
register_of f name = place_among f.variables name

-- its size is among those that a name may have, and its words are among the first 32,768
abbrev pub IsInReach : Home → Type 0
IsInReach home = (8 ≤ home.size) × (home.size ≤ 4096) × (home.base + 8 * home.size ≤ 262144)

-- few variables, and homes in reach
pub record FitsRegisters (f : Frame) : Type 0 where
  pub few : length f.variables ≤ 8
  pub reach : AllByRecursion (λ (e : List ℕ × Home). IsInReach e.1) f.homes
