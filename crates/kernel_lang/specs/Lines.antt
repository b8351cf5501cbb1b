-- The lines of initial words: the values of the tables.
use Rattle.std.specs.Prelude.{ℕ, ◌+◌, ◌*◌, ◌<◌, ◌==◌, ⊤, if◌then◌else◌, List, [], ◌∷◌, ◌++◌, length}
use Rattle.kernel_text.specs.Trees.{Declaration, table, array}

-- words before lines: one line with the first, where they end at its address
abbrev pub before : ℕ → List ℕ → List (ℕ × List ℕ) → List (ℕ × List ℕ)
before base words [] = (base, words) ∷ []
before base words (line ∷ rest) = if base + 8 * length words == line.0 then (base, words ++ line.1) ∷ rest else (base, words) ∷ line ∷ rest

-- the values of the tables, where the first declared name lies at this address
abbrev pub lines_from : ℕ → List Declaration → List (ℕ × List ℕ)
lines_from base [] = []
lines_from base (table name size values ∷ rest) = before base values (lines_from (base + 8 * size) rest)
lines_from base (array name size ∷ rest) = lines_from (base + 8 * size) rest

-- a line on the way, if it has words, before others
abbrev pub lines_behind : ℕ → List ℕ → List (ℕ × List ℕ) → List (ℕ × List ℕ)
lines_behind start [] more = more
lines_behind start (w ∷ words) more = before start (w ∷ words) more

-- each table has values
abbrev pub HaveValues : List Declaration → Type 0
HaveValues [] = ⊤
HaveValues (table name size values ∷ rest) = (0 < length values) × HaveValues rest
HaveValues (array name size ∷ rest) = HaveValues rest
