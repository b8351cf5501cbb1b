-- The lines of the declarations that are left, one declaration after another.
use Rattle.std.proofs.Common.{◌≡◌, ℕ, ◌+◌, ◌*◌, ◌≤◌, List, [], ◌∷◌, ◌++◌, All, length, ap, sym, ◌∙◌, arith}
use Rattle.std.proofs.lemmas.List.Elements.{All-head, All-tail}
use Rattle.pei_types.specs.Program.{Listing}
use Rattle.kernel_text.specs.Sound.{IsRightDeclaration, words_in}
use Rattle.kernel_text.specs.Trees.{Declaration, table, array}
use Rattle.kernel_lang.specs.declared.declarations.Line.{Line}
use Rattle.kernel_lang.specs.Lines.{HaveValues, before, lines_behind, lines_from}

-- the declarations that are left have the words and the lines that are left, where the next name lies at `base`
abbrev pub AreLeft : Listing → List Declaration → ℕ → Line → Listing → List Declaration → Type 0
AreLeft first all base line p ds =
    (base + 8 * words_in ds ≡ 8 * words_in all)
    × (line.start + 8 * length line.words.items ≤ base)
    × HaveValues ds
    × All IsRightDeclaration ds
    × (p.lines ++ lines_behind line.start line.words.items (lines_from base ds) ≡ lines_from 0 all)
    × (record p { lines = [] } ≡ record first { lines = [] })

-- behind an array, which has no line
pub behind_array : (first : Listing) (all : List Declaration) (base : ℕ) (line : Line) (p : Listing) (name : List ℕ) (size : ℕ) (rest : List Declaration) → AreLeft first all base line p (array name size ∷ rest) → AreLeft first all (base + 8 * size) line p rest
behind_array first all base line p name size rest (words, reach, values, right, lines, same) =
    (omega (arith, words), omega (arith, reach), values, All-tail IsRightDeclaration (array name size) rest right, lines, same)

-- behind a table, whose values were put
pub behind_table : (first : Listing) (all : List Declaration) (base : ℕ) (line put : Line) (p q : Listing) (name : List ℕ) (size : ℕ) (values : List ℕ) (rest : List Declaration) → ((more : List (ℕ × List ℕ)) → q.lines ++ lines_behind put.start put.words.items more ≡ p.lines ++ lines_behind line.start line.words.items (before base values more)) → record q { lines = [] } ≡ record p { lines = [] } → put.start + 8 * length put.words.items ≡ base + 8 * length values → AreLeft first all base line p (table name size values ∷ rest) → AreLeft first all (base + 8 * size) put q rest
behind_table first all base line put p q name size values rest put_lines others end (words, reach, some, right, lines, same) =
    let few : length values ≤ size = (All-head IsRightDeclaration (table name size values) rest right).1
    in (
      omega (arith, words),
      omega (arith, end, few),
      some.1,
      All-tail IsRightDeclaration (table name size values) rest right,
      put_lines (lines_from (base + 8 * size) rest) ∙ lines,
      others ∙ same,
    )
