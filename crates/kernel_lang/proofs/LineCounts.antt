-- How many lines of words there are.
use Rattle.std.proofs.Common.{◌≡◌, ℕ, ◌+◌, ◌*◌, ◌^◌, ◌<◌, ◌≤◌, ◌==◌, Bool, true, false, if◌then◌else◌, List, [], ◌∷◌, ◌++◌, All, length, length-append, subst, sym, arith}
use Rattle.std.specs.List.{AllByRecursion}
use Rattle.std.proofs.lemmas.List.Elements.{recursion_from_All}
use Rattle.std.proofs.lemmas.Nat.{pow_pos}
use Rattle.kernel_text.specs.Sound.{IsSize, IsRightDeclaration, words_in}
use Rattle.kernel_text.specs.Trees.{Declaration, table, array, size_of}
use Rattle.kernel_lang.specs.Lines.{before, lines_from}

-- words before lines are at most one line more
one_more : (base : ℕ) (words : List ℕ) (lines : List (ℕ × List ℕ)) → length (before base words lines) ≤ 1 + length lines
one_more base words [] = omega arith
one_more base words (line ∷ rest) = by (base + 8 * length words == line.0)
  where
    by : (b : Bool) → length (if b then (base, words ++ line.1) ∷ rest else (base, words) ∷ line ∷ rest) ≤ 1 + length (line ∷ rest)
    by true = omega arith
    by false = omega arith

-- each declaration has at most one
pub at_most : (base : ℕ) (ds : List Declaration) → length (lines_from base ds) ≤ length ds
at_most base [] = omega arith
at_most base (table name size values ∷ rest) = omega (arith, one_more base values (lines_from (base + 8 * size) rest), at_most (base + 8 * size) rest)
at_most base (array name size ∷ rest) = omega (arith, at_most (base + 8 * size) rest)

a_word : (size : ℕ) → IsSize size → 0 < size
a_word size (e, low, high, is) = subst (λ n. 0 < n) (sym is) (pow_pos e)

-- each declared name has a word
some_words : (d : Declaration) → IsRightDeclaration d → 0 < size_of d
some_words (table name size values) right = a_word size right.0
some_words (array name size) right = a_word size right

-- so there are no more names than words
names_of_words : (ds : List Declaration) → AllByRecursion IsRightDeclaration ds → length ds ≤ words_in ds
names_of_words [] right = omega arith
names_of_words (d ∷ rest) right = omega (arith, some_words d right.0, names_of_words rest right.1)

-- and no more lines
pub lines_of_words : (base : ℕ) (ds : List Declaration) → All IsRightDeclaration ds → length (lines_from base ds) ≤ words_in ds
lines_of_words base ds right = omega (arith, at_most base ds, names_of_words ds (recursion_from_All IsRightDeclaration ds right))

-- so lines of which others may follow are few
pub few_lines : (base : ℕ) (ds : List Declaration) (lines more : List (ℕ × List ℕ)) → All IsRightDeclaration ds → words_in ds ≤ 32768 → lines ++ more ≡ lines_from base ds → length lines < 4294967295
few_lines base ds lines more right few is =
    let whole : length (lines ++ more) ≤ words_in ds = subst (λ ls. length ls ≤ words_in ds) (sym is) (lines_of_words base ds right)
    in omega (arith, few, whole, length-append lines more)
