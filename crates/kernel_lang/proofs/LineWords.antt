-- The words that the lines of a kernel's program give are the words of its declared names.
use Rattle.std.proofs.Common.{◌≡◌, ◌≢◌, ℕ, zero, suc, ◌+◌, ◌-◌, ◌*◌, ◌<◌, ◌≤◌, Bool, true, false, ◌==◌, eqb, if◌then◌else◌, List, [], ◌∷◌, ◌++◌, length, get_or, replicate, flat_map, find, None, refl, sym, ap, ◌∙◌, ⊎_elim, append_assoc, length-append, arith}
use Rattle.std.specs.List.{AllByRecursion}
use Rattle.std.proofs.lemmas.Bool.Decides.{nat_tests}
use Rattle.std.proofs.lemmas.Bool.{cases_lt}
use Rattle.std.proofs.lemmas.List.{get_or_append_left, get_or-append_right, get_or-replicate, length-replicate}
use Rattle.pei_types.specs.Image.{Given, word_in, words_from, words_of_line}
use Rattle.kernel_text.specs.Sound.{IsRightDeclaration}
use Rattle.kernel_text.specs.Trees.{Declaration, table, array, size_of}
use Rattle.kernel_lang.specs.Lines.{before, lines_from}
use Rattle.kernel_lang.specs.Meaning.{initial_words}

-- ---- the words of one line

-- the words of two lists, one behind the other
words_from-append : (a : ℕ) (xs ys : List ℕ) → words_from a (xs ++ ys) ≡ words_from a xs ++ words_from (a + 8 * length xs) ys
words_from-append a [] ys = ap (λ n. words_from n ys) (omega arith)
words_from-append a (x ∷ xs) ys =
    ap (λ gs. (a, x) ∷ gs) (words_from-append (a + 8) xs ys ∙ ap (λ n. words_from (a + 8) xs ++ words_from n ys) (omega arith))

differs : (x y : ℕ) → x ≢ y → eqb x y ≡ false
differs x y h = grind (arith, nat_tests)

same : (x y : ℕ) → x ≡ y → eqb x y ≡ true
same x y h = grind (arith, nat_tests)

-- a word of a line is found
found_here : (a i : ℕ) (words : List ℕ) (others : List Given) → i < length words → word_in (find (λ g. g.0 == a + 8 * i) (words_from a words ++ others)) ≡ get_or words i 0
found_here a i [] others h = absurd (omega (arith, h))
found_here a zero (w ∷ words) others h = rw (same a (a + 8 * 0) (omega arith)) refl
found_here a (suc i) (w ∷ words) others h =
    rw (differs a (a + 8 * suc i) (omega arith))
    (ap (λ n. word_in (find (λ g. g.0 == n) (words_from (a + 8) words ++ others))) (omega arith) ∙ found_here (a + 8) i words others (omega (arith, h)))

-- none of them is below the line, or behind it
passed_below : (a n : ℕ) (words : List ℕ) (others : List Given) → n < a → find (λ g. g.0 == n) (words_from a words ++ others) ≡ find (λ g. g.0 == n) others
passed_below a n [] others h = refl
passed_below a n (w ∷ words) others h = rw (differs a n (omega arith)) (passed_below (a + 8) n words others (omega arith))

passed_behind : (a n : ℕ) (words : List ℕ) (others : List Given) → a + 8 * length words ≤ n → find (λ g. g.0 == n) (words_from a words ++ others) ≡ find (λ g. g.0 == n) others
passed_behind a n [] others h = refl
passed_behind a n (w ∷ words) others h = rw (differs a n (omega arith)) (passed_behind (a + 8) n words others (omega arith))

-- ---- the words of all lines

given_by : List (ℕ × List ℕ) → List Given
given_by lines = flat_map words_of_line lines

-- lines that are joined give the same words
given_before : (base : ℕ) (words : List ℕ) (lines : List (ℕ × List ℕ)) → given_by (before base words lines) ≡ words_from base words ++ given_by lines
unfolding given_by
given_before base words [] = refl
given_before base words (line ∷ lines) = by (base + 8 * length words == line.0) refl
  where
    equal : (x y : ℕ) → eqb x y ≡ true → x ≡ y
    equal x y h = grind (arith, nat_tests)

    by : (b : Bool) → (base + 8 * length words == line.0) ≡ b
        → given_by (if b then (base, words ++ line.1) ∷ lines else (base, words) ∷ line ∷ lines) ≡ words_from base words ++ (words_from line.0 line.1 ++ given_by lines)
    by true e =
        ap (λ gs. gs ++ given_by lines) (words_from-append base words line.1 ∙ ap (λ n. words_from base words ++ words_from n line.1) (equal _ _ e))
        ∙ append_assoc (words_from base words) (words_from line.0 line.1) (given_by lines)
    by false e = refl

-- no word is given below the first declared name
none_below : (base n : ℕ) (ds : List Declaration) → n < base → find (λ g. g.0 == n) (given_by (lines_from base ds)) ≡ None
unfolding given_by
none_below base n [] h = refl
none_below base n (table name size values ∷ ds) h =
    rw (given_before base values (lines_from (base + 8 * size) ds))
    (passed_below base n values (given_by (lines_from (base + 8 * size) ds)) h ∙ none_below (base + 8 * size) n ds (omega arith))
none_below base n (array name size ∷ ds) h = none_below (base + 8 * size) n ds (omega arith)

-- a declared name has as many words as its size
pub length-initial_words : (d : Declaration) → IsRightDeclaration d → length (initial_words d) ≡ size_of d
length-initial_words (table name size values) right =
    let all = length-append values (replicate (size - length values) 0)
    in let zeros = length-replicate {A = ℕ} (size - length values) 0
    in omega (arith, all, zeros, right.1)
length-initial_words (array name size) right = length-replicate size 0

-- the word at a place behind the first name
behind_first : (base i : ℕ) (d : Declaration) (ds : List Declaration) → IsRightDeclaration d → size_of d ≤ i
    → word_in (find (λ g. g.0 == (base + 8 * size_of d) + 8 * (i - size_of d)) (given_by (lines_from (base + 8 * size_of d) ds))) ≡ get_or (flat_map initial_words ds) (i - size_of d) 0
    → word_in (find (λ g. g.0 == base + 8 * i) (given_by (lines_from (base + 8 * size_of d) ds))) ≡ get_or (initial_words d ++ flat_map initial_words ds) i 0
behind_first base i d ds right h later =
    ap (λ n. word_in (find (λ g. g.0 == n) (given_by (lines_from (base + 8 * size_of d) ds)))) (omega (arith, h)) ∙ later
    ∙ sym (get_or-append_right (initial_words d) (flat_map initial_words ds) (size_of d) i 0 (length-initial_words d right) h)

-- a place of the first name behind the values of its table
zeros_behind : (values rest : List ℕ) (count i : ℕ) → length values ≤ i → i < length values + count → get_or ((values ++ replicate count 0) ++ rest) i 0 ≡ 0
zeros_behind values rest count i low high =
    let zeros = length-replicate {A = ℕ} count 0
    in let all = length-append values (replicate count 0)
    in get_or_append_left (values ++ replicate count 0) rest 0 i (omega (arith, all, zeros))
    ∙ get_or-append_right values (replicate count 0) (length values) i 0 refl low
    ∙ get_or-replicate count (i - length values) 0 0 (omega arith)

-- the words of the declared names, where the first lies at this address
pub declared_words : (base i : ℕ) (ds : List Declaration) → AllByRecursion IsRightDeclaration ds
    → word_in (find (λ g. g.0 == base + 8 * i) (flat_map words_of_line (lines_from base ds))) ≡ get_or (flat_map initial_words ds) i 0
unfolding given_by
declared_words base i [] all = refl
declared_words base i (table name size values ∷ ds) all =
    ap (λ gs. word_in (find (λ g. g.0 == base + 8 * i) gs)) (given_before base values (lines_from (base + 8 * size) ds))
    ∙ ⊎_elim
    (λ (h : i < length values).
    found_here base i values others h
    ∙ sym (get_or_append_left (initial_words (table name size values)) (flat_map initial_words ds) 0 i (omega (arith, all_words, h, all.0.1))
    ∙ get_or_append_left values zeros 0 i h))
    (λ (h : length values ≤ i). ap word_in (passed_behind base (base + 8 * i) values others (omega (arith, h))) ∙ ⊎_elim (λ l. before_end h l) (later (declared_words (base + 8 * size) (i - size) ds all.1)) (cases_lt i size))
    (cases_lt i (length values))
  where
    others : List Given
    others = given_by (lines_from (base + 8 * size) ds)

    zeros : List ℕ
    zeros = replicate (size - length values) 0

    all_words : length (initial_words (table name size values)) ≡ size
    all_words = length-initial_words (table name size values) all.0

    before_end : length values ≤ i → i < size → word_in (find (λ g. g.0 == base + 8 * i) others) ≡ get_or ((values ++ zeros) ++ flat_map initial_words ds) i 0
    before_end low high =
        ap word_in (none_below (base + 8 * size) (base + 8 * i) ds (omega (arith, high)))
        ∙ sym (zeros_behind values (flat_map initial_words ds) (size - length values) i low (omega (arith, all.0.1, high)))

    later : word_in (find (λ g. g.0 == (base + 8 * size) + 8 * (i - size)) others) ≡ get_or (flat_map initial_words ds) (i - size) 0
        → size ≤ i → word_in (find (λ g. g.0 == base + 8 * i) others) ≡ get_or ((values ++ zeros) ++ flat_map initial_words ds) i 0
    later found h = behind_first base i (table name size values) ds all.0 h found
declared_words base i (array name size ∷ ds) all = ⊎_elim before_end (later (declared_words (base + 8 * size) (i - size) ds all.1)) (cases_lt i size)
  where
    others : List Given
    others = given_by (lines_from (base + 8 * size) ds)

    before_end : i < size → word_in (find (λ g. g.0 == base + 8 * i) others) ≡ get_or (replicate size 0 ++ flat_map initial_words ds) i 0
    before_end high =
        ap word_in (none_below (base + 8 * size) (base + 8 * i) ds (omega (arith, high)))
        ∙ sym (zeros_behind [] (flat_map initial_words ds) size i (omega arith) (omega (arith, high)))

    later : word_in (find (λ g. g.0 == (base + 8 * size) + 8 * (i - size)) others) ≡ get_or (flat_map initial_words ds) (i - size) 0
        → size ≤ i → word_in (find (λ g. g.0 == base + 8 * i) others) ≡ get_or (replicate size 0 ++ flat_map initial_words ds) i 0
    later found h = behind_first base i (array name size) ds all.0 h found
