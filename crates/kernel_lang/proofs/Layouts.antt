-- A kernel's program has the kernel's layout, and loads exactly where memory holds all declared words.
use Rattle.std.proofs.Common.{◌≡◌, ℕ, ◌+◌, ◌*◌, ◌%◌, ◌<◌, ◌≤◌, Bool, true, false, not, ◌&&◌, ◌||◌, ◌==◌, eqb, nat_lt, if◌then◌else◌, List, [], ◌∷◌, ◌++◌, length, get_or, flat_map, map, find, Option, Some, None, is_none, option_map, refl, sym, ap, ◌∙◌, subst, length-append, arith}
use Rattle.std.specs.Prelude.{⊤}
use Rattle.std.specs.List.{AllByRecursion, list_any, range_with_len}
use Rattle.std.proofs.lemmas.Bool.Decides.{nat_tests}
use Rattle.std.proofs.lemmas.List.Elements.{recursion_from_All}
use Rattle.pei_types.proofs.Lists.{each_append, each_weaker}
use Rattle.pei_types.specs.declared.identifiers.CoreId.{CoreId}
use Rattle.pei_types.specs.declared.machines.MachineSpec.{MachineSpec}
use Rattle.pei_types.specs.Image.{Given, LoadRefusal, NoEntry, ShowOutOfRange, asks_refusal, entry_refusal, first_word_refusal, initial_word, lines_refusal, load_refusal, or_then, range_refusal, words_from, words_of_line}
use Rattle.pei_types.specs.Program.{entry_of_core}
use Rattle.kernel_text.specs.Sound.{IsRightDeclaration, IsSound, words_in}
use Rattle.kernel_text.specs.Trees.{Declaration, table, array, size_of, Kernel}
use Rattle.kernel_lang.specs.Layout.{IsLaidOut, all_words, sums_from}
use Rattle.kernel_lang.specs.Lines.{before, lines_from}
use Rattle.kernel_lang.specs.Meaning.{initial_words}
use Rattle.kernel_lang.specs.Programs.{program_of}
use Rattle.kernel_lang.proofs.LineWords.{declared_words, length-initial_words}

-- ---- refusals

-- without a first, the next decides
none_first : (r next : Option LoadRefusal) → r ≡ None → or_then r next ≡ next
none_first r next e = ap (λ o. or_then o next) e

-- where neither is refused, the first is not
first_none : (r next : Option LoadRefusal) → or_then r next ≡ None → r ≡ None
first_none None next h = refl
first_none (Some x) next h = absurd (cc h)

-- ---- lines that go up, aligned and within memory, have no fault

-- each line begins at this address or behind it, and behind the line before it
IsClear : ℕ → ℕ → List (ℕ × List ℕ) → Type 0
IsClear blocks start [] = ⊤
IsClear blocks start (line ∷ lines) = (start ≤ line.0) × (line.0 % 8 ≡ 0) × (line.0 + 8 * length line.1 ≤ 64 * blocks) × IsClear blocks (line.0 + 8 * length line.1) lines

-- all of these words are below an address
AreBelow : ℕ → List Given → Type 0
AreBelow n gs = AllByRecursion (λ (g : Given). g.0 < n) gs

-- an address above all words is none's
free : (n : ℕ) (gs : List Given) → AreBelow n gs → list_any (λ (g : Given). g.0 == n) gs ≡ false
unfolding AreBelow
free n [] h = refl
free n (g ∷ gs) h = rw (other g.0 n h.0) (free n gs h.1)
  where
    other : (x y : ℕ) → x < y → eqb x y ≡ false
    other x y h = grind (arith, nat_tests)

-- words below an address are below a higher one
below_more : (less most : ℕ) (gs : List Given) → less ≤ most → AreBelow less gs → AreBelow most gs
unfolding AreBelow
below_more less most gs le h = each_weaker (λ (g : Given). g.0 < less) (λ (g : Given). g.0 < most) (λ g l. omega (arith, l, le)) gs h

-- the words of a line are below its end
words_below : (a : ℕ) (words : List ℕ) → AreBelow (a + 8 * length words) (words_from a words)
unfolding AreBelow
words_below a [] = tt
words_below a (w ∷ words) = (omega arith, subst (λ n. AreBelow n (words_from (a + 8) words)) (omega arith) (words_below (a + 8) words))

-- words before a line, and those of the line
all_below : (a : ℕ) (earlier : List Given) (words : List ℕ) → AreBelow a earlier → AreBelow (a + 8 * length words) (earlier ++ words_from a words)
unfolding AreBelow
all_below a earlier words h =
    each_append (λ (g : Given). g.0 < a + 8 * length words) earlier (words_from a words) (below_more a (a + 8 * length words) earlier (omega arith) h) (words_below a words)

-- no word lies before the first line
none_yet : AreBelow 0 []
unfolding AreBelow
none_yet = tt

-- the words of one line have no fault
clear_words : (blocks a : ℕ) (words : List ℕ) (earlier : List Given) → a + 8 * length words ≤ 64 * blocks → AreBelow a earlier → first_word_refusal blocks earlier (words_from a words) ≡ None
clear_words blocks a [] earlier inside below = refl
clear_words blocks a (w ∷ words) earlier inside below =
    rw (inner a (64 * blocks) (omega arith), free a earlier below)
    (clear_words blocks (a + 8) words earlier (omega (arith, inside)) (below_more a (a + 8) earlier (omega arith) below))
  where
    inner : (x y : ℕ) → x < y → nat_lt x y ≡ true
    inner x y h = grind (arith, nat_tests)

-- nor have all lines
clear_lines : (blocks start : ℕ) (earlier : List Given) (lines : List (ℕ × List ℕ)) → AreBelow start earlier → IsClear blocks start lines → lines_refusal blocks earlier lines ≡ None
unfolding IsClear
clear_lines blocks start earlier [] below clear = refl
clear_lines blocks start earlier (line ∷ lines) below clear =
    let here = below_more start line.0 earlier clear.0 below
    in rw (aligned line.0 clear.1, clear_words blocks line.0 line.1 earlier clear.2 here)
    (clear_lines blocks (line.0 + 8 * length line.1) (earlier ++ words_of_line line) lines (all_below line.0 earlier line.1 here) clear.3)
  where
    aligned : (x : ℕ) → x % 8 ≡ 0 → eqb (x % 8) 0 ≡ true
    aligned x h = grind (arith, nat_tests)

-- ---- the lines of a kernel

-- what is clear from an address on is so from a lower one on
clear_lower : (blocks low start : ℕ) (lines : List (ℕ × List ℕ)) → low ≤ start → IsClear blocks start lines → IsClear blocks low lines
unfolding IsClear
clear_lower blocks low start [] le clear = tt
clear_lower blocks low start (line ∷ lines) le clear = (omega (arith, clear.0, le), clear.1, clear.2, clear.3)

-- words before lines, joined to the first of them or not
clear_before : (blocks base : ℕ) (words : List ℕ) (lines : List (ℕ × List ℕ)) → base % 8 ≡ 0 → base + 8 * length words ≤ 64 * blocks → IsClear blocks (base + 8 * length words) lines
    → IsClear blocks base (before base words lines)
unfolding IsClear
clear_before blocks base words [] aligned inside clear = (omega arith, aligned, inside, tt)
clear_before blocks base words (line ∷ lines) aligned inside clear = by (base + 8 * length words == line.0) refl
  where
    equal : (x y : ℕ) → eqb x y ≡ true → x ≡ y
    equal x y h = grind (arith, nat_tests)

    by : (b : Bool) → (base + 8 * length words == line.0) ≡ b → IsClear blocks base (if b then (base, words ++ line.1) ∷ lines else (base, words) ∷ line ∷ lines)
    by true e =
        let at = equal (base + 8 * length words) line.0 e
        in let all = length-append words line.1
        in let end : base + 8 * length (words ++ line.1) ≡ line.0 + 8 * length line.1 = omega (arith, at, all)
        in (omega arith, aligned, omega (arith, end, clear.2), subst (λ n. IsClear blocks n lines) (sym end) clear.3)
    by false e = (omega arith, aligned, inside, clear)

-- the lines of declared names that memory holds
clear_names : (blocks base : ℕ) (ds : List Declaration) → base % 8 ≡ 0 → AllByRecursion IsRightDeclaration ds → base + 8 * words_in ds ≤ 64 * blocks → IsClear blocks base (lines_from base ds)
unfolding IsClear
clear_names blocks base [] aligned right inside = tt
clear_names blocks base (table name size values ∷ ds) aligned right inside =
    let rest = clear_names blocks (base + 8 * size) ds (omega (arith, aligned)) right.1 (omega (arith, inside))
    in clear_before blocks base values (lines_from (base + 8 * size) ds) aligned (omega (arith, inside, right.0.1))
    (clear_lower blocks (base + 8 * length values) (base + 8 * size) (lines_from (base + 8 * size) ds) (omega (arith, right.0.1)) rest)
clear_names blocks base (array name size ∷ ds) aligned right inside =
    let rest = clear_names blocks (base + 8 * size) ds (omega (arith, aligned)) right.1 (omega (arith, inside))
    in clear_lower blocks base (base + 8 * size) (lines_from (base + 8 * size) ds) (omega arith) rest

-- ---- the sums of a kernel

-- a range from an aligned address that ends in memory is not refused
range_inside : (blocks base size : ℕ) → base % 8 ≡ 0 → base + 8 * size ≤ 64 * blocks → range_refusal blocks base size ≡ None
range_inside blocks base size aligned inside = by (base % 8 == 0) (size == 0) (nat_lt (64 * blocks) (base + 8 * size)) (is_aligned (base % 8) aligned) (not_past _ _ inside)
  where
    is_aligned : (x : ℕ) → x ≡ 0 → eqb x 0 ≡ true
    is_aligned x h = grind (arith, nat_tests)

    not_past : (x y : ℕ) → y ≤ x → nat_lt x y ≡ false
    not_past x y h = grind (arith, nat_tests)

    by : (a e p : Bool) → a ≡ true → p ≡ false → (if a && (e || not p) then None else Some (ShowOutOfRange base)) ≡ None
    by true true false x y = refl
    by true false false x y = refl
    by true e true x y = absurd (cc y)
    by false e p x y = absurd (cc x)

-- and one that is not refused ends there
range_fits : (blocks base size : ℕ) → base ≤ 64 * blocks → range_refusal blocks base size ≡ None → base + 8 * size ≤ 64 * blocks
range_fits blocks base size inside none = by (base % 8 == 0) (size == 0) (nat_lt (64 * blocks) (base + 8 * size)) refl refl none
  where
    is_empty : eqb size 0 ≡ true → size ≡ 0
    is_empty h = grind (arith, nat_tests)

    not_past : (x y : ℕ) → nat_lt x y ≡ false → y ≤ x
    not_past x y h = grind (arith, nat_tests)

    by : (a e p : Bool) → eqb size 0 ≡ e → nat_lt (64 * blocks) (base + 8 * size) ≡ p → (if a && (e || not p) then None else Some (ShowOutOfRange base)) ≡ None → base + 8 * size ≤ 64 * blocks
    by true true p x y h = let nothing = is_empty x in omega (arith, nothing, inside)
    by true false false x y h = not_past _ _ y
    by true false true x y h = absurd (cc h)
    by false e p x y h = absurd (cc h)

-- the sums of declared names that memory holds are not refused
sums_inside : (blocks base : ℕ) (ds : List Declaration) → base % 8 ≡ 0 → base + 8 * words_in ds ≤ 64 * blocks → asks_refusal blocks (sums_from base ds) ≡ None
sums_inside blocks base [] aligned inside = refl
sums_inside blocks base (d ∷ ds) aligned inside =
    none_first (range_refusal blocks base (size_of d)) _ (range_inside blocks base (size_of d) aligned (omega (arith, inside)))
    ∙ sums_inside blocks (base + 8 * size_of d) ds (omega (arith, aligned)) (omega (arith, inside))

-- and where none is refused, memory holds the names
sums_fit : (blocks base : ℕ) (ds : List Declaration) → base ≤ 64 * blocks → asks_refusal blocks (sums_from base ds) ≡ None → base + 8 * words_in ds ≤ 64 * blocks
sums_fit blocks base [] inside none = omega (arith, inside)
sums_fit blocks base (d ∷ ds) inside none =
    let rest = asks_refusal blocks (sums_from (base + 8 * size_of d) ds)
    in let first = first_none (range_refusal blocks base (size_of d)) rest none
    in let further = sums_fit blocks (base + 8 * size_of d) ds (range_fits blocks base (size_of d) inside first) (sym (none_first (range_refusal blocks base (size_of d)) rest first) ∙ none)
    in omega (arith, further)

-- the number of all words
length-words : (ds : List Declaration) → AllByRecursion IsRightDeclaration ds → length (flat_map initial_words ds) ≡ words_in ds
length-words [] right = refl
length-words (d ∷ ds) right =
    length-append (initial_words d) (flat_map initial_words ds)
    ∙ (ap (λ n. n + length (flat_map initial_words ds)) (length-initial_words d right.0) ∙ ap (λ n. size_of d + n) (length-words ds right.1))

-- ---- loading

-- core 0 has an entry
entered : (k : Kernel) (m : MachineSpec) → m.cores ≡ 1 → entry_refusal (program_of k) m ≡ None
entered k m one = ap (λ n. option_map (λ (c : CoreId). NoEntry c.0) (find (λ (c : CoreId). is_none (entry_of_core (program_of k) c)) (map (λ c. record { 0 = c }) (range_with_len 0 n)))) one

pub laid_out : (k : Kernel) → IsSound k → IsLaidOut k (program_of k)
laid_out k sound =
    record {
      entry = refl;
      other_entries = refl;
      words = λ i. subst (λ n. initial_word (program_of k) n ≡ get_or (all_words k) i 0) (omega arith) (declared_words 0 i k.declarations right);
      sums = refl;
      statistics = refl;
      loads = loads;
      fits = fits;
    }
  where
    right : AllByRecursion IsRightDeclaration k.declarations
    right = recursion_from_All IsRightDeclaration k.declarations sound.declarations

    all : length (all_words k) ≡ words_in k.declarations
    all = length-words k.declarations right

    loads : (m : MachineSpec) → m.cores ≡ 1 → length (all_words k) ≤ 8 * m.blocks → load_refusal (program_of k) m ≡ None
    loads m one inside =
        none_first (lines_refusal m.blocks [] (lines_from 0 k.declarations)) _
        (clear_lines m.blocks 0 [] (lines_from 0 k.declarations) none_yet (clear_names m.blocks 0 k.declarations (omega arith) right (omega (arith, inside, all))))
        ∙ none_first (asks_refusal m.blocks (sums_from 0 k.declarations)) _ (sums_inside m.blocks 0 k.declarations (omega arith) (omega (arith, inside, all)))
        ∙ entered k m one

    fits : (m : MachineSpec) → m.cores ≡ 1 → load_refusal (program_of k) m ≡ None → length (all_words k) ≤ 8 * m.blocks
    fits m one none =
        let lines = lines_refusal m.blocks [] (lines_from 0 k.declarations)
        in let sums = asks_refusal m.blocks (sums_from 0 k.declarations)
        in let behind = or_then sums (entry_refusal (program_of k) m)
        in let no_line = first_none lines behind none
        in let no_sum = first_none sums (entry_refusal (program_of k) m) (sym (none_first lines behind no_line) ∙ none)
        in let room = sums_fit m.blocks 0 k.declarations (omega arith) no_sum
        in omega (arith, room, all)
