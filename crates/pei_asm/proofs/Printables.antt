-- What a text spells is printable: entries, branches and jumps name places of the program.
use Rattle.std.proofs.lemmas.Bool.{and_parts}
use Rattle.std.proofs.lemmas.List.Elements.{All-from_recursion}
use Rattle.std.proofs.Common.{◌≡◌, ℕ, zero, suc, ◌≤◌, Bool, true, false, not, ◌&&◌, if◌then◌else◌, List, [], ◌∷◌, length, map, take, Option, Some, None, refl, sym, ◌∙◌, ap, subst, arith}
use Rattle.std.specs.Prelude.{find, filter, filter_map, position, is_some, option_map, slice_get, slice_index, unwrap_or, IfSome, ⊤}
use Rattle.std.specs.List.{AllByRecursion, cons_option, range_with_len}
use Rattle.std.specs.Str.{bytes_eq, is_utf8}
use Rattle.pei_types.specs.declared.instructions.Instr.{Instr}
use Rattle.pei_types.specs.Program.{Listing}
use Rattle.asm_statements.specs.Tokens.{Token, name, number, comma, colon, star, stray, Placed, tokens_of}
use Rattle.pei_asm.specs.Meaning.{lines_of, Spells, entry_in, entry_among, same_core, items_anywhere, instruction_count, place_among, items_of, program_of, lines_read}
use Rattle.asm_statements.specs.Mnemonics.{Shape, place, Item, instruction, entry, words, shown, statistics, Row, table, rows_named, suits, fits, fits_more, is_register, register_of, value_of, instruction_in}
use Rattle.asm_statements.specs.Statements.{Statement, Line, label_of, body_of, tokens_alone, separated, fits_row, statement_with, statement_named, statement_in, is_in_range, item_of, line_with, line_from, line_of, meaning_of, item_anywhere}
use Rattle.pei_asm.specs.Canonical.{target_of, IsPrintable}
use Rattle.pei_asm.proofs.TestFacts.{and_then_some, map_some}
use Rattle.pei_types.proofs.Lists.{found_passes}

-- ---- places

not_both : (a b : Bool) → (not a && not b) ≡ true → b ≡ false
not_both a true h = absurd (cc (and_parts (not a) false h).1)
not_both a false h = refl

none_of_test : {A : Type 0} (o : Option A) → is_some o ≡ false → o ≡ None
none_of_test None h = refl
none_of_test (Some x) h = absurd (cc h)

pub label_value : (f : List ℕ → ℕ) (t : Token) (most : ℕ) → ((text : List ℕ) → f text ≤ most) → suits place t ≡ true → value_of f t ≤ most
label_value f (name text) most h fit = rw (none_of_test (register_of text) (not_both _ (is_register text) fit)) (h text)
label_value f (number negative n) most h fit = absurd (cc fit)
label_value f comma most h fit = absurd (cc fit)
label_value f colon most h fit = absurd (cc fit)
label_value f star most h fit = absurd (cc fit)
label_value f stray most h fit = absurd (cc fit)

-- the value of an operand that is to be a label
place_within : (f : List ℕ → ℕ) (most : ℕ) → ((text : List ℕ) → f text ≤ most) → (shapes : List Shape) (ts : List Token) (k : ℕ) → fits false shapes ts ≡ true → slice_get shapes k ≡ Some place
    → slice_index (map (value_of f) ts) k ≤ most
place_within f most h [] ts k fit at = absurd (cc at)
place_within f most h (s ∷ shapes) [] k fit at = absurd (absurd_fit shapes fit)
  where
    absurd_fit : (xs : List Shape) → fits false (s ∷ xs) [] ≡ true → ⊥
    absurd_fit [] e = cc e
    absurd_fit (x ∷ xs) e = cc e
place_within f most h (s ∷ []) (t ∷ ts) zero fit at =
    let same : s ≡ place = cc at
    in label_value f t most h (ap (λ x. suits x t) (sym same) ∙ (and_parts (suits s t) (fits_more false s ts) fit).0)
place_within f most h (s ∷ []) (t ∷ ts) (suc k) fit at = absurd (cc at)
place_within f most h (s ∷ s' ∷ shapes) (t ∷ ts) zero fit at =
    let same : s ≡ place = cc at
    in label_value f t most h (ap (λ x. suits x t) (sym same) ∙ (and_parts (suits s t) (fits false (s' ∷ shapes) ts) fit).0)
place_within f most h (s ∷ s' ∷ shapes) (t ∷ ts) (suc k) fit at =
    place_within f most h (s' ∷ shapes) ts k (and_parts (suits s t) (fits false (s' ∷ shapes) ts) fit).1 at

-- the places that an item names are at most this
Within : ℕ → Item → Type 0
Within most (instruction i) = IfSome (target_of i) (λ to. to ≤ most)
Within most (entry core pc) = pc ≤ most
Within most (words addr values) = ⊤
Within most (shown a) = ⊤
Within most statistics = ⊤

-- a row whose items name places of labels alone, and are instructions or are not
record Sensible (r : Row) : Type 0 where
  within : (f : List ℕ → ℕ) (most : ℕ) → ((text : List ℕ) → f text ≤ most) → (ts : List Token) → fits r.goes_on r.shapes ts ≡ true → Within most (r.makes (map (value_of f) ts))
  steady : (v w : List ℕ) → is_some (instruction_in (r.makes v)) ≡ is_some (instruction_in (r.makes w))

plain : {r : Row} → ((most : ℕ) (v : List ℕ) → Within most (r.makes v)) → ((v w : List ℕ) → is_some (instruction_in (r.makes v)) ≡ is_some (instruction_in (r.makes w))) → Sensible r
plain h k = record { within = λ f most below ts fit. h most (map (value_of f) ts); steady = k }

branching : (makes : List ℕ → Item) (shapes : List Shape) (k : ℕ) → slice_get shapes k ≡ Some place → ((most : ℕ) (v : List ℕ) → slice_index v k ≤ most → Within most (makes v))
    → ((v w : List ℕ) → is_some (instruction_in (makes v)) ≡ is_some (instruction_in (makes w))) → (mnemonic : List ℕ) → Sensible (record { mnemonic = mnemonic; shapes = shapes; goes_on = false; makes = makes })
branching makes shapes k at h same mnemonic =
    record { within = λ f most below ts fit. h most (map (value_of f) ts) (place_within f most below shapes ts k fit at); steady = same }

-- each row is such a row: most name no place, and branches, jumps and entries name that of their label
all_sensible : AllByRecursion Sensible table
unfolding table Within
all_sensible = (
  plain (λ m v. tt) (λ v w. refl),
  (
    plain (λ m v. tt) (λ v w. refl),
    (
      plain (λ m v. tt) (λ v w. refl),
      (
        plain (λ m v. tt) (λ v w. refl),
        (
          plain (λ m v. tt) (λ v w. refl),
          (
            plain (λ m v. tt) (λ v w. refl),
            (
              plain (λ m v. tt) (λ v w. refl),
              (
                plain (λ m v. tt) (λ v w. refl),
                (
                  plain (λ m v. tt) (λ v w. refl),
                  (
                    plain (λ m v. tt) (λ v w. refl),
                    (
                      plain (λ m v. tt) (λ v w. refl),
                      (
                        plain (λ m v. tt) (λ v w. refl),
                        (
                          plain (λ m v. tt) (λ v w. refl),
                          (
                            branching _ _ 2 refl (λ m v h. h) (λ v w. refl) _,
                            (
                              branching _ _ 2 refl (λ m v h. h) (λ v w. refl) _,
                              (
                                branching _ _ 2 refl (λ m v h. h) (λ v w. refl) _,
                                (
                                  branching _ _ 2 refl (λ m v h. h) (λ v w. refl) _,
                                  (
                                    branching _ _ 0 refl (λ m v h. h) (λ v w. refl) _,
                                    (
                                      plain (λ m v. tt) (λ v w. refl),
                                      (
                                        plain (λ m v. tt) (λ v w. refl),
                                        (
                                          plain (λ m v. tt) (λ v w. refl),
                                          (
                                            plain (λ m v. tt) (λ v w. refl),
                                            (
                                              plain (λ m v. tt) (λ v w. refl),
                                              (
                                                plain (λ m v. tt) (λ v w. refl),
                                                (
                                                  plain (λ m v. tt) (λ v w. refl),
                                                  (
                                                    plain (λ m v. tt) (λ v w. refl),
                                                    (
                                                      branching _ _ 1 refl (λ m v h. h) (λ v w. refl) _,
                                                      (
                                                        branching _ _ 1 refl (λ m v h. h) (λ v w. refl) _,
                                                        (
                                                          plain (λ m v. tt) (λ v w. refl),
                                                          (
                                                            plain (λ m v. tt) (λ v w. refl),
                                                            (
                                                              plain (λ m v. tt) (λ v w. refl),
                                                              (
                                                                plain (λ m v. tt) (λ v w. refl),
                                                                tt,
                                                              ),
                                                            ),
                                                          ),
                                                        ),
                                                      ),
                                                    ),
                                                  ),
                                                ),
                                              ),
                                            ),
                                          ),
                                        ),
                                      ),
                                    ),
                                  ),
                                ),
                              ),
                            ),
                          ),
                        ),
                      ),
                    ),
                  ),
                ),
              ),
            ),
          ),
        ),
      ),
    ),
  ),
)

found_in : (P : Row → Type 0) (q test : Row → Bool) (rows : List Row) (r : Row) → AllByRecursion P rows → find test (filter q rows) ≡ Some r → P r
found_in P q test [] r all h = absurd (cc h)
found_in P q test (x ∷ rows) r all h = by_name (q x) h (found_in P q test rows r all.1)
  where
    by_test : (b : Bool) → (if b then Some x else find test (filter q rows)) ≡ Some r → (find test (filter q rows) ≡ Some r → P r) → P r
    by_test true e next = let same : x ≡ r = cc e in subst P same all.0
    by_test false e next = next e

    by_name : (b : Bool) → find test (if b then x ∷ filter q rows else filter q rows) ≡ Some r → (find test (filter q rows) ≡ Some r → P r) → P r
    by_name true e next = by_test (test x) e next
    by_name false e next = next e

-- ---- lines

-- a statement of a row of the table, with operands that fit it
record Proper (s : Statement) : Type 0 where
  row : Sensible s.row
  fit : fits_row s.operands s.row ≡ true

ProperLine : Line → Type 0
ProperLine l = (s : Statement) → l.statement ≡ Some s → Proper s

proper_named : (t : Token) (rest : List Placed) (s : Statement) → statement_named t rest ≡ Some s → Proper s
proper_named (name text) rest s h =
    let operands = and_then_some (statement_with (rows_named text)) (separated rest) s h
    in let r = map_some (λ r. record { row = r; operands = operands.0 }) (find (fits_row operands.0) (rows_named text)) s operands.2
    in subst Proper r.2 (record {
      row = found_in Sensible (λ x. bytes_eq x.mnemonic text) (fits_row operands.0) table r.0 all_sensible r.1;
      fit = found_passes (fits_row operands.0) (rows_named text) r.0 r.1;
    })
proper_named (number negative n) rest s h = absurd (cc h)
proper_named comma rest s h = absurd (cc h)
proper_named colon rest s h = absurd (cc h)
proper_named star rest s h = absurd (cc h)
proper_named stray rest s h = absurd (cc h)

proper_with : (label : Option (List ℕ)) (o : Option Statement) (l : Line) → ((s : Statement) → o ≡ Some s → Proper s) → line_with label o ≡ Some l → ProperLine l
unfolding ProperLine
proper_with label None l proper h = absurd (cc h)
proper_with label (Some s) l proper h = by_range (is_in_range s) h
  where
    by_range : (b : Bool) → (if b then Some (record { label = label; statement = Some s }) else None) ≡ Some l → (s' : Statement) → l.statement ≡ Some s' → Proper s'
    by_range true e s' q =
        let same : Some s ≡ Some s' = ap (λ o. unwrap_or (option_map (λ x. x.statement) o) None) e ∙ q
        in proper s' same
    by_range false e s' q = absurd (cc e)

nothing_proper : (label : Option (List ℕ)) (l : Line) → Some (record { label = label; statement = None }) ≡ Some l → ProperLine l
unfolding ProperLine
nothing_proper label l h s q =
    let same : None ≡ Some s = ap (λ o. unwrap_or (option_map (λ x. x.statement) o) None) h ∙ q
    in absurd (cc same)

proper_from : (label : Option (List ℕ)) (body : List Placed) (l : Line) → line_from label body ≡ Some l → ProperLine l
proper_from label [] l h = nothing_proper label l h
proper_from label (t ∷ rest) l h = proper_with label (statement_in (t ∷ rest)) l (proper_named t.token rest) h

proper_line : (line : List ℕ) (l : Line) → meaning_of line ≡ Some l → ProperLine l
proper_line line l h = by_utf8 (is_utf8 line) h
  where
    by_utf8 : (b : Bool) → (if b then line_of (tokens_of line) else None) ≡ Some l → ProperLine l
    by_utf8 true e = proper_from (label_of (tokens_of line)) (body_of (tokens_of line)) l e
    by_utf8 false e = absurd (cc e)

proper_lines : (lines : List (List ℕ)) → AllByRecursion ProperLine (filter_map meaning_of lines)
proper_lines [] = tt
proper_lines (line ∷ lines) = by_meaning (meaning_of line) (proper_line line) (proper_lines lines)
  where
    by_meaning : (o : Option Line) → ((l : Line) → o ≡ Some l → ProperLine l) → AllByRecursion ProperLine (filter_map meaning_of lines) → AllByRecursion ProperLine (cons_option o (filter_map meaning_of lines))
    by_meaning None h rest = rest
    by_meaning (Some l) h rest = (h l refl, rest)

-- ---- items

-- a place that a label has, or 0, is at most the number of instructions
counted_more : (lines : List Line) (i : ℕ) → instruction_count (take i lines) ≤ instruction_count lines
counted_more lines zero = omega arith
counted_more [] (suc i) = omega arith
counted_more (l ∷ lines) (suc i) = by_item (option_map item_anywhere l.statement) (counted_more lines i)
  where
    by_instr : (o : Option Instr) → instruction_count (take i lines) ≤ instruction_count lines
        → length (cons_option o (filter_map instruction_in (items_anywhere (take i lines)))) ≤ length (cons_option o (filter_map instruction_in (items_anywhere lines)))
    by_instr None h = h
    by_instr (Some x) h = omega (arith, h)

    by_item : (o : Option Item) → instruction_count (take i lines) ≤ instruction_count lines
        → length (filter_map instruction_in (cons_option o (items_anywhere (take i lines)))) ≤ length (filter_map instruction_in (cons_option o (items_anywhere lines)))
    by_item None h = h
    by_item (Some x) h = by_instr (instruction_in x) h

pub place_below : (lines : List Line) (text : List ℕ) → unwrap_or (place_among lines text) 0 ≤ instruction_count lines
place_below lines text = by_place (position _ lines)
  where
    by_place : (o : Option ℕ) → unwrap_or (option_map (λ i. instruction_count (take i lines)) o) 0 ≤ instruction_count lines
    by_place None = omega arith
    by_place (Some i) = counted_more lines i

module _ (f : List ℕ → ℕ) (most : ℕ) (below : (text : List ℕ) → f text ≤ most) where
  items_with : List Line → List Item
  items_with lines = filter_map (λ l. option_map (item_of f) l.statement) lines

  within_all : (lines : List Line) → AllByRecursion ProperLine lines → AllByRecursion (Within most) (items_with lines)
  unfolding items_with ProperLine
  within_all [] h = tt
  within_all (l ∷ lines) h = by_statement l.statement h.0 (within_all lines h.1)
    where
      by_statement : (o : Option Statement) → ((s : Statement) → o ≡ Some s → Proper s) → AllByRecursion (Within most) (items_with lines)
          → AllByRecursion (Within most) (cons_option (option_map (item_of f) o) (items_with lines))
      by_statement None p rest = rest
      by_statement (Some s) p rest = ((p s refl).row.within f most below (tokens_alone s.operands) (p s refl).fit, rest)

  as_many : (lines : List Line) → AllByRecursion ProperLine lines → length (filter_map instruction_in (items_with lines)) ≡ instruction_count lines
  unfolding items_with ProperLine
  as_many [] h = refl
  as_many (l ∷ lines) h = by_statement l.statement h.0 (as_many lines h.1)
    where
      by_instr : (o p : Option Instr) → is_some o ≡ is_some p → length (filter_map instruction_in (items_with lines)) ≡ instruction_count lines
          → length (cons_option o (filter_map instruction_in (items_with lines))) ≡ length (cons_option p (filter_map instruction_in (items_anywhere lines)))
      by_instr None None q rest = rest
      by_instr None (Some y) q rest = absurd (cc q)
      by_instr (Some x) None q rest = absurd (cc q)
      by_instr (Some x) (Some y) q rest = omega (arith, rest)

      by_statement : (o : Option Statement) → ((s : Statement) → o ≡ Some s → Proper s) → length (filter_map instruction_in (items_with lines)) ≡ instruction_count lines
          → length (filter_map instruction_in (cons_option (option_map (item_of f) o) (items_with lines))) ≡ length (filter_map instruction_in (cons_option (option_map item_anywhere o) (items_anywhere lines)))
      by_statement None p rest = rest
      by_statement (Some s) p rest = by_instr (instruction_in (item_of f s)) (instruction_in (item_anywhere s)) ((p s refl).row.steady _ _) rest

-- ---- the program

entry_within : (most : ℕ) (items : List Item) (core : Option ℕ) → AllByRecursion (Within most) items → IfSome (entry_among items core) (λ pc. pc ≤ most)
unfolding Within
entry_within most [] core h = tt
entry_within most (instruction i ∷ items) core h = entry_within most items core h.1
entry_within most (words addr values ∷ items) core h = entry_within most items core h.1
entry_within most (shown a ∷ items) core h = entry_within most items core h.1
entry_within most (statistics ∷ items) core h = entry_within most items core h.1
entry_within most (entry c pc ∷ items) core h = by_core (same_core core c) h.0 (entry_within most items core h.1)
  where
    by_core : (b : Bool) → pc ≤ most → IfSome (entry_among items core) (λ x. x ≤ most)
        → IfSome (slice_get (cons_option (if b then Some pc else None) (filter_map (entry_in core) items)) 0) (λ x. x ≤ most)
    by_core true k rest = k
    by_core false k rest = rest

targets_within : (most : ℕ) (items : List Item) → AllByRecursion (Within most) items → AllByRecursion (λ i. IfSome (target_of i) (λ to. to ≤ most)) (filter_map instruction_in items)
unfolding Within
targets_within most [] h = tt
targets_within most (instruction i ∷ items) h = (h.0, targets_within most items h.1)
targets_within most (words addr values ∷ items) h = targets_within most items h.1
targets_within most (shown a ∷ items) h = targets_within most items h.1
targets_within most (statistics ∷ items) h = targets_within most items h.1
targets_within most (entry c pc ∷ items) h = targets_within most items h.1

entries_within : (most : ℕ) (items : List Item) (cores : List ℕ) → AllByRecursion (Within most) items → AllByRecursion (λ e. IfSome e (λ pc. pc ≤ most)) (map (λ c. entry_among items (Some c)) cores)
entries_within most items [] h = tt
entries_within most items (c ∷ cores) h = (entry_within most items (Some c) h, entries_within most items cores h)

program_within : (lines : List Line) → AllByRecursion ProperLine lines → IsPrintable (program_of lines)
unfolding items_with
program_within lines proper =
    let f = λ (text : List ℕ). unwrap_or (place_among lines text) 0
    in let most = length (filter_map instruction_in (items_of lines))
    in let below : (text : List ℕ) → unwrap_or (place_among lines text) 0 ≤ length (filter_map instruction_in (items_of lines)) =
    λ text. rw (as_many f (instruction_count lines) (place_below lines) lines proper) (place_below lines text)
    in let within = within_all f most below lines proper
    in record {
      common = entry_within most (items_of lines) None within;
      own = All-from_recursion (λ e. IfSome e (λ pc. pc ≤ most)) (map (λ c. entry_among (items_of lines) (Some c)) (range_with_len 0 8)) (entries_within most (items_of lines) (range_with_len 0 8) within);
      targets = All-from_recursion (λ i. IfSome (target_of i) (λ to. to ≤ most)) (filter_map instruction_in (items_of lines)) (targets_within most (items_of lines) within);
    }

-- a program that a text spells is printable
pub spelled_is_printable : (text : List ℕ) (p : Listing) → Spells text p → IsPrintable p
spelled_is_printable text p s = subst IsPrintable (sym s.program) (program_within (lines_read text) (proper_lines (lines_of text)))
