-- A line has no fault exactly where it means something that may follow the earlier lines.
use Rattle.std.proofs.lemmas.List.{take_all}
use Rattle.std.proofs.Common.{◌≡◌, ℕ, zero, suc, take, ◌+◌, ◌≤◌, nat_lt, Bool, true, false, not, ◌&&◌, if◌then◌else◌, List, [], ◌∷◌, length, Option, Some, None, refl, sym, ◌∙◌, ap, arith}
use Rattle.std.specs.Prelude.{find, is_none, option_map, drop, zip}
use Rattle.std.specs.List.{list_any, list_all}
use Rattle.std.specs.Option.{option_and_then}
use Rattle.std.specs.Str.{is_utf8, chars}
use Rattle.std.specs.Str.Lossy.{utf8_valid_len, valid_len_up_to}
use Rattle.std.proofs.lemmas.Bool.{and_parts, lt-ltb, le-ltb, or_parts, or_from}
use Rattle.asm_statements.specs.Tokens.{Token, name, number, comma, colon, star, stray, Placed, tokens_of}
use Rattle.asm_statements.specs.Mnemonics.{Shape, register_below, any_number, amount, one_core, all_cores, place, suits, fits, fits_more, is_number_in_range, is_register_in_range, rows_named, core_in}
use Rattle.asm_statements.specs.Statements.{Statement, Line, label_in, label_of, tokens_alone, body_of, behind_label, is_comma, separated, fits_row, statement_with, statement_named, is_in_range, line_with, line_from, line_of, meaning_of, item_anywhere}
use Rattle.pei_asm.specs.Faults.{Trial, fault_of_trials, trials, line_fault, is_defined_before, double_label, is_one_too_many, too_many_instructions, has_entry, double_entry}
use Rattle.asm_statements.specs.LineFaults.{column_if, column_where, is_stray, bad_char, is_known, unknown_name, wrong_operands, number_too_large, register_out_of_range, register_range, not_utf8}
use Rattle.pei_asm.proofs.TestFacts.{none_of_map, none_found, none_fails, any_of_map, drop_two_of_map, and_then_some, map_some}
use Rattle.pei_types.proofs.Lists.{found_passes}

-- ---- what may follow

unfoldable pub may_stand : List Line → Option Statement → Bool
may_stand earlier None = true
may_stand earlier (Some s) = not (is_one_too_many earlier s) && not (has_entry earlier (core_in (item_anywhere s)))

-- a line may follow earlier ones: its label, its instruction and its entry
unfoldable pub follows : List Line → Line → Bool
unfolding may_stand
follows earlier l = not (is_defined_before earlier l.label) && may_stand earlier l.statement

unfoldable pub passes : List Line → Option Line → Bool
passes earlier None = false
passes earlier (Some l) = follows earlier l

-- ---- no stray characters

suits_stray : (s : Shape) → suits s stray ≡ false
suits_stray (register_below n) = refl
suits_stray any_number = refl
suits_stray amount = refl
suits_stray one_core = refl
suits_stray all_cores = refl
suits_stray place = refl

not_stray : (s : Shape) (t : Token) → suits s t ≡ true → is_stray t ≡ false
not_stray s (name text) h = refl
not_stray s (number negative n) h = refl
not_stray s comma h = refl
not_stray s colon h = refl
not_stray s star h = refl
not_stray s stray h = absurd (cc (h, suits_stray s))

all_suit : (s : Shape) (ts : List Token) → list_all (suits s) ts ≡ true → list_any is_stray ts ≡ false
all_suit s [] h = refl
all_suit s (t ∷ ts) h =
    let parts = and_parts (suits s t) (list_all (suits s) ts) h
    in or_from (is_stray t) (list_any is_stray ts) (not_stray s t parts.0) (all_suit s ts parts.1)

more_clean : (goes_on : Bool) (s : Shape) (ts : List Token) → fits_more goes_on s ts ≡ true → list_any is_stray ts ≡ false
more_clean goes_on s [] h = refl
more_clean goes_on s (t ∷ ts) h = all_suit s (t ∷ ts) (and_parts goes_on (list_all (suits s) (t ∷ ts)) h).1

fits_clean : (goes_on : Bool) (shapes : List Shape) (ts : List Token) → fits goes_on shapes ts ≡ true → list_any is_stray ts ≡ false
fits_clean goes_on [] [] h = refl
fits_clean goes_on [] (t ∷ ts) h = absurd (cc h)
fits_clean goes_on (s ∷ shapes) [] h = refl
fits_clean goes_on (s ∷ []) (t ∷ ts) h =
    let parts = and_parts (suits s t) (fits_more goes_on s ts) h
    in or_from (is_stray t) (list_any is_stray ts) (not_stray s t parts.0) (more_clean goes_on s ts parts.1)
fits_clean goes_on (s ∷ s' ∷ shapes) (t ∷ ts) h =
    let parts = and_parts (suits s t) (fits goes_on (s' ∷ shapes) ts) h
    in or_from (is_stray t) (list_any is_stray ts) (not_stray s t parts.0) (fits_clean goes_on (s' ∷ shapes) ts parts.1)

comma_not_stray : (t : Token) → is_comma t ≡ true → is_stray t ≡ false
comma_not_stray (name text) h = refl
comma_not_stray (number negative n) h = refl
comma_not_stray comma h = refl
comma_not_stray colon h = refl
comma_not_stray star h = refl
comma_not_stray stray h = absurd (cc h)

separated_if : (b : Bool) (t : Placed) (o : Option (List Placed)) (operands : List Placed) → (if b then option_map (λ xs. t ∷ xs) o else None) ≡ Some operands
    → (xs : List Placed) × (b ≡ true) × (o ≡ Some xs) × (t ∷ xs ≡ operands)
separated_if true t o operands h = let m = map_some (λ xs. t ∷ xs) o operands h in (m.0, refl, m.1, m.2)
separated_if false t o operands h = absurd (cc h)

separated_clean : (rest operands : List Placed) → separated rest ≡ Some operands → list_any is_stray (tokens_alone operands) ≡ false → list_any is_stray (tokens_alone rest) ≡ false
separated_clean [] operands h clean = refl
separated_clean (t ∷ []) operands h clean = let same : t ∷ [] ≡ operands = cc h in ap (λ xs. list_any is_stray (tokens_alone xs)) same ∙ clean
separated_clean (t ∷ between ∷ []) operands h clean = absurd (cc h)
separated_clean (t ∷ between ∷ u ∷ rest) operands h clean =
    let m = separated_if (is_comma between.token) t (separated (u ∷ rest)) operands h
    in let parts = or_parts (is_stray t.token) (list_any is_stray (tokens_alone m.0)) (ap (λ xs. list_any is_stray (tokens_alone xs)) m.3 ∙ clean)
    in or_from (is_stray t.token) _ parts.0
    (or_from (is_stray between.token) _ (comma_not_stray between.token m.1) (separated_clean (u ∷ rest) m.0 m.2 parts.1))

label_clean : (ts : List Token) (text : List ℕ) → label_in ts ≡ Some text → list_any is_stray ts ≡ list_any is_stray (drop 2 ts)
label_clean (name x ∷ colon ∷ rest) text h = refl
label_clean _ text h = absurd (cc h)

body_clean : (placed : List Placed) (label : Option (List ℕ)) → label_of placed ≡ label → list_any is_stray (tokens_alone (behind_label label placed)) ≡ false → list_any is_stray (tokens_alone placed) ≡ false
body_clean placed None e h = h
body_clean placed (Some text) e h =
    label_clean (tokens_alone placed) text e ∙ ap (λ ts. list_any is_stray ts) (sym (drop_two_of_map (λ t. t.token) placed)) ∙ h

-- ---- what a statement tells

some_found : {A : Type 0} (test : A → Bool) (xs : List A) (x : A) → find test xs ≡ Some x → nat_lt 0 (length xs) ≡ true
some_found test [] x h = absurd (cc h)
some_found test (y ∷ ys) x h = lt-ltb 0 (length (y ∷ ys)) (omega arith)

-- a statement's name is known, and it has no stray character
pub record Tells (t : Token) (rest : List Placed) : Type 0 where
  pub known : is_known t ≡ true
  pub clean : list_any is_stray (t ∷ tokens_alone rest) ≡ false

tells : (t : Token) (rest : List Placed) (s : Statement) → statement_named t rest ≡ Some s → Tells t rest
tells (name text) rest s h =
    let operands = and_then_some (statement_with (rows_named text)) (separated rest) s h
    in let r = map_some (λ r. record { row = r; operands = operands.0 }) (find (fits_row operands.0) (rows_named text)) s operands.2
    in record {
      known = some_found (fits_row operands.0) (rows_named text) r.0 r.1;
      clean = separated_clean rest operands.0 operands.1 (fits_clean r.0.goes_on r.0.shapes (tokens_alone operands.0) (found_passes (fits_row operands.0) (rows_named text) r.0 r.1));
    }
tells (number negative n) rest s h = absurd (cc h)
tells comma rest s h = absurd (cc h)
tells colon rest s h = absurd (cc h)
tells star rest s h = absurd (cc h)
tells stray rest s h = absurd (cc h)

-- ---- each trial

none_if : (b : Bool) (column : ℕ) → is_none (column_if b (Some column)) ≡ not b
none_if true column = refl
none_if false column = refl

none_where : (test : Token → Bool) (placed : List Placed) → is_none (column_where test placed) ≡ not (list_any (λ t. test t.token) placed)
none_where test placed = none_of_map (λ t. t.column) (find (λ t. test t.token) placed) ∙ none_found (λ t. test t.token) placed

no_bad_char : (placed : List Placed) → is_none (bad_char placed) ≡ not (list_any is_stray (tokens_alone placed))
no_bad_char placed = none_where is_stray placed ∙ ap not (sym (any_of_map is_stray (λ t. t.token) placed))

no_double_label : (earlier : List Line) (placed : List Placed) → is_none (double_label earlier placed) ≡ not (is_defined_before earlier (label_of placed))
no_double_label earlier [] = refl
no_double_label earlier (t ∷ rest) = none_if (is_defined_before earlier (label_of (t ∷ rest))) t.column

numbers_fine : (operands : List Placed) → is_none (column_where (λ t. not (is_number_in_range t)) operands) ≡ list_all (λ t. is_number_in_range t.token) operands
numbers_fine operands = none_where (λ t. not (is_number_in_range t)) operands ∙ none_fails (λ t. is_number_in_range t.token) operands

registers_fine : (s : Statement) → is_none (register_out_of_range s) ≡ list_all (λ pair. is_register_in_range pair.0 pair.1.token) (zip s.row.shapes s.operands)
registers_fine s =
    none_of_map (λ pair. pair.1.column) (find (λ pair. not (is_register_in_range pair.0 pair.1.token)) (zip s.row.shapes s.operands))
    ∙ none_found (λ pair. not (is_register_in_range pair.0 pair.1.token)) (zip s.row.shapes s.operands)
    ∙ none_fails (λ pair. is_register_in_range pair.0 pair.1.token) (zip s.row.shapes s.operands)

-- no trial of a line finds a place
none_tried : (n : ℕ) (ts : List Trial) → is_none (fault_of_trials n ts) ≡ list_all (λ t. is_none t.1) ts
none_tried n [] = refl
none_tried n ((k, None) ∷ ts) = none_tried n ts
none_tried n ((k, Some column) ∷ ts) = refl

-- ---- the verdict on a line

pub body_verdict : List Line → List Placed → List Placed → Bool
body_verdict earlier placed body =
    is_none (bad_char placed) && (is_none (double_label earlier placed) && (is_none (unknown_name body) && (is_none (wrong_operands body)
    && (is_none (number_too_large body) && (is_none (register_range body) && (is_none (too_many_instructions earlier body) && (is_none (double_entry earlier body) && true)))))))

rearranged : (a b c d e : Bool) → (a && (b && (c && (d && (e && true))))) ≡ (if (b && c) then (a && (d && e)) else false)
rearranged true true true true true = refl
rearranged true true true true false = refl
rearranged true true true false e = refl
rearranged true true false d e = refl
rearranged true false c d e = refl
rearranged false true true d e = refl
rearranged false true false d e = refl
rearranged false false c d e = refl

passes_if : (earlier : List Line) (l : Line) (b : Bool) → (if b then follows earlier l else false) ≡ passes earlier (if b then Some l else None)
unfolding passes
passes_if earlier l true = refl
passes_if earlier l false = refl

-- the verdict, by the first three trials and the statement
verdict_with : List Line → Bool → Bool → Bool → ℕ → Option Statement → Bool
verdict_with earlier bad twice unknown column o =
    bad && (twice && (unknown && (is_none (column_if (is_none o) (Some column))
    && (is_none (option_and_then (λ s. column_where (λ t. not (is_number_in_range t)) s.operands) o)
    && (is_none (option_and_then register_out_of_range o)
    && (is_none (option_and_then (λ s. column_if (is_one_too_many earlier s) (Some column)) o)
    && (is_none (option_and_then (λ s. column_if (has_entry earlier (core_in (item_anywhere s))) (Some column)) o) && true)))))))

no_way : (a b c : Bool) → (a && (b && (c && false))) ≡ false
no_way true true true = refl
no_way true true false = refl
no_way true false c = refl
no_way false b c = refl

with_parts : (bad twice unknown numbers registers many entries : Bool) {new fine_numbers fine_registers room fresh : Bool} → bad ≡ true → twice ≡ new → unknown ≡ true → numbers ≡ fine_numbers → registers ≡ fine_registers → many ≡ room → entries ≡ fresh
    → (bad && (twice && (unknown && (true && (numbers && (registers && (many && (entries && true)))))))) ≡ (if (fine_numbers && fine_registers) then (new && (room && fresh)) else false)
with_parts bad twice unknown numbers registers many entries {new} {fine_numbers} {fine_registers} {room} {fresh} h₁ h₂ h₃ h₄ h₅ h₆ h₇ =
    rw (h₁, h₂, h₃, h₄, h₅, h₆, h₇) (rearranged new fine_numbers fine_registers room fresh)

with_statement : (earlier : List Line) (placed : List Placed) (t : Placed) (rest : List Placed) (o : Option Statement) → statement_named t.token rest ≡ o
    → (list_any is_stray (t.token ∷ tokens_alone rest) ≡ false → is_none (bad_char placed) ≡ true)
    → verdict_with earlier (is_none (bad_char placed)) (is_none (double_label earlier placed)) (is_none (unknown_name (t ∷ rest))) t.column o ≡ passes earlier (line_with (label_of placed) o)
unfolding verdict_with passes follows may_stand
with_statement earlier placed t rest None e clean = no_way (is_none (bad_char placed)) (is_none (double_label earlier placed)) (is_none (unknown_name (t ∷ rest)))
with_statement earlier placed t rest (Some s) e clean =
    let told = tells t.token rest s e
    in with_parts _ _ _ _ _ _ _ (clean told.clean) (no_double_label earlier placed)
    (none_if (not (is_known t.token)) t.column ∙ ap (λ b. not (not b)) told.known)
    (numbers_fine s.operands) (registers_fine s) (none_if (is_one_too_many earlier s) t.column) (none_if (has_entry earlier (core_in (item_anywhere s))) t.column)
    ∙ passes_if earlier (record { label = label_of placed; statement = Some s }) (is_in_range s)

with_body : (earlier : List Line) (placed body : List Placed) → (list_any is_stray (tokens_alone body) ≡ false → is_none (bad_char placed) ≡ true)
    → body_verdict earlier placed body ≡ passes earlier (line_from (label_of placed) body)
unfolding body_verdict verdict_with passes follows may_stand
with_body earlier placed [] clean = alone (is_none (bad_char placed)) (is_none (double_label earlier placed)) (clean refl) (no_double_label earlier placed)
  where
    alone : (bad twice : Bool) {new : Bool} → bad ≡ true → twice ≡ new → (bad && (twice && true)) ≡ (new && true)
    alone bad twice h k = rw (h, k) refl
with_body earlier placed (t ∷ rest) clean = with_statement earlier placed t rest (statement_named t.token rest) refl clean

-- ---- UTF-8

empty_is_utf8 : true ≡ is_utf8 []
unfolding is_utf8 chars
empty_is_utf8 = refl

valid_len_le : (bytes : List ℕ) (n : ℕ) → valid_len_up_to bytes n ≤ n
valid_len_le bytes zero = omega arith
valid_len_le bytes (suc n) = by_test (is_utf8 (take (suc n) bytes)) (valid_len_le bytes n)
  where
    by_test : (b : Bool) → valid_len_up_to bytes n ≤ n → (if b then suc n else valid_len_up_to bytes n) ≤ suc n
    by_test true h = omega arith
    by_test false h = omega (arith, h)

bad_byte_if : (b : Bool) (v m : ℕ) → v ≤ m → is_none (column_if (nat_lt (if b then suc m else v) (suc m)) (Some ((if b then suc m else v) + 1))) ≡ b
bad_byte_if true v m h = rw (le-ltb (suc m) (suc m) (omega arith)) refl
bad_byte_if false v m h = rw (lt-ltb v (suc m) (omega (arith, h))) refl

no_bad_byte_of : (line : List ℕ) (m : ℕ) → length line ≡ m → is_none (column_if (nat_lt (valid_len_up_to line m) m) (Some (valid_len_up_to line m + 1))) ≡ is_utf8 line
no_bad_byte_of [] zero e = empty_is_utf8
no_bad_byte_of (b ∷ line) zero e = absurd (omega (arith, e))
no_bad_byte_of line (suc m) e =
    bad_byte_if (is_utf8 (take (suc m) line)) (valid_len_up_to line m) m (valid_len_le line m)
    ∙ ap is_utf8 (ap (λ n. take n line) (sym e) ∙ take_all (length line) line (omega arith))

-- no byte is outside a character exactly where the line is UTF-8
no_bad_byte : (line : List ℕ) → is_none (not_utf8 line) ≡ is_utf8 line
unfolding utf8_valid_len
no_bad_byte line = no_bad_byte_of line (length line) refl

-- ---- the whole line

passes_utf8 : (earlier : List Line) (b : Bool) (o : Option Line) → (b && passes earlier o) ≡ passes earlier (if b then o else None)
unfolding passes
passes_utf8 earlier true o = refl
passes_utf8 earlier false o = refl

clean_then : (placed : List Placed) → list_any is_stray (tokens_alone (body_of placed)) ≡ false → is_none (bad_char placed) ≡ true
clean_then placed h = no_bad_char placed ∙ ap not (body_clean placed (label_of placed) refl h)

-- a line has no fault exactly where it means something that may follow
pub line_verdict : (earlier : List Line) (n : ℕ) (line : List ℕ) → is_none (line_fault earlier n line) ≡ passes earlier (meaning_of line)
unfolding body_verdict line_fault
line_verdict earlier n line =
    none_tried n (trials earlier line (tokens_of line) (body_of (tokens_of line)))
    ∙ ap (λ b. b && body_verdict earlier (tokens_of line) (body_of (tokens_of line))) (no_bad_byte line)
    ∙ ap (λ b. is_utf8 line && b) (with_body earlier (tokens_of line) (body_of (tokens_of line)) (clean_then (tokens_of line)))
    ∙ passes_utf8 earlier (is_utf8 line) (line_of (tokens_of line))
