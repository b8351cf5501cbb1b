-- A text has no fault exactly where each of its lines means something and they go together.
use Rattle.std.proofs.lemmas.List.{append_assoc, append-nil}
use Rattle.std.proofs.lemmas.List.Elements.{filter_map-append}
use Rattle.std.proofs.lemmas.List.Folds.{list_all-append}
use Rattle.std.proofs.lemmas.Bool.{and_parts, le-leb, lt-leb, leb-true, ltb-true, ltb-false}
use Rattle.std.proofs.Common.{◌≡◌, ℕ, ◌+◌, ◌≤◌, nat_lt, nat_le, Bool, true, false, not, ◌&&◌, List, [], ◌∷◌, ◌++◌, length, length-append, Option, Some, None, refl, sym, ◌∙◌, ap, arith}
use Rattle.std.specs.Prelude.{find, is_none, is_some, option_map, filter_map, flat_map}
use Rattle.std.specs.List.{list_any, list_all, cons_option}
use Rattle.std.specs.Option.{option_and_then, option_to_list}
use Rattle.std.specs.Str.{bytes_eq}
use Rattle.pei_types.specs.declared.instructions.Instr.{Instr}
use Rattle.pei_types.specs.Program.{Listing}
use Rattle.pei_asm.specs.declared.faults.AsmKind.TheVariants as kind
use Rattle.pei_asm.specs.Meaning.{lines_of, Spells, items_anywhere, instruction_count, same_core, are_new, are_distinct, labels_defined, cores_given, labels_used, is_defined, lines_read, program_of}
use Rattle.asm_statements.specs.Statements.{Statement, Line, meaning_of, item_anywhere}
use Rattle.asm_statements.specs.Mnemonics.{core_in, instruction_in}
use Rattle.pei_asm.specs.Faults.{line_fault, first_line_fault, unknown_label, first_fault, has_entry, is_defined_before}
use Rattle.pei_asm.proofs.TestFacts.{none_of_map, none_found, none_fails, none_of_either}
use Rattle.pei_asm.proofs.LineVerdicts.{passes, follows, may_stand, line_verdict}
use Rattle.pei_types.proofs.Tests.{none_is}

-- ---- the lines in order

-- a test of each line by those before it
fold_on : (List Line → Line → Bool) → List Line → List Line → Bool
fold_on test earlier [] = true
fold_on test earlier (l ∷ ls) = test earlier l && fold_on test (earlier ++ l ∷ []) ls

lines_pass : List Line → List (List ℕ) → Bool
lines_pass earlier [] = true
lines_pass earlier (line ∷ lines) = passes earlier (meaning_of line) && lines_pass (earlier ++ option_to_list (meaning_of line)) lines

no_line_fault : (earlier : List Line) (n : ℕ) (lines : List (List ℕ)) → is_none (first_line_fault earlier n lines) ≡ lines_pass earlier lines
unfolding lines_pass
no_line_fault earlier n [] = refl
no_line_fault earlier n (line ∷ lines) =
    none_of_either (line_fault earlier n line) _
    ∙ ap (λ b. b && is_none (first_line_fault (earlier ++ option_to_list (meaning_of line)) (n + 1) lines)) (line_verdict earlier n line)
    ∙ ap (λ b. passes earlier (meaning_of line) && b) (no_line_fault (earlier ++ option_to_list (meaning_of line)) (n + 1) lines)

exchanged : (a b c : Bool) → (a && (b && c)) ≡ (b && (a && c))
exchanged true b c = refl
exchanged false true c = refl
exchanged false false c = refl

read_step : (earlier : List Line) (o : Option Line) (more all : Bool) (read : List Line) → ((l : Line) → o ≡ Some l → more ≡ (all && fold_on follows (earlier ++ l ∷ []) read))
    → (passes earlier o && more) ≡ ((is_some o && all) && fold_on follows earlier (cons_option o read))
unfolding fold_on passes
read_step earlier None more all read h = refl
read_step earlier (Some l) more all read h = ap (λ b. follows earlier l && b) (h l refl) ∙ exchanged (follows earlier l) all _

-- each line means something, and what they mean may follow
read_and_follow : (earlier : List Line) (lines : List (List ℕ)) → lines_pass earlier lines ≡ (list_all (λ l. is_some (meaning_of l)) lines && fold_on follows earlier (filter_map meaning_of lines))
unfolding lines_pass fold_on
read_and_follow earlier [] = refl
read_and_follow earlier (line ∷ lines) =
    read_step earlier (meaning_of line) (lines_pass (earlier ++ option_to_list (meaning_of line)) lines) (list_all (λ l. is_some (meaning_of l)) lines) (filter_map meaning_of lines)
    (λ l e. ap (λ o. lines_pass (earlier ++ option_to_list o) lines) e ∙ read_and_follow (earlier ++ l ∷ []) lines)

-- ---- one thing at a time

fold_on_both : (p q : List Line → Line → Bool) (earlier ls : List Line) → fold_on (λ e l. p e l && q e l) earlier ls ≡ (fold_on p earlier ls && fold_on q earlier ls)
unfolding fold_on
fold_on_both p q earlier [] = refl
fold_on_both p q earlier (l ∷ ls) = ap (λ b. (p earlier l && q earlier l) && b) (fold_on_both p q (earlier ++ l ∷ []) ls) ∙ four (p earlier l) (q earlier l) _ _
  where
    four : (a b c d : Bool) → ((a && b) && (c && d)) ≡ ((a && c) && (b && d))
    four true true c d = refl
    four true false true d = refl
    four true false false d = refl
    four false b c d = refl

fold_on_same : (p q : List Line → Line → Bool) → ((e : List Line) (l : Line) → p e l ≡ q e l) → (earlier ls : List Line) → fold_on p earlier ls ≡ fold_on q earlier ls
unfolding fold_on
fold_on_same p q h earlier [] = refl
fold_on_same p q h earlier (l ∷ ls) = ap (λ b. b && fold_on p (earlier ++ l ∷ []) ls) (h earlier l) ∙ ap (λ b. q earlier l && b) (fold_on_same p q h (earlier ++ l ∷ []) ls)

is_new : {X : Type 0} → (X → X → Bool) → List X → Option X → Bool
is_new eq known None = true
is_new eq known (Some x) = not (list_any (eq x) known)

gained : {X : Type 0} (get : Line → Option X) (earlier : List Line) (l : Line) → filter_map get (earlier ++ l ∷ []) ≡ filter_map get earlier ++ cons_option (get l) []
gained get earlier l = filter_map-append get earlier (l ∷ [])

-- what lines give is new in each
new_on : {X : Type 0} (eq : X → X → Bool) (get : Line → Option X) (earlier ls : List Line) → fold_on (λ e l. is_new eq (filter_map get e) (get l)) earlier ls ≡ are_new eq (filter_map get earlier) (filter_map get ls)
unfolding fold_on is_new
new_on eq get earlier [] = refl
new_on eq get earlier (l ∷ ls) =
    ap (λ b. is_new eq (filter_map get earlier) (get l) && b) (new_on eq get (earlier ++ l ∷ []) ls ∙ ap (λ known. are_new eq known (filter_map get ls)) (gained get earlier l))
    ∙ by_given (get l)
  where
    by_given : (o : Option _) → (is_new eq (filter_map get earlier) o && are_new eq (filter_map get earlier ++ cons_option o []) (filter_map get ls)) ≡ are_new eq (filter_map get earlier) (cons_option o (filter_map get ls))
    by_given None = ap (λ known. are_new eq known (filter_map get ls)) (append-nil (filter_map get earlier))
    by_given (Some x) = refl

-- ---- room

has_room : {X : Type 0} → ℕ → ℕ → Option X → Bool
has_room most count o = not (is_some o && not (nat_lt count most))

full_or_not : {X : Type 0} (most : ℕ) (xs after rest : List X) (x : X) (more b : Bool) → nat_lt (length xs) most ≡ b → length xs ≤ most → after ≡ xs ++ x ∷ []
    → (length after ≤ most → more ≡ nat_le (length (after ++ rest)) most) → (not (not b) && more) ≡ nat_le (length (xs ++ x ∷ rest)) most
full_or_not most xs after rest x more true q h e next =
    let longer : length after ≤ most = rw e (omega (arith, length-append xs (x ∷ []), ltb-true (length xs) most q))
    in next longer ∙ ap (λ ys. nat_le (length ys) most) (ap (λ ys. ys ++ rest) e ∙ append_assoc xs (x ∷ []) rest)
full_or_not most xs after rest x more false q h e next =
    sym (lt-leb (length (xs ++ x ∷ rest)) most (omega (arith, length-append xs (x ∷ rest), ltb-false (length xs) most q)))

room_step : {X : Type 0} (most : ℕ) (xs after rest : List X) (o : Option X) (more : Bool) → length xs ≤ most → after ≡ xs ++ cons_option o []
    → (length after ≤ most → more ≡ nat_le (length (after ++ rest)) most) → (has_room most (length xs) o && more) ≡ nat_le (length (xs ++ cons_option o rest)) most
unfolding has_room
room_step most xs after rest None more h e next =
    let same : after ≡ xs = e ∙ append-nil xs
    in next (rw same h) ∙ ap (λ ys. nat_le (length (ys ++ rest)) most) same
room_step most xs after rest (Some x) more h e next = full_or_not most xs after rest x more (nat_lt (length xs) most) refl h e next

-- what lines give is no more than may be
room_on : {X : Type 0} (most : ℕ) (get : Line → Option X) (earlier ls : List Line) → length (filter_map get earlier) ≤ most
    → fold_on (λ e l. has_room most (length (filter_map get e)) (get l)) earlier ls ≡ nat_le (length (filter_map get earlier ++ filter_map get ls)) most
unfolding fold_on
room_on most get earlier [] h = sym (le-leb _ most (rw (append-nil (filter_map get earlier)) h))
room_on most get earlier (l ∷ ls) h =
    room_step most (filter_map get earlier) (filter_map get (earlier ++ l ∷ [])) (filter_map get ls) (get l) _ h (gained get earlier l) (room_on most get (earlier ++ l ∷ []) ls)

-- ---- all together

chained : {A B C : Type 0} (f : B → Option C) (g : A → Option B) (xs : List A) → filter_map f (filter_map g xs) ≡ filter_map (λ x. option_and_then f (g x)) xs
chained f g [] = refl
chained f g (x ∷ xs) = chained_step (g x) ∙ ap (cons_option (option_and_then f (g x))) (chained f g xs)
  where
    chained_step : (o : Option _) → filter_map f (cons_option o (filter_map g xs)) ≡ cons_option (option_and_then f o) (filter_map f (filter_map g xs))
    chained_step None = refl
    chained_step (Some y) = refl

core_of : Line → Option (Option ℕ)
core_of l = option_and_then core_in (option_map item_anywhere l.statement)

instr_of : Line → Option Instr
instr_of l = option_and_then instruction_in (option_map item_anywhere l.statement)

-- what a line may do after others, one thing at a time
parted : (e : List Line) (l : Line) → follows e l ≡ (is_new bytes_eq (filter_map (λ x. x.label) e) l.label && (has_room 65536 (length (filter_map instr_of e)) (instr_of l) && is_new same_core (filter_map core_of e) (core_of l)))
unfolding follows may_stand is_new has_room instr_of core_of
parted e l =
    ap (λ b. b && may_stand e l.statement) (by_label l.label)
    ∙ ap (λ b. is_new bytes_eq (labels_defined e) l.label && b) (by_statement l.statement (chained instruction_in (λ x. option_map item_anywhere x.statement) e) (chained core_in (λ x. option_map item_anywhere x.statement) e))
  where
    by_label : (o : Option (List ℕ)) → not (is_defined_before e o) ≡ is_new bytes_eq (labels_defined e) o
    by_label None = refl
    by_label (Some x) = refl

    by_core : (o : Option (Option ℕ)) {cores : List (Option ℕ)} → cores_given e ≡ cores → not (has_entry e o) ≡ is_new same_core cores o
    by_core None same = refl
    by_core (Some core) same = ap (λ cores. not (list_any (same_core core) cores)) same

    by_statement : (o : Option Statement) {instrs : List Instr} {cores : List (Option ℕ)} → filter_map instruction_in (items_anywhere e) ≡ instrs → cores_given e ≡ cores
        → may_stand e o ≡ (has_room 65536 (length instrs) (option_and_then instruction_in (option_map item_anywhere o)) && is_new same_core cores (option_and_then core_in (option_map item_anywhere o)))
    by_statement None i c = refl
    by_statement (Some s) {instrs} i c =
        ap (λ xs. not (is_some (instruction_in (item_anywhere s)) && not (nat_lt (length xs) 65536)) && not (has_entry e (core_in (item_anywhere s)))) i
        ∙ ap (λ b. has_room 65536 (length instrs) (instruction_in (item_anywhere s)) && b) (by_core (core_in (item_anywhere s)) c)

-- lines follow each other exactly where they go together, but for the labels that are used
follows_all : (ls : List Line) → fold_on follows [] ls ≡ (are_distinct bytes_eq (labels_defined ls) && (nat_le (length (filter_map instr_of ls)) 65536 && are_distinct same_core (filter_map core_of ls)))
follows_all ls =
    fold_on_same follows _ parted [] ls
    ∙ fold_on_both (λ e l. is_new bytes_eq (filter_map (λ x. x.label) e) l.label) (λ e l. has_room 65536 (length (filter_map instr_of e)) (instr_of l) && is_new same_core (filter_map core_of e) (core_of l)) [] ls
    ∙ ap (λ b. b && fold_on (λ e l. has_room 65536 (length (filter_map instr_of e)) (instr_of l) && is_new same_core (filter_map core_of e) (core_of l)) [] ls) (new_on bytes_eq (λ x. x.label) [] ls)
    ∙ ap (λ b. are_distinct bytes_eq (labels_defined ls) && b)
    (fold_on_both (λ e l. has_room 65536 (length (filter_map instr_of e)) (instr_of l)) (λ e l. is_new same_core (filter_map core_of e) (core_of l)) [] ls
    ∙ ap (λ b. b && fold_on (λ e l. is_new same_core (filter_map core_of e) (core_of l)) [] ls) (room_on 65536 instr_of [] ls (omega arith))
    ∙ ap (λ b. nat_le (length (filter_map instr_of ls)) 65536 && b) (new_on same_core core_of [] ls))

counted : (ls : List Line) → length (filter_map instr_of ls) ≡ instruction_count ls
unfolding instr_of
counted ls = ap length (sym (chained instruction_in (λ x. option_map item_anywhere x.statement) ls))

cored : (ls : List Line) → filter_map core_of ls ≡ cores_given ls
unfolding core_of
cored ls = sym (chained core_in (λ x. option_map item_anywhere x.statement) ls)

-- no label is used without a definition
no_unknown : (all : List Line) (n : ℕ) (ls : List Line) → is_none (unknown_label all n ls) ≡ list_all (is_defined all) (flat_map labels_used ls)
no_unknown all n [] = refl
no_unknown all n (l ∷ ls) =
    none_of_either (option_map (λ t. record { line = n; column = t.column; kind = kind.UnknownLabel }) (find (λ t. not (is_defined all t)) (labels_used l))) (unknown_label all (n + 1) ls)
    ∙ ap (λ b. b && is_none (unknown_label all (n + 1) ls))
    (none_of_map (λ t. record { line = n; column = t.column; kind = kind.UnknownLabel }) (find (λ t. not (is_defined all t)) (labels_used l))
    ∙ none_found (λ t. not (is_defined all t)) (labels_used l) ∙ none_fails (is_defined all) (labels_used l))
    ∙ ap (λ b. list_all (is_defined all) (labels_used l) && b) (no_unknown all (n + 1) ls)
    ∙ sym (list_all-append (is_defined all) (labels_used l) (flat_map labels_used ls))

-- the tests that a text without a fault passes
pub text_test : List ℕ → Bool
text_test text =
    (list_all (λ l. is_some (meaning_of l)) (lines_of text)
    && (are_distinct bytes_eq (labels_defined (lines_read text)) && (nat_le (instruction_count (lines_read text)) 65536 && are_distinct same_core (cores_given (lines_read text)))))
    && list_all (is_defined (lines_read text)) (flat_map labels_used (lines_read text))

-- a text has no fault exactly where it passes
pub text_verdict : (text : List ℕ) → is_none (first_fault text) ≡ text_test text
unfolding text_test
text_verdict text =
    none_of_either (first_line_fault [] 1 (lines_of text)) (unknown_label (lines_read text) 1 (lines_read text))
    ∙ ap (λ b. b && is_none (unknown_label (lines_read text) 1 (lines_read text)))
    (no_line_fault [] 1 (lines_of text) ∙ read_and_follow [] (lines_of text)
    ∙ ap (λ b. list_all (λ l. is_some (meaning_of l)) (lines_of text) && b)
    (follows_all (lines_read text)
    ∙ ap (λ n. are_distinct bytes_eq (labels_defined (lines_read text)) && (nat_le n 65536 && are_distinct same_core (filter_map core_of (lines_read text)))) (counted (lines_read text))
    ∙ ap (λ cores. are_distinct bytes_eq (labels_defined (lines_read text)) && (nat_le (instruction_count (lines_read text)) 65536 && are_distinct same_core cores)) (cored (lines_read text))))
    ∙ ap (λ b. (list_all (λ l. is_some (meaning_of l)) (lines_of text)
    && (are_distinct bytes_eq (labels_defined (lines_read text)) && (nat_le (instruction_count (lines_read text)) 65536 && are_distinct same_core (cores_given (lines_read text))))) && b)
    (no_unknown (lines_read text) 1 (lines_read text))

five : (a b c d e : Bool) → ((a && (b && (c && d))) && e) ≡ true → (a ≡ true) × (b ≡ true) × (c ≡ true) × (d ≡ true) × (e ≡ true)
five a b c d e h =
    let p = and_parts (a && (b && (c && d))) e h
    in let q = and_parts a (b && (c && d)) p.0
    in let r = and_parts b (c && d) q.1
    in let s = and_parts c d r.1
    in (q.0, r.0, s.0, s.1, p.1)

pub without_fault : (text : List ℕ) → first_fault text ≡ None → Spells text (program_of (lines_read text))
unfolding text_test
without_fault text h =
    let parts = five _ _ _ _ _ (sym (text_verdict text) ∙ ap is_none h)
    in record {
      each = parts.0;
      sound = record { labels = parts.1; used = parts.4; entries = parts.3; room = leb-true _ _ parts.2 };
      program = refl;
    }

all_true : (a b c d e : Bool) → a ≡ true → b ≡ true → c ≡ true → d ≡ true → e ≡ true → ((a && (b && (c && d))) && e) ≡ true
all_true a b c d e h₁ h₂ h₃ h₄ h₅ = rw (h₁, h₂, h₃, h₄, h₅) refl

pub never_both : (text : List ℕ) (p : Listing) → Spells text p → first_fault text ≡ None
unfolding text_test
never_both text p s =
    none_is (first_fault text) (text_verdict text ∙ all_true _ _ _ _ _ s.each s.sound.labels (le-leb _ _ s.sound.room) s.sound.entries s.sound.used)
