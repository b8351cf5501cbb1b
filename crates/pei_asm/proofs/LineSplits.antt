-- The first line of a text.
use Rattle.std.proofs.Common.{◌≡◌, ℕ, suc, ◌+◌, ◌<◌, List, [], ◌∷◌, ◌++◌, Some, None, append_assoc, Bool, true, false, not, if◌then◌else◌, length, take, drop, refl, sym, ap, ◌∙◌, arith}
use Rattle.std.specs.Prelude.{◌==◌, filter_map}
use Rattle.std.specs.List.{cons_option, prefix_len, slice_split, onto_first}
use Rattle.std.specs.Option.{option_or, option_to_list}
use Rattle.std.specs.Str.{byte}
use Rattle.std.proofs.lemmas.List.Splits.{slice_split_first}
use Rattle.pei_asm.specs.declared.faults.AsmFault.{AsmFault}
use Rattle.pei_asm.specs.Meaning.{lines_of}
use Rattle.asm_statements.specs.Statements.{Line, meaning_of}
use Rattle.pei_asm.specs.Faults.{first_line_fault, line_fault}

no_line_feed : (p : ℕ → Bool) (xs : List ℕ) → prefix_len (λ x. not (p x)) xs ≡ length xs → slice_split p xs ≡ xs ∷ []
no_line_feed p [] h = refl
no_line_feed p (x ∷ xs) h = by_first (p x) (no_line_feed p xs) h
  where
    by_first : (b : Bool) → (prefix_len (λ y. not (p y)) xs ≡ length xs → slice_split p xs ≡ xs ∷ []) → (if not b then 1 + prefix_len (λ y. not (p y)) xs else 0) ≡ suc (length xs) → (if b then [] ∷ slice_split p xs else onto_first x (slice_split p xs)) ≡ (x ∷ xs) ∷ []
    by_first true more k = absurd (omega (arith, k))
    by_first false more k = ap (onto_first x) (more (omega (arith, k)))

-- the last line has no line feed
pub last_line_is : (text : List ℕ) → prefix_len (λ b. not (b == byte "\n")) text ≡ length text → lines_of text ≡ text ∷ []
last_line_is text h = no_line_feed (λ b. b == byte "\n") text h

-- the first line, and those behind its line feed
pub first_line_is : (text : List ℕ) → prefix_len (λ b. not (b == byte "\n")) text < length text
    → lines_of text ≡ take (prefix_len (λ b. not (b == byte "\n")) text) text ∷ lines_of (drop (prefix_len (λ b. not (b == byte "\n")) text + 1) text)
first_line_is text h = slice_split_first (λ b. b == byte "\n") text 0 h

-- ---- one line on

-- the fault of the first of some lines is theirs
pub stops_at_a_fault : (earlier : List Line) (n : ℕ) (line : List ℕ) (lines : List (List ℕ)) (f : AsmFault) → line_fault earlier n line ≡ Some f → first_line_fault earlier n (line ∷ lines) ≡ Some f
stops_at_a_fault earlier n line lines f h = ap (λ o. option_or o (first_line_fault (earlier ++ option_to_list (meaning_of line)) (n + 1) lines)) h

-- where it has none, the others come next
pub one_line_on : (earlier : List Line) (n : ℕ) (line : List ℕ) (lines : List (List ℕ)) (l : Line) → line_fault earlier n line ≡ None → meaning_of line ≡ Some l
    → first_line_fault earlier n (line ∷ lines) ≡ first_line_fault (earlier ++ l ∷ []) (n + 1) lines
one_line_on earlier n line lines l h m =
    ap (λ o. option_or o (first_line_fault (earlier ++ option_to_list (meaning_of line)) (n + 1) lines)) h ∙ ap (λ o. first_line_fault (earlier ++ option_to_list o) (n + 1) lines) m

pub one_meaning_on : (earlier : List Line) (line : List ℕ) (lines : List (List ℕ)) (l : Line) → meaning_of line ≡ Some l
    → earlier ++ filter_map meaning_of (line ∷ lines) ≡ (earlier ++ l ∷ []) ++ filter_map meaning_of lines
one_meaning_on earlier line lines l m = ap (λ o. earlier ++ cons_option o (filter_map meaning_of lines)) m ∙ sym (append_assoc earlier (l ∷ []) (filter_map meaning_of lines))
