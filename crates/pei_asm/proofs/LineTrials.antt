-- A line whose trials find nothing.
use Rattle.std.proofs.Common.{◌≡◌, ℕ, List, [], ◌∷◌, ◌++◌, Bool, true, false, not, if◌then◌else◌, Option, Some, None, refl, sym, ap, ◌∙◌}
use Rattle.std.specs.Prelude.{is_none, find, IfSome}
use Rattle.std.specs.Option.{option_or, option_and_then}
use Rattle.std.specs.Str.{is_utf8}
use Rattle.std.proofs.lemmas.Bool.{and_parts, not-true}
use Rattle.pei_asm.specs.declared.faults.AsmFault.{AsmFault}
use Rattle.pei_asm.specs.declared.faults.AsmKind.TheVariants as kind
use Rattle.asm_statements.specs.Tokens.{Token, name, number, comma, colon, star, stray, Placed, tokens_of}
use Rattle.asm_statements.specs.Mnemonics.{rows_named, is_number_in_range, core_in}
use Rattle.asm_statements.specs.Statements.{Statement, Line, body_of, fits_row, is_in_range, label_of, line_from, line_of, line_with, meaning_of, separated, statement_in, statement_named, statement_with, item_anywhere}
use Rattle.pei_asm.specs.Faults.{Trial, fault_of_trials, has_entry, is_defined_before, is_one_too_many, line_fault}
use Rattle.asm_statements.specs.LineFaults.{column_if, column_where, first_column, register_out_of_range}
use Rattle.pei_asm.specs.Trials.{trials_of_front, trials_of_statement}
use Rattle.pei_asm.proofs.LineVerdicts.{follows, may_stand, passes, line_verdict}
use Rattle.pei_asm.proofs.TestFacts.{and_then_some, map_some}
use Rattle.pei_types.proofs.Lists.{found_passes}

-- ---- the trials in their order

fault_in_turn : (n : ℕ) (xs ys : List Trial) → fault_of_trials n (xs ++ ys) ≡ option_or (fault_of_trials n xs) (fault_of_trials n ys)
fault_in_turn n [] ys = refl
fault_in_turn n ((k, None) ∷ xs) ys = fault_in_turn n xs ys
fault_in_turn n ((k, Some column) ∷ xs) ys = refl

-- the trials of what stands behind the label
pub trials_of_body : List Line → List Placed → Option Statement → List Trial
trials_of_body earlier body o =
    (kind.WrongOperands, column_if (is_none o) (first_column body))
    ∷ (kind.NumberTooLarge, option_and_then (λ s. column_where (λ t. not (is_number_in_range t)) s.operands) o)
    ∷ (kind.RegisterRange, option_and_then register_out_of_range o)
    ∷ (kind.TooManyInstructions, option_and_then (λ s. column_if (is_one_too_many earlier s) (first_column body)) o)
    ∷ (kind.DoubleEntry, option_and_then (λ s. column_if (has_entry earlier (core_in (item_anywhere s))) (first_column body)) o)
    ∷ []

parted : (earlier : List Line) (n : ℕ) (line : List ℕ) → line_fault earlier n line
    ≡ option_or (fault_of_trials n (trials_of_front earlier line (tokens_of line) (body_of (tokens_of line)))) (fault_of_trials n (trials_of_body earlier (body_of (tokens_of line)) (statement_in (body_of (tokens_of line)))))
unfolding trials_of_body line_fault
parted earlier n line = fault_in_turn n (trials_of_front earlier line (tokens_of line) (body_of (tokens_of line))) (trials_of_body earlier (body_of (tokens_of line)) (statement_in (body_of (tokens_of line))))

-- a fault of the front is the line's
pub fault_in_front : (earlier : List Line) (n : ℕ) (line : List ℕ) (placed : List Placed) (f : AsmFault) → placed ≡ tokens_of line
    → Some f ≡ fault_of_trials n (trials_of_front earlier line placed (body_of placed)) → line_fault earlier n line ≡ Some f
fault_in_front earlier n line placed f e h =
    parted earlier n line ∙ ap (λ o. option_or o (fault_of_trials n (trials_of_body earlier (body_of (tokens_of line)) (statement_in (body_of (tokens_of line))))))
    (sym (h ∙ ap (λ ts. fault_of_trials n (trials_of_front earlier line ts (body_of ts))) e))

-- where the front has none, that of the body is
pub fault_in_body : (earlier : List Line) (n : ℕ) (line : List ℕ) (placed body : List Placed) (o : Option Statement) → placed ≡ tokens_of line
    → None ≡ fault_of_trials n (trials_of_front earlier line placed (body_of placed)) → body ≡ body_of placed → o ≡ statement_in body
    → line_fault earlier n line ≡ fault_of_trials n (trials_of_body earlier body o)
fault_in_body earlier n line placed body o e h b s =
    let behind : body_of (tokens_of line) ≡ body = ap body_of (sym e) ∙ sym b
    in parted earlier n line
    ∙ ap (λ r. option_or r (fault_of_trials n (trials_of_body earlier (body_of (tokens_of line)) (statement_in (body_of (tokens_of line))))))
    (sym (h ∙ ap (λ ts. fault_of_trials n (trials_of_front earlier line ts (body_of ts))) e))
    ∙ ap (λ ts. fault_of_trials n (trials_of_body earlier ts (statement_in ts))) behind
    ∙ ap (λ r. fault_of_trials n (trials_of_body earlier body r)) (sym s)

-- no body, no operands that fit, or a statement
pub nothing_stands : (earlier : List Line) (n : ℕ) → fault_of_trials n (trials_of_body earlier [] None) ≡ None
unfolding trials_of_body
nothing_stands earlier n = refl

pub operands_fail : (earlier : List Line) (n : ℕ) (t : Placed) (rest : List Placed)
    → fault_of_trials n (trials_of_body earlier (t ∷ rest) None) ≡ Some (record { line = n; column = t.column; kind = kind.WrongOperands })
unfolding trials_of_body
operands_fail earlier n t rest = refl

pub statement_stands : (earlier : List Line) (n : ℕ) (t : Placed) (rest : List Placed) (s : Statement)
    → fault_of_trials n (trials_of_body earlier (t ∷ rest) (Some s)) ≡ fault_of_trials n (trials_of_statement earlier (Some t.column) s)
unfolding trials_of_body
statement_stands earlier n t rest s = refl

-- ---- a line without a fault

-- a statement's operands fit its row
pub statement_fits : (body : List Placed) (s : Statement) → statement_in body ≡ Some s → fits_row s.operands s.row ≡ true
statement_fits [] s h = absurd (cc h)
statement_fits (t ∷ rest) s h = by_head t.token h
  where
    by_head : (u : Token) → statement_named u rest ≡ Some s → fits_row s.operands s.row ≡ true
    by_head (name text) e =
        let parts = and_then_some (statement_with (rows_named text)) (separated rest) s e
        in let found = map_some (λ r. record { row = r; operands = parts.0 }) (find (fits_row parts.0) (rows_named text)) s parts.2
        in ap (λ x. fits_row x.operands x.row) (sym found.2) ∙ found_passes (fits_row parts.0) (rows_named text) found.0 found.1
    by_head (number negative n) e = absurd (cc e)
    by_head comma e = absurd (cc e)
    by_head colon e = absurd (cc e)
    by_head star e = absurd (cc e)
    by_head stray e = absurd (cc e)

passes_all : (earlier : List Line) (n : ℕ) (line : List ℕ) → line_fault earlier n line ≡ None → passes earlier (meaning_of line) ≡ true
passes_all earlier n line h = sym (line_verdict earlier n line) ∙ ap is_none h

-- what a line without a fault means
pub meant : (earlier : List Line) (n : ℕ) (line : List ℕ) → line_fault earlier n line ≡ None → meaning_of line ≡ line_of (tokens_of line)
unfolding passes
meant earlier n line h = by_bytes (is_utf8 line) (passes_all earlier n line h)
  where
    by_bytes : (b : Bool) → passes earlier (if b then line_of (tokens_of line) else None) ≡ true → (if b then line_of (tokens_of line) else None) ≡ line_of (tokens_of line)
    by_bytes true k = refl
    by_bytes false k = absurd (cc k)

-- and it may follow the earlier lines
may_follow : (earlier : List Line) (n : ℕ) (line : List ℕ) (l : Line) → line_fault earlier n line ≡ None → meaning_of line ≡ Some l → follows earlier l ≡ true
unfolding passes
may_follow earlier n line l h m = sym (ap (passes earlier) m) ∙ passes_all earlier n line h

pub label_is_new : (earlier : List Line) (n : ℕ) (line : List ℕ) (l : Line) → line_fault earlier n line ≡ None → meaning_of line ≡ Some l → is_defined_before earlier l.label ≡ false
unfolding follows
label_is_new earlier n line l h m = not-true _ (and_parts (not (is_defined_before earlier l.label)) (may_stand earlier l.statement) (may_follow earlier n line l h m)).0

pub there_is_room : (earlier : List Line) (n : ℕ) (line : List ℕ) (l : Line) → line_fault earlier n line ≡ None → meaning_of line ≡ Some l → IfSome l.statement (λ s. is_one_too_many earlier s ≡ false)
unfolding follows may_stand
there_is_room earlier n line l h m = by_statement l.statement (and_parts (not (is_defined_before earlier l.label)) (may_stand earlier l.statement) (may_follow earlier n line l h m)).1
  where
    by_statement : (o : Option Statement) → may_stand earlier o ≡ true → IfSome o (λ s. is_one_too_many earlier s ≡ false)
    by_statement None k = tt
    by_statement (Some s) k = not-true _ (and_parts (not (is_one_too_many earlier s)) (not (has_entry earlier (core_in (item_anywhere s)))) k).0

-- a line with a statement is in range, and has that statement
pub statement_meant : (earlier : List Line) (n : ℕ) (line : List ℕ) (placed body : List Placed) (s : Statement) → placed ≡ tokens_of line → body ≡ body_of placed → Some s ≡ statement_in body
    → line_fault earlier n line ≡ None → (is_in_range s ≡ true) × (meaning_of line ≡ Some (record { label = label_of placed; statement = Some s }))
unfolding passes
statement_meant earlier n line placed body s e b k h =
    let means : meaning_of line ≡ line_from (label_of placed) body = meant earlier n line h ∙ ap line_of (sym e) ∙ ap (line_from (label_of placed)) (sym b)
    in by_body body k means
  where
    by_range : (label : Option (List ℕ)) (r : Bool) → is_in_range s ≡ r → meaning_of line ≡ (if r then Some (record { label = label; statement = Some s }) else None)
        → (is_in_range s ≡ true) × (meaning_of line ≡ Some (record { label = label; statement = Some s }))
    by_range label true q m = (q, m)
    by_range label false q m = absurd (cc (sym (ap (passes earlier) m) ∙ passes_all earlier n line h))

    by_body : (ts : List Placed) → Some s ≡ statement_in ts → meaning_of line ≡ line_from (label_of placed) ts → (is_in_range s ≡ true) × (meaning_of line ≡ Some (record { label = label_of placed; statement = Some s }))
    by_body [] q m = absurd (cc q)
    by_body (t ∷ ts) q m = by_range (label_of placed) (is_in_range s) refl (m ∙ ap (line_with (label_of placed)) (sym q))

-- a line without a body has no statement
pub label_meant : (earlier : List Line) (n : ℕ) (line : List ℕ) (placed : List Placed) → placed ≡ tokens_of line → body_of placed ≡ []
    → line_fault earlier n line ≡ None → meaning_of line ≡ Some (record { label = label_of placed; statement = None })
label_meant earlier n line placed e b h = meant earlier n line h ∙ ap line_of (sym e) ∙ ap (line_from (label_of placed)) b

-- the same, where each part was taken from a list of its own
pub fault_behind : (earlier : List Line) (n : ℕ) (line : List ℕ) (placed first third body : List Placed) (o : Option Statement) → placed ≡ tokens_of line → first ≡ placed
    → None ≡ fault_of_trials n (trials_of_front earlier line first (body_of first)) → third ≡ placed → body ≡ body_of third → o ≡ statement_in body
    → line_fault earlier n line ≡ fault_of_trials n (trials_of_body earlier body o)
fault_behind earlier n line placed first third body o e a h t b s = fault_in_body earlier n line first body o (a ∙ e) h (b ∙ ap body_of (t ∙ sym a)) s
