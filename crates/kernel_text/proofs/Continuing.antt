-- How tokens continue what is wanted.
use Rattle.std.proofs.Common.{◌≡◌, ℕ, append_assoc, ◌-◌, true, false, List, [], ◌∷◌, ◌++◌, Option, Some, None, refl, sym, ap, ◌∙◌}
use Rattle.std.specs.Prelude.{codes}
use Rattle.std.specs.Option.{option_or}
use Rattle.std.specs.Str.{byte}
use Rattle.std.proofs.lemmas.Bool.{eqb-true}
use Rattle.kernel_text.specs.declared.senses.Wanted.{Wanted}
use Rattle.kernel_text.specs.declared.senses.Wanted.TheVariants as wanted
use Rattle.kernel_text.specs.declared.tree.Operator.{Operator}
use Rattle.kernel_text.specs.declared.tree.Operator.TheVariants as op
use Rattle.kernel_text.specs.Tokens.{Token, word, number, mark, stray, is_mark, is_name, is_number, text_of, value_of}
use Rattle.kernel_text.specs.Grammar.{operator}
use Rattle.kernel_text.specs.Readings.{Reading, before, of_term, is_operator, is_optional, opens_bracket, deepest, value, ending}
use Rattle.kernel_text.specs.Built.{continues, goes_on, first, begins_with_word, wants_name, wants_number}

-- ---- tokens

pub number_is : (t : Token) → is_number t ≡ true → t ≡ number (value_of t)
number_is (word text) h = absurd (cc h)
number_is (number value) h = refl
number_is (mark symbol) h = absurd (cc h)
number_is stray h = absurd (cc h)

pub name_is : (t : Token) → is_name t ≡ true → t ≡ word (text_of t)
name_is (word text) h = refl
name_is (number value) h = absurd (cc h)
name_is (mark symbol) h = absurd (cc h)
name_is stray h = absurd (cc h)

pub mark_is : (symbol : ℕ) (t : Token) → is_mark symbol t ≡ true → t ≡ mark symbol
mark_is symbol (word text) h = absurd (cc h)
mark_is symbol (number value) h = absurd (cc h)
mark_is symbol (mark other) h = ap mark (sym (eqb-true symbol other h))
mark_is symbol stray h = absurd (cc h)

pub name_is_no_number : (t : Token) → is_name t ≡ true → is_number t ≡ false
name_is_no_number (word text) h = refl
name_is_no_number (number value) h = absurd (cc h)
name_is_no_number (mark symbol) h = absurd (cc h)
name_is_no_number stray h = absurd (cc h)

pub mark_is_no_name : (symbol : ℕ) (t : Token) → is_mark symbol t ≡ true → (is_name t ≡ false) × (is_number t ≡ false)
mark_is_no_name symbol (word text) h = absurd (cc h)
mark_is_no_name symbol (number value) h = absurd (cc h)
mark_is_no_name symbol (mark other) h = (refl, refl)
mark_is_no_name symbol stray h = absurd (cc h)

-- ---- marks

pub reads_mark : (symbol : ℕ) (t : Token) (ts : List Token) (rest : List Wanted) → is_mark symbol t ≡ true → continues (t ∷ ts) (wanted.Mark symbol ∷ rest) ≡ continues ts rest
unfolding continues
reads_mark symbol t ts rest h = rw h refl

pub sticks_at_mark : (symbol : ℕ) (t : Token) (ts : List Token) (rest : List Wanted) → is_mark symbol t ≡ false → continues (t ∷ ts) (wanted.Mark symbol ∷ rest) ≡ false
unfolding continues
sticks_at_mark symbol t ts rest h = rw h refl

pub mark_at_end : (symbol : ℕ) (rest : List Wanted) → continues [] (wanted.Mark symbol ∷ rest) ≡ false
unfolding continues
mark_at_end symbol rest = refl

-- ---- terms

pub reads_number : (room : ℕ) (whole : List Token) (t : Token) (ts : List Token) (rest : List Wanted) → whole ≡ t ∷ ts → is_number t ≡ true → continues whole (wanted.Term room ∷ rest) ≡ continues ts rest
unfolding continues
reads_number room whole t ts rest e h = ap (λ all. continues all (wanted.Term room ∷ rest)) e ∙ (rw h refl)

pub reads_variable : (room : ℕ) (whole : List Token) (t : Token) (ts : List Token) (rest : List Wanted) → whole ≡ t ∷ ts → is_name t ≡ true → opens_bracket (first ts) ≡ false
    → continues whole (wanted.Term room ∷ rest) ≡ continues ts rest
unfolding continues
reads_variable room whole t ts rest e h g = ap (λ all. continues all (wanted.Term room ∷ rest)) e ∙ (let k = name_is_no_number t h in rw (k, h, g) refl)

pub reads_item : (room : ℕ) (whole : List Token) (t : Token) (ts : List Token) (rest : List Wanted) → whole ≡ t ∷ ts → is_name t ≡ true → opens_bracket (first ts) ≡ true
    → continues whole (wanted.Term room ∷ rest) ≡ continues ts (wanted.Mark (byte "[") ∷ wanted.Term room ∷ wanted.MoreTerms room ∷ wanted.Mark (byte "]") ∷ rest)
unfolding continues
reads_item room whole t ts rest e h g = ap (λ all. continues all (wanted.Term room ∷ rest)) e ∙ (let k = name_is_no_number t h in rw (k, h, g) refl)

pub reads_group : (room : ℕ) (whole : List Token) (t : Token) (ts : List Token) (rest : List Wanted) → whole ≡ t ∷ ts → is_mark (byte "(") t ≡ true
    → continues whole (wanted.Term room ∷ rest) ≡ continues ts (wanted.Term room ∷ wanted.MoreTerms room ∷ wanted.Mark (byte ")") ∷ rest)
unfolding continues
reads_group room whole t ts rest e h = ap (λ all. continues all (wanted.Term room ∷ rest)) e ∙ (let k = mark_is_no_name (byte "(") t h in let n = k.0 in let m = k.1 in rw (m, n, h) refl)

pub sticks_at_term : (room : ℕ) (whole : List Token) (t : Token) (ts : List Token) (rest : List Wanted) → whole ≡ t ∷ ts → is_number t ≡ false → is_name t ≡ false → is_mark (byte "(") t ≡ false
    → continues whole (wanted.Term room ∷ rest) ≡ false
unfolding continues
sticks_at_term room whole t ts rest e h g f = ap (λ all. continues all (wanted.Term room ∷ rest)) e ∙ (rw (h, g, f) refl)

pub term_at_end : (room : ℕ) (whole : List Token) (rest : List Wanted) → whole ≡ [] → continues whole (wanted.Term room ∷ rest) ≡ false
unfolding continues
term_at_end room whole rest e = ap (λ all. continues all (wanted.Term room ∷ rest)) e

-- ---- further terms

reads_operator : (room : ℕ) (o : Operator) (ts : List Token) (rest : List Wanted)
    → continues (operator o ∷ ts) (wanted.MoreTerms room ∷ rest) ≡ continues ts (wanted.Term (room - 1) ∷ wanted.MoreTerms room ∷ rest)
unfolding continues
reads_operator room op.Add ts rest = refl
reads_operator room op.Sub ts rest = refl
reads_operator room op.Mul ts rest = refl
reads_operator room op.And ts rest = refl
reads_operator room op.Or ts rest = refl
reads_operator room op.Xor ts rest = refl

pub reads_more : (room : ℕ) (whole : List Token) (o : Operator) (ts : List Token) (rest : List Wanted) → whole ≡ operator o ∷ ts
    → continues whole (wanted.MoreTerms room ∷ rest) ≡ continues ts (wanted.Term (room - 1) ∷ wanted.MoreTerms room ∷ rest)
reads_more room whole o ts rest e = ap (λ all. continues all (wanted.MoreTerms room ∷ rest)) e ∙ reads_operator room o ts rest

pub no_more_terms : (room : ℕ) (whole : List Token) (t : Token) (ts : List Token) (rest : List Wanted) → whole ≡ t ∷ ts → is_operator t ≡ false
    → continues whole (wanted.MoreTerms room ∷ rest) ≡ continues whole rest
unfolding continues
no_more_terms room whole t ts rest e h = ap (λ all. continues all (wanted.MoreTerms room ∷ rest)) e ∙ (rw h refl) ∙ ap (λ all. continues all rest) (sym e)

pub no_terms_at_end : (room : ℕ) (whole : List Token) (rest : List Wanted) → whole ≡ [] → continues whole (wanted.MoreTerms room ∷ rest) ≡ continues whole rest
unfolding continues
no_terms_at_end room whole rest e = ap (λ all. continues all (wanted.MoreTerms room ∷ rest)) e ∙ ap (λ all. continues all rest) (sym e)

-- ---- names, numbers and the brace that ends a loop

pub reads_name : (w : Wanted) (whole : List Token) (t : Token) (ts : List Token) (rest : List Wanted) → wants_name w ≡ true → whole ≡ t ∷ ts → is_name t ≡ true
    → continues whole (w ∷ rest) ≡ continues ts rest
unfolding continues
reads_name (wanted.DeclaredName array) whole t ts rest k e h = ap (λ all. continues all (wanted.DeclaredName array ∷ rest)) e ∙ (rw h refl)
reads_name wanted.SecondVariable whole t ts rest k e h = ap (λ all. continues all (wanted.SecondVariable ∷ rest)) e ∙ (rw h refl)
reads_name wanted.Counter whole t ts rest k e h = ap (λ all. continues all (wanted.Counter ∷ rest)) e ∙ (rw h refl)
reads_name wanted.ArrayName whole t ts rest k e h = ap (λ all. continues all (wanted.ArrayName ∷ rest)) e ∙ (rw h refl)
reads_name wanted.TableName whole t ts rest k e h = ap (λ all. continues all (wanted.TableName ∷ rest)) e ∙ (rw h refl)
reads_name wanted.Operand whole t ts rest k e h = ap (λ all. continues all (wanted.Operand ∷ rest)) e ∙ (rw h refl)
reads_name _ whole t ts rest k e h = absurd (cc k)

pub sticks_at_name : (w : Wanted) (whole : List Token) (t : Token) (ts : List Token) (rest : List Wanted) → wants_name w ≡ true → whole ≡ t ∷ ts → is_name t ≡ false
    → continues whole (w ∷ rest) ≡ false
unfolding continues
sticks_at_name (wanted.DeclaredName array) whole t ts rest k e h = ap (λ all. continues all (wanted.DeclaredName array ∷ rest)) e ∙ (rw h refl)
sticks_at_name wanted.SecondVariable whole t ts rest k e h = ap (λ all. continues all (wanted.SecondVariable ∷ rest)) e ∙ (rw h refl)
sticks_at_name wanted.Counter whole t ts rest k e h = ap (λ all. continues all (wanted.Counter ∷ rest)) e ∙ (rw h refl)
sticks_at_name wanted.ArrayName whole t ts rest k e h = ap (λ all. continues all (wanted.ArrayName ∷ rest)) e ∙ (rw h refl)
sticks_at_name wanted.TableName whole t ts rest k e h = ap (λ all. continues all (wanted.TableName ∷ rest)) e ∙ (rw h refl)
sticks_at_name wanted.Operand whole t ts rest k e h = ap (λ all. continues all (wanted.Operand ∷ rest)) e ∙ (rw h refl)
sticks_at_name _ whole t ts rest k e h = absurd (cc k)

pub reads_count : (w : Wanted) (whole : List Token) (t : Token) (ts : List Token) (rest : List Wanted) → wants_number w ≡ true → whole ≡ t ∷ ts → is_number t ≡ true
    → continues whole (w ∷ rest) ≡ continues ts rest
unfolding continues
reads_count wanted.Size whole t ts rest k e h = ap (λ all. continues all (wanted.Size ∷ rest)) e ∙ (rw h refl)
reads_count wanted.Value whole t ts rest k e h = ap (λ all. continues all (wanted.Value ∷ rest)) e ∙ (rw h refl)
reads_count wanted.TurnCount whole t ts rest k e h = ap (λ all. continues all (wanted.TurnCount ∷ rest)) e ∙ (rw h refl)
reads_count wanted.Shift whole t ts rest k e h = ap (λ all. continues all (wanted.Shift ∷ rest)) e ∙ (rw h refl)
reads_count _ whole t ts rest k e h = absurd (cc k)

pub sticks_at_count : (w : Wanted) (whole : List Token) (t : Token) (ts : List Token) (rest : List Wanted) → wants_number w ≡ true → whole ≡ t ∷ ts → is_number t ≡ false
    → continues whole (w ∷ rest) ≡ false
unfolding continues
sticks_at_count wanted.Size whole t ts rest k e h = ap (λ all. continues all (wanted.Size ∷ rest)) e ∙ (rw h refl)
sticks_at_count wanted.Value whole t ts rest k e h = ap (λ all. continues all (wanted.Value ∷ rest)) e ∙ (rw h refl)
sticks_at_count wanted.TurnCount whole t ts rest k e h = ap (λ all. continues all (wanted.TurnCount ∷ rest)) e ∙ (rw h refl)
sticks_at_count wanted.Shift whole t ts rest k e h = ap (λ all. continues all (wanted.Shift ∷ rest)) e ∙ (rw h refl)
sticks_at_count _ whole t ts rest k e h = absurd (cc k)

-- the text ends where something is wanted that may not be left out
pub wanted_at_end : (w : Wanted) (whole : List Token) (rest : List Wanted) → is_optional w ≡ false → whole ≡ [] → continues whole (w ∷ rest) ≡ false
unfolding continues
wanted_at_end w whole rest h e = ap (λ all. continues all (w ∷ rest)) e ∙ (rw h refl)

pub name_is_no_option : (w : Wanted) → wants_name w ≡ true → is_optional w ≡ false
name_is_no_option wanted.Declarations k = absurd (cc k)
name_is_no_option wanted.MoreValues k = absurd (cc k)
name_is_no_option wanted.Statements k = absurd (cc k)
name_is_no_option (wanted.MoreTerms room) k = absurd (cc k)
name_is_no_option _ k = refl

pub number_is_no_option : (w : Wanted) → wants_number w ≡ true → is_optional w ≡ false
number_is_no_option wanted.Declarations k = absurd (cc k)
number_is_no_option wanted.MoreValues k = absurd (cc k)
number_is_no_option wanted.Statements k = absurd (cc k)
number_is_no_option (wanted.MoreTerms room) k = absurd (cc k)
number_is_no_option _ k = refl

pub reads_brace : (whole : List Token) (t : Token) (ts : List Token) (rest : List Wanted) → whole ≡ t ∷ ts → is_mark (byte "}") t ≡ true
    → continues whole (wanted.ClosingBrace ∷ rest) ≡ continues ts rest
unfolding continues
reads_brace whole t ts rest e h = ap (λ all. continues all (wanted.ClosingBrace ∷ rest)) e ∙ (rw h refl)

pub sticks_at_brace : (whole : List Token) (t : Token) (ts : List Token) (rest : List Wanted) → whole ≡ t ∷ ts → is_mark (byte "}") t ≡ false
    → continues whole (wanted.ClosingBrace ∷ rest) ≡ false
unfolding continues
sticks_at_brace whole t ts rest e h = ap (λ all. continues all (wanted.ClosingBrace ∷ rest)) e ∙ (rw h refl)

-- ---- statements

pub reads_one_word : (whole : List Token) (rest : List Wanted) → begins_with_word (codes "dot") whole ≡ false
    → continues whole (wanted.OneWord ∷ rest) ≡ continues whole (value ++ ending ++ rest)
unfolding continues
reads_one_word [] rest h = refl
reads_one_word (t ∷ ts) rest h = (rw h (ap (goes_on (continues ts)) (again (of_term deepest t (first ts)))))
  where
    again : (r : Option Reading) → option_or (before (before r (wanted.MoreTerms deepest ∷ ending)) rest) None ≡ option_or (before r (wanted.MoreTerms deepest ∷ ending ++ rest)) None
    again None = refl
    again (Some r) = ap (λ w. Some (record r { wanted = w })) (append_assoc r.wanted (wanted.MoreTerms deepest ∷ ending) rest)
