-- What the word or the mark that stands first decides.
use Rattle.std.proofs.Common.{◌≡◌, ℕ, Bool, true, false, ◌||◌, List, [], ◌∷◌, ◌++◌, Option, None, refl, sym, ap, ◌∙◌}
use Rattle.std.specs.Prelude.{codes, Result, Ok, Err, IfOk, IfErr}
use Rattle.std.specs.Str.{byte}
use Rattle.std.proofs.lemmas.Slice.Eq.{bytes_eq-Decides}
use Rattle.kernel_text.specs.declared.senses.Wanted.{Wanted}
use Rattle.kernel_text.specs.declared.senses.Wanted.TheVariants as wanted
use Rattle.kernel_text.specs.declared.stop.Stop.{Stop}
use Rattle.kernel_text.specs.declared.stop.Stop.TheVariants as stop
use Rattle.kernel_text.specs.Tokens.{Token, word, number, mark, stray, is_word, is_mark, is_name}
use Rattle.kernel_text.specs.Readings.{is_optional, opens_bracket, value, index, comma, ending, operands, sized}
use Rattle.kernel_text.specs.Beginnings.{begins_statement, begins_declaration}
use Rattle.kernel_text.specs.Built.{begins_with_mark, continues, first, Reads, Sticks}
use Rattle.kernel_text.proofs.Continuing.{mark_is}

or_false : (a b : Bool) → (a || b) ≡ false → (a ≡ false) × (b ≡ false)
or_false true b h = absurd (cc h)
or_false false b h = (refl, h)

-- ---- what was read further on

pub pass_reads : {X : Type 0} (result : Result X Stop) (left : X → List Token) (whole ts : List Token) (behind phrase : List Wanted)
    → ((rest : List Wanted) → continues whole (behind ++ rest) ≡ continues ts (phrase ++ rest)) → IfOk result (λ r. Reads phrase ts (left r)) → IfOk result (λ r. Reads behind whole (left r))
pass_reads (Ok x) left whole ts behind phrase e h = λ rest. e rest ∙ h rest
pass_reads (Err x) left whole ts behind phrase e h = tt

pub pass_sticks : {X : Type 0} (result : Result X Stop) (whole ts : List Token) (behind phrase : List Wanted)
    → ((rest : List Wanted) → continues whole (behind ++ rest) ≡ continues ts (phrase ++ rest)) → IfErr result (λ e. e ≡ stop.Misfit → Sticks phrase ts) → IfErr result (λ e. e ≡ stop.Misfit → Sticks behind whole)
pass_sticks (Ok x) whole ts behind phrase e h = tt
pass_sticks (Err x) whole ts behind phrase e h = λ misfit rest. e rest ∙ h misfit rest

-- ---- words

pub word_is : (text : List ℕ) (t : Token) → is_word text t ≡ true → t ≡ word text
word_is text (word other) h = ap word (sym ((bytes_eq-Decides text other).0 h))
word_is text (number value) h = absurd (cc h)
word_is text (mark symbol) h = absurd (cc h)
word_is text stray h = absurd (cc h)

first_word : (text : List ℕ) (whole : List Token) (t : Token) (ts : List Token) → whole ≡ t ∷ ts → is_word text t ≡ true → whole ≡ word text ∷ ts
first_word text whole t ts e h = e ∙ ap (λ x. x ∷ ts) (word_is text t h)

first_mark : (symbol : ℕ) (whole : List Token) (t : Token) (ts : List Token) → whole ≡ t ∷ ts → is_mark symbol t ≡ true → whole ≡ mark symbol ∷ ts
first_mark symbol whole t ts e h = e ∙ ap (λ x. x ∷ ts) (mark_is symbol t h)

pub reads_dot : (whole : List Token) (t : Token) (ts : List Token) (rest : List Wanted) → whole ≡ t ∷ ts → is_word (codes "dot") t ≡ true
    → continues whole (wanted.OneWord ∷ rest) ≡ continues ts ((wanted.TableName ∷ index ++ comma ++ operands ++ ending) ++ rest)
unfolding continues
reads_dot whole t ts rest e h = ap (λ all. continues all (wanted.OneWord ∷ rest)) (first_word (codes "dot") whole t ts e h)

pub reads_probe : (whole : List Token) (t : Token) (ts : List Token) (rest : List Wanted) → whole ≡ t ∷ ts → is_word (codes "probe") t ≡ true
    → continues whole (wanted.TwoWords ∷ rest) ≡ continues ts ((wanted.TableName ∷ index ++ comma ++ value ++ ending) ++ rest)
unfolding continues
reads_probe whole t ts rest e h = ap (λ all. continues all (wanted.TwoWords ∷ rest)) (first_word (codes "probe") whole t ts e h)

pub reads_hist : (whole : List Token) (t : Token) (ts : List Token) (rest : List Wanted) → whole ≡ t ∷ ts → is_word (codes "hist") t ≡ true
    → continues whole (wanted.TwoWords ∷ rest) ≡ continues ts ((wanted.TableName ∷ index ++ comma ++ wanted.Shift ∷ ending) ++ rest)
unfolding continues
reads_hist whole t ts rest e h = ap (λ all. continues all (wanted.TwoWords ∷ rest)) (first_word (codes "hist") whole t ts e h)

pub reads_one : (whole : List Token) (t : Token) (ts : List Token) (rest : List Wanted) → whole ≡ t ∷ ts → is_mark (byte "=") t ≡ true
    → continues whole (wanted.BehindVariable ∷ rest) ≡ continues ts ((wanted.OneWord ∷ []) ++ rest)
unfolding continues
reads_one whole t ts rest e h = ap (λ all. continues all (wanted.BehindVariable ∷ rest)) (first_mark (byte "=") whole t ts e h)

pub reads_two : (whole : List Token) (t : Token) (ts : List Token) (rest : List Wanted) → whole ≡ t ∷ ts → is_mark (byte ",") t ≡ true
    → continues whole (wanted.BehindVariable ∷ rest) ≡ continues ts ((wanted.SecondVariable ∷ wanted.Mark (byte "=") ∷ wanted.TwoWords ∷ []) ++ rest)
unfolding continues
reads_two whole t ts rest e h = ap (λ all. continues all (wanted.BehindVariable ∷ rest)) (first_mark (byte ",") whole t ts e h)

pub reads_print : (whole : List Token) (t : Token) (ts : List Token) (rest : List Wanted) → whole ≡ t ∷ ts → is_word (codes "print") t ≡ true
    → continues whole (wanted.Statements ∷ rest) ≡ continues ts ((value ++ ending ++ wanted.Statements ∷ []) ++ rest)
unfolding continues
reads_print whole t ts rest e h = ap (λ all. continues all (wanted.Statements ∷ rest)) (first_word (codes "print") whole t ts e h)

pub reads_inc : (whole : List Token) (t : Token) (ts : List Token) (rest : List Wanted) → whole ≡ t ∷ ts → is_word (codes "inc") t ≡ true
    → continues whole (wanted.Statements ∷ rest) ≡ continues ts ((wanted.ArrayName ∷ index ++ ending ++ wanted.Statements ∷ []) ++ rest)
unfolding continues
reads_inc whole t ts rest e h = ap (λ all. continues all (wanted.Statements ∷ rest)) (first_word (codes "inc") whole t ts e h)

pub reads_min : (whole : List Token) (t : Token) (ts : List Token) (rest : List Wanted) → whole ≡ t ∷ ts → is_word (codes "min") t ≡ true
    → continues whole (wanted.Statements ∷ rest) ≡ continues ts ((wanted.ArrayName ∷ index ++ comma ++ value ++ ending ++ wanted.Statements ∷ []) ++ rest)
unfolding continues
reads_min whole t ts rest e h = ap (λ all. continues all (wanted.Statements ∷ rest)) (first_word (codes "min") whole t ts e h)

pub reads_for : (whole : List Token) (t : Token) (ts : List Token) (rest : List Wanted) → whole ≡ t ∷ ts → is_word (codes "for") t ≡ true
    → continues whole (wanted.Statements ∷ rest) ≡ continues ts ((wanted.Counter ∷ wanted.Mark (byte "<") ∷ wanted.TurnCount ∷ wanted.Mark (byte "{") ∷ wanted.Statements ∷ wanted.ClosingBrace ∷ wanted.Statements ∷ []) ++ rest)
unfolding continues
reads_for whole t ts rest e h = ap (λ all. continues all (wanted.Statements ∷ rest)) (first_word (codes "for") whole t ts e h)

pub reads_table : (whole : List Token) (t : Token) (ts : List Token) (rest : List Wanted) → whole ≡ t ∷ ts → is_word (codes "table") t ≡ true
    → continues whole (wanted.Declarations ∷ rest) ≡ continues ts ((sized false ++ wanted.Mark (byte "=") ∷ wanted.Value ∷ wanted.MoreValues ∷ ending ++ wanted.Declarations ∷ []) ++ rest)
unfolding continues
reads_table whole t ts rest e h = ap (λ all. continues all (wanted.Declarations ∷ rest)) (first_word (codes "table") whole t ts e h)

pub reads_array : (whole : List Token) (t : Token) (ts : List Token) (rest : List Wanted) → whole ≡ t ∷ ts → is_word (codes "array") t ≡ true
    → continues whole (wanted.Declarations ∷ rest) ≡ continues ts ((sized true ++ ending ++ wanted.Declarations ∷ []) ++ rest)
unfolding continues
reads_array whole t ts rest e h = ap (λ all. continues all (wanted.Declarations ∷ rest)) (first_word (codes "array") whole t ts e h)

pub reads_value : (whole : List Token) (t : Token) (ts : List Token) (rest : List Wanted) → whole ≡ t ∷ ts → is_mark (byte ",") t ≡ true
    → continues whole (wanted.MoreValues ∷ rest) ≡ continues ts ((wanted.Value ∷ wanted.MoreValues ∷ []) ++ rest)
unfolding continues
reads_value whole t ts rest e h = ap (λ all. continues all (wanted.MoreValues ∷ rest)) (first_mark (byte ",") whole t ts e h)

pub reads_store : (whole : List Token) (t : Token) (ts : List Token) (rest : List Wanted) → whole ≡ t ∷ ts → is_name t ≡ true → opens_bracket (first ts) ≡ true
    → continues whole (wanted.Statements ∷ rest) ≡ continues ts ((index ++ wanted.Mark (byte "=") ∷ value ++ ending ++ wanted.Statements ∷ []) ++ rest)
unfolding continues
reads_store whole t ts rest e h g = ap (λ all. continues all (wanted.Statements ∷ rest)) e ∙ (rw (h, g) refl)

pub reads_set : (whole : List Token) (t : Token) (ts : List Token) (rest : List Wanted) → whole ≡ t ∷ ts → is_name t ≡ true → opens_bracket (first ts) ≡ false
    → continues whole (wanted.Statements ∷ rest) ≡ continues ts (wanted.BehindVariable ∷ wanted.Statements ∷ rest)
unfolding continues
reads_set whole t ts rest e h g = ap (λ all. continues all (wanted.Statements ∷ rest)) e ∙ (rw (h, g) refl)

pub no_statement : (whole : List Token) (t : Token) (ts : List Token) (rest : List Wanted) → whole ≡ t ∷ ts → is_name t ≡ false → is_word (codes "print") t ≡ false
    → is_word (codes "inc") t ≡ false → is_word (codes "min") t ≡ false → is_word (codes "for") t ≡ false
    → continues whole (wanted.Statements ∷ rest) ≡ continues whole rest
unfolding continues
no_statement whole t ts rest e a b c d f = ap (λ all. continues all (wanted.Statements ∷ rest)) e ∙ (rw (a, b, c, d, f) refl) ∙ ap (λ all. continues all rest) (sym e)

pub no_declaration : (whole : List Token) (t : Token) (ts : List Token) (rest : List Wanted) → whole ≡ t ∷ ts → is_word (codes "table") t ≡ false → is_word (codes "array") t ≡ false
    → continues whole (wanted.Declarations ∷ rest) ≡ continues whole rest
unfolding continues
no_declaration whole t ts rest e a b = ap (λ all. continues all (wanted.Declarations ∷ rest)) e ∙ (rw (a, b) refl) ∙ ap (λ all. continues all rest) (sym e)

pub nothing_more : (w : Wanted) (whole : List Token) (rest : List Wanted) → is_optional w ≡ true → whole ≡ [] → continues whole (w ∷ rest) ≡ continues whole rest
unfolding continues
nothing_more w whole rest h e = ap (λ all. continues all (w ∷ rest)) e ∙ (rw h refl) ∙ ap (λ all. continues all rest) (sym e)

pub no_value : (whole : List Token) (rest : List Wanted) → begins_with_mark (byte ",") whole ≡ false → continues whole (wanted.MoreValues ∷ rest) ≡ continues whole rest
unfolding continues
no_value [] rest h = refl
no_value (t ∷ ts) rest h = rw h refl

pub sticks_at_words : (whole : List Token) (t : Token) (ts : List Token) (rest : List Wanted) → whole ≡ t ∷ ts → is_word (codes "probe") t ≡ false → is_word (codes "hist") t ≡ false
    → continues whole (wanted.TwoWords ∷ rest) ≡ false
unfolding continues
sticks_at_words whole t ts rest e a b = ap (λ all. continues all (wanted.TwoWords ∷ rest)) e ∙ (rw (a, b) refl)

pub sticks_at_variable : (whole : List Token) (t : Token) (ts : List Token) (rest : List Wanted) → whole ≡ t ∷ ts → is_mark (byte "=") t ≡ false → is_mark (byte ",") t ≡ false
    → continues whole (wanted.BehindVariable ∷ rest) ≡ false
unfolding continues
sticks_at_variable whole t ts rest e a b = ap (λ all. continues all (wanted.BehindVariable ∷ rest)) e ∙ (rw (a, b) refl)

pub reads_comma : (whole : List Token) (rest : List Wanted) → begins_with_mark (byte ",") whole ≡ true
    → continues whole (wanted.MoreValues ∷ rest) ≡ continues whole (wanted.Mark (byte ",") ∷ wanted.Value ∷ wanted.MoreValues ∷ rest)
unfolding continues
reads_comma [] rest h = absurd (cc h)
reads_comma (t ∷ ts) rest h = rw h refl

-- ---- what stands first decides that a statement or a declaration begins

none_begins : {A : Type 0} (p : Option Token → Bool) (whole : List Token) → p None ≡ false → whole ≡ [] → p (first whole) ≡ true → A
none_begins p whole never e h = absurd (contrary (sym never ∙ (ap (λ ts. p (first ts)) (sym e) ∙ h)))
  where
    contrary : false ≡ true → ⊥
    contrary k = cc k

pub statement_begins : {A : Type 0} (whole : List Token) → whole ≡ [] → begins_statement (first whole) ≡ true → A
statement_begins whole e h = none_begins begins_statement whole refl e h

pub declaration_begins : {A : Type 0} (whole : List Token) → whole ≡ [] → begins_declaration (first whole) ≡ true → A
declaration_begins whole e h = none_begins begins_declaration whole refl e h

pub last_statement : (whole : List Token) (t : Token) (ts : List Token) → whole ≡ t ∷ ts → begins_statement (first whole) ≡ true → is_name t ≡ false
    → is_word (codes "print") t ≡ false → is_word (codes "inc") t ≡ false → is_word (codes "min") t ≡ false → is_word (codes "for") t ≡ true
last_statement whole t ts e h a b c d = (let k = ap (λ all. begins_statement (first all)) (sym e) ∙ h in rw (a, b, c, d) at k)

pub last_declaration : (whole : List Token) (t : Token) (ts : List Token) → whole ≡ t ∷ ts → begins_declaration (first whole) ≡ true → is_word (codes "table") t ≡ false
    → is_word (codes "array") t ≡ true
last_declaration whole t ts e h a = (let k = ap (λ all. begins_declaration (first all)) (sym e) ∙ h in rw a at k)

pub no_statement_here : (whole : List Token) (rest : List Wanted) → begins_statement (first whole) ≡ false → continues whole (wanted.Statements ∷ rest) ≡ continues whole rest
no_statement_here [] rest h = nothing_more wanted.Statements [] rest refl refl
no_statement_here (t ∷ ts) rest h =
    let d = or_false (is_name t || is_word (codes "print") t || is_word (codes "inc") t || is_word (codes "min") t) (is_word (codes "for") t) h
    in let c = or_false (is_name t || is_word (codes "print") t || is_word (codes "inc") t) (is_word (codes "min") t) d.0
    in let b = or_false (is_name t || is_word (codes "print") t) (is_word (codes "inc") t) c.0
    in let a = or_false (is_name t) (is_word (codes "print") t) b.0
    in no_statement (t ∷ ts) t ts rest refl a.0 a.1 b.1 c.1 d.1

pub no_declaration_here : (whole : List Token) (rest : List Wanted) → begins_declaration (first whole) ≡ false → continues whole (wanted.Declarations ∷ rest) ≡ continues whole rest
no_declaration_here [] rest h = nothing_more wanted.Declarations [] rest refl refl
no_declaration_here (t ∷ ts) rest h =
    let a = or_false (is_word (codes "table") t) (is_word (codes "array") t) h
    in no_declaration (t ∷ ts) t ts rest refl a.0 a.1
