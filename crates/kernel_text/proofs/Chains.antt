-- An expression is a first term and what is behind it: operators, each with its term.
use Rattle.std.proofs.Common.{◌≡◌, Bool, true, false, ◌&&◌, List, [], ◌∷◌, ◌++◌, refl, sym, ap, ◌∙◌, append_assoc, append-nil}
use Rattle.std.specs.List.{list_all}
use Rattle.std.specs.Str.{byte}
use Rattle.std.proofs.lemmas.Bool.{and_parts}
use Rattle.std.proofs.lemmas.List.Folds.{list_all-append}
use Rattle.kernel_text.specs.declared.tree.Operator.{Operator}
use Rattle.kernel_text.specs.declared.tree.Operator.TheVariants as op
use Rattle.kernel_text.specs.Tokens.{Token, is_mark}
use Rattle.kernel_text.specs.Trees.{Expression, num, named, item, group, binary}
use Rattle.kernel_text.specs.Grammar.{expression, operator, is_expression, is_term}
use Rattle.kernel_text.specs.Readings.{is_operator}

abbrev pub extended : Expression → List (Operator × Expression) → Expression
extended t [] = t
extended t (p ∷ ps) = extended (binary p.0 t p.1) ps

abbrev pub chain : List (Operator × Expression) → List Token
chain [] = []
chain (p ∷ ps) = operator p.0 ∷ (expression p.1 ++ chain ps)

abbrev pub is_link : Operator × Expression → Bool
is_link p = is_term p.1 && is_expression p.1

abbrev pub is_chain : List (Operator × Expression) → Bool
is_chain ps = list_all is_link ps

pub extended_tokens : (t : Expression) (ps : List (Operator × Expression)) → expression (extended t ps) ≡ expression t ++ chain ps
extended_tokens t [] = sym (append-nil (expression t))
extended_tokens t (p ∷ ps) = extended_tokens (binary p.0 t p.1) ps ∙ append_assoc (expression t) (operator p.0 ∷ expression p.1) (chain ps)

pub extended_grammar : (t : Expression) (ps : List (Operator × Expression)) → is_expression t ≡ true → is_chain ps ≡ true → is_expression (extended t ps) ≡ true
extended_grammar t [] g h = g
extended_grammar t (p ∷ ps) g h =
    let parts = and_parts (is_link p) (is_chain ps) h
    in let link = and_parts (is_term p.1) (is_expression p.1) parts.0
    in extended_grammar (binary p.0 t p.1) ps (rw (g, link.0, link.1) refl) parts.1

-- ---- an expression taken apart

abbrev pub first_term : Expression → Expression
first_term (binary o left right) = first_term left
first_term e = e

abbrev pub links : Expression → List (Operator × Expression)
links (binary o left right) = links left ++ (o, right) ∷ []
links _ = []

extended_once : (t : Expression) (ps : List (Operator × Expression)) (o : Operator) (r : Expression) → extended t (ps ++ (o, r) ∷ []) ≡ binary o (extended t ps) r
extended_once t [] o r = refl
extended_once t (p ∷ ps) o r = extended_once (binary p.0 t p.1) ps o r

pub put_together : (e : Expression) → extended (first_term e) (links e) ≡ e
put_together (binary o left right) = extended_once (first_term left) (links left) o right ∙ ap (λ x. binary o x right) (put_together left)
put_together (num value) = refl
put_together (named name) = refl
put_together (item name index) = refl
put_together (group inner) = refl

pub first_is_term : (e : Expression) → is_term (first_term e) ≡ true
first_is_term (binary o left right) = first_is_term left
first_is_term (num value) = refl
first_is_term (named name) = refl
first_is_term (item name index) = refl
first_is_term (group inner) = refl

pub three_parts : (a b c : Bool) → (a && b && c) ≡ true → (a ≡ true) × (b ≡ true) × (c ≡ true)
three_parts true true c h = (refl, refl, h)
three_parts true false c h = absurd (cc h)
three_parts false b c h = absurd (cc h)

pub first_grammar : (e : Expression) → is_expression e ≡ true → is_expression (first_term e) ≡ true
first_grammar (binary o left right) h = first_grammar left (three_parts (is_expression left) (is_term right) (is_expression right) h).0
first_grammar (num value) h = h
first_grammar (named name) h = h
first_grammar (item name index) h = h
first_grammar (group inner) h = h

pub links_grammar : (e : Expression) → is_expression e ≡ true → is_chain (links e) ≡ true
links_grammar (binary o left right) h =
    let parts = three_parts (is_expression left) (is_term right) (is_expression right) h
    in let earlier = links_grammar left parts.0
    in let term = parts.1
    in let right_grammar = parts.2
    in list_all-append is_link (links left) ((o, right) ∷ []) ∙ (rw (earlier, term, right_grammar) refl)
links_grammar (num value) h = refl
links_grammar (named name) h = refl
links_grammar (item name index) h = refl
links_grammar (group inner) h = refl

-- ---- what operators are not

pub operator_is : (o : Operator) → is_operator (operator o) ≡ true
operator_is op.Add = refl
operator_is op.Sub = refl
operator_is op.Mul = refl
operator_is op.And = refl
operator_is op.Or = refl
operator_is op.Xor = refl

pub operator_is_no_bracket : (o : Operator) → is_mark (byte "[") (operator o) ≡ false
operator_is_no_bracket op.Add = refl
operator_is_no_bracket op.Sub = refl
operator_is_no_bracket op.Mul = refl
operator_is_no_bracket op.And = refl
operator_is_no_bracket op.Or = refl
operator_is_no_bracket op.Xor = refl
