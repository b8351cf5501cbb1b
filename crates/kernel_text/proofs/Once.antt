-- A text spells at most one tree: terms and expressions.
use Rattle.std.proofs.Common.{◌≡◌, ℕ, Bool, true, false, not, ◌&&◌, if◌then◌else◌, List, [], ◌∷◌, ◌++◌, refl, sym, ap, ◌∙◌, append_assoc}
use Rattle.std.specs.Str.{byte}
use Rattle.std.proofs.lemmas.Bool.{and_parts}
use Rattle.kernel_text.specs.declared.tree.Operator.{Operator}
use Rattle.kernel_text.specs.declared.tree.Operator.TheVariants as op
use Rattle.kernel_text.specs.Tokens.{Token, mark, is_mark}
use Rattle.kernel_text.specs.Trees.{Expression, num, named, item, group, binary}
use Rattle.kernel_text.specs.Grammar.{expression, operator, is_expression, is_term}
use Rattle.kernel_text.specs.Readings.{is_operator, opens_bracket}
use Rattle.kernel_text.specs.Built.{first}
use Rattle.kernel_text.proofs.Chains.{extended, chain, is_link, is_chain, extended_tokens, first_term, links, put_together, first_is_term, first_grammar, links_grammar, operator_is, operator_is_no_bracket, three_parts}

-- whether a term may end here, and whether an expression may
abbrev pub ends_term : List Token → Bool
ends_term ts = not (opens_bracket (first ts))

abbrev begins_operator : List Token → Bool
begins_operator [] = false
begins_operator (t ∷ ts) = is_operator t

abbrev pub ends_expression : List Token → Bool
ends_expression ts = ends_term ts && not (begins_operator ts)

false_is_not : {A : Type 0} → false ≡ true → A
false_is_not h = absurd (cc h)

-- the operator that a token is
abbrev operator_of : Token → Operator
operator_of t =
    if is_mark (byte "+") t then op.Add
    else (if is_mark (byte "-") t then op.Sub
    else (if is_mark (byte "*") t then op.Mul
    else (if is_mark (byte "&") t then op.And
    else (if is_mark (byte "|") t then op.Or
    else op.Xor))))

told_by_token : (o : Operator) → operator_of (operator o) ≡ o
told_by_token op.Add = refl
told_by_token op.Sub = refl
told_by_token op.Mul = refl
told_by_token op.And = refl
told_by_token op.Or = refl
told_by_token op.Xor = refl

same_operator : (o p : Operator) → operator o ≡ operator p → o ≡ p
same_operator o p h = sym (told_by_token o) ∙ ap operator_of h ∙ told_by_token p

chain_ends_term : (ps : List (Operator × Expression)) (y : List Token) → ends_term y ≡ true → ends_term (chain ps ++ y) ≡ true
chain_ends_term [] y h = h
chain_ends_term (p ∷ ps) y h = ap not (operator_is_no_bracket p.0)

-- an operator begins where an expression ends: never
no_operator : {A : Type 0} (o : Operator) (rest y : List Token) → operator o ∷ rest ≡ y → ends_expression y ≡ true → A
no_operator o rest y e h =
    false_is_not (sym (ap (λ b. not (is_mark (byte "[") (operator o)) && not b) (operator_is o) ∙ ap (λ b. b) (and_false (not (is_mark (byte "[") (operator o))))) ∙ (ap ends_expression e ∙ h))
  where
    and_false : (b : Bool) → (b && false) ≡ false
    and_false true = refl
    and_false false = refl

-- no other term begins with these tokens
abbrev TermOnce : Expression → Type 0
TermOnce e = (t : Expression) (x z : List Token) → is_term t ≡ true → is_expression t ≡ true → ends_term x ≡ true → ends_term z ≡ true → expression e ++ x ≡ expression t ++ z → (e ≡ t) × (x ≡ z)

-- an expression that begins with these tokens, and ends further on, is this one extended
abbrev Prefix : Expression → Type 0
Prefix e =
    (t : Expression) (ps : List (Operator × Expression)) (x y : List Token) → is_term t ≡ true → is_expression t ≡ true → is_chain ps ≡ true
    → ends_term x ≡ true → ends_expression y ≡ true → expression e ++ x ≡ expression t ++ (chain ps ++ y)
    → (qs : List (Operator × Expression)) × (is_chain qs ≡ true) × (extended e qs ≡ extended t ps) × (x ≡ chain qs ++ y)

-- what is behind an expression ends it
abbrev Whole : Expression → Type 0
Whole e = (f : Expression) (x y : List Token) → is_expression f ≡ true → ends_expression x ≡ true → ends_expression y ≡ true → expression e ++ x ≡ expression f ++ y → (e ≡ f) × (x ≡ y)

record Once (e : Expression) : Type 0 where
  term : is_term e ≡ true → TermOnce e
  prefix : Prefix e

ends_both : (ts : List Token) → ends_expression ts ≡ true → ends_term ts ≡ true
ends_both ts h = (and_parts (ends_term ts) (not (begins_operator ts)) h).0

whole_of : (e : Expression) → Prefix e → Whole e
whole_of e once f x y grammar ends_x ends_y h = by_chain (once (first_term f) (links f) x y (first_is_term f) (first_grammar f grammar) (links_grammar f grammar) (ends_both x ends_x) ends_y (h ∙ apart))
  where
    apart : expression f ++ y ≡ expression (first_term f) ++ (chain (links f) ++ y)
    apart = ap (λ g. expression g ++ y) (sym (put_together f)) ∙ ap (λ ts. ts ++ y) (extended_tokens (first_term f) (links f)) ∙ append_assoc (expression (first_term f)) (chain (links f)) y

    by_links : (qs : List (Operator × Expression)) → extended e qs ≡ extended (first_term f) (links f) → x ≡ chain qs ++ y → (e ≡ f) × (x ≡ y)
    by_links [] same behind = (same ∙ put_together f, behind)
    by_links (q ∷ qs) same behind = no_operator q.0 (expression q.1 ++ (chain qs ++ y)) x (sym (behind ∙ ap (λ ts. operator q.0 ∷ ts) (append_assoc (expression q.1) (chain qs) y))) ends_x

    by_chain : ((qs : List (Operator × Expression)) × (is_chain qs ≡ true) × (extended e qs ≡ extended (first_term f) (links f)) × (x ≡ chain qs ++ y)) → (e ≡ f) × (x ≡ y)
    by_chain r = by_links r.0 r.2 r.3

of_term : (e : Expression) → TermOnce e → Once e
of_term e once =
    record {
      term = λ _. once;
      prefix =
          λ t ps x y term grammar links ends_x ends_y h.
          let r = once t x (chain ps ++ y) term grammar ends_x (chain_ends_term ps y (ends_both y ends_y)) h
          in (ps, links, ap (λ g. extended g ps) r.0, r.1);
    }

-- a name stands before a bracket, or it does not
no_bracket : {A : Type 0} (x z : List Token) → x ≡ mark (byte "[") ∷ z → ends_term x ≡ true → A
no_bracket x z e h = false_is_not (sym (ap ends_term e) ∙ h)

num_once : (n : ℕ) → TermOnce (num n)
num_once n (num m) x z term grammar ends_x ends_z h = (cc h, cc h)
num_once n (named b) x z term grammar ends_x ends_z h = absurd (cc h)
num_once n (item b j) x z term grammar ends_x ends_z h = absurd (cc h)
num_once n (group j) x z term grammar ends_x ends_z h = absurd (cc h)
num_once n (binary o l r) x z term grammar ends_x ends_z h = absurd (cc term)

named_once : (a : List ℕ) → TermOnce (named a)
named_once a (num m) x z term grammar ends_x ends_z h = absurd (cc h)
named_once a (named b) x z term grammar ends_x ends_z h = (cc h, cc h)
named_once a (item b j) x z term grammar ends_x ends_z h = no_bracket x ((expression j ++ mark (byte "]") ∷ []) ++ z) (cc h) ends_x
named_once a (group j) x z term grammar ends_x ends_z h = absurd (cc h)
named_once a (binary o l r) x z term grammar ends_x ends_z h = absurd (cc term)

-- the same expression in brackets
in_marks : (m : ℕ) (i j : Expression) (x z : List Token) → Whole i → is_expression j ≡ true → ((y : List Token) → ends_expression (mark m ∷ y) ≡ true)
    → (expression i ++ mark m ∷ []) ++ x ≡ (expression j ++ mark m ∷ []) ++ z → (i ≡ j) × (x ≡ z)
in_marks m i j x z whole grammar ends h =
    let e = sym (append_assoc (expression i) (mark m ∷ []) x) ∙ h ∙ append_assoc (expression j) (mark m ∷ []) z
    in let r = whole j (mark m ∷ x) (mark m ∷ z) grammar (ends x) (ends z) e
    in let behind = r.1
    in (r.0, cc behind)

item_once : (a : List ℕ) (i : Expression) → Whole i → TermOnce (item a i)
item_once a i whole (num m) x z term grammar ends_x ends_z h = absurd (cc h)
item_once a i whole (named b) x z term grammar ends_x ends_z h = no_bracket z ((expression i ++ mark (byte "]") ∷ []) ++ x) (cc h) ends_z
item_once a i whole (item b j) x z term grammar ends_x ends_z h =
    let name : a ≡ b = cc h
    in let behind : (expression i ++ mark (byte "]") ∷ []) ++ x ≡ (expression j ++ mark (byte "]") ∷ []) ++ z = cc h
    in let r = in_marks (byte "]") i j x z whole (and_parts _ (is_expression j) grammar).1 (λ y. refl) behind
    in let index = r.0
    in (cc (name, index), r.1)
item_once a i whole (group j) x z term grammar ends_x ends_z h = absurd (cc h)
item_once a i whole (binary o l r) x z term grammar ends_x ends_z h = absurd (cc term)

group_once : (i : Expression) → Whole i → TermOnce (group i)
group_once i whole (num m) x z term grammar ends_x ends_z h = absurd (cc h)
group_once i whole (named b) x z term grammar ends_x ends_z h = absurd (cc h)
group_once i whole (item b j) x z term grammar ends_x ends_z h = absurd (cc h)
group_once i whole (group j) x z term grammar ends_x ends_z h =
    let behind : (expression i ++ mark (byte ")") ∷ []) ++ x ≡ (expression j ++ mark (byte ")") ∷ []) ++ z = cc h
    in let r = in_marks (byte ")") i j x z whole grammar (λ y. refl) behind
    in (ap group r.0, r.1)
group_once i whole (binary o l r) x z term grammar ends_x ends_z h = absurd (cc term)

binary_prefix : (o : Operator) (l r : Expression) → Prefix l → TermOnce r → Prefix (binary o l r)
binary_prefix o l r left right t ps x y term grammar links ends_x ends_y h =
    by_left (left t ps (operator o ∷ (expression r ++ x)) y term grammar links (ap not (operator_is_no_bracket o)) ends_y (sym (append_assoc (expression l) (operator o ∷ expression r) x) ∙ h))
  where
    by_links : (qs : List (Operator × Expression)) → is_chain qs ≡ true → extended l qs ≡ extended t ps → operator o ∷ (expression r ++ x) ≡ chain qs ++ y
        → (qs : List (Operator × Expression)) × (is_chain qs ≡ true) × (extended (binary o l r) qs ≡ extended t ps) × (x ≡ chain qs ++ y)
    by_links [] good same behind = no_operator o (expression r ++ x) y behind ends_y
    by_links (q ∷ qs) good same behind =
        let parts = and_parts (is_link q) (is_chain qs) good
        in let link = and_parts (is_term q.1) (is_expression q.1) parts.0
        in let o_is : operator o ≡ operator q.0 = cc behind
        in let tail : expression r ++ x ≡ (expression q.1 ++ chain qs) ++ y = cc behind
        in let found = right q.1 x (chain qs ++ y) link.0 link.1 ends_x (chain_ends_term qs y (ends_both y ends_y)) (tail ∙ append_assoc (expression q.1) (chain qs) y)
        in (qs, parts.1, ap (λ p. extended (binary p l r) qs) (same_operator o q.0 o_is) ∙ ap (λ s. extended (binary q.0 l s) qs) found.0 ∙ same, found.1)

    by_left : ((qs : List (Operator × Expression)) × (is_chain qs ≡ true) × (extended l qs ≡ extended t ps) × (operator o ∷ (expression r ++ x) ≡ chain qs ++ y))
        → (qs : List (Operator × Expression)) × (is_chain qs ≡ true) × (extended (binary o l r) qs ≡ extended t ps) × (x ≡ chain qs ++ y)
    by_left g = by_links g.0 g.1 g.2 g.3

once : (e : Expression) → is_expression e ≡ true → Once e
once (num n) h = of_term (num n) (num_once n)
once (named a) h = of_term (named a) (named_once a)
once (item a i) h = of_term (item a i) (item_once a i (whole_of i (once i (and_parts _ (is_expression i) h).1).prefix))
once (group i) h = of_term (group i) (group_once i (whole_of i (once i h).prefix))
once (binary o l r) h =
    let parts = three_parts (is_expression l) (is_term r) (is_expression r) h
    in record {
      term = λ is. false_is_not is;
      prefix = binary_prefix o l r (once l parts.0).prefix ((once r parts.2).term parts.1);
    }

pub expression_once : (e : Expression) → is_expression e ≡ true → Whole e
expression_once e h = whole_of e (once e h).prefix
