-- What was wanted is given by trees: tokens that continue what is wanted are those of a tree for each thing wanted.
use Rattle.std.proofs.Common.{◌≡◌, ℕ, Bool, true, false, ◌&&◌, ◌||◌, if◌then◌else◌, List, [], ◌∷◌, ◌++◌, Option, Some, None, refl, sym, ap, ◌∙◌, append_assoc, append-nil}
use Rattle.std.specs.Prelude.{codes, flat_map}
use Rattle.std.specs.List.{list_all}
use Rattle.std.specs.Str.{byte}
use Rattle.std.proofs.lemmas.Bool.{and_parts}
use Rattle.kernel_text.specs.declared.senses.Wanted.{Wanted}
use Rattle.kernel_text.specs.declared.senses.Wanted.TheVariants as wanted
use Rattle.kernel_text.specs.declared.tree.Operator.{Operator}
use Rattle.kernel_text.specs.declared.tree.Operator.TheVariants as op
use Rattle.kernel_text.specs.Tokens.{Token, word, number, mark, stray, is_word, is_mark, is_name, is_number, text_of, value_of}
use Rattle.kernel_text.specs.Trees.{Declaration, Expression, Action, Statements, table, array, num, named, item, group}
use Rattle.kernel_text.specs.Grammar.{expression, action, statements, declaration, numbers, comma, semicolon, equals, operator, is_term, is_free, is_expression, is_action, are_statements, is_declaration}
use Rattle.kernel_text.specs.Readings.{Reading, of_declarations, of_term, more_values, more_terms, is_operator, opens_bracket}
use Rattle.kernel_text.proofs.Continuing.{number_is, name_is, mark_is}
use Rattle.kernel_text.proofs.Phrases.{word_is}
use Rattle.kernel_text.proofs.Chains.{extended, chain, is_chain, extended_tokens, extended_grammar}

-- ---- what may be given for each thing wanted, and its tokens

pub record Name : Type 0 where
  pub text : List ℕ
  pub free : is_free text ≡ true

pub record TermTree : Type 0 where
  pub tree : Expression
  pub grammar : is_expression tree ≡ true
  pub term : is_term tree ≡ true

pub record Links : Type 0 where
  pub links : List (Operator × Expression)
  pub grammar : is_chain links ≡ true

pub record Declared : Type 0 where
  pub trees : List Declaration
  pub grammar : list_all is_declaration trees ≡ true

pub record Stated : Type 0 where
  pub tree : Statements
  pub grammar : are_statements tree ≡ true

-- an action, but for its variable
pub record BehindOne : Type 0 where
  pub tokens : List Token
  pub tree : List ℕ → Action
  pub spelled : (x : List ℕ) → action (tree x) ≡ word x ∷ tokens
  pub grammar : (x : List ℕ) → is_free x ≡ true → is_action (tree x) ≡ true

-- an action, but for its variable and what follows it
pub record OfOne : Type 0 where
  pub tokens : List Token
  pub tree : List ℕ → Action
  pub spelled : (x : List ℕ) → action (tree x) ≡ word x ∷ (equals ++ tokens)
  pub grammar : (x : List ℕ) → is_free x ≡ true → is_action (tree x) ≡ true

pub record OfTwo : Type 0 where
  pub tokens : List Token
  pub tree : List ℕ → List ℕ → Action
  pub spelled : (x y : List ℕ) → action (tree x y) ≡ word x ∷ (comma ++ word y ∷ (equals ++ tokens))
  pub grammar : (x y : List ℕ) → is_free x ≡ true → is_free y ≡ true → is_action (tree x y) ≡ true

abbrev pub Given : Wanted → Type 0
Given (wanted.Mark b) = Unit {0}
Given wanted.ClosingBrace = Unit {0}
Given wanted.Declarations = Declared
Given (wanted.DeclaredName kind) = Name
Given wanted.Size = ℕ
Given wanted.Value = ℕ
Given wanted.MoreValues = List ℕ
Given wanted.Statements = Stated
Given wanted.BehindVariable = BehindOne
Given wanted.OneWord = OfOne
Given wanted.TwoWords = OfTwo
Given wanted.SecondVariable = Name
Given wanted.Counter = Name
Given wanted.TurnCount = ℕ
Given wanted.Shift = ℕ
Given wanted.ArrayName = Name
Given wanted.TableName = Name
Given wanted.Operand = Name
Given (wanted.Term room) = TermTree
Given (wanted.MoreTerms room) = Links

abbrev pub tokens_of_values : List ℕ → List Token
tokens_of_values ns = flat_map (λ n. mark (byte ",") ∷ number n ∷ []) ns

abbrev pub tokens_given : (w : Wanted) → Given w → List Token
tokens_given (wanted.Mark b) g = mark b ∷ []
tokens_given wanted.ClosingBrace g = mark (byte "}") ∷ []
tokens_given wanted.Declarations g = flat_map declaration g.trees
tokens_given (wanted.DeclaredName kind) g = word g.text ∷ []
tokens_given wanted.Size g = number g ∷ []
tokens_given wanted.Value g = number g ∷ []
tokens_given wanted.MoreValues g = tokens_of_values g
tokens_given wanted.Statements g = statements g.tree
tokens_given wanted.BehindVariable g = g.tokens
tokens_given wanted.OneWord g = g.tokens
tokens_given wanted.TwoWords g = g.tokens
tokens_given wanted.SecondVariable g = word g.text ∷ []
tokens_given wanted.Counter g = word g.text ∷ []
tokens_given wanted.TurnCount g = number g ∷ []
tokens_given wanted.Shift g = number g ∷ []
tokens_given wanted.ArrayName g = word g.text ∷ []
tokens_given wanted.TableName g = word g.text ∷ []
tokens_given wanted.Operand g = word g.text ∷ []
tokens_given (wanted.Term room) g = expression g.tree
tokens_given (wanted.MoreTerms room) g = chain g.links

abbrev pub AllGiven : List Wanted → Type 0
AllGiven [] = Unit {0}
AllGiven (w ∷ ws) = Given w × AllGiven ws

abbrev pub all_tokens : (ws : List Wanted) → AllGiven ws → List Token
all_tokens [] g = []
all_tokens (w ∷ ws) g = tokens_given w g.0 ++ all_tokens ws g.1

-- something wanted that these tokens are
abbrev pub Makes : Wanted → List Token → Type 0
Makes w ts = (g : Given w) × (tokens_given w g ≡ ts)

abbrev pub MakesAll : List Wanted → List Token → Type 0
MakesAll ws ts = (g : AllGiven ws) × (all_tokens ws g ≡ ts)

-- what a token that is read makes of a thing wanted, with all that it wants in turn
abbrev pub Yields : Wanted → Token → Option Reading → Type 0
Yields w t None = Unit {0}
Yields w t (Some r) = (g : AllGiven r.wanted) → Makes w (t ∷ all_tokens r.wanted g)

pub by_test : (P : Option Reading → Type 0) (b : Bool) (x y : Option Reading) → (b ≡ true → P x) → (b ≡ false → P y) → P (if b then x else y)
by_test P true x y yes_case no_case = yes_case refl
by_test P false x y yes_case no_case = no_case refl

-- ---- parts

pub free_name : (t : Token) → is_name t ≡ true → is_free (text_of t) ≡ true
free_name (word text) h = h
free_name (number value) h = absurd (cc h)
free_name (mark symbol) h = absurd (cc h)
free_name stray h = absurd (cc h)

pub name_made : (t : Token) → is_name t ≡ true → (g : Name) × (word g.text ∷ [] ≡ t ∷ [])
name_made t h = (record { text = text_of t; free = free_name t h }, ap (λ x. x ∷ []) (sym (name_is t h)))

pub number_made : (t : Token) → is_number t ≡ true → (n : ℕ) × (number n ∷ [] ≡ t ∷ [])
number_made t h = (value_of t, ap (λ x. x ∷ []) (sym (number_is t h)))

pub mark_made : (m : ℕ) (t : Token) → is_mark m t ≡ true → Unit {0} × (mark m ∷ [] ≡ t ∷ [])
mark_made m t h = (tt, ap (λ x. x ∷ []) (sym (mark_is m t h)))

abbrev pub whole : TermTree → Links → Expression
whole a b = extended a.tree b.links

pub whole_tokens : (a : TermTree) (b : Links) → expression (whole a b) ≡ expression a.tree ++ chain b.links
whole_tokens a b = extended_tokens a.tree b.links

pub whole_grammar : (a : TermTree) (b : Links) → is_expression (whole a b) ≡ true
whole_grammar a b = extended_grammar a.tree b.links a.grammar b.grammar

-- ---- declarations

values_tokens : (n : ℕ) (ns : List ℕ) → numbers (n ∷ ns) ≡ number n ∷ tokens_of_values ns
values_tokens n [] = refl
values_tokens n (m ∷ ns) = ap (λ ts. number n ∷ mark (byte ",") ∷ ts) (values_tokens m ns)

table_made : (t : Token) → is_word (codes "table") t ≡ true → (name : Name) (size one : ℕ) (more : List ℕ) (ds : Declared)
    → Makes wanted.Declarations (t ∷ word name.text ∷ mark (byte "[") ∷ number size ∷ mark (byte "]") ∷ mark (byte "=") ∷ number one ∷ (tokens_of_values more ++ mark (byte ";") ∷ (flat_map declaration ds.trees ++ [])))
table_made t h name size one more ds = (
  record {
    trees = table name.text size (one ∷ more) ∷ ds.trees;
    grammar = let a = name.free in let b = ds.grammar in rw (a, b) refl;
  },
  ap (λ ts. word (codes "table") ∷ word name.text ∷ mark (byte "[") ∷ number size ∷ mark (byte "]") ∷ mark (byte "=") ∷ ts)
      (ap (λ ts. (ts ++ semicolon) ++ flat_map declaration ds.trees) (values_tokens one more)
      ∙ ap (λ ts. number one ∷ ts) (append_assoc (tokens_of_values more) semicolon (flat_map declaration ds.trees) ∙ ap (λ ts. tokens_of_values more ++ mark (byte ";") ∷ ts) (sym (append-nil (flat_map declaration ds.trees)))))
      ∙ ap (λ x. x ∷ word name.text ∷ mark (byte "[") ∷ number size ∷ mark (byte "]") ∷ mark (byte "=") ∷ number one ∷ (tokens_of_values more ++ mark (byte ";") ∷ (flat_map declaration ds.trees ++ []))) (sym (word_is (codes "table") t h)),
)

array_made : (t : Token) → is_word (codes "array") t ≡ true → (name : Name) (size : ℕ) (ds : Declared)
    → Makes wanted.Declarations (t ∷ word name.text ∷ mark (byte "[") ∷ number size ∷ mark (byte "]") ∷ mark (byte ";") ∷ (flat_map declaration ds.trees ++ []))
array_made t h name size ds = (
  record {
    trees = array name.text size ∷ ds.trees;
    grammar = let a = name.free in let b = ds.grammar in rw (a, b) refl;
  },
  ap (λ ts. word (codes "array") ∷ word name.text ∷ mark (byte "[") ∷ number size ∷ mark (byte "]") ∷ mark (byte ";") ∷ ts) (sym (append-nil (flat_map declaration ds.trees)))
      ∙ ap (λ x. x ∷ word name.text ∷ mark (byte "[") ∷ number size ∷ mark (byte "]") ∷ mark (byte ";") ∷ (flat_map declaration ds.trees ++ [])) (sym (word_is (codes "array") t h)),
)

pub declarations_yield : (t : Token) → Yields wanted.Declarations t (of_declarations t)
declarations_yield t =
    by_test (Yields wanted.Declarations t) (is_word (codes "table") t) _ _ (λ h g. table_made t h g.0 g.1.1.0 g.1.1.1.1.1.0 g.1.1.1.1.1.1.0 g.1.1.1.1.1.1.1.1.0)
    (λ _. by_test (Yields wanted.Declarations t) (is_word (codes "array") t) _ _ (λ h g. array_made t h g.0 g.1.1.0 g.1.1.1.1.1.0) (λ _. tt))

pub values_yield : (t : Token) → Yields wanted.MoreValues t (more_values t)
values_yield t = by_test (Yields wanted.MoreValues t) (is_mark (byte ",") t) _ _ (λ h g. (g.0 ∷ g.1.0, ap (λ ts. mark (byte ",") ∷ number g.0 ∷ ts) (sym (append-nil (tokens_of_values g.1.0))) ∙ ap (λ x. x ∷ number g.0 ∷ (tokens_of_values g.1.0 ++ [])) (sym (mark_is (byte ",") t h)))) (λ _. tt)

-- ---- terms

item_made : (room : ℕ) (t : Token) → is_name t ≡ true → (a : TermTree) (b : Links) → Makes (wanted.Term room) (t ∷ mark (byte "[") ∷ (expression a.tree ++ (chain b.links ++ mark (byte "]") ∷ [])))
item_made room t h a b = (
  record {
    tree = item (text_of t) (whole a b);
    grammar = let f = free_name t h in let g = whole_grammar a b in rw (f, g) refl;
    term = refl;
  },
  ap (λ ts. word (text_of t) ∷ mark (byte "[") ∷ ts) (ap (λ ts. ts ++ mark (byte "]") ∷ []) (whole_tokens a b) ∙ append_assoc (expression a.tree) (chain b.links) (mark (byte "]") ∷ []))
      ∙ ap (λ x. x ∷ mark (byte "[") ∷ (expression a.tree ++ (chain b.links ++ mark (byte "]") ∷ []))) (sym (name_is t h)),
)

group_made : (room : ℕ) (t : Token) → is_mark (byte "(") t ≡ true → (a : TermTree) (b : Links) → Makes (wanted.Term room) (t ∷ (expression a.tree ++ (chain b.links ++ mark (byte ")") ∷ [])))
group_made room t h a b = (
  record { tree = group (whole a b); grammar = whole_grammar a b; term = refl },
  ap (λ ts. mark (byte "(") ∷ ts) (ap (λ ts. ts ++ mark (byte ")") ∷ []) (whole_tokens a b) ∙ append_assoc (expression a.tree) (chain b.links) (mark (byte ")") ∷ []))
      ∙ ap (λ x. x ∷ (expression a.tree ++ (chain b.links ++ mark (byte ")") ∷ []))) (sym (mark_is (byte "(") t h)),
)

pub term_yields : (room : ℕ) (t : Token) (next : Option Token) → Yields (wanted.Term room) t (of_term room t next)
term_yields room t next =
    by_test (Yields (wanted.Term room) t) (is_number t) _ _ (λ h g. (record { tree = num (value_of t); grammar = refl; term = refl }, ap (λ x. x ∷ []) (sym (number_is t h))))
    (λ _. by_test (Yields (wanted.Term room) t) (is_name t && opens_bracket next) _ _ (λ h g. item_made room t (and_parts (is_name t) (opens_bracket next) h).0 g.1.0 g.1.1.0)
    (λ _. by_test (Yields (wanted.Term room) t) (is_name t) _ _ (λ h g. (record { tree = named (text_of t); grammar = free_name t h; term = refl }, ap (λ x. x ∷ []) (sym (name_is t h))))
    (λ _. by_test (Yields (wanted.Term room) t) (is_mark (byte "(") t) _ _ (λ h g. group_made room t h g.0 g.1.0) (λ _. tt))))

abbrev list_any_of : Bool → Bool → Bool → Bool → Bool → Bool → Bool
list_any_of a b c d e f = a || (b || (c || (d || (e || (f || false)))))

operator_of_token : (t : Token) → is_operator t ≡ true → (o : Operator) × (operator o ≡ t)
operator_of_token t h = by_first (is_mark (byte "+") t) (is_mark (byte "-") t) (is_mark (byte "*") t) (is_mark (byte "&") t) (is_mark (byte "|") t) (is_mark (byte "^") t) (mark_is (byte "+") t) (mark_is (byte "-") t) (mark_is (byte "*") t) (mark_is (byte "&") t) (mark_is (byte "|") t) (mark_is (byte "^") t) h
  where
    by_first : (a b c d e f : Bool) → (a ≡ true → t ≡ mark (byte "+")) → (b ≡ true → t ≡ mark (byte "-")) → (c ≡ true → t ≡ mark (byte "*")) → (d ≡ true → t ≡ mark (byte "&")) → (e ≡ true → t ≡ mark (byte "|")) → (f ≡ true → t ≡ mark (byte "^"))
        → list_any_of a b c d e f ≡ true → (o : Operator) × (operator o ≡ t)
    by_first true b c d e f p q r s u v h = (op.Add, sym (p refl))
    by_first false true c d e f p q r s u v h = (op.Sub, sym (q refl))
    by_first false false true d e f p q r s u v h = (op.Mul, sym (r refl))
    by_first false false false true e f p q r s u v h = (op.And, sym (s refl))
    by_first false false false false true f p q r s u v h = (op.Or, sym (u refl))
    by_first false false false false false true p q r s u v h = (op.Xor, sym (v refl))
    by_first false false false false false false p q r s u v h = absurd (cc h)

pub terms_yield : (room : ℕ) (t : Token) → Yields (wanted.MoreTerms room) t (more_terms room t)
terms_yield room t = by_test (Yields (wanted.MoreTerms room) t) (is_operator t) _ _ (λ h g. made (operator_of_token t h) g.0 g.1.0) (λ _. tt)
  where
    made : ((o : Operator) × (operator o ≡ t)) → (a : TermTree) (b : Links) → Makes (wanted.MoreTerms room) (t ∷ (expression a.tree ++ (chain b.links ++ [])))
    made o a b = (
      record { links = (o.0, a.tree) ∷ b.links; grammar = let x = a.term in let y = a.grammar in let z = b.grammar in rw (x, y, z) refl },
      ap (λ ts. operator o.0 ∷ (expression a.tree ++ ts)) (sym (append-nil (chain b.links))) ∙ ap (λ x. x ∷ (expression a.tree ++ (chain b.links ++ []))) o.1,
    )

-- ---- two lists of things wanted

pub apart : (a b : List Wanted) (g : AllGiven (a ++ b)) → (x : AllGiven a) × (y : AllGiven b) × (all_tokens a x ++ all_tokens b y ≡ all_tokens (a ++ b) g)
apart [] b g = (tt, g, refl)
apart (w ∷ a) b g =
    let r = apart a b g.1
    in ((g.0, r.0), r.1, append_assoc (tokens_given w g.0) (all_tokens a r.0) (all_tokens b r.1) ∙ ap (λ ts. tokens_given w g.0 ++ ts) r.2)
