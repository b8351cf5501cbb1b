-- Statements, numbers and declarations, one more at the end.
use Rattle.std.proofs.Common.{◌≡◌, ℕ, Bool, true, false, ◌&&◌, List, [], ◌∷◌, ◌++◌, refl, sym, ap, ◌∙◌, append_assoc, map}
use Rattle.std.specs.Prelude.{codes, flat_map}
use Rattle.std.specs.List.{list_all}
use Rattle.std.specs.Str.{byte}
use Rattle.std.proofs.lemmas.List.{append-nil}
use Rattle.std.proofs.Math.Bool.{and-true}
use Rattle.kernel_text.specs.declared.tree.Decl.{Decl}
use Rattle.kernel_text.specs.declared.tree.Stmt.{Stmt}
use Rattle.kernel_text.specs.declared.tree.Stmt.TheVariants as stmt
use Rattle.kernel_text.specs.Tokens.{word, number, mark}
use Rattle.kernel_text.specs.Trees.{Statements, Action, act, done, assign, store, print, increment, minimum, probe, hist, dot}
use Rattle.kernel_text.specs.Grammar.{statements, are_statements, action, is_action, is_free, numbers, has_numbers, comma, declaration, is_declaration}
use Rattle.kernel_text.specs.Views.{declaration_of, expression_of, with_statement, with_statements, statements_of}
use Rattle.kernel_text.specs.Built.{spelled_statement, is_statement}

-- a statement is an action or a loop
act_behind : (a : Action) (after : Statements) → statements (act a after) ≡ statements (act a done) ++ statements after
act_behind a after = ap (λ ts. ts ++ statements after) (sym (append-nil (action a)))

statements_behind : (s : Stmt) (after : Statements) → statements (with_statement s after) ≡ spelled_statement s ++ statements after
statements_behind (stmt.Repeat' name turns shape body) after =
    ap (λ ts. word (codes "for") ∷ word name ∷ mark (byte "<") ∷ number turns ∷ mark (byte "{") ∷ ts)
    (sym (append_assoc (statements (statements_of body)) (mark (byte "}") ∷ []) (statements after)))
statements_behind (stmt.Assign name value) after = act_behind (assign name (expression_of value)) after
statements_behind (stmt.Store name index value) after = act_behind (store name (expression_of index) (expression_of value)) after
statements_behind (stmt.Print value) after = act_behind (print (expression_of value)) after
statements_behind (stmt.Inc name index) after = act_behind (increment name (expression_of index)) after
statements_behind (stmt.Min name index value) after = act_behind (minimum name (expression_of index) (expression_of value)) after
statements_behind (stmt.Probe first second name index key) after = act_behind (probe first second name (expression_of index) (expression_of key)) after
statements_behind (stmt.Hist first second name index shift) after = act_behind (hist first second name (expression_of index) shift) after
statements_behind (stmt.Dot first name index a b c d) after = act_behind (dot first name (expression_of index) a b c d) after

pub spelled_more : (xs : List Stmt) (s : Stmt) → statements (with_statements (xs ++ s ∷ []) done) ≡ statements (with_statements xs done) ++ spelled_statement s
spelled_more [] s = refl
spelled_more (x ∷ xs) s =
    statements_behind x (with_statements (xs ++ s ∷ []) done)
    ∙ ap (λ ts. spelled_statement x ++ ts) (spelled_more xs s)
    ∙ sym (append_assoc (spelled_statement x) (statements (with_statements xs done)) (spelled_statement s))
    ∙ ap (λ ts. ts ++ spelled_statement s) (sym (statements_behind x (with_statements xs done)))

and_assoc : (a b c : Bool) → ((a && b) && c) ≡ (a && (b && c))
and_assoc true b c = refl
and_assoc false b c = refl

act_grammar : (a : Action) (after : Statements) → are_statements (act a after) ≡ (are_statements (act a done) && are_statements after)
act_grammar a after = ap (λ b. b && are_statements after) (sym (and-true (is_action a)))

grammar_behind : (s : Stmt) (after : Statements) → are_statements (with_statement s after) ≡ (is_statement s && are_statements after)
grammar_behind (stmt.Repeat' name turns shape body) after = ap (λ b. b && are_statements after) (sym (and-true (is_free name && are_statements (statements_of body))))
grammar_behind (stmt.Assign name value) after = act_grammar (assign name (expression_of value)) after
grammar_behind (stmt.Store name index value) after = act_grammar (store name (expression_of index) (expression_of value)) after
grammar_behind (stmt.Print value) after = act_grammar (print (expression_of value)) after
grammar_behind (stmt.Inc name index) after = act_grammar (increment name (expression_of index)) after
grammar_behind (stmt.Min name index value) after = act_grammar (minimum name (expression_of index) (expression_of value)) after
grammar_behind (stmt.Probe first second name index key) after = act_grammar (probe first second name (expression_of index) (expression_of key)) after
grammar_behind (stmt.Hist first second name index shift) after = act_grammar (hist first second name (expression_of index) shift) after
grammar_behind (stmt.Dot first name index a b c d) after = act_grammar (dot first name (expression_of index) a b c d) after

pub grammar_more : (xs : List Stmt) (s : Stmt) → are_statements (with_statements (xs ++ s ∷ []) done) ≡ (are_statements (with_statements xs done) && is_statement s)
grammar_more [] s = refl
grammar_more (x ∷ xs) s =
    grammar_behind x (with_statements (xs ++ s ∷ []) done)
    ∙ ap (λ b. is_statement x && b) (grammar_more xs s)
    ∙ sym (and_assoc (is_statement x) (are_statements (with_statements xs done)) (is_statement s))
    ∙ ap (λ b. b && is_statement s) (sym (grammar_behind x (with_statements xs done)))

-- numbers
pub numbers_more : (n : ℕ) (ns : List ℕ) (m : ℕ) → numbers ((n ∷ ns) ++ m ∷ []) ≡ numbers (n ∷ ns) ++ (comma ++ numbers (m ∷ []))
numbers_more n [] m = refl
numbers_more n (k ∷ ns) m = ap (λ ts. (numbers (n ∷ []) ++ comma) ++ ts) (numbers_more k ns m)

pub numbers_push : (ns : List ℕ) (m : ℕ) → has_numbers ns ≡ true → numbers (ns ++ m ∷ []) ≡ numbers ns ++ (comma ++ numbers (m ∷ []))
numbers_push [] m h = absurd (cc h)
numbers_push (n ∷ ns) m h = numbers_more n ns m

pub still_numbers : (ns : List ℕ) (m : ℕ) → has_numbers (ns ++ m ∷ []) ≡ true
still_numbers [] m = refl
still_numbers (n ∷ ns) m = refl

-- declarations
pub declared_more : (xs : List Decl) (d : Decl) → flat_map declaration (map declaration_of (xs ++ d ∷ [])) ≡ flat_map declaration (map declaration_of xs) ++ declaration (declaration_of d)
declared_more [] d = append-nil (declaration (declaration_of d))
declared_more (x ∷ xs) d =
    ap (λ ts. declaration (declaration_of x) ++ ts) (declared_more xs d)
    ∙ sym (append_assoc (declaration (declaration_of x)) (flat_map declaration (map declaration_of xs)) (declaration (declaration_of d)))

pub all_declared : (xs : List Decl) (d : Decl) → list_all is_declaration (map declaration_of (xs ++ d ∷ [])) ≡ (list_all is_declaration (map declaration_of xs) && is_declaration (declaration_of d))
all_declared [] d = and-true (is_declaration (declaration_of d))
all_declared (x ∷ xs) d =
    ap (λ b. is_declaration (declaration_of x) && b) (all_declared xs d)
    ∙ sym (and_assoc (is_declaration (declaration_of x)) (list_all is_declaration (map declaration_of xs)) (is_declaration (declaration_of d)))
