-- A text without a fault spells a tree.
use Rattle.std.proofs.Common.{◌≡◌, ℕ, Bool, true, false, ◌&&◌, if◌then◌else◌, List, [], ◌∷◌, ◌++◌, Option, Some, None, refl, sym, ap, ◌∙◌, append_assoc, append-nil}
use Rattle.std.specs.Prelude.{codes, flat_map}
use Rattle.std.specs.List.{list_all}
use Rattle.std.specs.Option.{option_or}
use Rattle.std.specs.Str.{byte}
use Rattle.std.proofs.lemmas.Bool.{and_parts, and_from}
use Rattle.kernel_text.specs.declared.senses.Wanted.{Wanted}
use Rattle.kernel_text.specs.declared.senses.Wanted.TheVariants as wanted
use Rattle.kernel_text.specs.Tokens.{Token, word, number, mark, is_word, is_mark, is_name, is_number, text_of, tokens_of, end_of}
use Rattle.kernel_text.specs.Trees.{Action, Kernel, assign, store, print, increment, minimum, probe, hist, dot, done, act, repeat}
use Rattle.kernel_text.specs.Grammar.{expression, action, statements, declaration, kernel, comma, semicolon, equals, is_action, are_statements, is_declaration, is_kernel, Spells}
use Rattle.kernel_text.specs.Readings.{Reading, read, before, of_wanted, of_statements, of_term, behind_variable, one_word, two_words, is_optional, opens_bracket, may_end, a_kernel, deepest, ending}
use Rattle.kernel_text.specs.Characters.{first_character_fault}
use Rattle.kernel_text.specs.Known.{at_start}
use Rattle.kernel_text.specs.Faults.{first_fault, first_token_fault}
use Rattle.kernel_text.specs.Built.{continues, goes_on, first}
use Rattle.kernel_text.proofs.Continuing.{name_is, mark_is}
use Rattle.kernel_text.proofs.Phrases.{word_is}
use Rattle.kernel_text.proofs.Chains.{chain}
use Rattle.kernel_text.proofs.Flat.{ended, indexed, operands, behind_probe, behind_hist, behind_dot, assign_is, store_is, print_is, increment_is, minimum_is, probe_is, hist_is, dot_is}
use Rattle.kernel_text.proofs.Whole.{without_fault, tokens_at}
use Rattle.kernel_text.proofs.Given.{Name, TermTree, Links, Stated, BehindOne, OfOne, OfTwo, AllGiven, all_tokens, Makes, MakesAll, Yields, by_test, free_name, name_made, number_made, mark_made, whole, whole_tokens, whole_grammar, declarations_yield, values_yield, term_yields, terms_yield, apart}

-- an expression as it is given, before more
value_before : (a : TermTree) (b : Links) (x : List Token) → expression (whole a b) ++ x ≡ expression a.tree ++ (chain b.links ++ x)
value_before a b x = ap (λ ts. ts ++ x) (whole_tokens a b) ∙ append_assoc (expression a.tree) (chain b.links) x

index_before : (name : List ℕ) (a : TermTree) (b : Links) (x : List Token) → indexed name (whole a b) x ≡ word name ∷ mark (byte "[") ∷ (expression a.tree ++ (chain b.links ++ mark (byte "]") ∷ x))
index_before name a b x = ap (λ ts. word name ∷ mark (byte "[") ∷ ts) (value_before a b (mark (byte "]") ∷ x))

-- a token stands for what it is
first_is : (t u : Token) (whole_list ts : List Token) → t ≡ u → whole_list ≡ u ∷ ts → whole_list ≡ t ∷ ts
first_is t u whole_list ts e h = h ∙ ap (λ x. x ∷ ts) (sym e)

made : (t u : Token) (ts : List Token) (a : Action) (s : Stated) → t ≡ u → is_action a ≡ true → action a ++ statements s.tree ≡ u ∷ ts → Makes wanted.Statements (t ∷ ts)
made t u ts a s e g h = (record { tree = act a s.tree; grammar = and_from (is_action a) (are_statements s.tree) g s.grammar }, first_is t u (action a ++ statements s.tree) ts e h)

more : (s : Stated) → statements s.tree ≡ statements s.tree ++ []
more s = sym (append-nil (statements s.tree))

store_made : (t : Token) → is_name t ≡ true → (a : TermTree) (b : Links) (c : TermTree) (d : Links) (s : Stated)
    → Makes wanted.Statements (t ∷ mark (byte "[") ∷ (expression a.tree ++ (chain b.links ++ mark (byte "]") ∷ mark (byte "=") ∷ (expression c.tree ++ (chain d.links ++ mark (byte ";") ∷ (statements s.tree ++ []))))))
store_made t h a b c d s =
    made t (word (text_of t)) _ (store (text_of t) (whole a b) (whole c d)) s (name_is t h) (let f = free_name t h in let g = whole_grammar a b in let k = whole_grammar c d in rw (f, g, k) refl)
    (store_is (text_of t) (whole a b) (whole c d) (statements s.tree)
    ∙ index_before (text_of t) a b (mark (byte "=") ∷ ended (whole c d) (byte ";") (statements s.tree))
    ∙ ap (λ ts. word (text_of t) ∷ mark (byte "[") ∷ (expression a.tree ++ (chain b.links ++ mark (byte "]") ∷ mark (byte "=") ∷ ts)))
    (value_before c d (mark (byte ";") ∷ statements s.tree) ∙ ap (λ ts. expression c.tree ++ (chain d.links ++ mark (byte ";") ∷ ts)) (more s)))

set_made : (t : Token) → is_name t ≡ true → (b : BehindOne) (s : Stated) → Makes wanted.Statements (t ∷ (b.tokens ++ (statements s.tree ++ [])))
set_made t h b s =
    made t (word (text_of t)) _ (b.tree (text_of t)) s (name_is t h) (b.grammar (text_of t) (free_name t h))
    (ap (λ ts. ts ++ statements s.tree) (b.spelled (text_of t)) ∙ ap (λ ts. word (text_of t) ∷ (b.tokens ++ ts)) (more s))

print_made : (t : Token) → is_word (codes "print") t ≡ true → (c : TermTree) (d : Links) (s : Stated) → Makes wanted.Statements (t ∷ (expression c.tree ++ (chain d.links ++ mark (byte ";") ∷ (statements s.tree ++ []))))
print_made t h c d s =
    made t (word (codes "print")) _ (print (whole c d)) s (word_is (codes "print") t h) (whole_grammar c d)
    (print_is (whole c d) (statements s.tree)
    ∙ ap (λ ts. word (codes "print") ∷ ts) (value_before c d (mark (byte ";") ∷ statements s.tree) ∙ ap (λ ts. expression c.tree ++ (chain d.links ++ mark (byte ";") ∷ ts)) (more s)))

increment_made : (t : Token) → is_word (codes "inc") t ≡ true → (n : Name) (a : TermTree) (b : Links) (s : Stated)
    → Makes wanted.Statements (t ∷ word n.text ∷ mark (byte "[") ∷ (expression a.tree ++ (chain b.links ++ mark (byte "]") ∷ mark (byte ";") ∷ (statements s.tree ++ []))))
increment_made t h n a b s =
    made t (word (codes "inc")) _ (increment n.text (whole a b)) s (word_is (codes "inc") t h) (let f = n.free in let g = whole_grammar a b in rw (f, g) refl)
    (increment_is n.text (whole a b) (statements s.tree)
    ∙ ap (λ ts. word (codes "inc") ∷ ts)
    (index_before n.text a b (mark (byte ";") ∷ statements s.tree) ∙ ap (λ ts. word n.text ∷ mark (byte "[") ∷ (expression a.tree ++ (chain b.links ++ mark (byte "]") ∷ mark (byte ";") ∷ ts))) (more s)))

minimum_made : (t : Token) → is_word (codes "min") t ≡ true → (n : Name) (a : TermTree) (b : Links) (c : TermTree) (d : Links) (s : Stated)
    → Makes wanted.Statements (t ∷ word n.text ∷ mark (byte "[") ∷ (expression a.tree ++ (chain b.links ++ mark (byte "]") ∷ mark (byte ",") ∷ (expression c.tree ++ (chain d.links ++ mark (byte ";") ∷ (statements s.tree ++ []))))))
minimum_made t h n a b c d s =
    made t (word (codes "min")) _ (minimum n.text (whole a b) (whole c d)) s (word_is (codes "min") t h) (let f = n.free in let g = whole_grammar a b in let k = whole_grammar c d in rw (f, g, k) refl)
    (minimum_is n.text (whole a b) (whole c d) (statements s.tree)
    ∙ ap (λ ts. word (codes "min") ∷ ts)
    (index_before n.text a b (mark (byte ",") ∷ ended (whole c d) (byte ";") (statements s.tree))
    ∙ ap (λ ts. word n.text ∷ mark (byte "[") ∷ (expression a.tree ++ (chain b.links ++ mark (byte "]") ∷ mark (byte ",") ∷ ts)))
    (value_before c d (mark (byte ";") ∷ statements s.tree) ∙ ap (λ ts. expression c.tree ++ (chain d.links ++ mark (byte ";") ∷ ts)) (more s))))

loop_made : (t : Token) → is_word (codes "for") t ≡ true → (n : Name) (turns : ℕ) (body s : Stated)
    → Makes wanted.Statements (t ∷ word n.text ∷ mark (byte "<") ∷ number turns ∷ mark (byte "{") ∷ (statements body.tree ++ mark (byte "}") ∷ (statements s.tree ++ [])))
loop_made t h n turns body s = (
  record { tree = repeat n.text turns body.tree s.tree; grammar = let f = n.free in let g = body.grammar in let k = s.grammar in rw (f, g, k) refl },
  first_is t (word (codes "for")) _ _ (word_is (codes "for") t h) (ap (λ ts. word (codes "for") ∷ word n.text ∷ mark (byte "<") ∷ number turns ∷ mark (byte "{") ∷ (statements body.tree ++ mark (byte "}") ∷ ts)) (more s)),
)

statements_yield : (t : Token) (next : Option Token) → Yields wanted.Statements t (of_statements t next)
statements_yield t next =
    by_test (Yields wanted.Statements t) (is_name t && opens_bracket next) _ _ (λ h g. store_made t (and_parts (is_name t) (opens_bracket next) h).0 g.1.0 g.1.1.0 g.1.1.1.1.1.0 g.1.1.1.1.1.1.0 g.1.1.1.1.1.1.1.1.0)
    (λ _. by_test (Yields wanted.Statements t) (is_name t) _ _ (λ h g. set_made t h g.0 g.1.0)
    (λ _. by_test (Yields wanted.Statements t) (is_word (codes "print") t) _ _ (λ h g. print_made t h g.0 g.1.0 g.1.1.1.0)
    (λ _. by_test (Yields wanted.Statements t) (is_word (codes "inc") t) _ _ (λ h g. increment_made t h g.0 g.1.1.0 g.1.1.1.0 g.1.1.1.1.1.1.0)
    (λ _. by_test (Yields wanted.Statements t) (is_word (codes "min") t) _ _ (λ h g. minimum_made t h g.0 g.1.1.0 g.1.1.1.0 g.1.1.1.1.1.1.0 g.1.1.1.1.1.1.1.0 g.1.1.1.1.1.1.1.1.1.0)
    (λ _. by_test (Yields wanted.Statements t) (is_word (codes "for") t) _ _ (λ h g. loop_made t h g.0 g.1.1.0 g.1.1.1.1.0 g.1.1.1.1.1.1.0) (λ _. tt))))))

-- ---- behind a variable

one_made : (t : Token) → is_mark (byte "=") t ≡ true → (o : OfOne) → Makes wanted.BehindVariable (t ∷ (o.tokens ++ []))
one_made t h o = (
  record { tokens = equals ++ o.tokens; tree = o.tree; spelled = o.spelled; grammar = o.grammar },
  first_is t (mark (byte "=")) _ _ (mark_is (byte "=") t h) (ap (λ ts. mark (byte "=") ∷ ts) (sym (append-nil o.tokens))),
)

two_made : (t : Token) → is_mark (byte ",") t ≡ true → (second : Name) (o : OfTwo) → Makes wanted.BehindVariable (t ∷ word second.text ∷ mark (byte "=") ∷ (o.tokens ++ []))
two_made t h second o = (
  record {
    tokens = comma ++ word second.text ∷ (equals ++ o.tokens);
    tree = λ x. o.tree x second.text;
    spelled = λ x. o.spelled x second.text;
    grammar = λ x free. o.grammar x second.text free second.free;
  },
  first_is t (mark (byte ",")) _ _ (mark_is (byte ",") t h) (ap (λ ts. mark (byte ",") ∷ word second.text ∷ mark (byte "=") ∷ ts) (sym (append-nil o.tokens))),
)

variable_yields : (t : Token) → Yields wanted.BehindVariable t (behind_variable t)
variable_yields t =
    by_test (Yields wanted.BehindVariable t) (is_mark (byte "=") t) _ _ (λ h g. one_made t h g.0)
    (λ _. by_test (Yields wanted.BehindVariable t) (is_mark (byte ",") t) _ _ (λ h g. two_made t h g.0 g.1.1.0) (λ _. tt))

dot_made : (t : Token) → is_word (codes "dot") t ≡ true → (n : Name) (i : TermTree) (j : Links) (a b c d : Name)
    → Makes wanted.OneWord (t ∷ word n.text ∷ mark (byte "[") ∷ (expression i.tree ++ (chain j.links ++ mark (byte "]") ∷ mark (byte ",") ∷ word a.text ∷ mark (byte ",") ∷ word b.text ∷ mark (byte ",") ∷ word c.text ∷ mark (byte ",") ∷ word d.text ∷ mark (byte ";") ∷ [])))
dot_made t h n i j a b c d = (
  record {
    tokens = behind_dot n.text (whole i j) a.text b.text c.text d.text [];
    tree = λ x. dot x n.text (whole i j) a.text b.text c.text d.text;
    spelled = λ x. sym (append-nil (action (dot x n.text (whole i j) a.text b.text c.text d.text))) ∙ dot_is x n.text (whole i j) a.text b.text c.text d.text [];
    grammar = λ x free. (let f = n.free in let p = a.free in let q = b.free in let r = c.free in let s = d.free in let g = whole_grammar i j in rw (free, f, p, q, r, s, g) refl);
  },
  first_is t (word (codes "dot")) _ _ (word_is (codes "dot") t h) (ap (λ ts. word (codes "dot") ∷ ts) (index_before n.text i j (operands a.text b.text c.text d.text []))),
)

value_made : (t : Token) (o : Option Reading) → Yields (wanted.Term deepest) t o → Yields wanted.OneWord t (before o (wanted.MoreTerms deepest ∷ ending))
value_made t None y = tt
value_made t (Some r) y = λ g. by_parts g (apart r.wanted (wanted.MoreTerms deepest ∷ ending) g)
  where
    by_term : (x : AllGiven r.wanted) (l : Links) (g : AllGiven (r.wanted ++ wanted.MoreTerms deepest ∷ ending)) → all_tokens r.wanted x ++ (chain l.links ++ mark (byte ";") ∷ []) ≡ all_tokens (r.wanted ++ wanted.MoreTerms deepest ∷ ending) g
        → Makes (wanted.Term deepest) (t ∷ all_tokens r.wanted x) → Makes wanted.OneWord (t ∷ all_tokens (r.wanted ++ wanted.MoreTerms deepest ∷ ending) g)
    by_term x l g e m =
        let a : TermTree = m.0
        in (
          record {
            tokens = ended (whole a l) (byte ";") [];
            tree = λ v. assign v (whole a l);
            spelled = λ v. sym (append-nil (action (assign v (whole a l)))) ∙ assign_is v (whole a l) [];
            grammar = λ v free. (let k = whole_grammar a l in rw (free, k) refl);
          },
          value_before a l (mark (byte ";") ∷ []) ∙ ap (λ ts. ts ++ (chain l.links ++ semicolon)) m.1 ∙ ap (λ ts. t ∷ ts) e,
        )

    by_parts : (g : AllGiven (r.wanted ++ wanted.MoreTerms deepest ∷ ending))
        → ((x : AllGiven r.wanted) × (z : AllGiven (wanted.MoreTerms deepest ∷ ending)) × (all_tokens r.wanted x ++ all_tokens (wanted.MoreTerms deepest ∷ ending) z ≡ all_tokens (r.wanted ++ wanted.MoreTerms deepest ∷ ending) g))
        → Makes wanted.OneWord (t ∷ all_tokens (r.wanted ++ wanted.MoreTerms deepest ∷ ending) g)
    by_parts g p = by_term p.0 p.1.0 g p.2 (y p.0)

one_yields : (t : Token) (next : Option Token) → Yields wanted.OneWord t (one_word t next)
one_yields t next =
    by_test (Yields wanted.OneWord t) (is_word (codes "dot") t) _ _
    (λ h g. dot_made t h g.0 g.1.1.0 g.1.1.1.0 g.1.1.1.1.1.1.0 g.1.1.1.1.1.1.1.1.0 g.1.1.1.1.1.1.1.1.1.1.0 g.1.1.1.1.1.1.1.1.1.1.1.1.0)
    (λ _. value_made t (of_term deepest t next) (term_yields deepest t next))

probe_made : (t : Token) → is_word (codes "probe") t ≡ true → (n : Name) (a : TermTree) (b : Links) (c : TermTree) (d : Links)
    → Makes wanted.TwoWords (t ∷ word n.text ∷ mark (byte "[") ∷ (expression a.tree ++ (chain b.links ++ mark (byte "]") ∷ mark (byte ",") ∷ (expression c.tree ++ (chain d.links ++ mark (byte ";") ∷ [])))))
probe_made t h n a b c d = (
  record {
    tokens = behind_probe n.text (whole a b) (whole c d) [];
    tree = λ x y. probe x y n.text (whole a b) (whole c d);
    spelled = λ x y. sym (append-nil (action (probe x y n.text (whole a b) (whole c d)))) ∙ probe_is x y n.text (whole a b) (whole c d) [];
    grammar = λ x y free also. (let f = n.free in let g = whole_grammar a b in let k = whole_grammar c d in rw (free, also, f, g, k) refl);
  },
  first_is t (word (codes "probe")) _ _ (word_is (codes "probe") t h)
      (ap (λ ts. word (codes "probe") ∷ ts)
      (index_before n.text a b (mark (byte ",") ∷ ended (whole c d) (byte ";") [])
      ∙ ap (λ ts. word n.text ∷ mark (byte "[") ∷ (expression a.tree ++ (chain b.links ++ mark (byte "]") ∷ mark (byte ",") ∷ ts))) (value_before c d (mark (byte ";") ∷ [])))),
)

hist_made : (t : Token) → is_word (codes "hist") t ≡ true → (n : Name) (a : TermTree) (b : Links) (shift : ℕ)
    → Makes wanted.TwoWords (t ∷ word n.text ∷ mark (byte "[") ∷ (expression a.tree ++ (chain b.links ++ mark (byte "]") ∷ mark (byte ",") ∷ number shift ∷ mark (byte ";") ∷ [])))
hist_made t h n a b shift = (
  record {
    tokens = behind_hist n.text (whole a b) shift [];
    tree = λ x y. hist x y n.text (whole a b) shift;
    spelled = λ x y. sym (append-nil (action (hist x y n.text (whole a b) shift))) ∙ hist_is x y n.text (whole a b) shift [];
    grammar = λ x y free also. (let f = n.free in let g = whole_grammar a b in rw (free, also, f, g) refl);
  },
  first_is t (word (codes "hist")) _ _ (word_is (codes "hist") t h) (ap (λ ts. word (codes "hist") ∷ ts) (index_before n.text a b (mark (byte ",") ∷ number shift ∷ mark (byte ";") ∷ []))),
)

two_yield : (t : Token) → Yields wanted.TwoWords t (two_words t)
two_yield t =
    by_test (Yields wanted.TwoWords t) (is_word (codes "probe") t) _ _ (λ h g. probe_made t h g.0 g.1.1.0 g.1.1.1.0 g.1.1.1.1.1.1.0 g.1.1.1.1.1.1.1.0)
    (λ _. by_test (Yields wanted.TwoWords t) (is_word (codes "hist") t) _ _ (λ h g. hist_made t h g.0 g.1.1.0 g.1.1.1.0 g.1.1.1.1.1.1.0) (λ _. tt))

-- ---- all that may be wanted

yields : (w : Wanted) (t : Token) (next : Option Token) → Yields w t (of_wanted w t next)
yields (wanted.Mark b) t next = by_test (Yields (wanted.Mark b) t) (is_mark b t) _ _ (λ h g. mark_made b t h) (λ _. tt)
yields wanted.ClosingBrace t next = by_test (Yields wanted.ClosingBrace t) (is_mark (byte "}") t) _ _ (λ h g. mark_made (byte "}") t h) (λ _. tt)
yields wanted.Declarations t next = declarations_yield t
yields (wanted.DeclaredName kind) t next = by_test (Yields (wanted.DeclaredName kind) t) (is_name t) _ _ (λ h g. name_made t h) (λ _. tt)
yields wanted.Size t next = by_test (Yields wanted.Size t) (is_number t) _ _ (λ h g. number_made t h) (λ _. tt)
yields wanted.Value t next = by_test (Yields wanted.Value t) (is_number t) _ _ (λ h g. number_made t h) (λ _. tt)
yields wanted.MoreValues t next = values_yield t
yields wanted.Statements t next = statements_yield t next
yields wanted.BehindVariable t next = variable_yields t
yields wanted.OneWord t next = one_yields t next
yields wanted.TwoWords t next = two_yield t
yields wanted.SecondVariable t next = by_test (Yields wanted.SecondVariable t) (is_name t) _ _ (λ h g. name_made t h) (λ _. tt)
yields wanted.Counter t next = by_test (Yields wanted.Counter t) (is_name t) _ _ (λ h g. name_made t h) (λ _. tt)
yields wanted.TurnCount t next = by_test (Yields wanted.TurnCount t) (is_number t) _ _ (λ h g. number_made t h) (λ _. tt)
yields wanted.Shift t next = by_test (Yields wanted.Shift t) (is_number t) _ _ (λ h g. number_made t h) (λ _. tt)
yields wanted.ArrayName t next = by_test (Yields wanted.ArrayName t) (is_name t) _ _ (λ h g. name_made t h) (λ _. tt)
yields wanted.TableName t next = by_test (Yields wanted.TableName t) (is_name t) _ _ (λ h g. name_made t h) (λ _. tt)
yields wanted.Operand t next = by_test (Yields wanted.Operand t) (is_name t) _ _ (λ h g. name_made t h) (λ _. tt)
yields (wanted.Term room) t next = term_yields room t next
yields (wanted.MoreTerms room) t next = terms_yield room t

nothing : (w : Wanted) → is_optional w ≡ true → Makes w []
nothing wanted.Declarations h = (record { trees = []; grammar = refl }, refl)
nothing wanted.MoreValues h = ([], refl)
nothing wanted.Statements h = (record { tree = done; grammar = refl }, refl)
nothing (wanted.MoreTerms room) h = (record { links = []; grammar = refl }, refl)
nothing _ h = absurd (cc h)

with_nothing : (w : Wanted) (ws : List Wanted) (ts : List Token) → is_optional w ≡ true → MakesAll ws ts → MakesAll (w ∷ ws) ts
with_nothing w ws ts h m = let n = nothing w h in ((n.0, m.0), ap (λ us. us ++ all_tokens ws m.0) n.1 ∙ m.1)

nothing_more : (ws : List Wanted) → may_end ws ≡ true → MakesAll ws []
nothing_more [] h = (tt, refl)
nothing_more (w ∷ ws) h = let parts = and_parts (is_optional w) (may_end ws) h in with_nothing w ws [] parts.0 (nothing_more ws parts.1)

one_more : (t : Token) (ts : List Token) → ((ws : List Wanted) → continues ts ws ≡ true → MakesAll ws ts) → (ws : List Wanted) → goes_on (continues ts) (read ws t (first ts)) ≡ true → MakesAll ws (t ∷ ts)
one_more t ts later [] h = absurd (cc h)
one_more t ts later (w ∷ ws) h = by_own (of_wanted w t (first ts)) (yields w t (first ts)) (is_optional w) (λ is. with_nothing w ws (t ∷ ts) is) (λ goes. one_more t ts later ws goes) h
  where
    by_own : (o : Option Reading) → Yields w t o → (b : Bool) → (b ≡ true → MakesAll ws (t ∷ ts) → MakesAll (w ∷ ws) (t ∷ ts)) → (goes_on (continues ts) (read ws t (first ts)) ≡ true → MakesAll ws (t ∷ ts))
        → goes_on (continues ts) (option_or (before o ws) (if b then read ws t (first ts) else None)) ≡ true → MakesAll (w ∷ ws) (t ∷ ts)
    by_own None y true skips others h = skips refl (others h)
    by_own None y false skips others h = absurd (cc h)
    by_own (Some r) y b skips others h =
        let m = later (r.wanted ++ ws) h
        in let p = apart r.wanted ws m.0
        in let own = y p.0
        in ((own.0, p.1), ap (λ us. us ++ all_tokens ws p.1) own.1 ∙ ap (λ us. t ∷ us) (p.2 ∙ m.1))

given : (ts : List Token) (ws : List Wanted) → continues ts ws ≡ true → MakesAll ws ts
unfolding continues
given [] ws h = nothing_more ws h
given (t ∷ ts) ws h = one_more t ts (given ts) ws h

kernel_given : (ts : List Token) → MakesAll a_kernel ts → (k : Kernel) × (ts ≡ kernel k) × (is_kernel k ≡ true)
kernel_given ts m = (
  record { declarations = m.0.0.trees; statements = m.0.1.0.tree },
  sym m.1 ∙ ap (λ us. flat_map declaration m.0.0.trees ++ us) (append-nil (statements m.0.1.0.tree)),
  and_from (list_all is_declaration m.0.0.trees) (are_statements m.0.1.0.tree) m.0.0.grammar m.0.1.0.grammar,
)

pub no_token_fault : (text : List ℕ) → first_fault text ≡ None → (first_character_fault (tokens_of text) ≡ None) × (first_token_fault (end_of text) (tokens_of text) at_start ≡ None)
no_token_fault text h = by_characters (first_character_fault (tokens_of text)) h
  where
    by_characters : {A : Type 0} {later : Option A} (f : Option A) → option_or f later ≡ None → (f ≡ None) × (later ≡ None)
    by_characters None e = (refl, e)
    by_characters (Some f) e = absurd (cc e)

pub faultless_spells : (text : List ℕ) → first_fault text ≡ None → (k : Kernel) × Spells text k
faultless_spells text h =
    let found = kernel_given (tokens_at (tokens_of text)) (given (tokens_at (tokens_of text)) a_kernel (without_fault (end_of text) (tokens_of text) at_start (no_token_fault text h).1))
    in (found.0, record { tokens = found.1; grammar = found.2 })
