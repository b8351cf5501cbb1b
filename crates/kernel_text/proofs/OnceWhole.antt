-- A text spells at most one tree: statements, declarations and kernels.
use Rattle.std.proofs.Common.{◌≡◌, ℕ, zero, suc, Bool, true, false, not, ◌&&◌, if◌then◌else◌, List, [], ◌∷◌, ◌++◌, Option, Some, refl, sym, ap, ◌∙◌, append_assoc, append-nil}
use Rattle.std.specs.Prelude.{codes, flat_map}
use Rattle.std.specs.List.{list_all}
use Rattle.std.specs.Str.{byte, bytes_eq}
use Rattle.std.proofs.lemmas.Bool.{and_parts, false_from_ne_true}
use Rattle.std.proofs.lemmas.Slice.Eq.{bytes_eq-Decides}
use Rattle.kernel_text.specs.Tokens.{Token, word, number, mark, text_of, value_of, is_keyword}
use Rattle.kernel_text.specs.Trees.{Declaration, Expression, Action, Statements, Kernel, table, array, num, named, item, group, binary, assign, store, print, increment, minimum, probe, hist, dot, done, act, repeat}
use Rattle.kernel_text.specs.Grammar.{expression, operator, action, statements, declaration, numbers, kernel, is_free, is_term, is_expression, is_action, are_statements, is_declaration, is_kernel, has_numbers, Spells}
use Rattle.kernel_text.specs.Beginnings.{begins_statement, begins_declaration}
use Rattle.kernel_text.specs.Built.{first, begins_with_word, begins_with_mark}
use Rattle.kernel_text.proofs.Chains.{three_parts}
use Rattle.kernel_text.proofs.Flat.{ended, indexed, operands, flat_assign, flat_store, flat_print, flat_increment, flat_minimum, flat_two, behind_probe, behind_hist, behind_dot, flat_loop, assign_is, store_is, print_is, increment_is, minimum_is, probe_is, hist_is, dot_is, loop_is}
use Rattle.kernel_text.proofs.Once.{ends_expression, expression_once}

-- ---- names are no keywords

pub free_is_no_word : (text name : List ℕ) → is_keyword text ≡ true → is_free name ≡ true → bytes_eq text name ≡ false
free_is_no_word text name keyword free = false_from_ne_true (bytes_eq text name) (λ same. contrary (ap is_keyword ((bytes_eq-Decides text name).0 same)))
  where
    contrary : is_keyword text ≡ is_keyword name → ⊥
    contrary e = differs (sym (ap not (sym keyword ∙ e)) ∙ refl) free
      where
        differs : is_free name ≡ false → is_free name ≡ true → ⊥
        differs a b = cc (a, b)

-- an expression begins with no keyword
pub first_is_no_word : (text : List ℕ) (e : Expression) (ts : List Token) → is_keyword text ≡ true → is_expression e ≡ true → begins_with_word text (expression e ++ ts) ≡ false
first_is_no_word text (num n) ts k g = refl
first_is_no_word text (named a) ts k g = free_is_no_word text a k g
first_is_no_word text (item a i) ts k g = free_is_no_word text a k (and_parts (is_free a) (is_expression i) g).0
first_is_no_word text (group i) ts k g = refl
first_is_no_word text (binary o l r) ts k g =
    ap (begins_with_word text) (append_assoc (expression l) (operator o ∷ expression r) ts) ∙ first_is_no_word text l (operator o ∷ (expression r ++ ts)) k (three_parts (is_expression l) (is_term r) (is_expression r) g).0

-- ---- which statement the first tokens tell

abbrev behind : List Token → List Token
behind [] = []
behind (t ∷ ts) = ts

abbrev shape_of_name : List Token → ℕ
shape_of_name ts =
    if begins_with_mark (byte "[") ts then 1
    else (if begins_with_mark (byte ",") ts then (if begins_with_word (codes "probe") (behind (behind (behind ts))) then 5 else 6)
    else (if begins_with_word (codes "dot") (behind ts) then 7 else 0))

abbrev shape : List Token → ℕ
shape ts =
    if begins_with_word (codes "print") ts then 2
    else (if begins_with_word (codes "inc") ts then 3
    else (if begins_with_word (codes "min") ts then 4
    else (if begins_with_word (codes "for") ts then 8
    else shape_of_name (behind ts))))

abbrev shape_of : Action → ℕ
shape_of (assign name value) = 0
shape_of (store name index value) = 1
shape_of (print value) = 2
shape_of (increment name index) = 3
shape_of (minimum name index value) = 4
shape_of (probe first second name index key) = 5
shape_of (hist first second name index shift) = 6
shape_of (dot first name index a b c d) = 7

by_name : (name : List ℕ) (ts : List Token) → is_free name ≡ true → shape (word name ∷ ts) ≡ shape_of_name ts
by_name name ts free =
    let a = free_is_no_word (codes "print") name refl free
    in let b = free_is_no_word (codes "inc") name refl free
    in let c = free_is_no_word (codes "min") name refl free
    in let d = free_is_no_word (codes "for") name refl free
    in rw (a, b, c, d) refl

pub free_first : (one : List ℕ) (b : Bool) (rest : List (List ℕ)) → (list_all is_free (one ∷ rest) && b) ≡ true → is_free one ≡ true
free_first one b rest g = (and_parts (is_free one) (list_all is_free rest) (and_parts (list_all is_free (one ∷ rest)) b g).0).0

pub free_first_of_three : (one : List ℕ) (b c : Bool) (rest : List (List ℕ)) → (list_all is_free (one ∷ rest) && b && c) ≡ true → is_free one ≡ true
free_first_of_three one b c rest g = (and_parts (is_free one) (list_all is_free rest) (three_parts (list_all is_free (one ∷ rest)) b c g).0).0

has_shape : (a : Action) (x : List Token) → is_action a ≡ true → shape (action a ++ x) ≡ shape_of a
has_shape (assign name value) x g =
    let parts = and_parts (is_free name) (is_expression value) g
    in let k = first_is_no_word (codes "dot") value (mark (byte ";") ∷ x) refl parts.1
    in ap shape (assign_is name value x) ∙ by_name name (mark (byte "=") ∷ ended value (byte ";") x) parts.0 ∙ (rw k refl)
has_shape (store name index value) x g =
    ap shape (store_is name index value x) ∙ by_name name (mark (byte "[") ∷ ended index (byte "]") (mark (byte "=") ∷ ended value (byte ";") x)) (three_parts (is_free name) (is_expression index) (is_expression value) g).0
has_shape (print value) x g = ap shape (print_is value x)
has_shape (increment name index) x g = ap shape (increment_is name index x)
has_shape (minimum name index value) x g = ap shape (minimum_is name index value x)
has_shape (probe one two name index key) x g =
    ap shape (probe_is one two name index key x) ∙ by_name one (mark (byte ",") ∷ word two ∷ mark (byte "=") ∷ behind_probe name index key x) (free_first_of_three one (is_expression index) (is_expression key) (two ∷ name ∷ []) g)
has_shape (hist one two name index shift) x g =
    ap shape (hist_is one two name index shift x) ∙ by_name one (mark (byte ",") ∷ word two ∷ mark (byte "=") ∷ behind_hist name index shift x) (free_first one (is_expression index) (two ∷ name ∷ []) g)
has_shape (dot one name index a b c d) x g =
    ap shape (dot_is one name index a b c d x) ∙ by_name one (mark (byte "=") ∷ behind_dot name index a b c d x) (free_first one (is_expression index) (name ∷ a ∷ b ∷ c ∷ d ∷ []) g)

-- ---- actions

abbrev first_text : List Token → List ℕ
first_text [] = []
first_text (t ∷ ts) = text_of t

abbrev first_value : List Token → ℕ
first_value [] = 0
first_value (t ∷ ts) = value_of t

abbrev past : ℕ → List Token → List Token
past zero ts = ts
past (suc n) ts = past n (behind ts)

-- the same expression before a mark
ended_same : (e f : Expression) (m : ℕ) (x y : List Token) → ((ts : List Token) → ends_expression (mark m ∷ ts) ≡ true) → is_expression e ≡ true → is_expression f ≡ true
    → ended e m x ≡ ended f m y → (e ≡ f) × (x ≡ y)
ended_same e f m x y ends g h same =
    let r = expression_once e g f (mark m ∷ x) (mark m ∷ y) h (ends x) (ends y) same
    in (r.0, ap behind r.1)

-- the same index
index_same : (n m : List ℕ) (i j : Expression) (x y : List Token) → is_expression i ≡ true → is_expression j ≡ true → indexed n i x ≡ indexed m j y → (n ≡ m) × (i ≡ j) × (x ≡ y)
index_same n m i j x y g h same =
    let r = ended_same i j (byte "]") x y (λ ts. refl) g h (ap (past 2) same)
    in (ap first_text same, r.0, r.1)

value_same : (v w : Expression) (x y : List Token) → is_expression v ≡ true → is_expression w ≡ true → ended v (byte ";") x ≡ ended w (byte ";") y → (v ≡ w) × (x ≡ y)
value_same v w x y g h same = ended_same v w (byte ";") x y (λ ts. refl) g h same

abbrev Same : Action → Action → List Token → List Token → Type 0
Same a b x y = (a ≡ b) × (x ≡ y)

same_assign : (n m : List ℕ) (v w : Expression) (x y : List Token) → is_action (assign n v) ≡ true → is_action (assign m w) ≡ true
    → flat_assign n v x ≡ flat_assign m w y → Same (assign n v) (assign m w) x y
same_assign n m v w x y g h e =
    let name = ap first_text e
    in let r = value_same v w x y (and_parts (is_free n) (is_expression v) g).1 (and_parts (is_free m) (is_expression w) h).1 (ap (past 2) e)
    in (λ i. assign (name i) (r.0 i), r.1)

same_store : (n m : List ℕ) (i j v w : Expression) (x y : List Token) → is_action (store n i v) ≡ true → is_action (store m j w) ≡ true
    → flat_store n i v x ≡ flat_store m j w y → Same (store n i v) (store m j w) x y
same_store n m i j v w x y g h e =
    let gs = three_parts (is_free n) (is_expression i) (is_expression v) g
    in let hs = three_parts (is_free m) (is_expression j) (is_expression w) h
    in let q = index_same n m i j (mark (byte "=") ∷ ended v (byte ";") x) (mark (byte "=") ∷ ended w (byte ";") y) gs.1 hs.1 e
    in let r = value_same v w x y gs.2 hs.2 (ap behind q.2)
    in (λ k. store (q.0 k) (q.1 k) (r.0 k), r.1)

same_print : (v w : Expression) (x y : List Token) → is_action (print v) ≡ true → is_action (print w) ≡ true → flat_print v x ≡ flat_print w y → Same (print v) (print w) x y
same_print v w x y g h e =
    let r = value_same v w x y g h (ap behind e)
    in (ap print r.0, r.1)

same_increment : (n m : List ℕ) (i j : Expression) (x y : List Token) → is_action (increment n i) ≡ true → is_action (increment m j) ≡ true
    → flat_increment n i x ≡ flat_increment m j y → Same (increment n i) (increment m j) x y
same_increment n m i j x y g h e =
    let q = index_same n m i j (mark (byte ";") ∷ x) (mark (byte ";") ∷ y) (and_parts (is_free n) (is_expression i) g).1 (and_parts (is_free m) (is_expression j) h).1 (ap behind e)
    in (λ k. increment (q.0 k) (q.1 k), ap behind q.2)

same_minimum : (n m : List ℕ) (i j v w : Expression) (x y : List Token) → is_action (minimum n i v) ≡ true → is_action (minimum m j w) ≡ true
    → flat_minimum n i v x ≡ flat_minimum m j w y → Same (minimum n i v) (minimum m j w) x y
same_minimum n m i j v w x y g h e =
    let gs = three_parts (is_free n) (is_expression i) (is_expression v) g
    in let hs = three_parts (is_free m) (is_expression j) (is_expression w) h
    in let q = index_same n m i j (mark (byte ",") ∷ ended v (byte ";") x) (mark (byte ",") ∷ ended w (byte ";") y) gs.1 hs.1 (ap behind e)
    in let r = value_same v w x y gs.2 hs.2 (ap behind q.2)
    in (λ k. minimum (q.0 k) (q.1 k) (r.0 k), r.1)

same_probe : (a b n c d m : List ℕ) (i j v w : Expression) (x y : List Token) → is_action (probe a b n i v) ≡ true → is_action (probe c d m j w) ≡ true
    → flat_two a b (behind_probe n i v x) ≡ flat_two c d (behind_probe m j w y) → Same (probe a b n i v) (probe c d m j w) x y
same_probe a b n c d m i j v w x y g h e =
    let gs = three_parts (list_all is_free (a ∷ b ∷ n ∷ [])) (is_expression i) (is_expression v) g
    in let hs = three_parts (list_all is_free (c ∷ d ∷ m ∷ [])) (is_expression j) (is_expression w) h
    in let one = ap first_text e
    in let two = ap (λ ts. first_text (past 2 ts)) e
    in let q = index_same n m i j (mark (byte ",") ∷ ended v (byte ";") x) (mark (byte ",") ∷ ended w (byte ";") y) gs.1 hs.1 (ap (past 5) e)
    in let r = value_same v w x y gs.2 hs.2 (ap behind q.2)
    in (λ k. probe (one k) (two k) (q.0 k) (q.1 k) (r.0 k), r.1)

same_hist : (a b n c d m : List ℕ) (i j : Expression) (s t : ℕ) (x y : List Token) → is_action (hist a b n i s) ≡ true → is_action (hist c d m j t) ≡ true
    → flat_two a b (behind_hist n i s x) ≡ flat_two c d (behind_hist m j t y) → Same (hist a b n i s) (hist c d m j t) x y
same_hist a b n c d m i j s t x y g h e =
    let one = ap first_text e
    in let two = ap (λ ts. first_text (past 2 ts)) e
    in let q =
    index_same n m i j (mark (byte ",") ∷ number s ∷ mark (byte ";") ∷ x) (mark (byte ",") ∷ number t ∷ mark (byte ";") ∷ y) (and_parts (list_all is_free (a ∷ b ∷ n ∷ [])) (is_expression i) g).1
    (and_parts (list_all is_free (c ∷ d ∷ m ∷ [])) (is_expression j) h).1 (ap (past 5) e)
    in let shift = ap (λ ts. first_value (behind ts)) q.2
    in (λ k. hist (one k) (two k) (q.0 k) (q.1 k) (shift k), ap (past 3) q.2)

same_dot : (o n a b c d p m k l q r : List ℕ) (i j : Expression) (x y : List Token) → is_action (dot o n i a b c d) ≡ true → is_action (dot p m j k l q r) ≡ true
    → word o ∷ mark (byte "=") ∷ behind_dot n i a b c d x ≡ word p ∷ mark (byte "=") ∷ behind_dot m j k l q r y → Same (dot o n i a b c d) (dot p m j k l q r) x y
same_dot o n a b c d p m k l q r i j x y g h e =
    let one = ap first_text e
    in let found =
    index_same n m i j (operands a b c d x) (operands k l q r y) (and_parts (list_all is_free (o ∷ n ∷ a ∷ b ∷ c ∷ d ∷ [])) (is_expression i) g).1
    (and_parts (list_all is_free (p ∷ m ∷ k ∷ l ∷ q ∷ r ∷ [])) (is_expression j) h).1 (ap (past 3) e)
    in let a_is = ap (λ ts. first_text (past 1 ts)) found.2
    in let b_is = ap (λ ts. first_text (past 3 ts)) found.2
    in let c_is = ap (λ ts. first_text (past 5 ts)) found.2
    in let d_is = ap (λ ts. first_text (past 7 ts)) found.2
    in (λ z. dot (one z) (found.0 z) (found.1 z) (a_is z) (b_is z) (c_is z) (d_is z), ap (past 9) found.2)

same_shape : (a b : Action) (x y : List Token) → is_action a ≡ true → is_action b ≡ true → action a ++ x ≡ action b ++ y → shape_of a ≡ shape_of b
same_shape a b x y g h e = sym (has_shape a x g) ∙ ap shape e ∙ has_shape b y h

action_once : (a b : Action) (x y : List Token) → is_action a ≡ true → is_action b ≡ true → action a ++ x ≡ action b ++ y → Same a b x y
action_once a b x y g h e = by_shape a b (same_shape a b x y g h e) g h e
  where
    by_shape : (a b : Action) → shape_of a ≡ shape_of b → is_action a ≡ true → is_action b ≡ true → action a ++ x ≡ action b ++ y → Same a b x y
    by_shape (assign n v) (assign m w) s g h e = same_assign n m v w x y g h (sym (assign_is n v x) ∙ e ∙ assign_is m w y)
    by_shape (store n i v) (store m j w) s g h e = same_store n m i j v w x y g h (sym (store_is n i v x) ∙ e ∙ store_is m j w y)
    by_shape (print v) (print w) s g h e = same_print v w x y g h (sym (print_is v x) ∙ e ∙ print_is w y)
    by_shape (increment n i) (increment m j) s g h e = same_increment n m i j x y g h (sym (increment_is n i x) ∙ e ∙ increment_is m j y)
    by_shape (minimum n i v) (minimum m j w) s g h e = same_minimum n m i j v w x y g h (sym (minimum_is n i v x) ∙ e ∙ minimum_is m j w y)
    by_shape (probe a b n i v) (probe c d m j w) s g h e = same_probe a b n c d m i j v w x y g h (sym (probe_is a b n i v x) ∙ e ∙ probe_is c d m j w y)
    by_shape (hist a b n i s) (hist c d m j t) same g h e = same_hist a b n c d m i j s t x y g h (sym (hist_is a b n i s x) ∙ e ∙ hist_is c d m j t y)
    by_shape (dot o n i a b c d) (dot p m j k l q r) s g h e = same_dot o n a b c d p m k l q r i j x y g h (sym (dot_is o n i a b c d x) ∙ e ∙ dot_is p m j k l q r y)
    by_shape a b s g h e = absurd (cc s)

-- ---- statements

no_loop : (a : Action) → shape_of a ≡ 8 → ⊥
no_loop (assign name value) h = cc h
no_loop (store name index value) h = cc h
no_loop (print value) h = cc h
no_loop (increment name index) h = cc h
no_loop (minimum name index value) h = cc h
no_loop (probe one two name index key) h = cc h
no_loop (hist one two name index shift) h = cc h
no_loop (dot one name index a b c d) h = cc h

named_begins : (name : List ℕ) → is_free name ≡ true → begins_statement (Some (word name)) ≡ true
named_begins name free = rw free refl

pub action_begins : (a : Action) (x : List Token) → is_action a ≡ true → begins_statement (first (action a ++ x)) ≡ true
action_begins (assign name value) x g = named_begins name (and_parts (is_free name) (is_expression value) g).0
action_begins (store name index value) x g = named_begins name (three_parts (is_free name) (is_expression index) (is_expression value) g).0
action_begins (print value) x g = refl
action_begins (increment name index) x g = refl
action_begins (minimum name index value) x g = refl
action_begins (probe one two name index key) x g = named_begins one (free_first_of_three one (is_expression index) (is_expression key) (two ∷ name ∷ []) g)
action_begins (hist one two name index shift) x g = named_begins one (free_first one (is_expression index) (two ∷ name ∷ []) g)
action_begins (dot one name index a b c d) x g = named_begins one (free_first one (is_expression index) (name ∷ a ∷ b ∷ c ∷ d ∷ []) g)

-- tokens that begin something and do not
never : {A : Type 0} (p : Option Token → Bool) (x y : List Token) → x ≡ y → p (first x) ≡ false → p (first y) ≡ true → A
never p x y e f t = absurd (contrary (sym f ∙ ap (λ ts. p (first ts)) e ∙ t))
  where
    contrary : false ≡ true → ⊥
    contrary k = cc k

statements_once : (s t : Statements) (x y : List Token) → are_statements s ≡ true → are_statements t ≡ true → begins_statement (first x) ≡ false → begins_statement (first y) ≡ false
    → statements s ++ x ≡ statements t ++ y → (s ≡ t) × (x ≡ y)
statements_once done done x y g h ends_x ends_y e = (refl, e)
statements_once done (act b more) x y g h ends_x ends_y e =
    never begins_statement x (action b ++ (statements more ++ y)) (e ∙ append_assoc (action b) (statements more) y) ends_x (action_begins b (statements more ++ y) (and_parts (is_action b) (are_statements more) h).0)
statements_once done (repeat m k other more) x y g h ends_x ends_y e = never begins_statement x (flat_loop m k other (statements more ++ y)) (e ∙ loop_is m k other more y) ends_x refl
statements_once (act a rest) done x y g h ends_x ends_y e =
    never begins_statement y (action a ++ (statements rest ++ x)) (sym e ∙ append_assoc (action a) (statements rest) x) ends_y (action_begins a (statements rest ++ x) (and_parts (is_action a) (are_statements rest) g).0)
statements_once (act a rest) (act b more) x y g h ends_x ends_y e =
    let gs = and_parts (is_action a) (are_statements rest) g
    in let hs = and_parts (is_action b) (are_statements more) h
    in let r = action_once a b (statements rest ++ x) (statements more ++ y) gs.0 hs.0 (sym (append_assoc (action a) (statements rest) x) ∙ e ∙ append_assoc (action b) (statements more) y)
    in let q = statements_once rest more x y gs.1 hs.1 ends_x ends_y r.1
    in (λ z. act (r.0 z) (q.0 z), q.1)
statements_once (act a rest) (repeat m k other more) x y g h ends_x ends_y e =
    absurd (no_loop a (sym (has_shape a (statements rest ++ x) (and_parts (is_action a) (are_statements rest) g).0) ∙ ap shape (sym (append_assoc (action a) (statements rest) x) ∙ e)))
statements_once (repeat n j body rest) done x y g h ends_x ends_y e = never begins_statement y (flat_loop n j body (statements rest ++ x)) (sym e ∙ loop_is n j body rest x) ends_y refl
statements_once (repeat n j body rest) (act b more) x y g h ends_x ends_y e =
    absurd (no_loop b (sym (has_shape b (statements more ++ y) (and_parts (is_action b) (are_statements more) h).0) ∙ ap shape (sym (append_assoc (action b) (statements more) y) ∙ sym e)))
statements_once (repeat n j body rest) (repeat m k other more) x y g h ends_x ends_y e =
    let gs = three_parts (is_free n) (are_statements body) (are_statements rest) g
    in let hs = three_parts (is_free m) (are_statements other) (are_statements more) h
    in let same = sym (loop_is n j body rest x) ∙ e ∙ loop_is m k other more y
    in let name = ap (λ ts. first_text (behind ts)) same
    in let turns = ap (λ ts. first_value (past 3 ts)) same
    in let r = statements_once body other (mark (byte "}") ∷ (statements rest ++ x)) (mark (byte "}") ∷ (statements more ++ y)) gs.1 hs.1 refl refl (ap (past 5) same)
    in let tails = ap behind r.1
    in let q = statements_once rest more x y gs.2 hs.2 ends_x ends_y tails
    in (λ z. repeat (name z) (turns z) (r.0 z) (q.0 z), q.1)

-- ---- declarations

abbrev has_more : List Token → Bool
has_more ts = begins_with_mark (byte ",") (behind ts)

numbers_once : (ns ms : List ℕ) (x y : List Token) → has_numbers ns ≡ true → has_numbers ms ≡ true → numbers ns ++ mark (byte ";") ∷ x ≡ numbers ms ++ mark (byte ";") ∷ y → (ns ≡ ms) × (x ≡ y)
numbers_once [] ms x y g h e = absurd (cc g)
numbers_once (n ∷ ns) [] x y g h e = absurd (cc h)
numbers_once (n ∷ []) (m ∷ []) x y g h e = (ap (λ ts. first_value ts ∷ []) e, ap (past 2) e)
numbers_once (n ∷ []) (m ∷ k ∷ ms) x y g h e = absurd (differs (ap has_more e))
  where
    differs : false ≡ true → ⊥
    differs d = cc d
numbers_once (n ∷ j ∷ ns) (m ∷ []) x y g h e = absurd (differs (ap has_more e))
  where
    differs : true ≡ false → ⊥
    differs d = cc d
numbers_once (n ∷ j ∷ ns) (m ∷ k ∷ ms) x y g h e =
    let number_is = ap first_value e
    in let r = numbers_once (j ∷ ns) (k ∷ ms) x y refl refl (ap (past 2) e)
    in (λ z. number_is z ∷ r.0 z, r.1)

abbrev is_table : List Token → Bool
is_table ts = begins_with_word (codes "table") ts

pub table_is : (n : List ℕ) (s : ℕ) (ns : List ℕ) (x : List Token)
    → declaration (table n s ns) ++ x ≡ word (codes "table") ∷ word n ∷ mark (byte "[") ∷ number s ∷ mark (byte "]") ∷ mark (byte "=") ∷ (numbers ns ++ mark (byte ";") ∷ x)
table_is n s ns x = simp append_assoc

declaration_once : (d f : Declaration) (x y : List Token) → is_declaration d ≡ true → is_declaration f ≡ true → declaration d ++ x ≡ declaration f ++ y → (d ≡ f) × (x ≡ y)
declaration_once (table n s ns) (table m t ms) x y g h e =
    let same = sym (table_is n s ns x) ∙ e ∙ table_is m t ms y
    in let name = ap (λ ts. first_text (behind ts)) same
    in let size = ap (λ ts. first_value (past 3 ts)) same
    in let r = numbers_once ns ms x y (and_parts (is_free n) (has_numbers ns) g).1 (and_parts (is_free m) (has_numbers ms) h).1 (ap (past 6) same)
    in (λ z. table (name z) (size z) (r.0 z), r.1)
declaration_once (table n s ns) (array m t) x y g h e = absurd (differs (ap is_table e))
  where
    differs : true ≡ false → ⊥
    differs d = cc d
declaration_once (array n s) (table m t ms) x y g h e = absurd (differs (ap is_table e))
  where
    differs : false ≡ true → ⊥
    differs d = cc d
declaration_once (array n s) (array m t) x y g h e =
    let name = ap (λ ts. first_text (behind ts)) e
    in let size = ap (λ ts. first_value (past 3 ts)) e
    in (λ z. array (name z) (size z), ap (past 6) e)

declaration_begins : (d : Declaration) (x : List Token) → begins_declaration (first (declaration d ++ x)) ≡ true
declaration_begins (table n s ns) x = refl
declaration_begins (array n s) x = refl

declarations_once : (ds fs : List Declaration) (x y : List Token) → list_all is_declaration ds ≡ true → list_all is_declaration fs ≡ true
    → begins_declaration (first x) ≡ false → begins_declaration (first y) ≡ false → flat_map declaration ds ++ x ≡ flat_map declaration fs ++ y → (ds ≡ fs) × (x ≡ y)
declarations_once [] [] x y g h ends_x ends_y e = (refl, e)
declarations_once [] (f ∷ fs) x y g h ends_x ends_y e =
    never begins_declaration x (declaration f ++ (flat_map declaration fs ++ y)) (e ∙ append_assoc (declaration f) (flat_map declaration fs) y) ends_x (declaration_begins f (flat_map declaration fs ++ y))
declarations_once (d ∷ ds) [] x y g h ends_x ends_y e =
    never begins_declaration y (declaration d ++ (flat_map declaration ds ++ x)) (sym e ∙ append_assoc (declaration d) (flat_map declaration ds) x) ends_y (declaration_begins d (flat_map declaration ds ++ x))
declarations_once (d ∷ ds) (f ∷ fs) x y g h ends_x ends_y e =
    let gs = and_parts (is_declaration d) (list_all is_declaration ds) g
    in let hs = and_parts (is_declaration f) (list_all is_declaration fs) h
    in let r = declaration_once d f (flat_map declaration ds ++ x) (flat_map declaration fs ++ y) gs.0 hs.0 (sym (append_assoc (declaration d) (flat_map declaration ds) x) ∙ e ∙ append_assoc (declaration f) (flat_map declaration fs) y)
    in let q = declarations_once ds fs x y gs.1 hs.1 ends_x ends_y r.1
    in (λ z. r.0 z ∷ q.0 z, q.1)

-- ---- kernels

word_begins_none : (name : List ℕ) → is_free name ≡ true → begins_declaration (Some (word name)) ≡ false
word_begins_none name free =
    let a = free_is_no_word (codes "table") name refl free
    in let b = free_is_no_word (codes "array") name refl free
    in rw (a, b) refl

action_declares_nothing : (a : Action) (x : List Token) → is_action a ≡ true → begins_declaration (first (action a ++ x)) ≡ false
action_declares_nothing (assign name value) x g = word_begins_none name (and_parts (is_free name) (is_expression value) g).0
action_declares_nothing (store name index value) x g = word_begins_none name (three_parts (is_free name) (is_expression index) (is_expression value) g).0
action_declares_nothing (print value) x g = refl
action_declares_nothing (increment name index) x g = refl
action_declares_nothing (minimum name index value) x g = refl
action_declares_nothing (probe one two name index key) x g = word_begins_none one (free_first_of_three one (is_expression index) (is_expression key) (two ∷ name ∷ []) g)
action_declares_nothing (hist one two name index shift) x g = word_begins_none one (free_first one (is_expression index) (two ∷ name ∷ []) g)
action_declares_nothing (dot one name index a b c d) x g = word_begins_none one (free_first one (is_expression index) (name ∷ a ∷ b ∷ c ∷ d ∷ []) g)

pub statements_declare_nothing : (s : Statements) → are_statements s ≡ true → begins_declaration (first (statements s)) ≡ false
statements_declare_nothing done g = refl
statements_declare_nothing (act a rest) g = action_declares_nothing a (statements rest) (and_parts (is_action a) (are_statements rest) g).0
statements_declare_nothing (repeat name turns body rest) g = refl

kernel_once : (k l : Kernel) → is_kernel k ≡ true → is_kernel l ≡ true → kernel k ≡ kernel l → k ≡ l
kernel_once k l g h e =
    let gs = and_parts (list_all is_declaration k.declarations) (are_statements k.statements) g
    in let hs = and_parts (list_all is_declaration l.declarations) (are_statements l.statements) h
    in let r = declarations_once k.declarations l.declarations (statements k.statements) (statements l.statements) gs.0 hs.0 (statements_declare_nothing k.statements gs.1) (statements_declare_nothing l.statements hs.1) e
    in let q = statements_once k.statements l.statements [] [] gs.1 hs.1 refl refl (append-nil (statements k.statements) ∙ r.1 ∙ sym (append-nil (statements l.statements)))
    in λ i. record { declarations = r.0 i; statements = q.0 i }

pub spelled_once : (text : List ℕ) (k l : Kernel) → Spells text k → Spells text l → k ≡ l
spelled_once text k l a b = kernel_once k l a.grammar b.grammar (sym a.tokens ∙ b.tokens)
