-- Actions token by token, with what follows them.
use Rattle.std.proofs.Common.{◌≡◌, ℕ, List, [], ◌∷◌, ◌++◌, ap, ◌∙◌, append_assoc}
use Rattle.std.specs.Prelude.{codes}
use Rattle.std.specs.Str.{byte}
use Rattle.kernel_text.specs.Tokens.{Token, word, number, mark}
use Rattle.kernel_text.specs.Trees.{Expression, Statements, assign, store, print, increment, minimum, probe, hist, dot, repeat}
use Rattle.kernel_text.specs.Grammar.{expression, action, statements, comma, semicolon, pair}

-- an expression, a mark, and what follows
abbrev pub ended : Expression → ℕ → List Token → List Token
ended e m x = expression e ++ mark m ∷ x

-- an index in brackets, and what follows
abbrev pub indexed : List ℕ → Expression → List Token → List Token
indexed name index x = word name ∷ mark (byte "[") ∷ ended index (byte "]") x

abbrev pub flat_assign : List ℕ → Expression → List Token → List Token
flat_assign name value x = word name ∷ mark (byte "=") ∷ ended value (byte ";") x

abbrev pub flat_store : List ℕ → Expression → Expression → List Token → List Token
flat_store name index value x = indexed name index (mark (byte "=") ∷ ended value (byte ";") x)

abbrev pub flat_print : Expression → List Token → List Token
flat_print value x = word (codes "print") ∷ ended value (byte ";") x

abbrev pub flat_increment : List ℕ → Expression → List Token → List Token
flat_increment name index x = word (codes "inc") ∷ indexed name index (mark (byte ";") ∷ x)

abbrev pub flat_minimum : List ℕ → Expression → Expression → List Token → List Token
flat_minimum name index value x = word (codes "min") ∷ indexed name index (mark (byte ",") ∷ ended value (byte ";") x)

abbrev pub behind_probe : List ℕ → Expression → Expression → List Token → List Token
behind_probe name index key x = word (codes "probe") ∷ indexed name index (mark (byte ",") ∷ ended key (byte ";") x)

abbrev pub behind_hist : List ℕ → Expression → ℕ → List Token → List Token
behind_hist name index shift x = word (codes "hist") ∷ indexed name index (mark (byte ",") ∷ number shift ∷ mark (byte ";") ∷ x)

abbrev pub flat_two : List ℕ → List ℕ → List Token → List Token
flat_two one two x = word one ∷ mark (byte ",") ∷ word two ∷ mark (byte "=") ∷ x

abbrev pub operands : List ℕ → List ℕ → List ℕ → List ℕ → List Token → List Token
operands a b c d x = mark (byte ",") ∷ word a ∷ mark (byte ",") ∷ word b ∷ mark (byte ",") ∷ word c ∷ mark (byte ",") ∷ word d ∷ mark (byte ";") ∷ x

abbrev pub behind_dot : List ℕ → Expression → List ℕ → List ℕ → List ℕ → List ℕ → List Token → List Token
behind_dot name index a b c d x = word (codes "dot") ∷ indexed name index (operands a b c d x)

abbrev pub flat_loop : List ℕ → ℕ → Statements → List Token → List Token
flat_loop name turns body x = word (codes "for") ∷ word name ∷ mark (byte "<") ∷ number turns ∷ mark (byte "{") ∷ (statements body ++ mark (byte "}") ∷ x)

pub assign_is : (name : List ℕ) (value : Expression) (x : List Token) → action (assign name value) ++ x ≡ flat_assign name value x
assign_is name value x = simp append_assoc

pub store_is : (name : List ℕ) (index value : Expression) (x : List Token) → action (store name index value) ++ x ≡ flat_store name index value x
store_is name index value x = simp append_assoc

pub print_is : (value : Expression) (x : List Token) → action (print value) ++ x ≡ flat_print value x
print_is value x = simp append_assoc

pub increment_is : (name : List ℕ) (index : Expression) (x : List Token) → action (increment name index) ++ x ≡ flat_increment name index x
increment_is name index x = simp append_assoc

pub minimum_is : (name : List ℕ) (index value : Expression) (x : List Token) → action (minimum name index value) ++ x ≡ flat_minimum name index value x
minimum_is name index value x = simp append_assoc

pub probe_is : (one two name : List ℕ) (index key : Expression) (x : List Token) → action (probe one two name index key) ++ x ≡ flat_two one two (behind_probe name index key x)
probe_is one two name index key x = simp append_assoc

pub hist_is : (one two name : List ℕ) (index : Expression) (shift : ℕ) (x : List Token) → action (hist one two name index shift) ++ x ≡ flat_two one two (behind_hist name index shift x)
hist_is one two name index shift x = simp append_assoc

pub dot_is : (one name : List ℕ) (index : Expression) (a b c d : List ℕ) (x : List Token) → action (dot one name index a b c d) ++ x ≡ word one ∷ mark (byte "=") ∷ behind_dot name index a b c d x
dot_is one name index a b c d x =
    ap (λ ts. word one ∷ mark (byte "=") ∷ word (codes "dot") ∷ word name ∷ mark (byte "[") ∷ ts)
    (six (expression index ++ mark (byte "]") ∷ []) comma (pair a b) comma (pair c d) semicolon x ∙ append_assoc (expression index) (mark (byte "]") ∷ []) (operands a b c d x))
  where
    six : (e u v w z s x : List Token) → (((((e ++ u) ++ v) ++ w) ++ z) ++ s) ++ x ≡ e ++ (u ++ (v ++ (w ++ (z ++ (s ++ x)))))
    six e u v w z s x = simp append_assoc

pub loop_is : (name : List ℕ) (turns : ℕ) (body rest : Statements) (x : List Token) → statements (repeat name turns body rest) ++ x ≡ flat_loop name turns body (statements rest ++ x)
loop_is name turns body rest x = simp append_assoc
