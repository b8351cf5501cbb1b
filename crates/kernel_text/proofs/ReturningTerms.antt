-- The way back over an expression: where it is right and what is behind it is clean, its tokens are clean before that.
use Rattle.std.proofs.Common.{◌≡◌, ℕ, ◌+◌, ◌-◌, ◌^◌, ◌<◌, ◌≤◌, true, false, not, if◌then◌else◌, List, [], ◌∷◌, ◌++◌, Some, None, inl, inr, refl, sym, subst, ap, ◌∙◌, arith, append_assoc}
use Rattle.std.specs.Prelude.{codes}
use Rattle.std.specs.Str.{byte}
use Rattle.std.proofs.lemmas.Bool.{lt-ltb, ne_eqb, and_parts}
use Rattle.kernel_text.specs.declared.faults.KernelKind.TheVariants as kind
use Rattle.kernel_text.specs.declared.senses.Role.TheVariants as role
use Rattle.kernel_text.specs.declared.senses.Wanted.{Wanted}
use Rattle.kernel_text.specs.declared.senses.Wanted.TheVariants as wanted
use Rattle.kernel_text.specs.declared.tree.Operator.{Operator}
use Rattle.kernel_text.specs.declared.tree.Operator.TheVariants as op
use Rattle.kernel_text.specs.Tokens.{Token, word, number, mark}
use Rattle.kernel_text.specs.Trees.{Declaration, Expression, num, named, item, group, binary}
use Rattle.kernel_text.specs.Characters.{kind_of_characters}
use Rattle.kernel_text.specs.Grammar.{expression, operator, is_expression, is_term, is_free}
use Rattle.kernel_text.specs.Readings.{read, deepest}
use Rattle.kernel_text.specs.Known.{Known, opens, closes}
use Rattle.kernel_text.specs.Depth.{parts, nesting}
use Rattle.kernel_text.specs.Sound.{IsRight}
use Rattle.kernel_text.specs.Built.{first, begins_with_word}
use Rattle.kernel_text.proofs.Chains.{three_parts, operator_is_no_bracket}
use Rattle.kernel_text.proofs.Clean.{Clean, alike}
use Rattle.kernel_text.proofs.Flat.{ended}
use Rattle.kernel_text.proofs.Once.{ends_term}
use Rattle.kernel_text.proofs.OnceWhole.{first_is_no_word}
use Rattle.kernel_text.proofs.Walking.{at, sense, Declares}
use Rattle.kernel_text.proofs.WalkingTerms.{RightAt, Fits, no_bracket_next, reads_variable, reads_item, reads_operator, reads_value, operator_opens_nothing}
use Rattle.kernel_text.proofs.Returning.{Fitting, Apart, counts, quiet_back, plain_back, open_back, close_back, variable_fits, item_fits}

-- a number below 2^64 has no fault as a number
pub in_range : (v : ℕ) → v < 18446744073709551616 → kind_of_characters (number v) ≡ None
in_range v h = ap (λ b. if b then None else Some kind.NumberTooLarge) (lt-ltb v (2 ^ 64) h)

-- a number that is read as a term
number_fits : (k : Known) (room v : ℕ) → v < 18446744073709551616 → 1 ≤ room → Fitting k (role.ReadsNumber room) (number v)
number_fits k room v h some =
    record { character = in_range v h; nested = refl; unknown = refl; wrong = refl; loop = refl; size = refl; values = refl; deep = ne_eqb room 0 (λ e. absurd (omega (arith, e, some))) }

-- an operator has no fault as a character
no_stray : (o : Operator) → kind_of_characters (operator o) ≡ None
no_stray op.Add = refl
no_stray op.Sub = refl
no_stray op.Mul = refl
no_stray op.And = refl
no_stray op.Or = refl
no_stray op.Xor = refl

module _ (k : Known) (ds : List Declaration) (vs ls : List (List ℕ)) (declares : Declares k ds) (apart : Apart ds vs) where
  -- an expression that is right may stand before clean tokens
  returned : (e : Expression) → is_expression e ≡ true → (b n room : ℕ) (ws : List Wanted) (us : List Token) → Fits e room ws → ends_term us ≡ true → RightAt ds vs b room e → Clean us (at k vs ls b (n + parts e) ws)
      → Clean (expression e ++ us) (at k vs ls b n (wanted.Term room ∷ ws))
  returned (num v) g b n room ws us fits ends right c =
      let some = right.depth
      in quiet_back k vs ls b n (n + 1) (wanted.Term room ∷ ws) ws (number v) us (role.ReadsNumber room) true refl refl refl refl refl (number_fits _ room v right.names some) c
  returned (named x) g b n room ws us fits ends right c =
      quiet_back k vs ls b n (n + 1) (wanted.Term room ∷ ws) ws (word x) us (role.ReadsVariable room) true refl refl refl refl (reads_variable room ws x (first us) g (no_bracket_next us ends))
      (variable_fits (at k vs ls b n (wanted.Term room ∷ ws)) ds x room declares apart right.names right.depth) c
  returned (item x i) g b n room ws us fits ends right c =
      let gs = and_parts (is_free x) (is_expression i) g
      in let deep = right.nesting
      in let inner = counts k vs ls b _ (n + 1 + parts i) ws us c (omega arith)
      in let closed = close_back k vs ls b (n + 1 + parts i) (wanted.MoreTerms room ∷ wanted.Mark (byte "]") ∷ ws) ws (byte "]") us refl refl refl inner
      in let index = returned i gs.1 (b + 1) (n + 1) room (wanted.MoreTerms room ∷ wanted.Mark (byte "]") ∷ ws) (mark (byte "]") ∷ us) (inr (wanted.Mark (byte "]") ∷ ws, refl)) refl (record { names = right.names.1; depth = right.depth; nesting = omega (arith, deep) }) closed
      in let opened = open_back k vs ls b (n + 1) (n + 1) (wanted.Mark (byte "[") ∷ wanted.Term room ∷ wanted.MoreTerms room ∷ wanted.Mark (byte "]") ∷ ws) _ (byte "[") (ended i (byte "]") us) false refl refl (omega (arith, deep)) refl index (omega arith)
      in subst (λ ts. Clean (word x ∷ mark (byte "[") ∷ ts) (at k vs ls b n (wanted.Term room ∷ ws))) (sym (append_assoc (expression i) (mark (byte "]") ∷ []) us))
      (quiet_back k vs ls b n (n + 1) (wanted.Term room ∷ ws) _ (word x) (mark (byte "[") ∷ ended i (byte "]") us) role.ReadsItem true refl refl refl refl (reads_item room ws x gs.0)
      (item_fits (at k vs ls b n (wanted.Term room ∷ ws)) ds x declares apart right.names.0) opened)
  returned (group i) g b n room ws us fits ends right c =
      let deep = right.nesting
      in let inner = counts k vs ls b _ (n + 1 + parts i) ws us c (omega arith)
      in let closed = close_back k vs ls b (n + 1 + parts i) (wanted.MoreTerms room ∷ wanted.Mark (byte ")") ∷ ws) ws (byte ")") us refl refl refl inner
      in let inside = returned i g (b + 1) (n + 1) room (wanted.MoreTerms room ∷ wanted.Mark (byte ")") ∷ ws) (mark (byte ")") ∷ us) (inr (wanted.Mark (byte ")") ∷ ws, refl)) refl (record { names = right.names; depth = right.depth; nesting = omega (arith, deep) }) closed
      in subst (λ ts. Clean (mark (byte "(") ∷ ts) (at k vs ls b n (wanted.Term room ∷ ws))) (sym (append_assoc (expression i) (mark (byte ")") ∷ []) us))
      (open_back k vs ls b n (n + 1) (wanted.Term room ∷ ws) _ (byte "(") (ended i (byte ")") us) true refl refl (omega (arith, deep)) refl inside refl)
  returned (binary o l r) g b n room ws us (inl term) ends right c = absurd (cc term)
  returned (binary o l r) g b n room ws us (inr (rest, is)) ends right c =
      let gs = three_parts (is_expression l) (is_term r) (is_expression r) g
      in let far = right.depth
      in let deep = right.nesting
      in let none = operator_opens_nothing o
      in let behind = subst (λ vs'. Clean us (at k vs ls b (n + parts l + 1 + parts r) vs')) is (counts k vs ls b _ (n + parts l + 1 + parts r) ws us c (omega arith))
      in let last = returned r gs.2 b (n + parts l + 1) (room - 1) (wanted.MoreTerms room ∷ rest) us (inl gs.1) ends (record { names = right.names.1; depth = omega (arith, far); nesting = omega (arith, deep) }) behind
      in let next = plain_back k vs ls b (n + parts l) (n + parts l + 1) (wanted.MoreTerms room ∷ rest) _ (operator o) (expression r ++ us) true (no_stray o) none.0 none.1 (reads_operator room rest o (first (expression r ++ us))) last refl
      in subst (λ ts. Clean ts (at k vs ls b n (wanted.Term room ∷ ws))) (sym (append_assoc (expression l) (operator o ∷ expression r) us))
      (returned l gs.0 b n room ws (operator o ∷ (expression r ++ us)) (inr (rest, is)) (ap not (operator_is_no_bracket o)) (record { names = right.names.0; depth = omega (arith, far); nesting = omega (arith, deep) })
      (subst (λ vs'. Clean (operator o ∷ (expression r ++ us)) (at k vs ls b (n + parts l) vs')) (sym is) next))

  -- an outermost expression, with the mark behind it
  pub value_returned : (e : Expression) (m : ℕ) (b n : ℕ) (ws : List Wanted) (us : List Token) → is_expression e ≡ true → opens (mark m) ≡ false → closes (mark m) ≡ false → ends_term (mark m ∷ us) ≡ true
      → read (wanted.MoreTerms deepest ∷ wanted.Mark m ∷ ws) (mark m) (first us) ≡ Some (sense role.Plain false ws)
      → IsRight ds vs e → b + nesting e ≤ 16 → Clean us (at k vs ls b (n + parts e) ws)
      → Clean (ended e m us) (at k vs ls b n (wanted.Term deepest ∷ wanted.MoreTerms deepest ∷ wanted.Mark m ∷ ws))
  value_returned e m b n ws us g no_open no_close ends reads right few c =
      returned e g b n deepest (wanted.MoreTerms deepest ∷ wanted.Mark m ∷ ws) (mark m ∷ us) (inr (wanted.Mark m ∷ ws, refl)) ends (record { names = right.names; depth = right.depth; nesting = few })
      (plain_back k vs ls b (n + parts e) (n + parts e) (wanted.MoreTerms deepest ∷ wanted.Mark m ∷ ws) ws (mark m) us false refl no_open no_close reads c (omega arith))

  -- an index in brackets
  pub index_returned : (i : Expression) (b n : ℕ) (ws : List Wanted) (us : List Token) → is_expression i ≡ true → IsRight ds vs i → b + (1 + nesting i) ≤ 16 → Clean us (at k vs ls b (n + parts i) ws)
      → Clean (mark (byte "[") ∷ ended i (byte "]") us) (at k vs ls b n (wanted.Mark (byte "[") ∷ wanted.Term deepest ∷ wanted.MoreTerms deepest ∷ wanted.Mark (byte "]") ∷ ws))
  index_returned i b n ws us g right few c =
      let closed = close_back k vs ls b (n + parts i) (wanted.MoreTerms deepest ∷ wanted.Mark (byte "]") ∷ ws) ws (byte "]") us refl refl refl c
      in let index = returned i g (b + 1) n deepest (wanted.MoreTerms deepest ∷ wanted.Mark (byte "]") ∷ ws) (mark (byte "]") ∷ us) (inr (wanted.Mark (byte "]") ∷ ws, refl)) refl (record { names = right.names; depth = right.depth; nesting = omega (arith, few) }) closed
      in open_back k vs ls b n n (wanted.Mark (byte "[") ∷ wanted.Term deepest ∷ wanted.MoreTerms deepest ∷ wanted.Mark (byte "]") ∷ ws) _ (byte "[") (ended i (byte "]") us) false refl refl (omega (arith, few)) refl index (omega arith)

-- ---- what is assigned, where it is an expression

pub value_alike_back : (k : Known) (vs ls : List (List ℕ)) (b n : ℕ) (ws : List Wanted) (e : Expression) (us : List Token) → is_expression e ≡ true
    → Clean (expression e ++ us) (at k vs ls b n (wanted.Term deepest ∷ wanted.MoreTerms deepest ∷ wanted.Mark (byte ";") ∷ ws)) → Clean (expression e ++ us) (at k vs ls b n (wanted.OneWord ∷ ws))
value_alike_back k vs ls b n ws e us g c =
    alike (at k vs ls b n []) (wanted.Term deepest ∷ wanted.MoreTerms deepest ∷ wanted.Mark (byte ";") ∷ ws) (wanted.OneWord ∷ ws) (expression e ++ us) (λ e. e)
    (λ t rest is. sym (reads_value t (first rest) ws (ap (begins_with_word (codes "dot")) (sym is) ∙ first_is_no_word (codes "dot") e us refl g))) c
