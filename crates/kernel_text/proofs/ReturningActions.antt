-- The way back over statements: where they are right and what is behind them is clean, their tokens are clean before that.
use Rattle.std.proofs.Common.{◌≡◌, ℕ, ◌+◌, ◌<◌, ◌≤◌, true, false, nat_lt, List, [], ◌∷◌, ◌++◌, Some, refl, sym, subst, arith, append_assoc}
use Rattle.std.specs.Prelude.{codes}
use Rattle.std.specs.List.{list_all}
use Rattle.std.specs.Str.{byte}
use Rattle.std.proofs.lemmas.Bool.{le-ltb, and_parts, or_from}
use Rattle.kernel_text.specs.declared.senses.Role.TheVariants as role
use Rattle.kernel_text.specs.declared.senses.Wanted.{Wanted}
use Rattle.kernel_text.specs.declared.senses.Wanted.TheVariants as wanted
use Rattle.kernel_text.specs.Tokens.{Token, word, number, mark}
use Rattle.kernel_text.specs.Trees.{Declaration, Expression, Action, Statements, assign, store, print, increment, minimum, probe, hist, dot, done, act, repeat}
use Rattle.kernel_text.specs.Grammar.{action, statements, is_expression, is_free, is_action, are_statements}
use Rattle.kernel_text.specs.Readings.{read}
use Rattle.kernel_text.specs.Known.{Known, opens, closes}
use Rattle.kernel_text.specs.Depth.{parts, parts_of_action, parts_of, nesting, nesting_of_action, nesting_of}
use Rattle.kernel_text.specs.Sound.{AreDistinctNames, Among, names_in, arrays_in, tables_in, with_variable, behind_action, behind_statements, IsRight, CanSet, IsRightAction, AreRight}
use Rattle.kernel_text.specs.Built.{first}
use Rattle.kernel_text.proofs.Chains.{three_parts}
use Rattle.kernel_text.proofs.Clean.{Clean}
use Rattle.kernel_text.proofs.Flat.{ended, indexed, operands as flat_operands, flat_two, behind_probe, behind_hist, behind_dot, assign_is, store_is, print_is, increment_is, minimum_is, probe_is, hist_is, dot_is, loop_is}
use Rattle.kernel_text.proofs.Walking.{at, sense, Declares}
use Rattle.kernel_text.proofs.WalkingActions.{before, indexing, valued, passing, second_free}
use Rattle.kernel_text.proofs.Returning.{Fitting, Apart, apart_more, counts, quiet_back, plain_back, open_back, set_back, count_back, leave_back, operand_fits, written_fits, looked_up_fits}
use Rattle.kernel_text.proofs.ReturningTerms.{in_range, value_returned, index_returned, value_alike_back}

-- an action that is right may stand before clean tokens
abbrev Back : Known → List Declaration → List (List ℕ) → List (List ℕ) → ℕ → ℕ → List Wanted → Action → List Token → Type 0
Back k ds vs ls b n ws a us =
    is_action a ≡ true → IsRightAction ds (behind_action vs a) ls a → b + nesting_of_action a ≤ 16 → Apart ds (behind_action vs a)
    → Clean us (at k (behind_action vs a) ls b (n + parts_of_action a) (before ws)) → Clean (action a ++ us) (at k vs ls b n (before ws))

-- by how much a histogram shifts
shift_fits : (k : Known) (v : ℕ) → v ≤ 24 → Fitting k role.Shifts (number v)
shift_fits k v h = record { character = in_range v (omega (arith, h)); nested = refl; unknown = refl; wrong = refl; loop = refl; size = le-ltb 24 v h; values = refl; deep = refl }

-- how many turns a loop has
turns_fit : (k : Known) (v : ℕ) → 0 < v → v ≤ 1000000 → Fitting k role.Turns (number v)
turns_fit k v some h =
    record { character = in_range v (omega (arith, h)); nested = refl; unknown = refl; wrong = refl; loop = refl; size = or_from (nat_lt v 1) (nat_lt 1000000 v) (le-ltb v 1 some) (le-ltb 1000000 v h); values = refl; deep = refl }

module _ (k : Known) (ds : List Declaration) (ls : List (List ℕ)) (declares : Declares k ds) (distinct : AreDistinctNames (names_in ds)) where
  -- ---- parts of actions

  -- a mark that is no bracket
  marked : (vs : List (List ℕ)) (m : ℕ) (b n : ℕ) (ws us : List Wanted) (ts : List Token) → opens (mark m) ≡ false → closes (mark m) ≡ false → read ws (mark m) (first ts) ≡ Some (sense role.Plain false us)
      → Clean ts (at k vs ls b n us) → Clean (mark m ∷ ts) (at k vs ls b n ws)
  marked vs m b n ws us ts no_open no_close reads c = plain_back k vs ls b n n ws us (mark m) ts false refl no_open no_close reads c (omega arith)

  -- a keyword inside of a statement
  inner_word : (vs : List (List ℕ)) (text : List ℕ) (b n : ℕ) (ws us : List Wanted) (ts : List Token) → read ws (word text) (first ts) ≡ Some (sense role.Plain false us) → Clean ts (at k vs ls b n us) → Clean (word text ∷ ts) (at k vs ls b n ws)
  inner_word vs text b n ws us ts reads c = plain_back k vs ls b n n ws us (word text) ts false refl refl refl reads c (omega arith)

  -- a value at the end of a statement
  value_last : (vs : List (List ℕ)) (e : Expression) (b n : ℕ) (ws : List Wanted) (us : List Token) → Apart ds vs → is_expression e ≡ true → IsRight ds vs e → b + nesting e ≤ 16 → Clean us (at k vs ls b (n + parts e) ws)
      → Clean (ended e (byte ";") us) (at k vs ls b n (valued ws))
  value_last vs e b n ws us apart g right few c = value_returned k ds vs ls declares apart e (byte ";") b n ws us g refl refl refl refl right few c

  -- a name with an index
  array_returned : (vs : List (List ℕ)) (x : List ℕ) (i : Expression) (b n : ℕ) (ws : List Wanted) (us : List Token) → Apart ds vs → is_free x ≡ true → is_expression i ≡ true → Among (arrays_in ds) x → IsRight ds vs i → b + (1 + nesting i) ≤ 16
      → Clean us (at k vs ls b (n + parts i) ws) → Clean (indexed x i us) (at k vs ls b n (wanted.ArrayName ∷ indexing ws))
  array_returned vs x i b n ws us apart free g among right few c =
      quiet_back k vs ls b n n (wanted.ArrayName ∷ indexing ws) (indexing ws) (word x) (mark (byte "[") ∷ ended i (byte "]") us) role.Writes false refl refl refl (omega arith) (rw free refl)
      (written_fits (at k vs ls b n (wanted.ArrayName ∷ indexing ws)) ds x declares distinct among) (index_returned k ds vs ls declares apart i b n ws us g right few c)

  table_returned : (vs : List (List ℕ)) (x : List ℕ) (i : Expression) (b n : ℕ) (ws : List Wanted) (us : List Token) → Apart ds vs → is_free x ≡ true → is_expression i ≡ true → Among (tables_in ds) x → IsRight ds vs i → b + (1 + nesting i) ≤ 16
      → Clean us (at k vs ls b (n + parts i) ws) → Clean (indexed x i us) (at k vs ls b n (wanted.TableName ∷ indexing ws))
  table_returned vs x i b n ws us apart free g among right few c =
      quiet_back k vs ls b n n (wanted.TableName ∷ indexing ws) (indexing ws) (word x) (mark (byte "[") ∷ ended i (byte "]") us) role.LooksUp false refl refl refl (omega arith) (rw free refl)
      (looked_up_fits (at k vs ls b n (wanted.TableName ∷ indexing ws)) ds x declares distinct among) (index_returned k ds vs ls declares apart i b n ws us g right few c)

  -- an operand, and the mark behind it
  operand_returned : (vs : List (List ℕ)) (x : List ℕ) (m : ℕ) (b n : ℕ) (ws : List Wanted) (us : List Token) → Apart ds vs → is_free x ≡ true → opens (mark m) ≡ false → closes (mark m) ≡ false
      → read (wanted.Mark m ∷ ws) (mark m) (first us) ≡ Some (sense role.Plain false ws) → Among vs x → Clean us (at k vs ls b n ws) → Clean (word x ∷ mark m ∷ us) (at k vs ls b n (wanted.Operand ∷ wanted.Mark m ∷ ws))
  operand_returned vs x m b n ws us apart free no_open no_close reads among c =
      quiet_back k vs ls b n n (wanted.Operand ∷ wanted.Mark m ∷ ws) (wanted.Mark m ∷ ws) (word x) (mark m ∷ us) role.Passes false refl refl refl (omega arith) (rw free refl)
      (operand_fits (at k vs ls b n (wanted.Operand ∷ wanted.Mark m ∷ ws)) ds x declares apart among) (marked vs m b n (wanted.Mark m ∷ ws) ws us no_open no_close reads c)

  -- two variables, up to what they are assigned
  two_returned : (vs : List (List ℕ)) (x y : List ℕ) (b n : ℕ) (ws : List Wanted) (us : List Token) → is_free x ≡ true → is_free y ≡ true → CanSet ds ls x → CanSet ds ls y
      → Clean us (at k (with_variable (with_variable vs x) y) ls b (n + 1) (wanted.TwoWords ∷ before ws)) → Clean (flat_two x y us) (at k vs ls b n (before ws))
  two_returned vs x y b n ws us free also one two c =
      let equals = marked (with_variable (with_variable vs x) y) (byte "=") b (n + 1) (wanted.Mark (byte "=") ∷ wanted.TwoWords ∷ before ws) (wanted.TwoWords ∷ before ws) us refl refl refl c
      in let second = set_back k ds (with_variable vs x) ls b (n + 1) (n + 1) (wanted.SecondVariable ∷ wanted.Mark (byte "=") ∷ wanted.TwoWords ∷ before ws) (wanted.Mark (byte "=") ∷ wanted.TwoWords ∷ before ws) y (mark (byte "=") ∷ us) false declares two (rw also refl) equals (omega arith)
      in let comma = marked (with_variable vs x) (byte ",") b (n + 1) (wanted.BehindVariable ∷ before ws) (wanted.SecondVariable ∷ wanted.Mark (byte "=") ∷ wanted.TwoWords ∷ before ws) (word y ∷ mark (byte "=") ∷ us) refl refl refl second
      in set_back k ds vs ls b n (n + 1) (before ws) (wanted.BehindVariable ∷ before ws) x (mark (byte ",") ∷ word y ∷ mark (byte "=") ∷ us) true declares one (rw free refl) comma refl

  -- ---- actions

  assign_returned : (vs : List (List ℕ)) (x : List ℕ) (e : Expression) (b n : ℕ) (ws : List Wanted) (us : List Token) → Back k ds vs ls b n ws (assign x e) us
  assign_returned vs x e b n ws us g right few apart c =
      let gs = and_parts (is_free x) (is_expression e) g
      in let free = gs.0
      in let after = with_variable vs x
      in let value = value_last after e b (n + 1) (before ws) us apart gs.1 right.1 few (counts k after ls b _ (n + 1 + parts e) (before ws) us c (omega arith))
      in let equals = marked after (byte "=") b (n + 1) (wanted.BehindVariable ∷ before ws) (wanted.OneWord ∷ before ws) (ended e (byte ";") us) refl refl refl (value_alike_back k after ls b (n + 1) (before ws) e (mark (byte ";") ∷ us) gs.1 value)
      in subst (λ ts. Clean ts (at k vs ls b n (before ws))) (sym (assign_is x e us)) (set_back k ds vs ls b n (n + 1) (before ws) (wanted.BehindVariable ∷ before ws) x (mark (byte "=") ∷ ended e (byte ";") us) true declares right.0 (rw free refl) equals refl)

  store_returned : (vs : List (List ℕ)) (x : List ℕ) (i e : Expression) (b n : ℕ) (ws : List Wanted) (us : List Token) → Back k ds vs ls b n ws (store x i e) us
  store_returned vs x i e b n ws us g right few apart c =
      let gs = three_parts (is_free x) (is_expression i) (is_expression e) g
      in let free = gs.0
      in let value = value_last vs e b (n + 1 + parts i) (before ws) us apart gs.2 right.2 (omega (arith, few)) (counts k vs ls b _ (n + 1 + parts i + parts e) (before ws) us c (omega arith))
      in let equals = marked vs (byte "=") b (n + 1 + parts i) (wanted.Mark (byte "=") ∷ valued (before ws)) (valued (before ws)) (ended e (byte ";") us) refl refl refl value
      in let index = index_returned k ds vs ls declares apart i b (n + 1) (wanted.Mark (byte "=") ∷ valued (before ws)) (mark (byte "=") ∷ ended e (byte ";") us) gs.1 right.1 (omega (arith, few)) equals
      in subst (λ ts. Clean ts (at k vs ls b n (before ws))) (sym (store_is x i e us))
      (quiet_back k vs ls b n (n + 1) (before ws) (indexing (wanted.Mark (byte "=") ∷ valued (before ws))) (word x) (mark (byte "[") ∷ ended i (byte "]") (mark (byte "=") ∷ ended e (byte ";") us)) role.Writes true refl refl refl refl (rw free refl)
      (written_fits (at k vs ls b n (before ws)) ds x declares distinct right.0) index)

  print_returned : (vs : List (List ℕ)) (e : Expression) (b n : ℕ) (ws : List Wanted) (us : List Token) → Back k ds vs ls b n ws (print e) us
  print_returned vs e b n ws us g right few apart c =
      let value = value_last vs e b (n + 1) (before ws) us apart g right few (counts k vs ls b _ (n + 1 + parts e) (before ws) us c (omega arith))
      in subst (λ ts. Clean ts (at k vs ls b n (before ws))) (sym (print_is e us)) (plain_back k vs ls b n (n + 1) (before ws) (valued (before ws)) (word (codes "print")) (ended e (byte ";") us) true refl refl refl refl value refl)

  increment_returned : (vs : List (List ℕ)) (x : List ℕ) (i : Expression) (b n : ℕ) (ws : List Wanted) (us : List Token) → Back k ds vs ls b n ws (increment x i) us
  increment_returned vs x i b n ws us g right few apart c =
      let gs = and_parts (is_free x) (is_expression i) g
      in let end = marked vs (byte ";") b (n + 1 + parts i) (wanted.Mark (byte ";") ∷ before ws) (before ws) us refl refl refl (counts k vs ls b _ (n + 1 + parts i) (before ws) us c (omega arith))
      in let index = array_returned vs x i b (n + 1) (wanted.Mark (byte ";") ∷ before ws) (mark (byte ";") ∷ us) apart gs.0 gs.1 right.0 right.1 few end
      in subst (λ ts. Clean ts (at k vs ls b n (before ws))) (sym (increment_is x i us))
      (plain_back k vs ls b n (n + 1) (before ws) (wanted.ArrayName ∷ indexing (wanted.Mark (byte ";") ∷ before ws)) (word (codes "inc")) (indexed x i (mark (byte ";") ∷ us)) true refl refl refl refl index refl)

  minimum_returned : (vs : List (List ℕ)) (x : List ℕ) (i e : Expression) (b n : ℕ) (ws : List Wanted) (us : List Token) → Back k ds vs ls b n ws (minimum x i e) us
  minimum_returned vs x i e b n ws us g right few apart c =
      let gs = three_parts (is_free x) (is_expression i) (is_expression e) g
      in let value = value_last vs e b (n + 1 + parts i) (before ws) us apart gs.2 right.2 (omega (arith, few)) (counts k vs ls b _ (n + 1 + parts i + parts e) (before ws) us c (omega arith))
      in let comma = marked vs (byte ",") b (n + 1 + parts i) (wanted.Mark (byte ",") ∷ valued (before ws)) (valued (before ws)) (ended e (byte ";") us) refl refl refl value
      in let index = array_returned vs x i b (n + 1) (wanted.Mark (byte ",") ∷ valued (before ws)) (mark (byte ",") ∷ ended e (byte ";") us) apart gs.0 gs.1 right.0 right.1 (omega (arith, few)) comma
      in subst (λ ts. Clean ts (at k vs ls b n (before ws))) (sym (minimum_is x i e us))
      (plain_back k vs ls b n (n + 1) (before ws) (wanted.ArrayName ∷ indexing (wanted.Mark (byte ",") ∷ valued (before ws))) (word (codes "min")) (indexed x i (mark (byte ",") ∷ ended e (byte ";") us)) true refl refl refl refl index refl)

  probe_returned : (vs : List (List ℕ)) (x y z : List ℕ) (i e : Expression) (b n : ℕ) (ws : List Wanted) (us : List Token) → Back k ds vs ls b n ws (probe x y z i e) us
  probe_returned vs x y z i e b n ws us g right few apart c =
      let gs = three_parts (list_all is_free (x ∷ y ∷ z ∷ [])) (is_expression i) (is_expression e) g
      in let names = second_free k ds ls declares x y (z ∷ []) gs.0
      in let after = with_variable (with_variable vs x) y
      in let value = value_last after e b (n + 1 + parts i) (before ws) us apart gs.2 right.4 (omega (arith, few)) (counts k after ls b _ (n + 1 + parts i + parts e) (before ws) us c (omega arith))
      in let comma = marked after (byte ",") b (n + 1 + parts i) (wanted.Mark (byte ",") ∷ valued (before ws)) (valued (before ws)) (ended e (byte ";") us) refl refl refl value
      in let index = table_returned after z i b (n + 1) (wanted.Mark (byte ",") ∷ valued (before ws)) (mark (byte ",") ∷ ended e (byte ";") us) apart (and_parts (is_free z) true names.2).0 gs.1 right.2 right.3 (omega (arith, few)) comma
      in let from = inner_word after (codes "probe") b (n + 1) (wanted.TwoWords ∷ before ws) (wanted.TableName ∷ indexing (wanted.Mark (byte ",") ∷ valued (before ws))) (indexed z i (mark (byte ",") ∷ ended e (byte ";") us)) refl index
      in subst (λ ts. Clean ts (at k vs ls b n (before ws))) (sym (probe_is x y z i e us)) (two_returned vs x y b n ws (behind_probe z i e us) names.0 names.1 right.0 right.1 from)

  hist_returned : (vs : List (List ℕ)) (x y z : List ℕ) (i : Expression) (shift : ℕ) (b n : ℕ) (ws : List Wanted) (us : List Token) → Back k ds vs ls b n ws (hist x y z i shift) us
  hist_returned vs x y z i shift b n ws us g right few apart c =
      let gs = and_parts (list_all is_free (x ∷ y ∷ z ∷ [])) (is_expression i) g
      in let names = second_free k ds ls declares x y (z ∷ []) gs.0
      in let after = with_variable (with_variable vs x) y
      in let last = wanted.Shift ∷ wanted.Mark (byte ";") ∷ before ws
      in let end = marked after (byte ";") b (n + 1 + parts i) (wanted.Mark (byte ";") ∷ before ws) (before ws) us refl refl refl (counts k after ls b _ (n + 1 + parts i) (before ws) us c (omega arith))
      in let shifts = quiet_back k after ls b (n + 1 + parts i) (n + 1 + parts i) last (wanted.Mark (byte ";") ∷ before ws) (number shift) (mark (byte ";") ∷ us) role.Shifts false refl refl refl (omega arith) refl (shift_fits (at k after ls b (n + 1 + parts i) last) shift right.4) end
      in let comma = marked after (byte ",") b (n + 1 + parts i) (wanted.Mark (byte ",") ∷ last) last (number shift ∷ mark (byte ";") ∷ us) refl refl refl shifts
      in let index = table_returned after z i b (n + 1) (wanted.Mark (byte ",") ∷ last) (mark (byte ",") ∷ number shift ∷ mark (byte ";") ∷ us) apart (and_parts (is_free z) true names.2).0 gs.1 right.2 right.3 few comma
      in let from = inner_word after (codes "hist") b (n + 1) (wanted.TwoWords ∷ before ws) (wanted.TableName ∷ indexing (wanted.Mark (byte ",") ∷ last)) (indexed z i (mark (byte ",") ∷ number shift ∷ mark (byte ";") ∷ us)) refl index
      in subst (λ ts. Clean ts (at k vs ls b n (before ws))) (sym (hist_is x y z i shift us)) (two_returned vs x y b n ws (behind_hist z i shift us) names.0 names.1 right.0 right.1 from)

  dot_returned : (vs : List (List ℕ)) (x z : List ℕ) (i : Expression) (p q r s : List ℕ) (b n : ℕ) (ws : List Wanted) (us : List Token) → Back k ds vs ls b n ws (dot x z i p q r s) us
  dot_returned vs x z i p q r s b n ws us g right few apart c =
      let gs = and_parts (list_all is_free (x ∷ z ∷ p ∷ q ∷ r ∷ s ∷ [])) (is_expression i) g
      in let names = second_free k ds ls declares x z (p ∷ q ∷ r ∷ s ∷ []) gs.0
      in let first_two = second_free k ds ls declares p q (r ∷ s ∷ []) names.2
      in let last_two = second_free k ds ls declares r s [] first_two.2
      in let free = names.0
      in let after = with_variable vs x
      in let m = n + 1 + parts i
      in let four = operand_returned after s (byte ";") b m (before ws) us apart last_two.1 refl refl refl right.6 (counts k after ls b _ m (before ws) us c (omega arith))
      in let three = operand_returned after r (byte ",") b m (wanted.Operand ∷ wanted.Mark (byte ";") ∷ before ws) (word s ∷ mark (byte ";") ∷ us) apart last_two.0 refl refl refl right.5 four
      in let two = operand_returned after q (byte ",") b m (wanted.Operand ∷ wanted.Mark (byte ",") ∷ wanted.Operand ∷ wanted.Mark (byte ";") ∷ before ws) (word r ∷ mark (byte ",") ∷ word s ∷ mark (byte ";") ∷ us) apart first_two.1 refl refl refl right.4 three
      in let one = operand_returned after p (byte ",") b m (wanted.Operand ∷ wanted.Mark (byte ",") ∷ wanted.Operand ∷ wanted.Mark (byte ",") ∷ wanted.Operand ∷ wanted.Mark (byte ";") ∷ before ws) (word q ∷ mark (byte ",") ∷ word r ∷ mark (byte ",") ∷ word s ∷ mark (byte ";") ∷ us) apart first_two.0 refl refl refl right.3 two
      in let comma = marked after (byte ",") b m (wanted.Mark (byte ",") ∷ passing (before ws)) (passing (before ws)) (word p ∷ mark (byte ",") ∷ word q ∷ mark (byte ",") ∷ word r ∷ mark (byte ",") ∷ word s ∷ mark (byte ";") ∷ us) refl refl refl one
      in let index = table_returned after z i b (n + 1) (wanted.Mark (byte ",") ∷ passing (before ws)) (flat_operands p q r s us) apart names.1 gs.1 right.1 right.2 few comma
      in let from = inner_word after (codes "dot") b (n + 1) (wanted.OneWord ∷ before ws) (wanted.TableName ∷ indexing (wanted.Mark (byte ",") ∷ passing (before ws))) (indexed z i (flat_operands p q r s us)) refl index
      in let equals = marked after (byte "=") b (n + 1) (wanted.BehindVariable ∷ before ws) (wanted.OneWord ∷ before ws) (behind_dot z i p q r s us) refl refl refl from
      in subst (λ ts. Clean ts (at k vs ls b n (before ws))) (sym (dot_is x z i p q r s us))
      (set_back k ds vs ls b n (n + 1) (before ws) (wanted.BehindVariable ∷ before ws) x (mark (byte "=") ∷ behind_dot z i p q r s us) true declares right.0 (rw free refl) equals refl)

  action_returned : (vs : List (List ℕ)) (a : Action) (b n : ℕ) (ws : List Wanted) (us : List Token) → Back k ds vs ls b n ws a us
  action_returned vs (assign x e) b n ws us = assign_returned vs x e b n ws us
  action_returned vs (store x i e) b n ws us = store_returned vs x i e b n ws us
  action_returned vs (print e) b n ws us = print_returned vs e b n ws us
  action_returned vs (increment x i) b n ws us = increment_returned vs x i b n ws us
  action_returned vs (minimum x i e) b n ws us = minimum_returned vs x i e b n ws us
  action_returned vs (probe x y z i e) b n ws us = probe_returned vs x y z i e b n ws us
  action_returned vs (hist x y z i shift) b n ws us = hist_returned vs x y z i shift b n ws us
  action_returned vs (dot x z i p q r s) b n ws us = dot_returned vs x z i p q r s b n ws us

-- ---- variables stay apart from what is declared

apart_behind : (ds : List Declaration) (vs ls : List (List ℕ)) (a : Action) → IsRightAction ds (behind_action vs a) ls a → Apart ds vs → Apart ds (behind_action vs a)
apart_behind ds vs ls (assign x e) right apart = apart_more ds vs x apart right.0.undeclared
apart_behind ds vs ls (probe x y z i e) right apart = apart_more ds (with_variable vs x) y (apart_more ds vs x apart right.0.undeclared) right.1.undeclared
apart_behind ds vs ls (hist x y z i shift) right apart = apart_more ds (with_variable vs x) y (apart_more ds vs x apart right.0.undeclared) right.1.undeclared
apart_behind ds vs ls (dot x z i p q r s) right apart = apart_more ds vs x apart right.0.undeclared
apart_behind ds vs ls (store x i e) right apart = apart
apart_behind ds vs ls (print e) right apart = apart
apart_behind ds vs ls (increment x i) right apart = apart
apart_behind ds vs ls (minimum x i e) right apart = apart

apart_all : (ds : List Declaration) (vs ls : List (List ℕ)) (s : Statements) → AreRight ds vs ls s → Apart ds vs → Apart ds (behind_statements vs s)
apart_all ds vs ls done right apart = apart
apart_all ds vs ls (act first rest) right apart = apart_all ds (behind_action vs first) ls rest right.1 (apart_behind ds vs ls first right.0 apart)
apart_all ds vs ls (repeat x turns body rest) right apart =
    apart_all ds (behind_statements (with_variable vs x) body) ls rest right.4 (apart_all ds (with_variable vs x) (ls ++ x ∷ []) body right.3 (apart_more ds vs x apart right.0.undeclared))

-- ---- statements

-- a loop up to its body
loop_returned : (k : Known) (ds : List Declaration) (vs ls : List (List ℕ)) (x : List ℕ) (turns : ℕ) (b n : ℕ) (ws : List Wanted) (us : List Token) → Declares k ds → is_free x ≡ true
    → CanSet ds ls x → 0 < turns → turns ≤ 1000000 → b + 1 ≤ 16 → Clean us (at k (with_variable vs x) (ls ++ x ∷ []) (b + 1) (n + 1) (wanted.Statements ∷ wanted.ClosingBrace ∷ before ws))
    → Clean (word (codes "for") ∷ word x ∷ mark (byte "<") ∷ number turns ∷ mark (byte "{") ∷ us) (at k vs ls b n (before ws))
loop_returned k ds vs ls x turns b n ws us declares free can some most few c =
    let vs' = with_variable vs x
    in let ls' = ls ++ x ∷ []
    in let body = wanted.Mark (byte "{") ∷ wanted.Statements ∷ wanted.ClosingBrace ∷ before ws
    in let brace = open_back k vs' ls' b (n + 1) (n + 1) body (wanted.Statements ∷ wanted.ClosingBrace ∷ before ws) (byte "{") us false refl refl few refl c (omega arith)
    in let bound = quiet_back k vs' ls' b (n + 1) (n + 1) (wanted.TurnCount ∷ body) body (number turns) (mark (byte "{") ∷ us) role.Turns false refl refl refl (omega arith) refl (turns_fit (at k vs' ls' b (n + 1) (wanted.TurnCount ∷ body)) turns some most) brace
    in let below = plain_back k vs' ls' b (n + 1) (n + 1) (wanted.Mark (byte "<") ∷ wanted.TurnCount ∷ body) (wanted.TurnCount ∷ body) (mark (byte "<")) (number turns ∷ mark (byte "{") ∷ us) false refl refl refl refl bound (omega arith)
    in let counter = count_back k ds vs ls b (n + 1) (wanted.Counter ∷ wanted.Mark (byte "<") ∷ wanted.TurnCount ∷ body) (wanted.Mark (byte "<") ∷ wanted.TurnCount ∷ body) x (mark (byte "<") ∷ number turns ∷ mark (byte "{") ∷ us) declares can (rw free refl) below
    in plain_back k vs ls b n (n + 1) (before ws) (wanted.Counter ∷ wanted.Mark (byte "<") ∷ wanted.TurnCount ∷ body) (word (codes "for")) (word x ∷ mark (byte "<") ∷ number turns ∷ mark (byte "{") ∷ us) true refl refl refl refl counter refl

pub statements_returned : (k : Known) (ds : List Declaration) (vs ls : List (List ℕ)) (s : Statements) (b n : ℕ) (ws : List Wanted) (us : List Token) → Declares k ds → AreDistinctNames (names_in ds) → Apart ds vs → are_statements s ≡ true
    → AreRight ds vs ls s → b + nesting_of s ≤ 16 → Clean us (at k (behind_statements vs s) ls b (n + parts_of s) (before ws)) → Clean (statements s ++ us) (at k vs ls b n (before ws))
statements_returned k ds vs ls done b n ws us declares distinct apart g right few c = counts k vs ls b _ n (before ws) us c (omega arith)
statements_returned k ds vs ls (act first rest) b n ws us declares distinct apart g right few c =
    let gs = and_parts (is_action first) (are_statements rest) g
    in let vs' = behind_action vs first
    in let apart' = apart_behind ds vs ls first right.0 apart
    in let others = statements_returned k ds vs' ls rest b (n + parts_of_action first) ws us declares distinct apart' gs.1 right.1 (omega (arith, few)) (counts k (behind_statements vs' rest) ls b _ (n + parts_of_action first + parts_of rest) (before ws) us c (omega arith))
    in subst (λ ts. Clean ts (at k vs ls b n (before ws))) (sym (append_assoc (action first) (statements rest) us))
    (action_returned k ds ls declares distinct vs first b n ws (statements rest ++ us) gs.0 right.0 (omega (arith, few)) apart' others)
statements_returned k ds vs ls (repeat x turns body rest) b n ws us declares distinct apart g right few c =
    let gs = three_parts (is_free x) (are_statements body) (are_statements rest) g
    in let vs' = with_variable vs x
    in let ls' = ls ++ x ∷ []
    in let after = behind_statements vs' body
    in let apart' = apart_more ds vs x apart right.0.undeclared
    in let others = statements_returned k ds after ls rest b (n + 1 + parts_of body) ws us declares distinct (apart_all ds vs' ls' body right.3 apart') gs.2 right.4 (omega (arith, few)) (counts k (behind_statements after rest) ls b _ (n + 1 + parts_of body + parts_of rest) (before ws) us c (omega arith))
    in let left = leave_back k after ls b (n + 1 + parts_of body) (wanted.Statements ∷ wanted.ClosingBrace ∷ before ws) (before ws) x (statements rest ++ us) refl others
    in let inside = statements_returned k ds vs' ls' body (b + 1) (n + 1) (wanted.ClosingBrace ∷ before ws) (mark (byte "}") ∷ (statements rest ++ us)) declares distinct apart' gs.1 right.3 (omega (arith, few)) left
    in subst (λ ts. Clean ts (at k vs ls b n (before ws))) (sym (loop_is x turns body rest us))
    (loop_returned k ds vs ls x turns b n ws (statements body ++ mark (byte "}") ∷ (statements rest ++ us)) declares gs.0 right.0 right.1 right.2 (omega (arith, few)) inside)
