-- A statement where no token is at fault.
use Rattle.std.proofs.Common.{◌≡◌, ℕ, ◌+◌, ◌<◌, ◌≤◌, max, true, false, nat_lt, List, [], ◌∷◌, ◌++◌, Option, Some, refl, subst, arith, append_assoc}
use Rattle.std.specs.Prelude.{codes}
use Rattle.std.specs.List.{list_all}
use Rattle.std.specs.Str.{byte}
use Rattle.std.proofs.lemmas.Bool.{ltb-false, and_parts, or_parts}
use Rattle.kernel_text.specs.declared.senses.Role.TheVariants as role
use Rattle.kernel_text.specs.declared.senses.Wanted.{Wanted}
use Rattle.kernel_text.specs.declared.senses.Wanted.TheVariants as wanted
use Rattle.kernel_text.specs.Tokens.{Token, word, number, mark}
use Rattle.kernel_text.specs.Trees.{Declaration, Expression, Action, Statements, assign, store, print, increment, minimum, probe, hist, dot, done, act, repeat}
use Rattle.kernel_text.specs.Grammar.{action, statements, is_expression, is_free, is_action, are_statements}
use Rattle.kernel_text.specs.Readings.{read, deepest}
use Rattle.kernel_text.specs.Known.{Known, opens, closes}
use Rattle.kernel_text.specs.Depth.{parts, parts_of_action, parts_of, nesting, nesting_of_action, nesting_of}
use Rattle.kernel_text.specs.Sound.{Among, arrays_in, tables_in, with_variable, behind_action, behind_statements, IsRight, CanSet, IsRightAction, AreRight}
use Rattle.kernel_text.specs.Built.{first}
use Rattle.kernel_text.proofs.Chains.{three_parts}
use Rattle.kernel_text.proofs.Clean.{Clean}
use Rattle.kernel_text.proofs.Flat.{ended, indexed, operands as flat_operands, flat_assign, flat_store, flat_print, flat_increment, flat_minimum, flat_two, behind_probe, behind_hist, behind_dot, assign_is, store_is, print_is, increment_is, minimum_is, probe_is, hist_is, dot_is, loop_is}
use Rattle.kernel_text.proofs.Walking.{at, sense, silent, begun, plain, keyword, open_bracket, counted, Declares, is_written, is_looked_up, is_variable, set, count, leave}
use Rattle.kernel_text.proofs.WalkingTerms.{value_walked, index_walked, value_alike}

-- an action was right, and this is left
abbrev Done : Known → List Declaration → List (List ℕ) → List (List ℕ) → ℕ → ℕ → List Wanted → Action → List Token → Type 0
Done k ds vs ls b n ws a us =
    IsRightAction ds (behind_action vs a) ls a × (b + nesting_of_action a ≤ 16) × Clean us (at k (behind_action vs a) ls b (n + parts_of_action a) (wanted.Statements ∷ ws))

larger : (b m n : ℕ) → b + m ≤ 16 → b + n ≤ 16 → b + max m n ≤ 16
larger b m n p q = omega (arith, p, q)

abbrev pub before : List Wanted → List Wanted
before ws = wanted.Statements ∷ ws

-- an index, and what is wanted behind it
abbrev pub indexing : List Wanted → List Wanted
indexing ws = wanted.Mark (byte "[") ∷ wanted.Term deepest ∷ wanted.MoreTerms deepest ∷ wanted.Mark (byte "]") ∷ ws

-- a value, and what is wanted behind it
abbrev pub valued : List Wanted → List Wanted
valued ws = wanted.Term deepest ∷ wanted.MoreTerms deepest ∷ wanted.Mark (byte ";") ∷ ws

-- four operands
abbrev pub passing : List Wanted → List Wanted
passing ws = wanted.Operand ∷ wanted.Mark (byte ",") ∷ wanted.Operand ∷ wanted.Mark (byte ",") ∷ wanted.Operand ∷ wanted.Mark (byte ",") ∷ wanted.Operand ∷ wanted.Mark (byte ";") ∷ ws

module _ (k : Known) (ds : List Declaration) (ls : List (List ℕ)) (declares : Declares k ds) where
  -- ---- parts of actions

  value_last : (vs : List (List ℕ)) (e : Expression) (b n : ℕ) (ws : List Wanted) (us : List Token) → is_expression e ≡ true → b ≤ 16 → Clean (ended e (byte ";") us) (at k vs ls b n (valued ws))
      → IsRight ds vs e × (b + nesting e ≤ 16) × Clean us (at k vs ls b (n + parts e) ws)
  value_last vs e b n ws us g few c = value_walked k ds vs ls declares e (byte ";") b n ws us g refl refl refl (λ next. refl) few c

  written : (vs : List (List ℕ)) (x : List ℕ) (b n : ℕ) (ws : List Wanted) (us : List Token) → is_free x ≡ true → Clean (word x ∷ us) (at k vs ls b n (wanted.ArrayName ∷ ws)) → Among (arrays_in ds) x × Clean us (at k vs ls b n ws)
  written vs x b n ws us free c =
      let s = silent k vs ls b n (wanted.ArrayName ∷ ws) ws (word x) us role.Writes refl refl refl (rw free refl) c
      in (is_written k ds x declares s.0.wrong, s.1)

  looked_up : (vs : List (List ℕ)) (x : List ℕ) (b n : ℕ) (ws : List Wanted) (us : List Token) → is_free x ≡ true → Clean (word x ∷ us) (at k vs ls b n (wanted.TableName ∷ ws)) → Among (tables_in ds) x × Clean us (at k vs ls b n ws)
  looked_up vs x b n ws us free c =
      let s = silent k vs ls b n (wanted.TableName ∷ ws) ws (word x) us role.LooksUp refl refl refl (rw free refl) c
      in (is_looked_up k ds x declares s.0.wrong, s.1)

  passes : (vs : List (List ℕ)) (x : List ℕ) (b n : ℕ) (ws : List Wanted) (us : List Token) → is_free x ≡ true → Clean (word x ∷ us) (at k vs ls b n (wanted.Operand ∷ ws)) → Among vs x × Clean us (at k vs ls b n ws)
  passes vs x b n ws us free c =
      let s = silent k vs ls b n (wanted.Operand ∷ ws) ws (word x) us role.Passes refl refl refl (rw free refl) c
      in (is_variable k vs x s.0.unknown s.0.wrong, s.1)

  -- a mark that is no bracket
  marked : (vs : List (List ℕ)) (m : ℕ) (b n : ℕ) (ws us : List Wanted) (ts : List Token) → opens (mark m) ≡ false → closes (mark m) ≡ false → ((next : Option Token) → read ws (mark m) next ≡ Some (sense role.Plain false us))
      → Clean (mark m ∷ ts) (at k vs ls b n ws) → Clean ts (at k vs ls b n us)
  marked vs m b n ws us ts no_open no_close reads c = plain k vs ls b n ws us (mark m) ts no_open no_close (reads (first ts)) c

  -- a name with an index
  array_walked : (vs : List (List ℕ)) (x : List ℕ) (i : Expression) (b n : ℕ) (ws : List Wanted) (us : List Token) → is_free x ≡ true → is_expression i ≡ true → Clean (indexed x i us) (at k vs ls b n (wanted.ArrayName ∷ indexing ws))
      → Among (arrays_in ds) x × IsRight ds vs i × (b + (1 + nesting i) ≤ 16) × Clean us (at k vs ls b (n + parts i) ws)
  array_walked vs x i b n ws us free g c =
      let w = written vs x b n (indexing ws) (mark (byte "[") ∷ ended i (byte "]") us) free c
      in let q = index_walked k ds vs ls declares i b n ws us g w.1
      in (w.0, q.0, q.1, q.2)

  table_walked : (vs : List (List ℕ)) (x : List ℕ) (i : Expression) (b n : ℕ) (ws : List Wanted) (us : List Token) → is_free x ≡ true → is_expression i ≡ true → Clean (indexed x i us) (at k vs ls b n (wanted.TableName ∷ indexing ws))
      → Among (tables_in ds) x × IsRight ds vs i × (b + (1 + nesting i) ≤ 16) × Clean us (at k vs ls b (n + parts i) ws)
  table_walked vs x i b n ws us free g c =
      let w = looked_up vs x b n (indexing ws) (mark (byte "[") ∷ ended i (byte "]") us) free c
      in let q = index_walked k ds vs ls declares i b n ws us g w.1
      in (w.0, q.0, q.1, q.2)

  -- ---- actions

  assign_walked : (vs : List (List ℕ)) (x : List ℕ) (e : Expression) (b n : ℕ) (ws : List Wanted) (us : List Token) → is_action (assign x e) ≡ true → b ≤ 16 → Clean (flat_assign x e us) (at k vs ls b n (before ws)) → Done k ds vs ls b n ws (assign x e) us
  assign_walked vs x e b n ws us g few c =
      let gs = and_parts (is_free x) (is_expression e) g
      in let free = gs.0
      in let s = set k ds vs ls b n (before ws) (wanted.BehindVariable ∷ before ws) x (mark (byte "=") ∷ ended e (byte ";") us) true declares (rw free refl) c
      in let p = marked (with_variable vs x) (byte "=") b (n + 1) (wanted.BehindVariable ∷ before ws) (wanted.OneWord ∷ before ws) (ended e (byte ";") us) refl refl (λ next. refl) s.1
      in let v = value_last (with_variable vs x) e b (n + 1) (before ws) us gs.1 few (value_alike k (with_variable vs x) ls b (n + 1) (before ws) e (mark (byte ";") ∷ us) gs.1 p)
      in ((s.0, v.0), v.1, counted k (with_variable vs x) ls b b (n + 1 + parts e) (n + (1 + parts e)) (before ws) us refl (omega arith) v.2)

  store_walked : (vs : List (List ℕ)) (x : List ℕ) (i e : Expression) (b n : ℕ) (ws : List Wanted) (us : List Token) → is_action (store x i e) ≡ true → b ≤ 16 → Clean (flat_store x i e us) (at k vs ls b n (before ws)) → Done k ds vs ls b n ws (store x i e) us
  store_walked vs x i e b n ws us g few c =
      let gs = three_parts (is_free x) (is_expression i) (is_expression e) g
      in let free = gs.0
      in let s = begun k vs ls b n (before ws) (indexing (wanted.Mark (byte "=") ∷ valued (before ws))) (word x) (mark (byte "[") ∷ ended i (byte "]") (mark (byte "=") ∷ ended e (byte ";") us)) role.Writes refl refl refl (rw free refl) c
      in let q = index_walked k ds vs ls declares i b (n + 1) (wanted.Mark (byte "=") ∷ valued (before ws)) (mark (byte "=") ∷ ended e (byte ";") us) gs.1 s.1
      in let p = marked vs (byte "=") b (n + 1 + parts i) (wanted.Mark (byte "=") ∷ valued (before ws)) (valued (before ws)) (ended e (byte ";") us) refl refl (λ next. refl) q.2
      in let v = value_last vs e b (n + 1 + parts i) (before ws) us gs.2 few p
      in ((is_written k ds x declares s.0.wrong, q.0, v.0), larger b (1 + nesting i) (nesting e) q.1 v.1, counted k vs ls b b (n + 1 + parts i + parts e) (n + (1 + parts i + parts e)) (before ws) us refl (omega arith) v.2)

  print_walked : (vs : List (List ℕ)) (e : Expression) (b n : ℕ) (ws : List Wanted) (us : List Token) → is_action (print e) ≡ true → b ≤ 16 → Clean (flat_print e us) (at k vs ls b n (before ws)) → Done k ds vs ls b n ws (print e) us
  print_walked vs e b n ws us g few c =
      let s = keyword k vs ls b n (before ws) (valued (before ws)) (word (codes "print")) (ended e (byte ";") us) refl refl refl c
      in let v = value_last vs e b (n + 1) (before ws) us g few s
      in (v.0, v.1, counted k vs ls b b (n + 1 + parts e) (n + (1 + parts e)) (before ws) us refl (omega arith) v.2)

  increment_walked : (vs : List (List ℕ)) (x : List ℕ) (i : Expression) (b n : ℕ) (ws : List Wanted) (us : List Token) → is_action (increment x i) ≡ true → Clean (flat_increment x i us) (at k vs ls b n (before ws)) → Done k ds vs ls b n ws (increment x i) us
  increment_walked vs x i b n ws us g c =
      let gs = and_parts (is_free x) (is_expression i) g
      in let s = keyword k vs ls b n (before ws) (wanted.ArrayName ∷ indexing (wanted.Mark (byte ";") ∷ before ws)) (word (codes "inc")) (indexed x i (mark (byte ";") ∷ us)) refl refl refl c
      in let q = array_walked vs x i b (n + 1) (wanted.Mark (byte ";") ∷ before ws) (mark (byte ";") ∷ us) gs.0 gs.1 s
      in let p = marked vs (byte ";") b (n + 1 + parts i) (wanted.Mark (byte ";") ∷ before ws) (before ws) us refl refl (λ next. refl) q.3
      in ((q.0, q.1), q.2, counted k vs ls b b (n + 1 + parts i) (n + (1 + parts i)) (before ws) us refl (omega arith) p)

  minimum_walked : (vs : List (List ℕ)) (x : List ℕ) (i e : Expression) (b n : ℕ) (ws : List Wanted) (us : List Token) → is_action (minimum x i e) ≡ true → b ≤ 16 → Clean (flat_minimum x i e us) (at k vs ls b n (before ws)) → Done k ds vs ls b n ws (minimum x i e) us
  minimum_walked vs x i e b n ws us g few c =
      let gs = three_parts (is_free x) (is_expression i) (is_expression e) g
      in let s = keyword k vs ls b n (before ws) (wanted.ArrayName ∷ indexing (wanted.Mark (byte ",") ∷ valued (before ws))) (word (codes "min")) (indexed x i (mark (byte ",") ∷ ended e (byte ";") us)) refl refl refl c
      in let q = array_walked vs x i b (n + 1) (wanted.Mark (byte ",") ∷ valued (before ws)) (mark (byte ",") ∷ ended e (byte ";") us) gs.0 gs.1 s
      in let p = marked vs (byte ",") b (n + 1 + parts i) (wanted.Mark (byte ",") ∷ valued (before ws)) (valued (before ws)) (ended e (byte ";") us) refl refl (λ next. refl) q.3
      in let v = value_last vs e b (n + 1 + parts i) (before ws) us gs.2 few p
      in ((q.0, q.1, v.0), larger b (1 + nesting i) (nesting e) q.2 v.1, counted k vs ls b b (n + 1 + parts i + parts e) (n + (1 + parts i + parts e)) (before ws) us refl (omega arith) v.2)

  -- two variables, up to what they are assigned
  two_walked : (vs : List (List ℕ)) (x y : List ℕ) (b n : ℕ) (ws : List Wanted) (us : List Token) → is_free x ≡ true → is_free y ≡ true → Clean (flat_two x y us) (at k vs ls b n (before ws))
      → CanSet ds ls x × CanSet ds ls y × Clean us (at k (with_variable (with_variable vs x) y) ls b (n + 1) (wanted.TwoWords ∷ before ws))
  two_walked vs x y b n ws us free also c =
      let s = set k ds vs ls b n (before ws) (wanted.BehindVariable ∷ before ws) x (mark (byte ",") ∷ word y ∷ mark (byte "=") ∷ us) true declares (rw free refl) c
      in let p = marked (with_variable vs x) (byte ",") b (n + 1) (wanted.BehindVariable ∷ before ws) (wanted.SecondVariable ∷ wanted.Mark (byte "=") ∷ wanted.TwoWords ∷ before ws) (word y ∷ mark (byte "=") ∷ us) refl refl (λ next. refl) s.1
      in let r = set k ds (with_variable vs x) ls b (n + 1) (wanted.SecondVariable ∷ wanted.Mark (byte "=") ∷ wanted.TwoWords ∷ before ws) (wanted.Mark (byte "=") ∷ wanted.TwoWords ∷ before ws) y (mark (byte "=") ∷ us) false declares (rw also refl) p
      in let q = marked (with_variable (with_variable vs x) y) (byte "=") b (n + 1 + 0) (wanted.Mark (byte "=") ∷ wanted.TwoWords ∷ before ws) (wanted.TwoWords ∷ before ws) us refl refl (λ next. refl) r.1
      in (s.0, r.0, counted k (with_variable (with_variable vs x) y) ls b b (n + 1 + 0) (n + 1) (wanted.TwoWords ∷ before ws) us refl (omega arith) q)

  pub second_free : (x y : List ℕ) (rest : List (List ℕ)) → list_all is_free (x ∷ y ∷ rest) ≡ true → (is_free x ≡ true) × (is_free y ≡ true) × (list_all is_free rest ≡ true)
  second_free x y rest g =
      let a = and_parts (is_free x) (list_all is_free (y ∷ rest)) g
      in let b = and_parts (is_free y) (list_all is_free rest) a.1
      in (a.0, b.0, b.1)

  probe_walked : (vs : List (List ℕ)) (x y z : List ℕ) (i e : Expression) (b n : ℕ) (ws : List Wanted) (us : List Token) → is_action (probe x y z i e) ≡ true → b ≤ 16 → Clean (flat_two x y (behind_probe z i e us)) (at k vs ls b n (before ws))
      → Done k ds vs ls b n ws (probe x y z i e) us
  probe_walked vs x y z i e b n ws us g few c =
      let gs = three_parts (list_all is_free (x ∷ y ∷ z ∷ [])) (is_expression i) (is_expression e) g
      in let names = second_free x y (z ∷ []) gs.0
      in let two = two_walked vs x y b n ws (behind_probe z i e us) names.0 names.1 c
      in let after = with_variable (with_variable vs x) y
      in let s = plain k after ls b (n + 1) (wanted.TwoWords ∷ before ws) (wanted.TableName ∷ indexing (wanted.Mark (byte ",") ∷ valued (before ws))) (word (codes "probe")) (indexed z i (mark (byte ",") ∷ ended e (byte ";") us)) refl refl refl two.2
      in let q = table_walked after z i b (n + 1) (wanted.Mark (byte ",") ∷ valued (before ws)) (mark (byte ",") ∷ ended e (byte ";") us) (and_parts (is_free z) true names.2).0 gs.1 s
      in let p = marked after (byte ",") b (n + 1 + parts i) (wanted.Mark (byte ",") ∷ valued (before ws)) (valued (before ws)) (ended e (byte ";") us) refl refl (λ next. refl) q.3
      in let v = value_last after e b (n + 1 + parts i) (before ws) us gs.2 few p
      in ((two.0, two.1, q.0, q.1, v.0), larger b (1 + nesting i) (nesting e) q.2 v.1, counted k after ls b b (n + 1 + parts i + parts e) (n + (1 + parts i + parts e)) (before ws) us refl (omega arith) v.2)

  hist_walked : (vs : List (List ℕ)) (x y z : List ℕ) (i : Expression) (shift : ℕ) (b n : ℕ) (ws : List Wanted) (us : List Token) → is_action (hist x y z i shift) ≡ true → Clean (flat_two x y (behind_hist z i shift us)) (at k vs ls b n (before ws))
      → Done k ds vs ls b n ws (hist x y z i shift) us
  hist_walked vs x y z i shift b n ws us g c =
      let gs = and_parts (list_all is_free (x ∷ y ∷ z ∷ [])) (is_expression i) g
      in let names = second_free x y (z ∷ []) gs.0
      in let two = two_walked vs x y b n ws (behind_hist z i shift us) names.0 names.1 c
      in let after = with_variable (with_variable vs x) y
      in let s = plain k after ls b (n + 1) (wanted.TwoWords ∷ before ws) (wanted.TableName ∷ indexing (wanted.Mark (byte ",") ∷ wanted.Shift ∷ wanted.Mark (byte ";") ∷ before ws)) (word (codes "hist")) (indexed z i (mark (byte ",") ∷ number shift ∷ mark (byte ";") ∷ us)) refl refl refl two.2
      in let q = table_walked after z i b (n + 1) (wanted.Mark (byte ",") ∷ wanted.Shift ∷ wanted.Mark (byte ";") ∷ before ws) (mark (byte ",") ∷ number shift ∷ mark (byte ";") ∷ us) (and_parts (is_free z) true names.2).0 gs.1 s
      in let p = marked after (byte ",") b (n + 1 + parts i) (wanted.Mark (byte ",") ∷ wanted.Shift ∷ wanted.Mark (byte ";") ∷ before ws) (wanted.Shift ∷ wanted.Mark (byte ";") ∷ before ws) (number shift ∷ mark (byte ";") ∷ us) refl refl (λ next. refl) q.3
      in let t = silent k after ls b (n + 1 + parts i) (wanted.Shift ∷ wanted.Mark (byte ";") ∷ before ws) (wanted.Mark (byte ";") ∷ before ws) (number shift) (mark (byte ";") ∷ us) role.Shifts refl refl refl refl p
      in let l = marked after (byte ";") b (n + 1 + parts i) (wanted.Mark (byte ";") ∷ before ws) (before ws) us refl refl (λ next. refl) t.1
      in ((two.0, two.1, q.0, q.1, ltb-false 24 shift t.0.size), q.2, counted k after ls b b (n + 1 + parts i) (n + (1 + parts i)) (before ws) us refl (omega arith) l)

  -- an operand, and the mark behind it
  operand_walked : (vs : List (List ℕ)) (x : List ℕ) (m : ℕ) (b n : ℕ) (ws : List Wanted) (us : List Token) → is_free x ≡ true → opens (mark m) ≡ false → closes (mark m) ≡ false
      → ((next : Option Token) → read (wanted.Mark m ∷ ws) (mark m) next ≡ Some (sense role.Plain false ws)) → Clean (word x ∷ mark m ∷ us) (at k vs ls b n (wanted.Operand ∷ wanted.Mark m ∷ ws)) → Among vs x × Clean us (at k vs ls b n ws)
  operand_walked vs x m b n ws us free no_open no_close reads c =
      let s = passes vs x b n (wanted.Mark m ∷ ws) (mark m ∷ us) free c
      in (s.0, marked vs m b n (wanted.Mark m ∷ ws) ws us no_open no_close reads s.1)

  dot_walked : (vs : List (List ℕ)) (x z : List ℕ) (i : Expression) (p q r s : List ℕ) (b n : ℕ) (ws : List Wanted) (us : List Token) → is_action (dot x z i p q r s) ≡ true
      → Clean (word x ∷ mark (byte "=") ∷ behind_dot z i p q r s us) (at k vs ls b n (before ws)) → Done k ds vs ls b n ws (dot x z i p q r s) us
  dot_walked vs x z i p q r s b n ws us g c =
      let gs = and_parts (list_all is_free (x ∷ z ∷ p ∷ q ∷ r ∷ s ∷ [])) (is_expression i) g
      in let names = second_free x z (p ∷ q ∷ r ∷ s ∷ []) gs.0
      in let first_two = second_free p q (r ∷ s ∷ []) names.2
      in let last_two = second_free r s [] first_two.2
      in let free = names.0
      in let after = with_variable vs x
      in let a = set k ds vs ls b n (before ws) (wanted.BehindVariable ∷ before ws) x (mark (byte "=") ∷ behind_dot z i p q r s us) true declares (rw free refl) c
      in let e = marked after (byte "=") b (n + 1) (wanted.BehindVariable ∷ before ws) (wanted.OneWord ∷ before ws) (behind_dot z i p q r s us) refl refl (λ next. refl) a.1
      in let f = plain k after ls b (n + 1) (wanted.OneWord ∷ before ws) (wanted.TableName ∷ indexing (wanted.Mark (byte ",") ∷ passing (before ws))) (word (codes "dot")) (indexed z i (flat_operands p q r s us)) refl refl refl e
      in let t = table_walked after z i b (n + 1) (wanted.Mark (byte ",") ∷ passing (before ws)) (flat_operands p q r s us) names.1 gs.1 f
      in let m = marked after (byte ",") b (n + 1 + parts i) (wanted.Mark (byte ",") ∷ passing (before ws)) (passing (before ws)) (word p ∷ mark (byte ",") ∷ word q ∷ mark (byte ",") ∷ word r ∷ mark (byte ",") ∷ word s ∷ mark (byte ";") ∷ us) refl refl (λ next. refl) t.3
      in let one = operand_walked after p (byte ",") b (n + 1 + parts i) (wanted.Operand ∷ wanted.Mark (byte ",") ∷ wanted.Operand ∷ wanted.Mark (byte ",") ∷ wanted.Operand ∷ wanted.Mark (byte ";") ∷ before ws) (word q ∷ mark (byte ",") ∷ word r ∷ mark (byte ",") ∷ word s ∷ mark (byte ";") ∷ us) first_two.0 refl refl (λ next. refl) m
      in let two = operand_walked after q (byte ",") b (n + 1 + parts i) (wanted.Operand ∷ wanted.Mark (byte ",") ∷ wanted.Operand ∷ wanted.Mark (byte ";") ∷ before ws) (word r ∷ mark (byte ",") ∷ word s ∷ mark (byte ";") ∷ us) first_two.1 refl refl (λ next. refl) one.1
      in let three = operand_walked after r (byte ",") b (n + 1 + parts i) (wanted.Operand ∷ wanted.Mark (byte ";") ∷ before ws) (word s ∷ mark (byte ";") ∷ us) last_two.0 refl refl (λ next. refl) two.1
      in let four = operand_walked after s (byte ";") b (n + 1 + parts i) (before ws) us last_two.1 refl refl (λ next. refl) three.1
      in ((a.0, t.0, t.1, one.0, two.0, three.0, four.0), t.2, counted k after ls b b (n + 1 + parts i) (n + (1 + parts i)) (before ws) us refl (omega arith) four.1)

  action_walked : (vs : List (List ℕ)) (a : Action) (b n : ℕ) (ws : List Wanted) (us : List Token) → is_action a ≡ true → b ≤ 16 → Clean (action a ++ us) (at k vs ls b n (before ws)) → Done k ds vs ls b n ws a us
  action_walked vs (assign x e) b n ws us g few c = assign_walked vs x e b n ws us g few (subst (λ ts. Clean ts (at k vs ls b n (before ws))) (assign_is x e us) c)
  action_walked vs (store x i e) b n ws us g few c = store_walked vs x i e b n ws us g few (subst (λ ts. Clean ts (at k vs ls b n (before ws))) (store_is x i e us) c)
  action_walked vs (print e) b n ws us g few c = print_walked vs e b n ws us g few (subst (λ ts. Clean ts (at k vs ls b n (before ws))) (print_is e us) c)
  action_walked vs (increment x i) b n ws us g few c = increment_walked vs x i b n ws us g (subst (λ ts. Clean ts (at k vs ls b n (before ws))) (increment_is x i us) c)
  action_walked vs (minimum x i e) b n ws us g few c = minimum_walked vs x i e b n ws us g few (subst (λ ts. Clean ts (at k vs ls b n (before ws))) (minimum_is x i e us) c)
  action_walked vs (probe x y z i e) b n ws us g few c = probe_walked vs x y z i e b n ws us g few (subst (λ ts. Clean ts (at k vs ls b n (before ws))) (probe_is x y z i e us) c)
  action_walked vs (hist x y z i shift) b n ws us g few c = hist_walked vs x y z i shift b n ws us g (subst (λ ts. Clean ts (at k vs ls b n (before ws))) (hist_is x y z i shift us) c)
  action_walked vs (dot x z i p q r s) b n ws us g few c = dot_walked vs x z i p q r s b n ws us g (subst (λ ts. Clean ts (at k vs ls b n (before ws))) (dot_is x z i p q r s us) c)

-- ---- statements

-- statements were right, and this is left
abbrev pub AllDone : Known → List Declaration → List (List ℕ) → List (List ℕ) → ℕ → ℕ → List Wanted → Statements → List Token → Type 0
AllDone k ds vs ls b n ws s us =
    AreRight ds vs ls s × (b + nesting_of s ≤ 16) × Clean us (at k (behind_statements vs s) ls b (n + parts_of s) (wanted.Statements ∷ ws))

-- a loop up to its body
loop_begun : (k : Known) (ds : List Declaration) (vs ls : List (List ℕ)) (x : List ℕ) (turns : ℕ) (b n : ℕ) (ws : List Wanted) (us : List Token) → Declares k ds → is_free x ≡ true
    → Clean (word (codes "for") ∷ word x ∷ mark (byte "<") ∷ number turns ∷ mark (byte "{") ∷ us) (at k vs ls b n (before ws))
    → CanSet ds ls x × (0 < turns) × (turns ≤ 1000000) × (b + 1 ≤ 16) × Clean us (at k (with_variable vs x) (ls ++ x ∷ []) (b + 1) (n + 1) (wanted.Statements ∷ wanted.ClosingBrace ∷ before ws))
loop_begun k ds vs ls x turns b n ws us declares free c =
    let a = keyword k vs ls b n (before ws) (wanted.Counter ∷ wanted.Mark (byte "<") ∷ wanted.TurnCount ∷ wanted.Mark (byte "{") ∷ wanted.Statements ∷ wanted.ClosingBrace ∷ before ws) (word (codes "for")) (word x ∷ mark (byte "<") ∷ number turns ∷ mark (byte "{") ∷ us) refl refl refl c
    in let s = count k ds vs ls b (n + 1) (wanted.Counter ∷ wanted.Mark (byte "<") ∷ wanted.TurnCount ∷ wanted.Mark (byte "{") ∷ wanted.Statements ∷ wanted.ClosingBrace ∷ before ws) (wanted.Mark (byte "<") ∷ wanted.TurnCount ∷ wanted.Mark (byte "{") ∷ wanted.Statements ∷ wanted.ClosingBrace ∷ before ws) x (mark (byte "<") ∷ number turns ∷ mark (byte "{") ∷ us) declares (rw free refl) a
    in let vs' = with_variable vs x
    in let ls' = ls ++ x ∷ []
    in let p = plain k vs' ls' b (n + 1) (wanted.Mark (byte "<") ∷ wanted.TurnCount ∷ wanted.Mark (byte "{") ∷ wanted.Statements ∷ wanted.ClosingBrace ∷ before ws) (wanted.TurnCount ∷ wanted.Mark (byte "{") ∷ wanted.Statements ∷ wanted.ClosingBrace ∷ before ws) (mark (byte "<")) (number turns ∷ mark (byte "{") ∷ us) refl refl refl s.1
    in let t = silent k vs' ls' b (n + 1) (wanted.TurnCount ∷ wanted.Mark (byte "{") ∷ wanted.Statements ∷ wanted.ClosingBrace ∷ before ws) (wanted.Mark (byte "{") ∷ wanted.Statements ∷ wanted.ClosingBrace ∷ before ws) (number turns) (mark (byte "{") ∷ us) role.Turns refl refl refl refl p
    in let o = open_bracket k vs' ls' b (n + 1) (wanted.Mark (byte "{") ∷ wanted.Statements ∷ wanted.ClosingBrace ∷ before ws) (wanted.Statements ∷ wanted.ClosingBrace ∷ before ws) (mark (byte "{")) us false refl refl refl t.1
    in let q = or_parts (nat_lt turns 1) (nat_lt 1000000 turns) t.0.size
    in (s.0, ltb-false turns 1 q.0, ltb-false 1000000 turns q.1, o.0, counted k vs' ls' (b + 1) (b + 1) (n + 1 + 0) (n + 1) (wanted.Statements ∷ wanted.ClosingBrace ∷ before ws) us refl (omega arith) o.1)

pub statements_walked : (k : Known) (ds : List Declaration) (vs ls : List (List ℕ)) (s : Statements) (b n : ℕ) (ws : List Wanted) (us : List Token) → Declares k ds → are_statements s ≡ true → b ≤ 16 → Clean (statements s ++ us) (at k vs ls b n (before ws))
    → AllDone k ds vs ls b n ws s us
statements_walked k ds vs ls done b n ws us declares g few c = (tt, omega (arith, few), counted k vs ls b b n (n + 0) (before ws) us refl (omega arith) c)
statements_walked k ds vs ls (act first rest) b n ws us declares g few c =
    let gs = and_parts (is_action first) (are_statements rest) g
    in let one = action_walked k ds ls declares vs first b n ws (statements rest ++ us) gs.0 few (subst (λ ts. Clean ts (at k vs ls b n (before ws))) (append_assoc (action first) (statements rest) us) c)
    in let others = statements_walked k ds (behind_action vs first) ls rest b (n + parts_of_action first) ws us declares gs.1 few one.2
    in (
      (one.0, others.0),
      larger b (nesting_of_action first) (nesting_of rest) one.1 others.1,
      counted k (behind_statements vs (act first rest)) ls b b (n + parts_of_action first + parts_of rest) (n + (parts_of_action first + parts_of rest)) (before ws) us refl (omega arith) others.2,
    )
statements_walked k ds vs ls (repeat x turns body rest) b n ws us declares g few c =
    let gs = three_parts (is_free x) (are_statements body) (are_statements rest) g
    in let start = loop_begun k ds vs ls x turns b n ws (statements body ++ mark (byte "}") ∷ (statements rest ++ us)) declares gs.0 (subst (λ ts. Clean ts (at k vs ls b n (before ws))) (loop_is x turns body rest us) c)
    in let inside = statements_walked k ds (with_variable vs x) (ls ++ x ∷ []) body (b + 1) (n + 1) (wanted.ClosingBrace ∷ before ws) (mark (byte "}") ∷ (statements rest ++ us)) declares gs.1 start.3 start.4
    in let after = behind_statements (with_variable vs x) body
    in let left = leave k after ls b (n + 1 + parts_of body) (wanted.Statements ∷ wanted.ClosingBrace ∷ before ws) (before ws) x (statements rest ++ us) refl inside.2
    in let others = statements_walked k ds after ls rest b (n + 1 + parts_of body) ws us declares gs.2 few left
    in let deep = inside.1
    in (
      (start.0, start.1, start.2, inside.0, others.0),
      larger b (1 + nesting_of body) (nesting_of rest) (omega (arith, deep)) others.1,
      counted k (behind_statements after rest) ls b b (n + 1 + parts_of body + parts_of rest) (n + (1 + parts_of body + parts_of rest)) (before ws) us refl (omega arith) others.2,
    )
