-- An expression where no token is at fault: its names, its depth and its brackets.
use Rattle.std.proofs.Common.{◌≡◌, ℕ, ◌+◌, ◌-◌, ◌^◌, ◌<◌, ◌≤◌, Bool, true, false, not, nat_lt, ◌==◌, if◌then◌else◌, List, [], ◌∷◌, ◌++◌, Option, Some, None, ◌⊎◌, inl, inr, refl, sym, subst, ap, ◌∙◌, arith, append_assoc}
use Rattle.std.specs.Prelude.{codes}
use Rattle.std.specs.Option.{option_or}
use Rattle.std.specs.Str.{byte}
use Rattle.std.proofs.lemmas.Bool.{ltb-true, eqb-false, not-true, and_parts}
use Rattle.kernel_text.specs.declared.faults.KernelKind.TheVariants as kind
use Rattle.kernel_text.specs.declared.senses.Role.TheVariants as role
use Rattle.kernel_text.specs.declared.senses.Wanted.{Wanted}
use Rattle.kernel_text.specs.declared.senses.Wanted.TheVariants as wanted
use Rattle.kernel_text.specs.declared.tree.Operator.{Operator}
use Rattle.kernel_text.specs.declared.tree.Operator.TheVariants as op
use Rattle.kernel_text.specs.Tokens.{Token, word, number, mark, is_word}
use Rattle.kernel_text.specs.Trees.{Declaration, Expression, num, named, item, group, binary}
use Rattle.kernel_text.specs.Grammar.{expression, operator, is_expression, is_term, is_free}
use Rattle.kernel_text.specs.Readings.{Reading, read, before, of_term, one_word, opens_bracket, deepest, ending}
use Rattle.kernel_text.specs.Known.{Known, opens, closes}
use Rattle.kernel_text.specs.Depth.{depth, parts, nesting}
use Rattle.kernel_text.specs.Sound.{HasNames, IsRight}
use Rattle.kernel_text.specs.Built.{first, begins_with_word}
use Rattle.kernel_text.proofs.Agendas.{before_before}
use Rattle.kernel_text.proofs.Chains.{three_parts, operator_is_no_bracket}
use Rattle.kernel_text.proofs.Clean.{Clean, alike}
use Rattle.kernel_text.proofs.Flat.{ended}
use Rattle.kernel_text.proofs.Once.{ends_term}
use Rattle.kernel_text.proofs.OnceWhole.{first_is_no_word}
use Rattle.kernel_text.proofs.Walking.{at, sense, begun, plain, keyword, open_bracket, close_bracket, counted, Declares, is_variable, is_item}

-- what an expression is, where so many brackets are open and so many levels are allowed
pub record RightAt (ds : List Declaration) (vs : List (List ℕ)) (b room : ℕ) (e : Expression) : Type 0 where
  pub names : HasNames ds vs e
  pub depth : depth e ≤ room
  pub nesting : b + nesting e ≤ 16

-- what was read, and what is left
abbrev Walked : Known → List Declaration → List (List ℕ) → List (List ℕ) → ℕ → ℕ → ℕ → List Wanted → Expression → List Token → Type 0
Walked k ds vs ls b n room ws e us = RightAt ds vs b room e × Clean us (at k vs ls b (n + parts e) ws)

-- behind an expression that is no term, further terms are wanted
abbrev pub Fits : Expression → ℕ → List Wanted → Type 0
Fits e room ws = (is_term e ≡ true) ⊎ ((rest : List Wanted) × (ws ≡ wanted.MoreTerms room ∷ rest))

pub small : (v : ℕ) (b : Bool) → (if b then None else Some kind.NumberTooLarge) ≡ None → (b ≡ true → v < 18446744073709551616) → v < 18446744073709551616
small v true e h = h refl
small v false e h = absurd (cc e)

some_room : (room : ℕ) → (room == 0) ≡ false → 1 ≤ room
some_room room e = let apart = eqb-false room 0 e in omega (arith, apart)

pub no_bracket_next : (us : List Token) → ends_term us ≡ true → opens_bracket (first us) ≡ false
no_bracket_next us h = not-true (opens_bracket (first us)) h

pub reads_variable : (room : ℕ) (ws : List Wanted) (x : List ℕ) (next : Option Token) → is_free x ≡ true → opens_bracket next ≡ false
    → read (wanted.Term room ∷ ws) (word x) next ≡ Some (sense (role.ReadsVariable room) true ws)
reads_variable room ws x next free apart = rw (free, apart) refl

pub reads_item : (room : ℕ) (ws : List Wanted) (x : List ℕ) → is_free x ≡ true
    → read (wanted.Term room ∷ ws) (word x) (Some (mark (byte "["))) ≡ Some (sense role.ReadsItem true (wanted.Mark (byte "[") ∷ wanted.Term room ∷ wanted.MoreTerms room ∷ wanted.Mark (byte "]") ∷ ws))
reads_item room ws x free = rw free refl

pub reads_operator : (room : ℕ) (ws : List Wanted) (o : Operator) (next : Option Token) → read (wanted.MoreTerms room ∷ ws) (operator o) next ≡ Some (sense role.Plain true (wanted.Term (room - 1) ∷ wanted.MoreTerms room ∷ ws))
reads_operator room ws op.Add next = refl
reads_operator room ws op.Sub next = refl
reads_operator room ws op.Mul next = refl
reads_operator room ws op.And next = refl
reads_operator room ws op.Or next = refl
reads_operator room ws op.Xor next = refl

pub operator_opens_nothing : (o : Operator) → (opens (operator o) ≡ false) × (closes (operator o) ≡ false)
operator_opens_nothing op.Add = (refl, refl)
operator_opens_nothing op.Sub = (refl, refl)
operator_opens_nothing op.Mul = (refl, refl)
operator_opens_nothing op.And = (refl, refl)
operator_opens_nothing op.Or = (refl, refl)
operator_opens_nothing op.Xor = (refl, refl)

pub some_depth : (e : Expression) → 1 ≤ depth e
some_depth (num v) = omega arith
some_depth (named x) = omega arith
some_depth (item x i) = some_depth i
some_depth (group i) = some_depth i
some_depth (binary o l r) = let h = some_depth l in omega (arith, h)

module _ (k : Known) (ds : List Declaration) (vs ls : List (List ℕ)) (declares : Declares k ds) where
  num_walked : (v b n room : ℕ) (ws : List Wanted) (us : List Token) → b ≤ 16 → Clean (number v ∷ us) (at k vs ls b n (wanted.Term room ∷ ws)) → Walked k ds vs ls b n room ws (num v) us
  num_walked v b n room ws us few c =
      let s = begun k vs ls b n (wanted.Term room ∷ ws) ws (number v) us (role.ReadsNumber room) refl refl refl refl c
      in (
        record {
          names = small v (nat_lt v (2 ^ 64)) s.0.character (ltb-true v (2 ^ 64));
          depth = some_room room s.0.deep;
          nesting = omega (arith, few);
        },
        s.1,
      )

  named_walked : (x : List ℕ) (b n room : ℕ) (ws : List Wanted) (us : List Token) → is_free x ≡ true → ends_term us ≡ true → b ≤ 16 → Clean (word x ∷ us) (at k vs ls b n (wanted.Term room ∷ ws))
      → Walked k ds vs ls b n room ws (named x) us
  named_walked x b n room ws us free ends few c =
      let s = begun k vs ls b n (wanted.Term room ∷ ws) ws (word x) us (role.ReadsVariable room) refl refl refl (reads_variable room ws x (first us) free (no_bracket_next us ends)) c
      in (
        record {
          names = is_variable k vs x s.0.unknown s.0.wrong;
          depth = some_room room s.0.deep;
          nesting = omega (arith, few);
        },
        s.1,
      )

  -- an expression in brackets, of which the first has been read
  inside : (m : ℕ) (e : Expression) (b n room : ℕ) (ws : List Wanted) (us : List Token) → opens (mark m) ≡ false → closes (mark m) ≡ true
      → ((next : Option Token) → read (wanted.MoreTerms room ∷ wanted.Mark m ∷ ws) (mark m) next ≡ Some (sense role.Plain false ws))
      → Walked k ds vs ls (b + 1) n room (wanted.MoreTerms room ∷ wanted.Mark m ∷ ws) e (mark m ∷ us)
      → RightAt ds vs (b + 1) room e × Clean us (at k vs ls b (n + parts e) ws)
  inside m e b n room ws us no_open is_close reads w = (w.0, close_bracket k vs ls b (n + parts e) (wanted.MoreTerms room ∷ wanted.Mark m ∷ ws) ws (mark m) us no_open is_close (reads (first us)) w.1)

  walk : (e : Expression) → is_expression e ≡ true → (b n room : ℕ) (ws : List Wanted) (us : List Token) → Fits e room ws → ends_term us ≡ true → b ≤ 16 → Clean (expression e ++ us) (at k vs ls b n (wanted.Term room ∷ ws))
      → Walked k ds vs ls b n room ws e us
  walk (num v) g b n room ws us fits ends few c = num_walked v b n room ws us few c
  walk (named x) g b n room ws us fits ends few c = named_walked x b n room ws us g ends few c
  walk (item x i) g b n room ws us fits ends few c =
      let gs = and_parts (is_free x) (is_expression i) g
      in let whole = subst (λ ts. Clean (word x ∷ mark (byte "[") ∷ ts) (at k vs ls b n (wanted.Term room ∷ ws))) (append_assoc (expression i) (mark (byte "]") ∷ []) us) c
      in let s = begun k vs ls b n (wanted.Term room ∷ ws) (wanted.Mark (byte "[") ∷ wanted.Term room ∷ wanted.MoreTerms room ∷ wanted.Mark (byte "]") ∷ ws) (word x) (mark (byte "[") ∷ ended i (byte "]") us) role.ReadsItem refl refl refl (reads_item room ws x gs.0) whole
      in let o = open_bracket k vs ls b (n + 1) (wanted.Mark (byte "[") ∷ wanted.Term room ∷ wanted.MoreTerms room ∷ wanted.Mark (byte "]") ∷ ws) (wanted.Term room ∷ wanted.MoreTerms room ∷ wanted.Mark (byte "]") ∷ ws) (mark (byte "[")) (ended i (byte "]") us) false refl refl refl s.1
      in let w = inside (byte "]") i b (n + 1 + 0) room ws us refl refl (λ next. refl) (walk i gs.1 (b + 1) (n + 1 + 0) room (wanted.MoreTerms room ∷ wanted.Mark (byte "]") ∷ ws) (mark (byte "]") ∷ us) (inr (wanted.Mark (byte "]") ∷ ws, refl)) refl o.0 o.1)
      in let deep = w.0.nesting
      in (
        record {
          names = (is_item k ds vs x declares s.0.unknown s.0.wrong, w.0.names);
          depth = w.0.depth;
          nesting = omega (arith, deep);
        },
        counted k vs ls b b _ (n + (1 + parts i)) ws us refl (omega arith) w.1,
      )
  walk (group i) g b n room ws us fits ends few c =
      let whole = subst (λ ts. Clean (mark (byte "(") ∷ ts) (at k vs ls b n (wanted.Term room ∷ ws))) (append_assoc (expression i) (mark (byte ")") ∷ []) us) c
      in let o = open_bracket k vs ls b n (wanted.Term room ∷ ws) (wanted.Term room ∷ wanted.MoreTerms room ∷ wanted.Mark (byte ")") ∷ ws) (mark (byte "(")) (ended i (byte ")") us) true refl refl refl whole
      in let w = inside (byte ")") i b (n + 1) room ws us refl refl (λ next. refl) (walk i g (b + 1) (n + 1) room (wanted.MoreTerms room ∷ wanted.Mark (byte ")") ∷ ws) (mark (byte ")") ∷ us) (inr (wanted.Mark (byte ")") ∷ ws, refl)) refl o.0 o.1)
      in let deep = w.0.nesting
      in (record { names = w.0.names; depth = w.0.depth; nesting = omega (arith, deep) }, counted k vs ls b b _ (n + (1 + parts i)) ws us refl (omega arith) w.1)
  walk (binary o l r) g b n room ws us (inl term) ends few c = absurd (cc term)
  walk (binary o l r) g b n room ws us (inr (rest, is)) ends few c =
      let gs = three_parts (is_expression l) (is_term r) (is_expression r) g
      in let whole = subst (λ ts. Clean ts (at k vs ls b n (wanted.Term room ∷ ws))) (append_assoc (expression l) (operator o ∷ expression r) us) c
      in let left = walk l gs.0 b n room ws (operator o ∷ (expression r ++ us)) (inr (rest, is)) (ap not (operator_is_no_bracket o)) few whole
      in let behind_left = subst (λ vs'. Clean (operator o ∷ (expression r ++ us)) (at k vs ls b (n + parts l) vs')) is left.1
      in let quiet_operator = operator_opens_nothing o
      in let next = keyword k vs ls b (n + parts l) (wanted.MoreTerms room ∷ rest) (wanted.Term (room - 1) ∷ wanted.MoreTerms room ∷ rest) (operator o) (expression r ++ us) quiet_operator.0 quiet_operator.1 (reads_operator room rest o (first (expression r ++ us))) behind_left
      in let right = walk r gs.2 b (n + parts l + 1) (room - 1) (wanted.MoreTerms room ∷ rest) us (inl gs.1) ends few next
      in (joined o l r b room left.0 right.0, subst (λ vs'. Clean us (at k vs ls b (n + (parts l + 1 + parts r)) vs')) (sym is) (counted k vs ls b b _ (n + (parts l + 1 + parts r)) (wanted.MoreTerms room ∷ rest) us refl (omega arith) right.1))
    where
      joined : (o : Operator) (l r : Expression) (b room : ℕ) → RightAt ds vs b room l → RightAt ds vs b (room - 1) r → RightAt ds vs b room (binary o l r)
      joined o l r b room x y =
          let p = x.depth
          in let q = y.depth
          in let some = some_depth r
          in let u = x.nesting
          in let v = y.nesting
          in record { names = (x.names, y.names); depth = omega (arith, p, q, some); nesting = omega (arith, u, v) }

  -- an outermost expression, with the mark behind it
  pub value_walked : (e : Expression) (m : ℕ) (b n : ℕ) (ws : List Wanted) (us : List Token) → is_expression e ≡ true → opens (mark m) ≡ false → closes (mark m) ≡ false → ends_term (mark m ∷ us) ≡ true
      → ((next : Option Token) → read (wanted.MoreTerms deepest ∷ wanted.Mark m ∷ ws) (mark m) next ≡ Some (sense role.Plain false ws))
      → b ≤ 16 → Clean (ended e m us) (at k vs ls b n (wanted.Term deepest ∷ wanted.MoreTerms deepest ∷ wanted.Mark m ∷ ws))
      → IsRight ds vs e × (b + nesting e ≤ 16) × Clean us (at k vs ls b (n + parts e) ws)
  value_walked e m b n ws us g no_open no_close ends reads few c =
      let w = walk e g b n deepest (wanted.MoreTerms deepest ∷ wanted.Mark m ∷ ws) (mark m ∷ us) (inr (wanted.Mark m ∷ ws, refl)) ends few c
      in (record { names = w.0.names; depth = w.0.depth }, w.0.nesting, plain k vs ls b (n + parts e) (wanted.MoreTerms deepest ∷ wanted.Mark m ∷ ws) ws (mark m) us no_open no_close (reads (first us)) w.1)

  -- an index in brackets
  pub index_walked : (i : Expression) (b n : ℕ) (ws : List Wanted) (us : List Token) → is_expression i ≡ true
      → Clean (mark (byte "[") ∷ ended i (byte "]") us) (at k vs ls b n (wanted.Mark (byte "[") ∷ wanted.Term deepest ∷ wanted.MoreTerms deepest ∷ wanted.Mark (byte "]") ∷ ws))
      → IsRight ds vs i × (b + (1 + nesting i) ≤ 16) × Clean us (at k vs ls b (n + parts i) ws)
  index_walked i b n ws us g c =
      let o = open_bracket k vs ls b n (wanted.Mark (byte "[") ∷ wanted.Term deepest ∷ wanted.MoreTerms deepest ∷ wanted.Mark (byte "]") ∷ ws) (wanted.Term deepest ∷ wanted.MoreTerms deepest ∷ wanted.Mark (byte "]") ∷ ws) (mark (byte "[")) (ended i (byte "]") us) false refl refl refl c
      in let w = inside (byte "]") i b (n + 0) deepest ws us refl refl (λ next. refl) (walk i g (b + 1) (n + 0) deepest (wanted.MoreTerms deepest ∷ wanted.Mark (byte "]") ∷ ws) (mark (byte "]") ∷ us) (inr (wanted.Mark (byte "]") ∷ ws, refl)) refl o.0 o.1)
      in let deep = w.0.nesting
      in (record { names = w.0.names; depth = w.0.depth }, omega (arith, deep), counted k vs ls b b _ (n + parts i) ws us refl (omega arith) w.1)

-- ---- what is assigned, where it is an expression

pub reads_value : (t : Token) (next : Option Token) (ws : List Wanted) → is_word (codes "dot") t ≡ false → read (wanted.OneWord ∷ ws) t next ≡ read (wanted.Term deepest ∷ wanted.MoreTerms deepest ∷ wanted.Mark (byte ";") ∷ ws) t next
reads_value t next ws h = ap (λ (b : Bool). option_or (before (if b then dotted else before (of_term deepest t next) (wanted.MoreTerms deepest ∷ ending)) ws) None) h ∙ ap (λ o. option_or o None) (sym (before_before (of_term deepest t next) (wanted.MoreTerms deepest ∷ ending) ws))
  where
    dotted : Option Reading
    dotted = one_word (word (codes "dot")) next

pub value_alike : (k : Known) (vs ls : List (List ℕ)) (b n : ℕ) (ws : List Wanted) (e : Expression) (us : List Token) → is_expression e ≡ true → Clean (expression e ++ us) (at k vs ls b n (wanted.OneWord ∷ ws))
    → Clean (expression e ++ us) (at k vs ls b n (wanted.Term deepest ∷ wanted.MoreTerms deepest ∷ wanted.Mark (byte ";") ∷ ws))
value_alike k vs ls b n ws e us g c =
    alike (at k vs ls b n []) (wanted.OneWord ∷ ws) (wanted.Term deepest ∷ wanted.MoreTerms deepest ∷ wanted.Mark (byte ";") ∷ ws) (expression e ++ us) (λ e. e)
    (λ t rest is. reads_value t (first rest) ws (ap (begins_with_word (codes "dot")) (sym is) ∙ first_is_no_word (codes "dot") e us refl g)) c
