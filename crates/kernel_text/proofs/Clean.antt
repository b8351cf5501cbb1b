-- Tokens without a fault, and the limits that they keep.
use Rattle.std.proofs.Common.{◌≡◌, ℕ, zero, suc, ◌+◌, ◌≤◌, Bool, true, false, not, ◌&&◌, ◌||◌, nat_lt, if◌then◌else◌, List, [], ◌∷◌, ◌++◌, length, map, Option, Some, None, option_map, find, refl, sym, subst, ap, ◌∙◌, arith, length-append}
use Rattle.std.specs.Option.{option_or}
use Rattle.std.specs.Str.{bytes_eq}
use Rattle.std.proofs.lemmas.Bool.{ltb-true, ltb-false, or_parts, or_from, not-false, false_from_ne_true}
use Rattle.std.proofs.lemmas.List.{map-append}
use Rattle.std.proofs.lemmas.List.Folds.{list_any-append}
use Rattle.std.proofs.lemmas.Slice.Eq.{bytes_eq-Decides}
use Rattle.kernel_text.specs.declared.faults.KernelKind.{KernelKind}
use Rattle.kernel_text.specs.declared.faults.KernelKind.TheVariants as kind
use Rattle.kernel_text.specs.declared.places.Place.{Place}
use Rattle.kernel_text.specs.declared.senses.Role.{Role}
use Rattle.kernel_text.specs.declared.senses.Role.TheVariants as role
use Rattle.kernel_text.specs.declared.senses.Wanted.{Wanted}
use Rattle.kernel_text.specs.Tokens.{Token, Placed, text_of, value_of}
use Rattle.kernel_text.specs.Characters.{kind_of_characters, character_fault, first_character_fault, fault_at}
use Rattle.kernel_text.specs.Readings.{Reading, read, may_end}
use Rattle.kernel_text.specs.Known.{Known, kind_of, is_in, sets, count_of, known_after, with_name, words_after, declared_after}
use Rattle.kernel_text.specs.Faults.{first_token_fault, fault_of_token, behind_token, next_of, kind_of_trials, trials, is_too_nested, is_declared, is_double_name, is_unknown, is_wrong_kind, is_loop_variable, is_one_variable_too_many, is_bad_size, is_one_value_too_many, has_too_many_words, is_too_deep, is_too_long}
use Rattle.kernel_text.specs.Sound.{AreDistinctNames, is_among}
use Rattle.kernel_text.specs.Built.{first}
use Rattle.kernel_text.proofs.Whole.{tokens_at, next_is_first}

-- a token that no kind applies to
pub record Passed (k : Known) (r : Role) (begins : Bool) (t : Token) : Type 0 where
  pub character : kind_of_characters t ≡ None
  pub nested : is_too_nested k.brackets t ≡ false
  pub double : is_double_name r (kind_of k.declared (text_of t)) ≡ false
  pub unknown : is_unknown r (kind_of k.declared (text_of t)) (is_in k.variables (text_of t)) ≡ false
  pub wrong : is_wrong_kind r (kind_of k.declared (text_of t)) (is_in k.variables (text_of t)) ≡ false
  pub loop : is_loop_variable r k.loops (text_of t) ≡ false
  pub many : is_one_variable_too_many r k.variables (text_of t) ≡ false
  pub size : is_bad_size r (value_of t) ≡ false
  pub values : is_one_value_too_many r k.values k.size ≡ false
  pub words : has_too_many_words r k.words (value_of t) ≡ false
  pub deep : is_too_deep r ≡ false
  pub long : is_too_long k.begun begins ≡ false

-- what is known keeps the limits
pub record Limits (k : Known) : Type 0 where
  pub variables : length k.variables ≤ 8
  pub words : k.words ≤ 32768
  pub begun : k.begun ≤ 4000
  pub names : AreDistinctNames (map (λ p. p.0) k.declared)

-- the limits are kept, and the text may end
pub record Ended (k : Known) : Type 0 where
  pub limits : Limits k
  pub finished : may_end k.wanted ≡ true

-- what is known, but for what is wanted
abbrev pub aside : Known → Known
aside k = record k { wanted = [] }

unfoldable pub CleanBy : Known → Token → (Known → Type 0) → Option Reading → Type 0
CleanBy k t later None = ⊥
CleanBy k t later (Some r) = Passed k r.role r.begins t × later (known_after k r t)

-- none of these tokens is at fault, and behind them the limits are kept and the text may end
unfoldable pub Clean : List Token → Known → Type 0
Clean [] k = Ended k
Clean (t ∷ ts) k = CleanBy (aside k) t (Clean ts) (read k.wanted t (first ts))

pub at_end : (k : Known) → Clean [] k → Limits k
unfolding Clean
at_end k c = c.limits

pub step : (k : Known) (t : Token) (ts : List Token) (r : Reading) → read k.wanted t (first ts) ≡ Some r → Clean (t ∷ ts) k → Passed (aside k) r.role r.begins t × Clean ts (known_after k r t)
unfolding Clean CleanBy
step k t ts r e c = subst (CleanBy (aside k) t (Clean ts)) e c

-- what is read alike is clean alike
read_alike : (k : Known) (ws us : List Wanted) (t : Token) (ts : List Token) → read ws t (first ts) ≡ read us t (first ts) → Clean (t ∷ ts) (record k { wanted = ws }) → Clean (t ∷ ts) (record k { wanted = us })
unfolding Clean
read_alike k ws us t ts e c = subst (CleanBy (aside k) t (Clean ts)) e c

pub alike : (k : Known) (ws us : List Wanted) (ts : List Token) → (may_end ws ≡ true → may_end us ≡ true) → ((t : Token) (rest : List Token) → ts ≡ t ∷ rest → read ws t (first rest) ≡ read us t (first rest))
    → Clean ts (record k { wanted = ws }) → Clean ts (record k { wanted = us })
unfolding Clean
alike k ws us [] ends same c = record { limits = record { variables = c.limits.variables; words = c.limits.words; begun = c.limits.begun; names = c.limits.names }; finished = ends c.finished }
alike k ws us (t ∷ ts) ends same c = read_alike k ws us t ts (same t ts refl) c

-- ---- the limits are kept

few_kept : (s : Bool) (vs : List (List ℕ)) (x : List ℕ) → (s && not (is_in vs x) && not (nat_lt (length vs) 8)) ≡ false → length vs ≤ 8 → length (if s then with_name vs x else vs) ≤ 8
few_kept false vs x e h = h
few_kept true vs x e h = by_known (is_in vs x) e
  where
    by_known : (b : Bool) → (not b && not (nat_lt (length vs) 8)) ≡ false → length (if b then vs else vs ++ x ∷ []) ≤ 8
    by_known true e = h
    by_known false e = let k = ltb-true (length vs) 8 (not-false (nat_lt (length vs) 8) e) in simp length-append (omega (arith, k))

words_kept : (r : Role) (words n : ℕ) → has_too_many_words r words n ≡ false → words ≤ 32768 → words_after words r n ≤ 32768
words_kept role.Sizes words n e h = ltb-false 32768 (words + n) e
words_kept _ words n e h = h

-- a name is known as declared where it is among the declared names
pub declared_among : (declared : List (List ℕ × Bool)) (x : List ℕ) → is_declared (kind_of declared x) ≡ is_among (map (λ p. p.0) declared) x
declared_among [] x = refl
declared_among (d ∷ ds) x = by_first (bytes_eq x d.0) (declared_among ds x)
  where
    by_first : (b : Bool) → is_declared (kind_of ds x) ≡ is_among (map (λ p. p.0) ds) x → is_declared (if b then Some d.1 else kind_of ds x) ≡ (b || is_among (map (λ p. p.0) ds) x)
    by_first true e = refl
    by_first false e = e

pub other_way : (x y : List ℕ) → bytes_eq x y ≡ false → bytes_eq y x ≡ false
other_way x y e = false_from_ne_true (bytes_eq y x) (λ h. contrary (sym e ∙ (bytes_eq-Decides x y).1 (sym ((bytes_eq-Decides y x).0 h))))
  where
    contrary : false ≡ true → ⊥
    contrary k = cc k

distinct_more : (names : List (List ℕ)) (x : List ℕ) → AreDistinctNames names → is_among names x ≡ false → AreDistinctNames (names ++ x ∷ [])
distinct_more [] x d e = (refl, tt)
distinct_more (y ∷ ys) x d e =
    let parts = or_parts (bytes_eq x y) (is_among ys x) e
    in let apart = other_way x y parts.0
    in let before = not_true (is_among ys y) d.0
    in (ap not (list_any-append (bytes_eq y) ys (x ∷ []) ∙ or_from (is_among ys y) (bytes_eq y x || false) before (or_from (bytes_eq y x) false apart refl)), distinct_more ys x d.1 parts.1)
  where
    not_true : (b : Bool) → not b ≡ true → b ≡ false
    not_true true h = absurd (cc h)
    not_true false h = refl

names_kept : (r : Role) (declared : List (List ℕ × Bool)) (x : List ℕ) → is_double_name r (kind_of declared x) ≡ false → AreDistinctNames (map (λ p. p.0) declared) → AreDistinctNames (map (λ p. p.0) (declared_after declared r x))
names_kept (role.Declares array) declared x e d = subst AreDistinctNames (sym (map-append (λ p. p.0) declared ((x, array) ∷ []))) (distinct_more (map (λ p. p.0) declared) x d (sym (declared_among declared x) ∙ e))
names_kept _ declared x e d = d

limits_kept : (k : Known) (r : Reading) (t : Token) → Passed (aside k) r.role r.begins t → Limits k → Limits (known_after k r t)
limits_kept k r t p l =
    record {
      variables = few_kept (sets r.role) k.variables (text_of t) p.many l.variables;
      words = words_kept r.role k.words (value_of t) p.words l.words;
      begun = ltb-false 4000 (k.begun + count_of r.begins) p.long;
      names = names_kept r.role k.declared (text_of t) p.double l.names;
    }

-- ---- tokens without a fault are clean

-- whether the kind at this place of the list applies
abbrev applies : ℕ → List (KernelKind × Bool) → Bool
applies i [] = false
applies zero (x ∷ xs) = x.1
applies (suc i) (x ∷ xs) = applies i xs

none_applies : (xs : List (KernelKind × Bool)) → kind_of_trials xs ≡ None → (i : ℕ) → applies i xs ≡ false
none_applies [] e i = refl
none_applies (x ∷ xs) e i = by_first x.1 e i (none_applies xs)
  where
    by_first : (b : Bool) → option_map (λ (trial : KernelKind × Bool). trial.0) (if b then Some x else find (λ trial. trial.1) xs) ≡ None → (i : ℕ) → (kind_of_trials xs ≡ None → (i : ℕ) → applies i xs ≡ false) → applies i ((x.0, b) ∷ xs) ≡ false
    by_first true e i more = absurd (cc e)
    by_first false e zero more = refl
    by_first false e (suc i) more = more e i

passed : (k : Known) (r : Reading) (t : Token) → kind_of_characters t ≡ None → kind_of_trials (trials k r t) ≡ None → Passed (aside k) r.role r.begins t
passed k r t character e =
    let none = none_applies (trials k r t) e
    in record {
      character = character;
      nested = none 0;
      double = none 1;
      unknown = none 2;
      wrong = none 3;
      loop = none 4;
      many = none 5;
      size = none 6;
      values = none 7;
      words = none 8;
      deep = none 9;
      long = none 10;
    }

none_of : {A B : Type 0} (f : A → B) (o : Option A) → option_map f o ≡ None → o ≡ None
none_of f None e = refl
none_of f (Some x) e = absurd (cc e)

neither : {A : Type 0} (a b : Option A) → option_or a b ≡ None → (a ≡ None) × (b ≡ None)
neither None b e = (refl, e)
neither (Some x) b e = absurd (cc e)

pub faultless_is_clean : (end : Place) (ts : List Placed) (k : Known) → first_character_fault ts ≡ None → first_token_fault end ts k ≡ None → Limits k → Clean (tokens_at ts) k
unfolding Clean CleanBy
faultless_is_clean end [] k characters e l = record { limits = l; finished = by_end (may_end k.wanted) e }
  where
    by_end : (b : Bool) → (if b then None else Some (fault_at end kind.Syntax)) ≡ None → b ≡ true
    by_end true h = refl
    by_end false h = absurd (cc h)
faultless_is_clean end (t ∷ ts) k characters e l =
    let c = neither (character_fault t) (first_character_fault ts) characters
    in subst (λ o. CleanBy (aside k) t.token (Clean (tokens_at ts)) (read k.wanted t.token o)) (next_is_first ts)
    (by_reading (read k.wanted t.token (next_of ts)) e (none_of (fault_at t.place) (kind_of_characters t.token) c.0) (λ j. faultless_is_clean end ts j c.1))
  where
    by_reading : (r : Option Reading) → behind_token k t (first_token_fault end ts) r ≡ None → kind_of_characters t.token ≡ None
        → ((j : Known) → first_token_fault end ts j ≡ None → Limits j → Clean (tokens_at ts) j) → CleanBy (aside k) t.token (Clean (tokens_at ts)) r
    by_reading None e character more = absurd (cc e)
    by_reading (Some r) e character more =
        let both = neither (fault_of_token k t r) (first_token_fault end ts (known_after k r t.token)) e
        in let p = passed k r t.token character (none_of (fault_at t.place) (kind_of_trials (trials k r t.token)) both.0)
        in (p, more (known_after k r t.token) both.1 (limits_kept k r t.token p l))
