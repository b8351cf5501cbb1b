-- The way back over one token: where the token is right and those behind it are clean, it is clean with them.
use Rattle.std.proofs.Common.{◌≡◌, ℕ, ◌+◌, ◌-◌, ◌<◌, ◌≤◌, Bool, true, false, not, ◌&&◌, ◌||◌, nat_lt, if◌then◌else◌, List, [], ◌∷◌, ◌++◌, length, map, Option, Some, None, ◌⊎◌, inl, inr, refl, sym, subst, ap, ◌∙◌, arith, length-append}
use Rattle.std.specs.Str.{byte, bytes_eq}
use Rattle.std.proofs.lemmas.Bool.{lt-ltb, le-ltb, ne_eqb, not-true, not_from_true, and_left, and_right, or_parts, or_from, or_cases, or_right, both_ways, false_from_ne_true}
use Rattle.std.proofs.lemmas.List.{map-append}
use Rattle.std.proofs.lemmas.List.Folds.{list_any-append}
use Rattle.std.proofs.lemmas.Slice.Eq.{bytes_eq-Decides}
use Rattle.kernel_text.specs.declared.senses.Role.{Role}
use Rattle.kernel_text.specs.declared.senses.Role.TheVariants as role
use Rattle.kernel_text.specs.declared.senses.Wanted.{Wanted}
use Rattle.kernel_text.specs.Tokens.{Token, word, mark, text_of, value_of}
use Rattle.kernel_text.specs.Trees.{Declaration, table, array}
use Rattle.kernel_text.specs.Characters.{kind_of_characters}
use Rattle.kernel_text.specs.Readings.{Reading, read}
use Rattle.kernel_text.specs.Known.{Known, kind_of, is_in, sets, opens, closes, count_of, known_after, with_name, words_after, declared_after}
use Rattle.kernel_text.specs.Faults.{is_too_nested, is_declared, is_array, is_table, is_double_name, is_unknown, is_wrong_kind, is_loop_variable, is_bad_size, is_one_value_too_many, has_too_many_words, is_too_deep}
use Rattle.kernel_text.specs.Sound.{AreDistinctNames, Among, Missing, is_among, names_in, arrays_in, tables_in, with_variable, CanSet}
use Rattle.kernel_text.specs.Built.{first}
use Rattle.kernel_text.proofs.Clean.{Passed, Limits, CleanBy, Clean, aside, declared_among, other_way}
use Rattle.kernel_text.proofs.Walking.{at, sense, is_quiet, quiet_after, counted, entry, Declares, declared_is, without_last}

-- ---- where the limits are kept behind a token, they are kept before it, and it does not break them

few_before : (s : Bool) (vs : List (List ℕ)) (x : List ℕ) → length (if s then with_name vs x else vs) ≤ 8
    → (length vs ≤ 8) × ((s && not (is_in vs x) && not (nat_lt (length vs) 8)) ≡ false)
few_before false vs x h = (h, refl)
few_before true vs x h = by_known (is_in vs x) h
  where
    by_known : (b : Bool) → length (if b then vs else vs ++ x ∷ []) ≤ 8 → (length vs ≤ 8) × ((not b && not (nat_lt (length vs) 8)) ≡ false)
    by_known true h = (h, refl)
    by_known false h =
        let room : length vs < 8 = omega (arith, h, length-append vs (x ∷ []))
        in (omega (arith, room), not_from_true (nat_lt (length vs) 8) (lt-ltb (length vs) 8 room))

words_before : (r : Role) (words n : ℕ) → words_after words r n ≤ 32768 → (words ≤ 32768) × (has_too_many_words r words n ≡ false)
words_before role.Sizes words n h = (omega (arith, h), le-ltb 32768 (words + n) h)
words_before _ words n h = (h, refl)

fewer_distinct : (names : List (List ℕ)) (x : List ℕ) → AreDistinctNames (names ++ x ∷ []) → AreDistinctNames names × (is_among names x ≡ false)
fewer_distinct [] x d = (tt, refl)
fewer_distinct (y ∷ ys) x d =
    let apart = or_parts (is_among ys y) (bytes_eq y x || false) (sym (list_any-append (bytes_eq y) ys (x ∷ [])) ∙ not-true (is_among (ys ++ x ∷ []) y) d.0)
    in let others = fewer_distinct ys x d.1
    in ((ap not apart.0, others.0), or_from (bytes_eq x y) (is_among ys x) (other_way y x (or_parts (bytes_eq y x) false apart.1).0) others.1)

names_before : (r : Role) (declared : List (List ℕ × Bool)) (x : List ℕ) → AreDistinctNames (map (λ p. p.0) (declared_after declared r x))
    → AreDistinctNames (map (λ p. p.0) declared) × (is_double_name r (kind_of declared x) ≡ false)
names_before (role.Declares kind) declared x d =
    let parts = fewer_distinct (map (λ p. p.0) declared) x (subst AreDistinctNames (map-append (λ p. p.0) declared ((x, kind) ∷ [])) d)
    in (parts.0, declared_among declared x ∙ parts.1)
names_before _ declared x d = (d, refl)

limits_before : (k : Known) (r : Reading) (t : Token) → Limits (known_after k r t) → Limits k
limits_before k r t l =
    let begun = l.begun
    in record {
      variables = (few_before (sets r.role) k.variables (text_of t) l.variables).0;
      words = (words_before r.role k.words (value_of t) l.words).0;
      begun = omega (arith, begun);
      names = (names_before r.role k.declared (text_of t) l.names).0;
    }

-- clean tokens begin where the limits are kept
limits_of : (ts : List Token) (k : Known) → Clean ts k → Limits k
unfolding Clean CleanBy
limits_of [] k c = c.limits
limits_of (t ∷ ts) k c = by_reading (read k.wanted t (first ts)) c (limits_of ts)
  where
    by_reading : (o : Option Reading) → CleanBy (aside k) t (Clean ts) o → ((j : Known) → Clean ts j → Limits j) → Limits k
    by_reading None c more = absurd c
    by_reading (Some r) c more = limits_before k r t (more (known_after k r t) c.1)

-- ---- one token

-- none of the kinds applies that the limits behind the token do not rule out
pub record Fitting (k : Known) (r : Role) (t : Token) : Type 0 where
  pub character : kind_of_characters t ≡ None
  pub nested : is_too_nested k.brackets t ≡ false
  pub unknown : is_unknown r (kind_of k.declared (text_of t)) (is_in k.variables (text_of t)) ≡ false
  pub wrong : is_wrong_kind r (kind_of k.declared (text_of t)) (is_in k.variables (text_of t)) ≡ false
  pub loop : is_loop_variable r k.loops (text_of t) ≡ false
  pub size : is_bad_size r (value_of t) ≡ false
  pub values : is_one_value_too_many r k.values k.size ≡ false
  pub deep : is_too_deep r ≡ false

-- none of the kinds applies, where the limits are kept behind the token
passes : (k : Known) (r : Reading) (t : Token) → Fitting k r.role t → Limits (known_after k r t) → Passed (aside k) r.role r.begins t
passes k r t f l =
    record {
      character = f.character;
      nested = f.nested;
      double = (names_before r.role k.declared (text_of t) l.names).1;
      unknown = f.unknown;
      wrong = f.wrong;
      loop = f.loop;
      many = (few_before (sets r.role) k.variables (text_of t) l.variables).1;
      size = f.size;
      values = f.values;
      words = (words_before r.role k.words (value_of t) l.words).1;
      deep = f.deep;
      long = le-ltb 4000 (k.begun + count_of r.begins) l.begun;
    }

-- a token that is right, before clean tokens
pub back : (k : Known) (t : Token) (ts : List Token) (r : Reading) → read k.wanted t (first ts) ≡ Some r → Fitting k r.role t → Clean ts (known_after k r t) → Clean (t ∷ ts) k
unfolding Clean CleanBy
back k t ts r e f c = subst (CleanBy (aside k) t (Clean ts)) (sym e) (passes k r t f (limits_of ts (known_after k r t) c), c)

-- ---- tokens of statements

-- the same count of parts
pub counts : (k : Known) (vs ls : List (List ℕ)) (b n m : ℕ) (ws : List Wanted) (ts : List Token) → Clean ts (at k vs ls b n ws) → n ≡ m → Clean ts (at k vs ls b m ws)
counts k vs ls b n m ws ts c e = counted k vs ls b b n m ws ts refl e c

-- a token that is no bracket
pub quiet_back : (k : Known) (vs ls : List (List ℕ)) (b n m : ℕ) (ws us : List Wanted) (t : Token) (ts : List Token) (r : Role) (begins : Bool) → is_quiet r ≡ true → opens t ≡ false → closes t ≡ false → n + count_of begins ≡ m
    → read ws t (first ts) ≡ Some (sense r begins us) → Fitting (at k vs ls b n ws) r t → Clean ts (at k vs ls b m us) → Clean (t ∷ ts) (at k vs ls b n ws)
quiet_back k vs ls b n m ws us t ts r begins q no_open no_close e reads f c =
    back (at k vs ls b n ws) t ts (sense r begins us) reads f
    (subst (Clean ts) (sym (quiet_after k vs ls b n ws us t r begins q))
    (counted k vs ls b _ m _ us ts (sym (ap (λ x. b + count_of x - count_of (closes t)) no_open ∙ ap (λ x. b + 0 - count_of x) no_close ∙ omega arith)) (sym e) c))

pub plain_fits : (k : Known) (t : Token) → kind_of_characters t ≡ None → is_too_nested k.brackets t ≡ false → Fitting k role.Plain t
plain_fits k t character nested = record { character = character; nested = nested; unknown = refl; wrong = refl; loop = refl; size = refl; values = refl; deep = refl }

-- a keyword, an operator or a mark
pub plain_back : (k : Known) (vs ls : List (List ℕ)) (b n m : ℕ) (ws us : List Wanted) (t : Token) (ts : List Token) (begins : Bool) → kind_of_characters t ≡ None → opens t ≡ false → closes t ≡ false
    → read ws t (first ts) ≡ Some (sense role.Plain begins us) → Clean ts (at k vs ls b m us) → n + count_of begins ≡ m → Clean (t ∷ ts) (at k vs ls b n ws)
plain_back k vs ls b n m ws us t ts begins character no_open no_close reads c e =
    quiet_back k vs ls b n m ws us t ts role.Plain begins refl no_open no_close e reads (plain_fits (at k vs ls b n ws) t character (and_left (opens t) (not (nat_lt b 16)) no_open)) c

-- an opening bracket, where another may be open
pub open_back : (k : Known) (vs ls : List (List ℕ)) (b n m : ℕ) (ws us : List Wanted) (s : ℕ) (ts : List Token) (begins : Bool) → opens (mark s) ≡ true → closes (mark s) ≡ false → b + 1 ≤ 16
    → read ws (mark s) (first ts) ≡ Some (sense role.Plain begins us) → Clean ts (at k vs ls (b + 1) m us) → n + count_of begins ≡ m → Clean (mark s ∷ ts) (at k vs ls b n ws)
open_back k vs ls b n m ws us s ts begins is_open no_close room reads c e =
    back (at k vs ls b n ws) (mark s) ts (sense role.Plain begins us) reads (plain_fits (at k vs ls b n ws) (mark s) refl (and_right (opens (mark s)) (not (nat_lt b 16)) (not_from_true (nat_lt b 16) (lt-ltb b 16 (omega (arith, room))))))
    (counted k vs ls (b + 1) _ m _ us ts (sym (ap (λ x. b + count_of x - count_of (closes (mark s))) is_open ∙ ap (λ x. b + 1 - count_of x) no_close ∙ omega arith)) (sym e) c)

-- a closing bracket that ends no loop
pub close_back : (k : Known) (vs ls : List (List ℕ)) (b n : ℕ) (ws us : List Wanted) (s : ℕ) (ts : List Token) → opens (mark s) ≡ false → closes (mark s) ≡ true
    → read ws (mark s) (first ts) ≡ Some (sense role.Plain false us) → Clean ts (at k vs ls b n us) → Clean (mark s ∷ ts) (at k vs ls (b + 1) n ws)
close_back k vs ls b n ws us s ts no_open is_close reads c =
    back (at k vs ls (b + 1) n ws) (mark s) ts (sense role.Plain false us) reads (plain_fits (at k vs ls (b + 1) n ws) (mark s) refl (and_left (opens (mark s)) (not (nat_lt (b + 1) 16)) no_open))
    (counted k vs ls b _ n _ us ts (sym (ap (λ x. b + 1 + count_of x - count_of (closes (mark s))) no_open ∙ ap (λ x. b + 1 + 0 - count_of x) is_close ∙ omega arith)) (omega arith) c)

-- ---- names

-- a name: it has no fault as characters, and is no bracket
pub name_fits : (k : Known) (r : Role) (x : List ℕ) → is_unknown r (kind_of k.declared x) (is_in k.variables x) ≡ false → is_wrong_kind r (kind_of k.declared x) (is_in k.variables x) ≡ false → is_loop_variable r k.loops x ≡ false
    → is_bad_size r 0 ≡ false → is_one_value_too_many r k.values k.size ≡ false → is_too_deep r ≡ false → Fitting k r (word x)
name_fits k r x unknown wrong loop size values deep = record { character = refl; nested = refl; unknown = unknown; wrong = wrong; loop = loop; size = size; values = values; deep = deep }

-- a name that is declared is not declared again
twice : {A : Type 0} (names : List (List ℕ)) (x y : List ℕ) → Missing names y → Among names x → bytes_eq x y ≡ true → A
twice names x y missing among same = absurd (both_ways (is_among names y) (not-true (is_among names y) missing) (subst (Among names) ((bytes_eq-Decides x y).0 same) among))

-- arrays and tables have names that are declared, and are looked up as what they are
arrays_are_named : (ds : List Declaration) (x : List ℕ) → Among (arrays_in ds) x → Among (names_in ds) x
arrays_are_named [] x h = h
arrays_are_named (table name size values ∷ ds) x h = or_right (bytes_eq x name) (is_among (names_in ds) x) (arrays_are_named ds x h)
arrays_are_named (array name size ∷ ds) x h = by_first (bytes_eq x name) h (arrays_are_named ds x)
  where
    by_first : (b : Bool) → (b || is_among (arrays_in ds) x) ≡ true → (Among (arrays_in ds) x → Among (names_in ds) x) → (b || is_among (names_in ds) x) ≡ true
    by_first true h more = refl
    by_first false h more = more h

tables_are_named : (ds : List Declaration) (x : List ℕ) → Among (tables_in ds) x → Among (names_in ds) x
tables_are_named [] x h = h
tables_are_named (array name size ∷ ds) x h = or_right (bytes_eq x name) (is_among (names_in ds) x) (tables_are_named ds x h)
tables_are_named (table name size values ∷ ds) x h = by_first (bytes_eq x name) h (tables_are_named ds x)
  where
    by_first : (b : Bool) → (b || is_among (tables_in ds) x) ≡ true → (Among (tables_in ds) x → Among (names_in ds) x) → (b || is_among (names_in ds) x) ≡ true
    by_first true h more = refl
    by_first false h more = more h

array_back : (ds : List Declaration) (x : List ℕ) → AreDistinctNames (names_in ds) → Among (arrays_in ds) x → is_array (kind_of (map entry ds) x) ≡ true
array_back [] x d h = absurd (cc h)
array_back (table name size values ∷ ds) x d h = by_first (bytes_eq x name) refl (array_back ds x d.1 h)
  where
    by_first : (b : Bool) → bytes_eq x name ≡ b → is_array (kind_of (map entry ds) x) ≡ true → is_array (if b then Some false else kind_of (map entry ds) x) ≡ true
    by_first true same more = twice (names_in ds) x name d.0 (arrays_are_named ds x h) same
    by_first false same more = more
array_back (array name size ∷ ds) x d h = by_first (bytes_eq x name) h (array_back ds x d.1)
  where
    by_first : (b : Bool) → (b || is_among (arrays_in ds) x) ≡ true → (Among (arrays_in ds) x → is_array (kind_of (map entry ds) x) ≡ true) → is_array (if b then Some true else kind_of (map entry ds) x) ≡ true
    by_first true h more = refl
    by_first false h more = more h

table_back : (ds : List Declaration) (x : List ℕ) → AreDistinctNames (names_in ds) → Among (tables_in ds) x → is_table (kind_of (map entry ds) x) ≡ true
table_back [] x d h = absurd (cc h)
table_back (array name size ∷ ds) x d h = by_first (bytes_eq x name) refl (table_back ds x d.1 h)
  where
    by_first : (b : Bool) → bytes_eq x name ≡ b → is_table (kind_of (map entry ds) x) ≡ true → is_table (if b then Some true else kind_of (map entry ds) x) ≡ true
    by_first true same more = twice (names_in ds) x name d.0 (tables_are_named ds x h) same
    by_first false same more = more
table_back (table name size values ∷ ds) x d h = by_first (bytes_eq x name) h (table_back ds x d.1)
  where
    by_first : (b : Bool) → (b || is_among (tables_in ds) x) ≡ true → (Among (tables_in ds) x → is_table (kind_of (map entry ds) x) ≡ true) → is_table (if b then Some false else kind_of (map entry ds) x) ≡ true
    by_first true h more = refl
    by_first false h more = more h

-- no variable is declared
abbrev pub Apart : List Declaration → List (List ℕ) → Type 0
Apart ds vs = (x : List ℕ) → Among vs x → Missing (names_in ds) x

pub apart_more : (ds : List Declaration) (vs : List (List ℕ)) (x : List ℕ) → Apart ds vs → Missing (names_in ds) x → Apart ds (with_variable vs x)
apart_more ds vs x apart new = by_known (is_among vs x)
  where
    by_known : (b : Bool) → Apart ds (if b then vs else vs ++ x ∷ [])
    by_known true y h = apart y h
    by_known false y h = by_place (or_cases (is_among vs y) (bytes_eq y x || false) (sym (list_any-append (bytes_eq y) vs (x ∷ [])) ∙ h))
      where
        last : (b : Bool) → (b || false) ≡ true → b ≡ true
        last true e = refl
        last false e = e

        by_place : (Among vs y) ⊎ ((bytes_eq y x || false) ≡ true) → Missing (names_in ds) y
        by_place (inl old) = apart y old
        by_place (inr same) = subst (Missing (names_in ds)) (sym ((bytes_eq-Decides y x).0 (last (bytes_eq y x) same))) new

-- a name that is missing among the declared ones is not known as declared
undeclared : (k : Known) (ds : List Declaration) (x : List ℕ) → Declares k ds → Missing (names_in ds) x → is_declared (kind_of k.declared x) ≡ false
undeclared k ds x d h = ap (λ ns. is_declared (kind_of ns x)) d ∙ declared_is ds x ∙ not-true (is_among (names_in ds) x) h

-- ---- names, each with its role

-- a variable that is read
pub variable_fits : (k : Known) (ds : List Declaration) (x : List ℕ) (room : ℕ) → Declares k ds → Apart ds k.variables → Among k.variables x → 1 ≤ room → Fitting k (role.ReadsVariable room) (word x)
variable_fits k ds x room d apart h some =
    name_fits k (role.ReadsVariable room) x (and_right (not (is_declared (kind_of k.declared x))) (not (is_in k.variables x)) (not_from_true (is_in k.variables x) h)) (undeclared k ds x d (apart x h)) refl refl refl
    (ne_eqb room 0 (λ e. absurd (omega (arith, e, some))))

pub operand_fits : (k : Known) (ds : List Declaration) (x : List ℕ) → Declares k ds → Apart ds k.variables → Among k.variables x → Fitting k role.Passes (word x)
operand_fits k ds x d apart h =
    name_fits k role.Passes x (and_right (not (is_declared (kind_of k.declared x))) (not (is_in k.variables x)) (not_from_true (is_in k.variables x) h)) (undeclared k ds x d (apart x h)) refl refl refl refl

pub item_fits : (k : Known) (ds : List Declaration) (x : List ℕ) → Declares k ds → Apart ds k.variables → Among (names_in ds) x → Fitting k role.ReadsItem (word x)
item_fits k ds x d apart h =
    name_fits k role.ReadsItem x (and_left (not (is_declared (kind_of k.declared x))) (not (is_in k.variables x)) (not_from_true (is_declared (kind_of k.declared x)) (ap (λ ns. is_declared (kind_of ns x)) d ∙ declared_is ds x ∙ h)))
    (false_from_ne_true (is_in k.variables x) (λ e. both_ways (is_among (names_in ds) x) (not-true (is_among (names_in ds) x) (apart x e)) h)) refl refl refl refl

pub written_fits : (k : Known) (ds : List Declaration) (x : List ℕ) → Declares k ds → AreDistinctNames (names_in ds) → Among (arrays_in ds) x → Fitting k role.Writes (word x)
written_fits k ds x d distinct h = name_fits k role.Writes x refl (not_from_true (is_array (kind_of k.declared x)) (ap (λ ns. is_array (kind_of ns x)) d ∙ array_back ds x distinct h)) refl refl refl refl

pub looked_up_fits : (k : Known) (ds : List Declaration) (x : List ℕ) → Declares k ds → AreDistinctNames (names_in ds) → Among (tables_in ds) x → Fitting k role.LooksUp (word x)
looked_up_fits k ds x d distinct h = name_fits k role.LooksUp x refl (not_from_true (is_table (kind_of k.declared x)) (ap (λ ns. is_table (kind_of ns x)) d ∙ table_back ds x distinct h)) refl refl refl refl

-- ---- tokens that set a variable, and the end of a loop

pub set_back : (k : Known) (ds : List Declaration) (vs ls : List (List ℕ)) (b n m : ℕ) (ws us : List Wanted) (x : List ℕ) (ts : List Token) (begins : Bool) → Declares k ds → CanSet ds ls x
    → read ws (word x) (first ts) ≡ Some (sense role.Assigns begins us) → Clean ts (at k (with_variable vs x) ls b m us) → n + count_of begins ≡ m → Clean (word x ∷ ts) (at k vs ls b n ws)
set_back k ds vs ls b n m ws us x ts begins d can reads c e =
    back (at k vs ls b n ws) (word x) ts (sense role.Assigns begins us) reads (name_fits (at k vs ls b n ws) role.Assigns x refl (undeclared k ds x d can.undeclared) (not-true (is_in ls x) can.free) refl refl refl)
    (counted k (with_variable vs x) ls b _ m _ us ts (omega arith) (sym e) c)

pub count_back : (k : Known) (ds : List Declaration) (vs ls : List (List ℕ)) (b n : ℕ) (ws us : List Wanted) (x : List ℕ) (ts : List Token) → Declares k ds → CanSet ds ls x
    → read ws (word x) (first ts) ≡ Some (sense role.Counts false us) → Clean ts (at k (with_variable vs x) (ls ++ x ∷ []) b n us) → Clean (word x ∷ ts) (at k vs ls b n ws)
count_back k ds vs ls b n ws us x ts d can reads c =
    back (at k vs ls b n ws) (word x) ts (sense role.Counts false us) reads (name_fits (at k vs ls b n ws) role.Counts x refl (undeclared k ds x d can.undeclared) (not-true (is_in ls x) can.free) refl refl refl)
    (counted k (with_variable vs x) (ls ++ x ∷ []) b _ n _ us ts (omega arith) (omega arith) c)

pub leave_back : (k : Known) (vs ls : List (List ℕ)) (b n : ℕ) (ws us : List Wanted) (x : List ℕ) (ts : List Token)
    → read ws (mark (byte "}")) (first ts) ≡ Some (sense role.Leaves false us) → Clean ts (at k vs ls b n us) → Clean (mark (byte "}") ∷ ts) (at k vs (ls ++ x ∷ []) (b + 1) n ws)
leave_back k vs ls b n ws us x ts reads c =
    back (at k vs (ls ++ x ∷ []) (b + 1) n ws) (mark (byte "}")) ts (sense role.Leaves false us) reads
    (record { character = refl; nested = refl; unknown = refl; wrong = refl; loop = refl; size = refl; values = refl; deep = refl })
    (subst (λ l. Clean ts (at k vs l (b + 1 + 0 - 1) (n + 0) us)) (sym (without_last ls x)) (counted k vs ls b _ n _ us ts (omega arith) (omega arith) c))
