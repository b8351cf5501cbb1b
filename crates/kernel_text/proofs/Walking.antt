-- One token of a statement, where none is at fault: what it tells, and what is known behind it.
use Rattle.std.proofs.Common.{◌≡◌, ℕ, ◌+◌, ◌-◌, ◌≤◌, Bool, true, false, not, ◌&&◌, ◌||◌, nat_lt, List, [], ◌∷◌, ◌++◌, length, take, map, Some, if◌then◌else◌, refl, sym, subst, ap, ◌∙◌, arith, length-append}
use Rattle.std.specs.Str.{byte, bytes_eq}
use Rattle.std.proofs.lemmas.Bool.{ltb-true, not-false}
use Rattle.kernel_text.specs.declared.senses.Role.{Role}
use Rattle.kernel_text.specs.declared.senses.Role.TheVariants as role
use Rattle.kernel_text.specs.declared.senses.Wanted.{Wanted}
use Rattle.kernel_text.specs.Tokens.{Token, word, mark}
use Rattle.kernel_text.specs.Trees.{Declaration, table, array}
use Rattle.kernel_text.specs.Readings.{Reading, read}
use Rattle.kernel_text.specs.Known.{Known, kind_of, is_in, opens, closes, count_of, known_after}
use Rattle.kernel_text.specs.Faults.{is_declared, is_array, is_table}
use Rattle.kernel_text.specs.Sound.{Among, is_among, names_in, arrays_in, tables_in, with_variable, CanSet}
use Rattle.kernel_text.specs.Built.{first}
use Rattle.kernel_text.proofs.Clean.{Passed, Clean, aside, step}

-- what is known in the statements: their declarations stay
abbrev pub at : Known → List (List ℕ) → List (List ℕ) → ℕ → ℕ → List Wanted → Known
at k vs ls b n ws = record k { wanted = ws; variables = vs; loops = ls; brackets = b; begun = n }

abbrev pub sense : Role → Bool → List Wanted → Reading
sense r begins ws = record { role = r; begins = begins; wanted = ws }

-- roles that set no variable, leave no loop and declare nothing
abbrev pub is_quiet : Role → Bool
is_quiet role.Plain = true
is_quiet role.Turns = true
is_quiet role.Shifts = true
is_quiet role.Writes = true
is_quiet role.LooksUp = true
is_quiet role.Passes = true
is_quiet (role.ReadsNumber room) = true
is_quiet (role.ReadsVariable room) = true
is_quiet role.ReadsItem = true
is_quiet _ = false

pub quiet_after : (k : Known) (vs ls : List (List ℕ)) (b n : ℕ) (ws us : List Wanted) (t : Token) (r : Role) (begins : Bool) → is_quiet r ≡ true
    → known_after (at k vs ls b n ws) (sense r begins us) t ≡ at k vs ls (b + count_of (opens t) - count_of (closes t)) (n + count_of begins) us
quiet_after k vs ls b n ws us t role.Plain begins q = refl
quiet_after k vs ls b n ws us t role.Turns begins q = refl
quiet_after k vs ls b n ws us t role.Shifts begins q = refl
quiet_after k vs ls b n ws us t role.Writes begins q = refl
quiet_after k vs ls b n ws us t role.LooksUp begins q = refl
quiet_after k vs ls b n ws us t role.Passes begins q = refl
quiet_after k vs ls b n ws us t (role.ReadsNumber room) begins q = refl
quiet_after k vs ls b n ws us t (role.ReadsVariable room) begins q = refl
quiet_after k vs ls b n ws us t role.ReadsItem begins q = refl
quiet_after k vs ls b n ws us t _ begins q = absurd (cc q)

-- the same counts
pub counted : (k : Known) (vs ls : List (List ℕ)) (b c n m : ℕ) (ws : List Wanted) (ts : List Token) → b ≡ c → n ≡ m → Clean ts (at k vs ls b n ws) → Clean ts (at k vs ls c m ws)
counted k vs ls b c n m ws ts p q h = subst (Clean ts) (λ i. at k vs ls (p i) (q i) ws) h

pub quiet : (k : Known) (vs ls : List (List ℕ)) (b n : ℕ) (ws us : List Wanted) (t : Token) (ts : List Token) (r : Role) (begins : Bool) → is_quiet r ≡ true → read ws t (first ts) ≡ Some (sense r begins us)
    → Clean (t ∷ ts) (at k vs ls b n ws)
    → Passed (aside (at k vs ls b n ws)) r begins t × Clean ts (at k vs ls (b + count_of (opens t) - count_of (closes t)) (n + count_of begins) us)
quiet k vs ls b n ws us t ts r begins q e c =
    let s = step (at k vs ls b n ws) t ts (sense r begins us) e c
    in (s.0, subst (Clean ts) (quiet_after k vs ls b n ws us t r begins q) s.1)

-- a token of this role that is no bracket
pub silent : (k : Known) (vs ls : List (List ℕ)) (b n : ℕ) (ws us : List Wanted) (t : Token) (ts : List Token) (r : Role) → is_quiet r ≡ true → opens t ≡ false → closes t ≡ false
    → read ws t (first ts) ≡ Some (sense r false us) → Clean (t ∷ ts) (at k vs ls b n ws) → Passed (aside (at k vs ls b n ws)) r false t × Clean ts (at k vs ls b n us)
silent k vs ls b n ws us t ts r q no_open no_close e c =
    let s = quiet k vs ls b n ws us t ts r false q e c
    in (s.0, counted k vs ls _ b _ n us ts (ap (λ x. b + count_of x - count_of (closes t)) no_open ∙ ap (λ x. b + 0 - count_of x) no_close ∙ omega arith) (omega arith) s.1)

-- the same, where a part begins with it
pub begun : (k : Known) (vs ls : List (List ℕ)) (b n : ℕ) (ws us : List Wanted) (t : Token) (ts : List Token) (r : Role) → is_quiet r ≡ true → opens t ≡ false → closes t ≡ false
    → read ws t (first ts) ≡ Some (sense r true us) → Clean (t ∷ ts) (at k vs ls b n ws) → Passed (aside (at k vs ls b n ws)) r true t × Clean ts (at k vs ls b (n + 1) us)
begun k vs ls b n ws us t ts r q no_open no_close e c =
    let s = quiet k vs ls b n ws us t ts r true q e c
    in (s.0, counted k vs ls _ b _ (n + 1) us ts (ap (λ x. b + count_of x - count_of (closes t)) no_open ∙ ap (λ x. b + 0 - count_of x) no_close ∙ omega arith) refl s.1)

pub plain : (k : Known) (vs ls : List (List ℕ)) (b n : ℕ) (ws us : List Wanted) (t : Token) (ts : List Token) → opens t ≡ false → closes t ≡ false
    → read ws t (first ts) ≡ Some (sense role.Plain false us) → Clean (t ∷ ts) (at k vs ls b n ws) → Clean ts (at k vs ls b n us)
plain k vs ls b n ws us t ts no_open no_close e c = (silent k vs ls b n ws us t ts role.Plain refl no_open no_close e c).1

pub keyword : (k : Known) (vs ls : List (List ℕ)) (b n : ℕ) (ws us : List Wanted) (t : Token) (ts : List Token) → opens t ≡ false → closes t ≡ false
    → read ws t (first ts) ≡ Some (sense role.Plain true us) → Clean (t ∷ ts) (at k vs ls b n ws) → Clean ts (at k vs ls b (n + 1) us)
keyword k vs ls b n ws us t ts no_open no_close e c = (begun k vs ls b n ws us t ts role.Plain refl no_open no_close e c).1

-- at most 16 brackets are open
pub opened : (b : ℕ) (a : Bool) → a ≡ true → (a && not (nat_lt b 16)) ≡ false → b + 1 ≤ 16
opened b a is e = let k = ltb-true b 16 (not-false (nat_lt b 16) (ap (λ x. x && not (nat_lt b 16)) (sym is) ∙ e)) in omega (arith, k)

pub open_bracket : (k : Known) (vs ls : List (List ℕ)) (b n : ℕ) (ws us : List Wanted) (t : Token) (ts : List Token) (begins : Bool) → opens t ≡ true → closes t ≡ false
    → read ws t (first ts) ≡ Some (sense role.Plain begins us) → Clean (t ∷ ts) (at k vs ls b n ws) → (b + 1 ≤ 16) × Clean ts (at k vs ls (b + 1) (n + count_of begins) us)
open_bracket k vs ls b n ws us t ts begins is_open no_close e c =
    let s = quiet k vs ls b n ws us t ts role.Plain begins refl e c
    in (opened b (opens t) is_open s.0.nested, counted k vs ls _ (b + 1) _ (n + count_of begins) us ts (ap (λ x. b + count_of x - count_of (closes t)) is_open ∙ ap (λ x. b + 1 - count_of x) no_close ∙ omega arith) refl s.1)

pub close_bracket : (k : Known) (vs ls : List (List ℕ)) (b n : ℕ) (ws us : List Wanted) (t : Token) (ts : List Token) → opens t ≡ false → closes t ≡ true
    → read ws t (first ts) ≡ Some (sense role.Plain false us) → Clean (t ∷ ts) (at k vs ls (b + 1) n ws) → Clean ts (at k vs ls b n us)
close_bracket k vs ls b n ws us t ts no_open is_close e c =
    let s = quiet k vs ls (b + 1) n ws us t ts role.Plain false refl e c
    in counted k vs ls _ b _ n us ts (ap (λ x. b + 1 + count_of x - count_of (closes t)) no_open ∙ ap (λ x. b + 1 + 0 - count_of x) is_close ∙ omega arith) (omega arith) s.1

-- ---- names

-- a declaration, as names are looked up in it
abbrev pub entry : Declaration → List ℕ × Bool
entry (table name size values) = (name, false)
entry (array name size) = (name, true)

pub declared_is : (ds : List Declaration) (x : List ℕ) → is_declared (kind_of (map entry ds) x) ≡ is_among (names_in ds) x
declared_is [] x = refl
declared_is (table name size values ∷ ds) x = by_first (bytes_eq x name) (declared_is ds x)
  where
    by_first : (b : Bool) → is_declared (kind_of (map entry ds) x) ≡ is_among (names_in ds) x → is_declared (if b then Some false else kind_of (map entry ds) x) ≡ (b || is_among (names_in ds) x)
    by_first true e = refl
    by_first false e = e
declared_is (array name size ∷ ds) x = by_first (bytes_eq x name) (declared_is ds x)
  where
    by_first : (b : Bool) → is_declared (kind_of (map entry ds) x) ≡ is_among (names_in ds) x → is_declared (if b then Some true else kind_of (map entry ds) x) ≡ (b || is_among (names_in ds) x)
    by_first true e = refl
    by_first false e = e

array_is : (ds : List Declaration) (x : List ℕ) → is_array (kind_of (map entry ds) x) ≡ true → Among (arrays_in ds) x
array_is [] x h = absurd (cc h)
array_is (table name size values ∷ ds) x h = by_first (bytes_eq x name) h (array_is ds x)
  where
    by_first : (b : Bool) → is_array (if b then Some false else kind_of (map entry ds) x) ≡ true → (is_array (kind_of (map entry ds) x) ≡ true → Among (arrays_in ds) x) → Among (arrays_in ds) x
    by_first true e more = absurd (cc e)
    by_first false e more = more e
array_is (array name size ∷ ds) x h = by_first (bytes_eq x name) h (array_is ds x)
  where
    by_first : (b : Bool) → is_array (if b then Some true else kind_of (map entry ds) x) ≡ true → (is_array (kind_of (map entry ds) x) ≡ true → Among (arrays_in ds) x) → (b || is_among (arrays_in ds) x) ≡ true
    by_first true e more = refl
    by_first false e more = more e

table_is : (ds : List Declaration) (x : List ℕ) → is_table (kind_of (map entry ds) x) ≡ true → Among (tables_in ds) x
table_is [] x h = absurd (cc h)
table_is (table name size values ∷ ds) x h = by_first (bytes_eq x name) h (table_is ds x)
  where
    by_first : (b : Bool) → is_table (if b then Some false else kind_of (map entry ds) x) ≡ true → (is_table (kind_of (map entry ds) x) ≡ true → Among (tables_in ds) x) → (b || is_among (tables_in ds) x) ≡ true
    by_first true e more = refl
    by_first false e more = more e
table_is (array name size ∷ ds) x h = by_first (bytes_eq x name) h (table_is ds x)
  where
    by_first : (b : Bool) → is_table (if b then Some true else kind_of (map entry ds) x) ≡ true → (is_table (kind_of (map entry ds) x) ≡ true → Among (tables_in ds) x) → Among (tables_in ds) x
    by_first true e more = absurd (cc e)
    by_first false e more = more e

-- these declarations are known
abbrev pub Declares : Known → List Declaration → Type 0
Declares k ds = k.declared ≡ map entry ds

pub is_written : (k : Known) (ds : List Declaration) (x : List ℕ) → Declares k ds → not (is_array (kind_of k.declared x)) ≡ false → Among (arrays_in ds) x
is_written k ds x d e = array_is ds x (not-false (is_array (kind_of (map entry ds) x)) (ap (λ ns. not (is_array (kind_of ns x))) (sym d) ∙ e))

pub is_looked_up : (k : Known) (ds : List Declaration) (x : List ℕ) → Declares k ds → not (is_table (kind_of k.declared x)) ≡ false → Among (tables_in ds) x
is_looked_up k ds x d e = table_is ds x (not-false (is_table (kind_of (map entry ds) x)) (ap (λ ns. not (is_table (kind_of ns x))) (sym d) ∙ e))

-- a name that is known, as a variable or as declared
known_variable : (a b : Bool) → (not a && not b) ≡ false → a ≡ false → b ≡ true
known_variable true b e h = absurd (cc h)
known_variable false b e h = not-false b e

known_declared : (a b : Bool) → (not a && not b) ≡ false → b ≡ false → a ≡ true
known_declared true b e h = refl
known_declared false true e h = absurd (cc h)
known_declared false false e h = absurd (cc e)

pub is_variable : (k : Known) (vs : List (List ℕ)) (x : List ℕ) → (not (is_declared (kind_of k.declared x)) && not (is_in vs x)) ≡ false → is_declared (kind_of k.declared x) ≡ false → Among vs x
is_variable k vs x e h = known_variable (is_declared (kind_of k.declared x)) (is_in vs x) e h

pub is_item : (k : Known) (ds : List Declaration) (vs : List (List ℕ)) (x : List ℕ) → Declares k ds → (not (is_declared (kind_of k.declared x)) && not (is_in vs x)) ≡ false → is_in vs x ≡ false → Among (names_in ds) x
is_item k ds vs x d e h = sym (declared_is ds x) ∙ ap (λ ns. is_declared (kind_of ns x)) (sym d) ∙ known_declared (is_declared (kind_of k.declared x)) (is_in vs x) e h

can_set : (k : Known) (ds : List Declaration) (ls : List (List ℕ)) (x : List ℕ) → Declares k ds → is_declared (kind_of k.declared x) ≡ false → is_in ls x ≡ false → CanSet ds ls x
can_set k ds ls x d e h = record { undeclared = ap not (sym (declared_is ds x) ∙ ap (λ ns. is_declared (kind_of ns x)) (sym d) ∙ e); free = ap not h }

-- ---- tokens that set a variable, and the end of a loop

pub set : (k : Known) (ds : List Declaration) (vs ls : List (List ℕ)) (b n : ℕ) (ws us : List Wanted) (x : List ℕ) (ts : List Token) (begins : Bool) → Declares k ds
    → read ws (word x) (first ts) ≡ Some (sense role.Assigns begins us) → Clean (word x ∷ ts) (at k vs ls b n ws)
    → CanSet ds ls x × Clean ts (at k (with_variable vs x) ls b (n + count_of begins) us)
set k ds vs ls b n ws us x ts begins d e c =
    let s = step (at k vs ls b n ws) (word x) ts (sense role.Assigns begins us) e c
    in (can_set k ds ls x d s.0.wrong s.0.loop, counted k (with_variable vs x) ls _ b _ (n + count_of begins) us ts (omega arith) refl s.1)

pub count : (k : Known) (ds : List Declaration) (vs ls : List (List ℕ)) (b n : ℕ) (ws us : List Wanted) (x : List ℕ) (ts : List Token) → Declares k ds
    → read ws (word x) (first ts) ≡ Some (sense role.Counts false us) → Clean (word x ∷ ts) (at k vs ls b n ws)
    → CanSet ds ls x × Clean ts (at k (with_variable vs x) (ls ++ x ∷ []) b n us)
count k ds vs ls b n ws us x ts d e c =
    let s = step (at k vs ls b n ws) (word x) ts (sense role.Counts false us) e c
    in (can_set k ds ls x d s.0.wrong s.0.loop, counted k (with_variable vs x) (ls ++ x ∷ []) _ b _ n us ts (omega arith) (omega arith) s.1)

pub without_last : (ls : List (List ℕ)) (x : List ℕ) → take (length (ls ++ x ∷ []) - 1) (ls ++ x ∷ []) ≡ ls
without_last ls x = let e : length (ls ++ x ∷ []) - 1 ≡ length ls = simp length-append (omega arith) in ap (λ n. take n (ls ++ x ∷ [])) e ∙ front ls
  where
    front : (ls : List (List ℕ)) → take (length ls) (ls ++ x ∷ []) ≡ ls
    front [] = refl
    front (l ∷ ls) = ap (λ ms. l ∷ ms) (front ls)

pub leave : (k : Known) (vs ls : List (List ℕ)) (b n : ℕ) (ws us : List Wanted) (x : List ℕ) (ts : List Token)
    → read ws (mark (byte "}")) (first ts) ≡ Some (sense role.Leaves false us) → Clean (mark (byte "}") ∷ ts) (at k vs (ls ++ x ∷ []) (b + 1) n ws)
    → Clean ts (at k vs ls b n us)
leave k vs ls b n ws us x ts e c =
    let s = step (at k vs (ls ++ x ∷ []) (b + 1) n ws) (mark (byte "}")) ts (sense role.Leaves false us) e c
    in counted k vs ls _ b _ n us ts (omega arith) (omega arith) (subst (λ l. Clean ts (at k vs l (b + 1 + 0 - 1) (n + 0) us)) (without_last ls x) s.1)
