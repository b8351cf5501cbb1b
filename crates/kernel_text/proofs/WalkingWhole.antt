-- Declarations where no token is at fault, and so whole kernels: the tree of a text without a fault is sound.
use Rattle.std.proofs.Common.{◌≡◌, ℕ, ◌+◌, ◌^◌, ◌<◌, ◌≤◌, Bool, true, false, not, ◌||◌, ◌==◌, nat_lt, if◌then◌else◌, List, [], ◌∷◌, ◌++◌, length, map, All, Option, Some, None, refl, sym, subst, ap, ◌∙◌, arith, append_assoc, append-nil}
use Rattle.std.specs.Prelude.{⊤, codes, flat_map}
use Rattle.std.specs.List.{list_any, list_all}
use Rattle.std.specs.Str.{byte}
use Rattle.std.proofs.lemmas.Bool.{ltb-true, eqb-true, not-false, and_parts, or_parts}
use Rattle.std.proofs.lemmas.List.Elements.{All-nil, All-cons}
use Rattle.kernel_text.specs.declared.faults.KernelKind.TheVariants as kind
use Rattle.kernel_text.specs.declared.senses.Role.TheVariants as role
use Rattle.kernel_text.specs.declared.senses.Wanted.{Wanted}
use Rattle.kernel_text.specs.declared.senses.Wanted.TheVariants as wanted
use Rattle.kernel_text.specs.Tokens.{Token, word, number, mark, is_word, tokens_of, end_of}
use Rattle.kernel_text.specs.Trees.{Declaration, Kernel, table, array, size_of}
use Rattle.kernel_text.specs.Grammar.{declaration, numbers, statements, kernel, is_free, has_numbers, is_declaration, are_statements, is_kernel, Spells}
use Rattle.kernel_text.specs.Readings.{read}
use Rattle.kernel_text.specs.Known.{Known, at_start}
use Rattle.kernel_text.specs.Faults.{first_fault, sizes_allowed}
use Rattle.kernel_text.specs.Depth.{parts_of, nesting_of}
use Rattle.kernel_text.specs.Sound.{AreDistinctNames, names_in, words_in, IsSize, IsRightDeclaration, behind_statements, IsSound}
use Rattle.kernel_text.specs.Beginnings.{begins_declaration}
use Rattle.kernel_text.specs.Built.{first}
use Rattle.kernel_text.proofs.Clean.{Clean, Limits, step, at_end, alike, faultless_is_clean}
use Rattle.kernel_text.proofs.GivenWhole.{no_token_fault}
use Rattle.kernel_text.proofs.OnceWhole.{table_is, statements_declare_nothing}
use Rattle.kernel_text.proofs.Walking.{at, sense, entry}
use Rattle.kernel_text.proofs.WalkingTerms.{small}
use Rattle.kernel_text.proofs.WalkingActions.{statements_walked}

-- ---- sizes

abbrev AreSizes : List ℕ → Type 0
AreSizes [] = ⊤
AreSizes (x ∷ xs) = IsSize x × AreSizes xs

allowed_are_sizes : AreSizes sizes_allowed
allowed_are_sizes = (
  power 3 (omega arith) (omega arith),
  (
    power 4 (omega arith) (omega arith),
    (
      power 5 (omega arith) (omega arith),
      (
        power 6 (omega arith) (omega arith),
        (
          power 7 (omega arith) (omega arith),
          (power 8 (omega arith) (omega arith), (power 9 (omega arith) (omega arith), (power 10 (omega arith) (omega arith), (power 11 (omega arith) (omega arith), (power 12 (omega arith) (omega arith), tt))))),
        ),
      ),
    ),
  ),
)
  where
    power : (e : ℕ) → 3 ≤ e → e ≤ 12 → IsSize (2 ^ e)
    power e low high = (e, low, high, refl)

is_size : (n : ℕ) (xs : List ℕ) → AreSizes xs → list_any (λ size. size == n) xs ≡ true → IsSize n
is_size n [] a h = absurd (cc h)
is_size n (x ∷ xs) a h = by_first (x == n) (eqb-true x n) h (is_size n xs a.1)
  where
    by_first : (b : Bool) → (b ≡ true → x ≡ n) → (b || list_any (λ size. size == n) xs) ≡ true → (list_any (λ size. size == n) xs ≡ true → IsSize n) → IsSize n
    by_first true same h more = subst IsSize (same refl) a.0
    by_first false same h more = more h

-- ---- declarations

-- what is known in the declarations
abbrev pub declaring : List (List ℕ × Bool) → ℕ → ℕ → ℕ → ℕ → List Wanted → Known
declaring names size values words brackets ws =
    record { wanted = ws; declared = names; size = size; values = values; words = words; variables = []; loops = []; brackets = brackets; begun = 0 }

room_left : (values size : ℕ) → not (nat_lt values size) ≡ false → values + 1 ≤ size
room_left values size e = let h = ltb-true values size (not-false (nat_lt values size) e) in omega (arith, h)

below : (v : ℕ) → (if nat_lt v (2 ^ 64) then None else Some kind.NumberTooLarge) ≡ None → v < 18446744073709551616
below v e = small v (nat_lt v (2 ^ 64)) e (ltb-true v (2 ^ 64))

values_walked : (ns : List ℕ) (names : List (List ℕ × Bool)) (size values words : ℕ) (ws : List Wanted) (us : List Token) → has_numbers ns ≡ true
    → Clean (numbers ns ++ mark (byte ";") ∷ us) (declaring names size values words 0 (wanted.Value ∷ wanted.MoreValues ∷ wanted.Mark (byte ";") ∷ ws))
    → All (λ n. n < 18446744073709551616) ns × (values + length ns ≤ size) × Clean us (declaring names size (values + length ns) words 0 ws)
values_walked [] names size values words ws us g c = absurd (cc g)
values_walked (n ∷ []) names size values words ws us g c =
    let s = step (declaring names size values words 0 (wanted.Value ∷ wanted.MoreValues ∷ wanted.Mark (byte ";") ∷ ws)) (number n) (mark (byte ";") ∷ us) (sense role.Gives false (wanted.MoreValues ∷ wanted.Mark (byte ";") ∷ ws)) refl c
    in let t = step (declaring names size (values + 1) words 0 (wanted.MoreValues ∷ wanted.Mark (byte ";") ∷ ws)) (mark (byte ";")) us (sense role.Plain false ws) refl s.1
    in (All-cons (λ n. n < 18446744073709551616) n [] (below n s.0.character) (All-nil (λ n. n < 18446744073709551616)), room_left values size s.0.values, t.1)
values_walked (n ∷ m ∷ more) names size values words ws us g c =
    let s = step (declaring names size values words 0 (wanted.Value ∷ wanted.MoreValues ∷ wanted.Mark (byte ";") ∷ ws)) (number n) (mark (byte ",") ∷ (numbers (m ∷ more) ++ mark (byte ";") ∷ us)) (sense role.Gives false (wanted.MoreValues ∷ wanted.Mark (byte ";") ∷ ws)) refl c
    in let t = step (declaring names size (values + 1) words 0 (wanted.MoreValues ∷ wanted.Mark (byte ";") ∷ ws)) (mark (byte ",")) (numbers (m ∷ more) ++ mark (byte ";") ∷ us) (sense role.Plain false (wanted.Value ∷ wanted.MoreValues ∷ wanted.Mark (byte ";") ∷ ws)) refl s.1
    in let r = values_walked (m ∷ more) names size (values + 1) words ws us refl t.1
    in let same : values + 1 + length (m ∷ more) ≡ values + length (n ∷ m ∷ more) = omega arith
    in (All-cons (λ n. n < 18446744073709551616) n (m ∷ more) (below n s.0.character) r.0, subst (λ l. l ≤ size) same r.1, subst (λ l. Clean us (declaring names size l words 0 ws)) same r.2)

-- a declaration was right, and this is left
abbrev Declared : List (List ℕ × Bool) → ℕ → List Wanted → Declaration → List Token → Type 0
Declared names words ws d us =
    IsRightDeclaration d × ((size : ℕ) × (values : ℕ) × Clean us (declaring (names ++ entry d ∷ []) size values (words + size_of d) 0 (wanted.Declarations ∷ ws)))

table_walked : (x : List ℕ) (n : ℕ) (ns : List ℕ) (names : List (List ℕ × Bool)) (size values words : ℕ) (ws : List Wanted) (us : List Token) → is_declaration (table x n ns) ≡ true
    → Clean (declaration (table x n ns) ++ us) (declaring names size values words 0 (wanted.Declarations ∷ ws)) → Declared names words ws (table x n ns) us
table_walked x n ns names size values words ws us g c =
    let gs = and_parts (is_free x) (has_numbers ns) g
    in let free = gs.0
    in let rest = numbers ns ++ mark (byte ";") ∷ us
    in let last = wanted.Value ∷ wanted.MoreValues ∷ wanted.Mark (byte ";") ∷ wanted.Declarations ∷ ws
    in let w0 = subst (λ ts. Clean ts (declaring names size values words 0 (wanted.Declarations ∷ ws))) (table_is x n ns us) c
    in let w1 = step (declaring names size values words 0 (wanted.Declarations ∷ ws)) (word (codes "table")) (word x ∷ mark (byte "[") ∷ number n ∷ mark (byte "]") ∷ mark (byte "=") ∷ rest) (sense role.Plain false (wanted.DeclaredName false ∷ wanted.Mark (byte "[") ∷ wanted.Size ∷ wanted.Mark (byte "]") ∷ wanted.Mark (byte "=") ∷ last)) refl w0
    in let w2 = step (declaring names size values words 0 (wanted.DeclaredName false ∷ wanted.Mark (byte "[") ∷ wanted.Size ∷ wanted.Mark (byte "]") ∷ wanted.Mark (byte "=") ∷ last)) (word x) (mark (byte "[") ∷ number n ∷ mark (byte "]") ∷ mark (byte "=") ∷ rest) (sense (role.Declares false) false (wanted.Mark (byte "[") ∷ wanted.Size ∷ wanted.Mark (byte "]") ∷ wanted.Mark (byte "=") ∷ last)) (rw free refl) w1.1
    in let after = names ++ (x, false) ∷ []
    in let w3 = step (declaring after size values words 0 (wanted.Mark (byte "[") ∷ wanted.Size ∷ wanted.Mark (byte "]") ∷ wanted.Mark (byte "=") ∷ last)) (mark (byte "[")) (number n ∷ mark (byte "]") ∷ mark (byte "=") ∷ rest) (sense role.Plain false (wanted.Size ∷ wanted.Mark (byte "]") ∷ wanted.Mark (byte "=") ∷ last)) refl w2.1
    in let w4 = step (declaring after size values words 1 (wanted.Size ∷ wanted.Mark (byte "]") ∷ wanted.Mark (byte "=") ∷ last)) (number n) (mark (byte "]") ∷ mark (byte "=") ∷ rest) (sense role.Sizes false (wanted.Mark (byte "]") ∷ wanted.Mark (byte "=") ∷ last)) refl w3.1
    in let w5 = step (declaring after n 0 (words + n) 1 (wanted.Mark (byte "]") ∷ wanted.Mark (byte "=") ∷ last)) (mark (byte "]")) (mark (byte "=") ∷ rest) (sense role.Plain false (wanted.Mark (byte "=") ∷ last)) refl w4.1
    in let w6 = step (declaring after n 0 (words + n) 0 (wanted.Mark (byte "=") ∷ last)) (mark (byte "=")) rest (sense role.Plain false last) refl w5.1
    in let r = values_walked ns after n 0 (words + n) (wanted.Declarations ∷ ws) us gs.1 w6.1
    in let few = r.1
    in ((is_size n sizes_allowed allowed_are_sizes (not-false (list_any (λ size. size == n) sizes_allowed) w4.0.size), omega (arith, few), r.0), (n, 0 + length ns, r.2))

array_walked : (x : List ℕ) (n : ℕ) (names : List (List ℕ × Bool)) (size values words : ℕ) (ws : List Wanted) (us : List Token) → is_declaration (array x n) ≡ true
    → Clean (declaration (array x n) ++ us) (declaring names size values words 0 (wanted.Declarations ∷ ws)) → Declared names words ws (array x n) us
array_walked x n names size values words ws us free c =
    let last = wanted.Mark (byte ";") ∷ wanted.Declarations ∷ ws
    in let w1 = step (declaring names size values words 0 (wanted.Declarations ∷ ws)) (word (codes "array")) (word x ∷ mark (byte "[") ∷ number n ∷ mark (byte "]") ∷ mark (byte ";") ∷ us) (sense role.Plain false (wanted.DeclaredName true ∷ wanted.Mark (byte "[") ∷ wanted.Size ∷ wanted.Mark (byte "]") ∷ last)) refl c
    in let w2 = step (declaring names size values words 0 (wanted.DeclaredName true ∷ wanted.Mark (byte "[") ∷ wanted.Size ∷ wanted.Mark (byte "]") ∷ last)) (word x) (mark (byte "[") ∷ number n ∷ mark (byte "]") ∷ mark (byte ";") ∷ us) (sense (role.Declares true) false (wanted.Mark (byte "[") ∷ wanted.Size ∷ wanted.Mark (byte "]") ∷ last)) (rw free refl) w1.1
    in let after = names ++ (x, true) ∷ []
    in let w3 = step (declaring after size values words 0 (wanted.Mark (byte "[") ∷ wanted.Size ∷ wanted.Mark (byte "]") ∷ last)) (mark (byte "[")) (number n ∷ mark (byte "]") ∷ mark (byte ";") ∷ us) (sense role.Plain false (wanted.Size ∷ wanted.Mark (byte "]") ∷ last)) refl w2.1
    in let w4 = step (declaring after size values words 1 (wanted.Size ∷ wanted.Mark (byte "]") ∷ last)) (number n) (mark (byte "]") ∷ mark (byte ";") ∷ us) (sense role.Sizes false (wanted.Mark (byte "]") ∷ last)) refl w3.1
    in let w5 = step (declaring after n 0 (words + n) 1 (wanted.Mark (byte "]") ∷ last)) (mark (byte "]")) (mark (byte ";") ∷ us) (sense role.Plain false last) refl w4.1
    in let w6 = step (declaring after n 0 (words + n) 0 last) (mark (byte ";")) us (sense role.Plain false (wanted.Declarations ∷ ws)) refl w5.1
    in (is_size n sizes_allowed allowed_are_sizes (not-false (list_any (λ size. size == n) sizes_allowed) w4.0.size), (n, 0, w6.1))

declaration_walked : (d : Declaration) (names : List (List ℕ × Bool)) (size values words : ℕ) (ws : List Wanted) (us : List Token) → is_declaration d ≡ true
    → Clean (declaration d ++ us) (declaring names size values words 0 (wanted.Declarations ∷ ws)) → Declared names words ws d us
declaration_walked (table x n ns) names size values words ws us g c = table_walked x n ns names size values words ws us g c
declaration_walked (array x n) names size values words ws us g c = array_walked x n names size values words ws us g c

declarations_walked : (ds : List Declaration) (names : List (List ℕ × Bool)) (size values words : ℕ) (ws : List Wanted) (us : List Token) → list_all is_declaration ds ≡ true
    → Clean (flat_map declaration ds ++ us) (declaring names size values words 0 (wanted.Declarations ∷ ws))
    → All IsRightDeclaration ds × ((n : ℕ) × (m : ℕ) × Clean us (declaring (names ++ map entry ds) n m (words + words_in ds) 0 (wanted.Declarations ∷ ws)))
declarations_walked [] names size values words ws us g c =
    let same : words ≡ words + 0 = omega arith
    in (All-nil IsRightDeclaration, (size, values, subst (λ l. Clean us (declaring l size values (words + 0) 0 (wanted.Declarations ∷ ws))) (sym (append-nil names)) (subst (λ w. Clean us (declaring names size values w 0 (wanted.Declarations ∷ ws))) same c)))
declarations_walked (d ∷ ds) names size values words ws us g c =
    let gs = and_parts (is_declaration d) (list_all is_declaration ds) g
    in let one = declaration_walked d names size values words ws (flat_map declaration ds ++ us) gs.0 (subst (λ ts. Clean ts (declaring names size values words 0 (wanted.Declarations ∷ ws))) (append_assoc (declaration d) (flat_map declaration ds) us) c)
    in let others = declarations_walked ds (names ++ entry d ∷ []) one.1.0 one.1.1 (words + size_of d) ws us gs.1 one.1.2
    in let same : words + size_of d + words_in ds ≡ words + (size_of d + words_in ds) = omega arith
    in (
      All-cons IsRightDeclaration d ds one.0 others.0,
      (
        others.1.0,
        others.1.1,
        subst (λ l. Clean us (declaring l others.1.0 others.1.1 (words + (size_of d + words_in ds)) 0 (wanted.Declarations ∷ ws))) (append_assoc names (entry d ∷ []) (map entry ds))
            (subst (λ w. Clean us (declaring ((names ++ entry d ∷ []) ++ map entry ds) others.1.0 others.1.1 w 0 (wanted.Declarations ∷ ws))) same others.1.2),
      ),
    )

-- ---- kernels

pub declares_nothing : (t : Token) (next : Option Token) (ws : List Wanted) → begins_declaration (Some t) ≡ false → read (wanted.Declarations ∷ ws) t next ≡ read ws t next
declares_nothing t next ws h =
    let parts = or_parts (is_word (codes "table") t) (is_word (codes "array") t) h
    in let a = parts.0
    in let b = parts.1
    in rw (a, b) refl

pub names_are : (ds : List Declaration) → map (λ (p : List ℕ × Bool). p.0) (map entry ds) ≡ names_in ds
names_are [] = refl
names_are (table x n ns ∷ ds) = ap (λ xs. x ∷ xs) (names_are ds)
names_are (array x n ∷ ds) = ap (λ xs. x ∷ xs) (names_are ds)

kernel_sound : (k : Kernel) → is_kernel k ≡ true → Clean (kernel k) at_start → IsSound k
kernel_sound k g c =
    let ds = k.declarations
    in let s = k.statements
    in let gs = and_parts (list_all is_declaration ds) (are_statements s) g
    in let declared = declarations_walked ds [] 0 0 0 (wanted.Statements ∷ []) (statements s) gs.0 c
    in let known = declaring (map entry ds) declared.1.0 declared.1.1 (0 + words_in ds) 0 []
    in let start = alike known (wanted.Declarations ∷ wanted.Statements ∷ []) (wanted.Statements ∷ []) (statements s) (λ e. e) (λ t rest is. declares_nothing t (first rest) (wanted.Statements ∷ []) (ap (λ ts. begins_declaration (first ts)) (sym is) ∙ statements_declare_nothing s gs.1)) declared.1.2
    in let walked = statements_walked known ds [] [] s 0 0 [] [] refl gs.1 (omega arith) (subst (λ ts. Clean ts (at known [] [] 0 0 (wanted.Statements ∷ []))) (sym (append-nil (statements s))) start)
    in let limits = at_end (at known (behind_statements [] s) [] 0 (0 + parts_of s) (wanted.Statements ∷ [])) walked.2
    in let words : 0 + words_in ds ≤ 32768 = limits.words
    in let parts : 0 + parts_of s ≤ 4000 = limits.begun
    in let nested : 0 + nesting_of s ≤ 16 = walked.1
    in record {
      names = subst AreDistinctNames (names_are ds) limits.names;
      declarations = declared.0;
      words = omega (arith, words);
      statements = walked.0;
      variables = limits.variables;
      nesting = omega (arith, nested);
      parts = omega (arith, parts);
    }

limits_at_start : Limits at_start
limits_at_start = record { variables = omega arith; words = omega arith; begun = omega arith; names = tt }

pub faultless_is_sound : (text : List ℕ) (k : Kernel) → first_fault text ≡ None → Spells text k → IsSound k
faultless_is_sound text k h spelled =
    let none = no_token_fault text h
    in let c = faultless_is_clean (end_of text) (tokens_of text) at_start none.0 none.1 limits_at_start
    in kernel_sound k spelled.grammar (subst (λ ts. Clean ts at_start) spelled.tokens c)
