-- The way back over declarations, and so over whole kernels: a text that spells a sound tree has no fault.
use Rattle.std.proofs.Common.{◌≡◌, ℕ, ◌+◌, ◌-◌, ◌^◌, ◌<◌, ◌≤◌, Bool, true, false, nat_lt, ◌==◌, if◌then◌else◌, List, [], ◌∷◌, ◌++◌, length, map, All, Option, Some, None, option_map, find, refl, sym, subst, ap, ◌∙◌, arith, append_assoc, append-nil}
use Rattle.std.specs.Prelude.{⊤, codes, flat_map}
use Rattle.std.specs.List.{list_any, list_all}
use Rattle.std.specs.Option.{option_or}
use Rattle.std.specs.Str.{byte}
use Rattle.std.proofs.lemmas.Bool.{lt-ltb, and_parts, not_from_true, agree_below_at}
use Rattle.std.proofs.lemmas.List.Elements.{All-head, All-tail}
use Rattle.kernel_text.specs.declared.faults.KernelKind.{KernelKind}
use Rattle.kernel_text.specs.declared.faults.KernelKind.TheVariants as kind
use Rattle.kernel_text.specs.declared.places.Place.{Place}
use Rattle.kernel_text.specs.declared.senses.Role.TheVariants as role
use Rattle.kernel_text.specs.declared.senses.Wanted.{Wanted}
use Rattle.kernel_text.specs.declared.senses.Wanted.TheVariants as wanted
use Rattle.kernel_text.specs.Tokens.{Token, Placed, word, number, mark, tokens_of, end_of}
use Rattle.kernel_text.specs.Trees.{Declaration, Statements, Kernel, table, array, size_of}
use Rattle.kernel_text.specs.Characters.{first_character_fault, fault_at}
use Rattle.kernel_text.specs.Grammar.{declaration, numbers, statements, kernel, is_free, has_numbers, is_declaration, are_statements, is_kernel, Spells}
use Rattle.kernel_text.specs.Readings.{Reading, read, may_end}
use Rattle.kernel_text.specs.Known.{Known, at_start, known_after}
use Rattle.kernel_text.specs.Faults.{first_fault, first_token_fault, behind_token, next_of, kind_of_trials, trials, sizes_allowed}
use Rattle.kernel_text.specs.Depth.{parts_of}
use Rattle.kernel_text.specs.Sound.{AreDistinctNames, words_in, IsSize, IsRightDeclaration, behind_statements, IsSound}
use Rattle.kernel_text.specs.Beginnings.{begins_declaration}
use Rattle.kernel_text.specs.Built.{first}
use Rattle.kernel_text.proofs.Clean.{Passed, CleanBy, Clean, Limits, aside, alike}
use Rattle.kernel_text.proofs.OnceWhole.{table_is, statements_declare_nothing}
use Rattle.kernel_text.proofs.Walking.{at, sense, entry}
use Rattle.kernel_text.proofs.WalkingWhole.{declaring, declares_nothing, names_are}
use Rattle.kernel_text.proofs.Whole.{tokens_at, next_is_first}
use Rattle.kernel_text.proofs.Returning.{Fitting, back, plain_fits, name_fits}
use Rattle.kernel_text.proofs.ReturningTerms.{in_range}
use Rattle.kernel_text.proofs.ReturningActions.{statements_returned}

-- ---- sizes

-- a test that passes each power of two from 8 to 4096 passes a size
at_each_size : (p : ℕ → Bool) (n : ℕ) → IsSize n → ((d : ℕ) → d < 10 → p (2 ^ (d + 3)) ≡ true) → p n ≡ true
at_each_size p n (e, low, high, is) passes =
    let same : e - 3 + 3 ≡ e = omega (arith, low)
    in ap p is ∙ ap (λ x. p (2 ^ x)) (sym same) ∙ passes (e - 3) (omega (arith, low, high))

size_allowed : (n : ℕ) → IsSize n → list_any (λ size. size == n) sizes_allowed ≡ true
size_allowed n h = at_each_size (λ n. list_any (λ size. size == n) sizes_allowed) n h (λ d low. agree_below_at (λ d. list_any (λ size. size == 2 ^ (d + 3)) sizes_allowed) (λ d. true) 10 d refl low)

size_small : (n : ℕ) → IsSize n → nat_lt n (2 ^ 64) ≡ true
size_small n h = at_each_size (λ n. nat_lt n (2 ^ 64)) n h (λ d low. agree_below_at (λ d. nat_lt (2 ^ (d + 3)) (2 ^ 64)) (λ d. true) 10 d refl low)

-- the size that a name is declared with
size_fits : (k : Known) (n : ℕ) → IsSize n → Fitting k role.Sizes (number n)
size_fits k n h =
    record {
      character = ap (λ b. if b then None else Some kind.NumberTooLarge) (size_small n h);
      nested = refl;
      unknown = refl;
      wrong = refl;
      loop = refl;
      size = not_from_true (list_any (λ size. size == n) sizes_allowed) (size_allowed n h);
      values = refl;
      deep = refl;
    }

-- ---- declarations

-- a number of a table that has room for it
value_fits : (k : Known) (n : ℕ) → n < 18446744073709551616 → k.values < k.size → Fitting k role.Gives (number n)
value_fits k n h room = record { character = in_range n h; nested = refl; unknown = refl; wrong = refl; loop = refl; size = refl; values = not_from_true (nat_lt k.values k.size) (lt-ltb k.values k.size room); deep = refl }

-- a name that is declared
declared_fits : (k : Known) (is_array : Bool) (x : List ℕ) → Fitting k (role.Declares is_array) (word x)
declared_fits k is_array x = name_fits k (role.Declares is_array) x refl refl refl refl refl refl

-- the numbers of a table, with the mark behind them
values_returned : (ns : List ℕ) (names : List (List ℕ × Bool)) (size values words : ℕ) (ws : List Wanted) (us : List Token) → has_numbers ns ≡ true → All (λ n. n < 18446744073709551616) ns → values + length ns ≤ size
    → Clean us (declaring names size (values + length ns) words 0 ws) → Clean (numbers ns ++ mark (byte ";") ∷ us) (declaring names size values words 0 (wanted.Value ∷ wanted.MoreValues ∷ wanted.Mark (byte ";") ∷ ws))
values_returned [] names size values words ws us g small few c = absurd (cc g)
values_returned (n ∷ []) names size values words ws us g small few c =
    let here = declaring names size values words 0 (wanted.Value ∷ wanted.MoreValues ∷ wanted.Mark (byte ";") ∷ ws)
    in let next = declaring names size (values + 1) words 0 (wanted.MoreValues ∷ wanted.Mark (byte ";") ∷ ws)
    in back here (number n) (mark (byte ";") ∷ us) (sense role.Gives false (wanted.MoreValues ∷ wanted.Mark (byte ";") ∷ ws)) refl (value_fits here n (All-head (λ n. n < 18446744073709551616) n [] small) (omega (arith, few)))
    (back next (mark (byte ";")) us (sense role.Plain false ws) refl (plain_fits next (mark (byte ";")) refl refl) c)
values_returned (n ∷ m ∷ more) names size values words ws us g small few c =
    let same : values + length (n ∷ m ∷ more) ≡ values + 1 + length (m ∷ more) = omega arith
    in let here = declaring names size values words 0 (wanted.Value ∷ wanted.MoreValues ∷ wanted.Mark (byte ";") ∷ ws)
    in let next = declaring names size (values + 1) words 0 (wanted.MoreValues ∷ wanted.Mark (byte ";") ∷ ws)
    in let others = values_returned (m ∷ more) names size (values + 1) words ws us refl (All-tail (λ n. n < 18446744073709551616) n (m ∷ more) small) (subst (λ l. l ≤ size) same few) (subst (λ l. Clean us (declaring names size l words 0 ws)) same c)
    in back here (number n) (mark (byte ",") ∷ (numbers (m ∷ more) ++ mark (byte ";") ∷ us)) (sense role.Gives false (wanted.MoreValues ∷ wanted.Mark (byte ";") ∷ ws)) refl
    (value_fits here n (All-head (λ n. n < 18446744073709551616) n (m ∷ more) small) (omega (arith, few)))
    (back next (mark (byte ",")) (numbers (m ∷ more) ++ mark (byte ";") ∷ us) (sense role.Plain false (wanted.Value ∷ wanted.MoreValues ∷ wanted.Mark (byte ";") ∷ ws)) refl (plain_fits next (mark (byte ",")) refl refl) others)

-- a name with its size in brackets, behind its keyword
sized_returned : (x : List ℕ) (n : ℕ) (is_array : Bool) (names : List (List ℕ × Bool)) (size values words : ℕ) (ws : List Wanted) (us : List Token) → is_free x ≡ true → IsSize n
    → Clean us (declaring (names ++ (x, is_array) ∷ []) n 0 (words + n) 0 ws)
    → Clean (word x ∷ mark (byte "[") ∷ number n ∷ mark (byte "]") ∷ us) (declaring names size values words 0 (wanted.DeclaredName is_array ∷ wanted.Mark (byte "[") ∷ wanted.Size ∷ wanted.Mark (byte "]") ∷ ws))
sized_returned x n is_array names size values words ws us free right c =
    let after = names ++ (x, is_array) ∷ []
    in let k2 = declaring names size values words 0 (wanted.DeclaredName is_array ∷ wanted.Mark (byte "[") ∷ wanted.Size ∷ wanted.Mark (byte "]") ∷ ws)
    in let k3 = declaring after size values words 0 (wanted.Mark (byte "[") ∷ wanted.Size ∷ wanted.Mark (byte "]") ∷ ws)
    in let k4 = declaring after size values words 1 (wanted.Size ∷ wanted.Mark (byte "]") ∷ ws)
    in let k5 = declaring after n 0 (words + n) 1 (wanted.Mark (byte "]") ∷ ws)
    in back k2 (word x) (mark (byte "[") ∷ number n ∷ mark (byte "]") ∷ us) (sense (role.Declares is_array) false (wanted.Mark (byte "[") ∷ wanted.Size ∷ wanted.Mark (byte "]") ∷ ws)) (rw free refl) (declared_fits k2 is_array x)
    (back k3 (mark (byte "[")) (number n ∷ mark (byte "]") ∷ us) (sense role.Plain false (wanted.Size ∷ wanted.Mark (byte "]") ∷ ws)) refl (plain_fits k3 (mark (byte "[")) refl refl)
    (back k4 (number n) (mark (byte "]") ∷ us) (sense role.Sizes false (wanted.Mark (byte "]") ∷ ws)) refl (size_fits k4 n right)
    (back k5 (mark (byte "]")) us (sense role.Plain false ws) refl (plain_fits k5 (mark (byte "]")) refl refl) c)))

-- a declaration that is right may stand before tokens that are clean whatever its size and its numbers
declaration_returned : (d : Declaration) (names : List (List ℕ × Bool)) (size values words : ℕ) (ws : List Wanted) (us : List Token) → is_declaration d ≡ true → IsRightDeclaration d
    → ((n m : ℕ) → Clean us (declaring (names ++ entry d ∷ []) n m (words + size_of d) 0 (wanted.Declarations ∷ ws))) → Clean (declaration d ++ us) (declaring names size values words 0 (wanted.Declarations ∷ ws))
declaration_returned (table x n ns) names size values words ws us g right c =
    let gs = and_parts (is_free x) (has_numbers ns) g
    in let few = right.1
    in let rest = numbers ns ++ mark (byte ";") ∷ us
    in let last = wanted.Value ∷ wanted.MoreValues ∷ wanted.Mark (byte ";") ∷ wanted.Declarations ∷ ws
    in let k1 = declaring names size values words 0 (wanted.Declarations ∷ ws)
    in let k6 = declaring (names ++ (x, false) ∷ []) n 0 (words + n) 0 (wanted.Mark (byte "=") ∷ last)
    in let given = back k6 (mark (byte "=")) rest (sense role.Plain false last) refl (plain_fits k6 (mark (byte "=")) refl refl) (values_returned ns (names ++ (x, false) ∷ []) n 0 (words + n) (wanted.Declarations ∷ ws) us gs.1 right.2 (omega (arith, few)) (c n (0 + length ns)))
    in subst (λ ts. Clean ts k1) (sym (table_is x n ns us))
    (back k1 (word (codes "table")) (word x ∷ mark (byte "[") ∷ number n ∷ mark (byte "]") ∷ mark (byte "=") ∷ rest) (sense role.Plain false (wanted.DeclaredName false ∷ wanted.Mark (byte "[") ∷ wanted.Size ∷ wanted.Mark (byte "]") ∷ wanted.Mark (byte "=") ∷ last)) refl
    (plain_fits k1 (word (codes "table")) refl refl) (sized_returned x n false names size values words (wanted.Mark (byte "=") ∷ last) (mark (byte "=") ∷ rest) gs.0 right.0 given))
declaration_returned (array x n) names size values words ws us free right c =
    let last = wanted.Mark (byte ";") ∷ wanted.Declarations ∷ ws
    in let k1 = declaring names size values words 0 (wanted.Declarations ∷ ws)
    in let k6 = declaring (names ++ (x, true) ∷ []) n 0 (words + n) 0 last
    in back k1 (word (codes "array")) (word x ∷ mark (byte "[") ∷ number n ∷ mark (byte "]") ∷ mark (byte ";") ∷ us) (sense role.Plain false (wanted.DeclaredName true ∷ wanted.Mark (byte "[") ∷ wanted.Size ∷ wanted.Mark (byte "]") ∷ last)) refl
    (plain_fits k1 (word (codes "array")) refl refl)
    (sized_returned x n true names size values words last (mark (byte ";") ∷ us) free right (back k6 (mark (byte ";")) us (sense role.Plain false (wanted.Declarations ∷ ws)) refl (plain_fits k6 (mark (byte ";")) refl refl) (c n 0)))

declarations_returned : (ds : List Declaration) (names : List (List ℕ × Bool)) (size values words : ℕ) (ws : List Wanted) (us : List Token) → list_all is_declaration ds ≡ true → All IsRightDeclaration ds
    → ((n m : ℕ) → Clean us (declaring (names ++ map entry ds) n m (words + words_in ds) 0 (wanted.Declarations ∷ ws))) → Clean (flat_map declaration ds ++ us) (declaring names size values words 0 (wanted.Declarations ∷ ws))
declarations_returned [] names size values words ws us g right c =
    let same : words + 0 ≡ words = omega arith
    in subst (λ w. Clean us (declaring names size values w 0 (wanted.Declarations ∷ ws))) same (subst (λ l. Clean us (declaring l size values (words + 0) 0 (wanted.Declarations ∷ ws))) (append-nil names) (c size values))
declarations_returned (d ∷ ds) names size values words ws us g right c =
    let gs = and_parts (is_declaration d) (list_all is_declaration ds) g
    in let same : words + (size_of d + words_in ds) ≡ words + size_of d + words_in ds = omega arith
    in let known = λ (n m : ℕ) (l : List (List ℕ × Bool)) (w : ℕ). declaring l n m w 0 (wanted.Declarations ∷ ws)
    in subst (λ ts. Clean ts (known size values names words)) (sym (append_assoc (declaration d) (flat_map declaration ds) us))
    (declaration_returned d names size values words ws (flat_map declaration ds ++ us) gs.0 (All-head IsRightDeclaration d ds right)
    (λ i j. declarations_returned ds (names ++ entry d ∷ []) i j (words + size_of d) ws us gs.1 (All-tail IsRightDeclaration d ds right)
    (λ n m. subst (λ l. Clean us (known n m l (words + size_of d + words_in ds))) (sym (append_assoc names (entry d ∷ []) (map entry ds))) (subst (λ w. Clean us (known n m (names ++ map entry (d ∷ ds)) w)) same (c n m)))))

-- ---- kernels

-- no tokens, where the limits are kept and the text may end
from_end : (k : Known) → Limits k → may_end k.wanted ≡ true → Clean [] k
unfolding Clean
from_end k l e = record { limits = l; finished = e }

kernel_clean : (k : Kernel) → is_kernel k ≡ true → IsSound k → Clean (kernel k) at_start
kernel_clean k g sound = declarations_returned ds [] 0 0 0 (wanted.Statements ∷ []) (statements s) gs.0 sound.declarations behind
  where
    ds : List Declaration
    ds = k.declarations

    s : Statements
    s = k.statements

    gs : (list_all is_declaration ds ≡ true) × (are_statements s ≡ true)
    gs = and_parts (list_all is_declaration ds) (are_statements s) g

    -- the statements, whatever is known of the last declaration
    behind : (n m : ℕ) → Clean (statements s) (declaring (map entry ds) n m (0 + words_in ds) 0 (wanted.Declarations ∷ wanted.Statements ∷ []))
    behind n m =
        let known = declaring (map entry ds) n m (0 + words_in ds) 0 []
        in let parts = sound.parts
        in let words = sound.words
        in let nesting = sound.nesting
        in let end =
        from_end (at known (behind_statements [] s) [] 0 (0 + parts_of s) (wanted.Statements ∷ []))
        (record { variables = sound.variables; words = omega (arith, words); begun = omega (arith, parts); names = subst AreDistinctNames (sym (names_are ds)) sound.names }) refl
        in let whole = statements_returned known ds [] [] s 0 0 [] [] refl sound.names (λ x h. absurd (cc h)) gs.1 sound.statements (omega (arith, nesting)) end
        in alike known (wanted.Statements ∷ []) (wanted.Declarations ∷ wanted.Statements ∷ []) (statements s) (λ e. e)
        (λ t rest is. sym (declares_nothing t (first rest) (wanted.Statements ∷ []) (ap (λ ts. begins_declaration (first ts)) (sym is) ∙ statements_declare_nothing s gs.1)))
        (subst (λ ts. Clean ts (at known [] [] 0 0 (wanted.Statements ∷ []))) (append-nil (statements s)) whole)

-- ---- faults

-- none of these kinds applies
abbrev NoneOf : List (KernelKind × Bool) → Type 0
NoneOf [] = ⊤
NoneOf (x ∷ xs) = (x.1 ≡ false) × NoneOf xs

none_of : (xs : List (KernelKind × Bool)) → NoneOf xs → kind_of_trials xs ≡ None
none_of [] none = refl
none_of (x ∷ xs) none = ap (λ b. option_map (λ (trial : KernelKind × Bool). trial.0) (if b then Some x else find (λ trial. trial.1) xs)) none.0 ∙ none_of xs none.1

none_applies : (k : Known) (r : Reading) (t : Token) → Passed (aside k) r.role r.begins t → kind_of_trials (trials k r t) ≡ None
none_applies k r t p = none_of (trials k r t) (p.nested, (p.double, (p.unknown, (p.wrong, (p.loop, (p.many, (p.size, (p.values, (p.words, (p.deep, (p.long, tt)))))))))))

-- tokens that are clean have no fault
clean_is_faultless : (end : Place) (ts : List Placed) (k : Known) → Clean (tokens_at ts) k → (first_character_fault ts ≡ None) × (first_token_fault end ts k ≡ None)
unfolding Clean CleanBy
clean_is_faultless end [] k c = (refl, ap (λ b. if b then None else Some (fault_at end kind.Syntax)) c.finished)
clean_is_faultless end (t ∷ ts) k c =
    by_reading (read k.wanted t.token (next_of ts)) (subst (λ o. CleanBy (aside k) t.token (Clean (tokens_at ts)) (read k.wanted t.token o)) (sym (next_is_first ts)) c) (clean_is_faultless end ts)
  where
    by_reading : (o : Option Reading) → CleanBy (aside k) t.token (Clean (tokens_at ts)) o → ((j : Known) → Clean (tokens_at ts) j → (first_character_fault ts ≡ None) × (first_token_fault end ts j ≡ None))
        → (first_character_fault (t ∷ ts) ≡ None) × (behind_token k t (first_token_fault end ts) o ≡ None)
    by_reading None c more = absurd c
    by_reading (Some r) c more =
        let others = more (known_after k r t.token) c.1
        in (
          ap (λ o. option_or (option_map (fault_at t.place) o) (first_character_fault ts)) c.0.character ∙ others.0,
          ap (λ o. option_or (option_map (fault_at t.place) o) (first_token_fault end ts (known_after k r t.token))) (none_applies k r t.token c.0) ∙ others.1,
        )

pub sound_is_faultless : (text : List ℕ) (k : Kernel) → Spells text k → IsSound k → first_fault text ≡ None
sound_is_faultless text k spelled sound =
    let clean = subst (λ ts. Clean ts at_start) (sym spelled.tokens) (kernel_clean k spelled.grammar sound)
    in let none = clean_is_faultless (end_of text) (tokens_of text) at_start clean
    in ap (λ o. option_or o (first_token_fault (end_of text) (tokens_of text) at_start)) none.0 ∙ none.1
