-- What one line more changes of the places, the instructions and the entries of the lines.
use Rattle.std.proofs.Common.{◌≡◌, ℕ, suc, ◌+◌, ◌≤◌, nat_lt, List, [], ◌∷◌, ◌++◌, Bool, true, false, not, ◌||◌, if◌then◌else◌, length, take, ◌&&◌, Option, Some, None, Bor, IfSome, refl, sym, ap, ◌∙◌, arith}
use Rattle.std.specs.Prelude.{option_map, position, filter_map, is_some}
use Rattle.std.specs.List.{list_any, cons_option, position_or_len}
use Rattle.std.specs.Option.{option_or, option_map_or, option_and_then}
use Rattle.std.proofs.lemmas.List.Elements.{filter_map-append}
use Rattle.std.proofs.lemmas.List.Folds.{list_any-append}
use Rattle.std.proofs.lemmas.List.{length-append}
use Rattle.pei_types.specs.declared.instructions.Instr.{Instr}
use Rattle.pei_asm.specs.Stored.{instruction_on, entry_on, with_label}
use Rattle.pei_asm.specs.Sources.{place_in}
use Rattle.pei_asm.proofs.Lookups.{lookup_snoc}
use Rattle.std.specs.Str.{bytes_eq}
use Rattle.std.proofs.lemmas.Bool.{lt-ltb, le-ltb, ltb-true, ltb-false}
use Rattle.asm_statements.specs.Statements.{Line, Statement, item_anywhere}
use Rattle.asm_statements.specs.Mnemonics.{core_in, instruction_in}
use Rattle.pei_asm.specs.Meaning.{cores_given, defines, instruction_count, items_anywhere, labels_defined, place_among, same_core}
use Rattle.pei_asm.specs.Faults.{has_entry, is_defined_before, is_one_too_many}
use Rattle.std.proofs.Math.Bool.{or-false}

-- ---- the first that passes

same_order : (n m : ℕ) → nat_lt (1 + n) (suc m) ≡ nat_lt n m
same_order n m = by_less (nat_lt n m) refl
  where
    by_less : (b : Bool) → nat_lt n m ≡ b → nat_lt (1 + n) (suc m) ≡ b
    by_less true h = lt-ltb (1 + n) (suc m) (omega (arith, ltb-true n m h))
    by_less false h = le-ltb (1 + n) (suc m) (omega (arith, ltb-false n m h))

one_more : (n : ℕ) → 1 + n ≡ suc n
one_more n = omega arith

passes_first : {X : Type 0} (p : X → Bool) (x : X) (xs : List X) → p x ≡ true → position p (x ∷ xs) ≡ Some 0
passes_first p x xs h = ap (λ b. if nat_lt (if not b then 1 + position_or_len p xs else 0) (suc (length xs)) then Some (if not b then 1 + position_or_len p xs else 0) else None) h
    ∙ ap (λ b. if b then Some 0 else None) (lt-ltb 0 (suc (length xs)) (omega arith))

passes_later : {X : Type 0} (p : X → Bool) (x : X) (xs : List X) → p x ≡ false → position p (x ∷ xs) ≡ option_map suc (position p xs)
passes_later p x xs h =
    ap (λ b. if nat_lt (if not b then 1 + position_or_len p xs else 0) (suc (length xs)) then Some (if not b then 1 + position_or_len p xs else 0) else None) h
    ∙ ap (λ b. if b then Some (1 + position_or_len p xs) else None) (same_order (position_or_len p xs) (length xs))
    ∙ by_less (nat_lt (position_or_len p xs) (length xs))
  where
    by_less : (b : Bool) → (if b then Some (1 + position_or_len p xs) else None) ≡ option_map suc (if b then Some (position_or_len p xs) else None)
    by_less true = ap Some (one_more (position_or_len p xs))
    by_less false = refl

-- what is counted of the elements before the first that passes
counted : {X : Type 0} → (List X → ℕ) → (X → Bool) → List X → Option ℕ
counted g p xs = option_map (λ i. g (take i xs)) (position p xs)

counted_cons : {X : Type 0} (g : List X → ℕ) (p : X → Bool) (x : X) (xs : List X) → counted g p (x ∷ xs) ≡ (if p x then Some (g []) else counted (λ ys. g (x ∷ ys)) p xs)
unfolding counted
counted_cons g p x xs = by_first (p x) refl
  where
    moved : (o : Option ℕ) → option_map (λ i. g (take i (x ∷ xs))) (option_map suc o) ≡ option_map (λ i. g (x ∷ take i xs)) o
    moved None = refl
    moved (Some i) = refl

    by_first : (b : Bool) → p x ≡ b → option_map (λ i. g (take i (x ∷ xs))) (position p (x ∷ xs)) ≡ (if b then Some (g []) else option_map (λ i. g (x ∷ take i xs)) (position p xs))
    by_first true h = ap (option_map (λ i. g (take i (x ∷ xs)))) (passes_first p x xs h)
    by_first false h = ap (option_map (λ i. g (take i (x ∷ xs)))) (passes_later p x xs h) ∙ moved (position p xs)

counted_snoc : {X : Type 0} (g : List X → ℕ) (p : X → Bool) (xs : List X) (y : X) → counted g p (xs ++ y ∷ []) ≡ option_or (counted g p xs) (if p y then Some (g xs) else None)
unfolding counted
counted_snoc g p [] y = counted_cons g p y []
counted_snoc g p (x ∷ xs) y =
    counted_cons g p x (xs ++ y ∷ []) ∙ ap (λ o. if p x then Some (g []) else o) (counted_snoc (λ ys. g (x ∷ ys)) p xs y)
    ∙ by_first (p x) _ _ ∙ ap (λ o. option_or o (if p y then Some (g (x ∷ xs)) else None)) (sym (counted_cons g p x xs))
  where
    by_first : (b : Bool) (o r : Option ℕ) → (if b then Some (g []) else option_or o r) ≡ option_or (if b then Some (g []) else o) r
    by_first true o r = refl
    by_first false o r = refl

counted_some : {X : Type 0} (g : List X → ℕ) (p : X → Bool) (xs : List X) → is_some (counted g p xs) ≡ list_any p xs
unfolding counted
counted_some g p [] = refl
counted_some g p (x ∷ xs) = ap is_some (counted_cons g p x xs) ∙ by_first (p x) _ ∙ ap (λ b. p x || b) (counted_some (λ ys. g (x ∷ ys)) p xs)
  where
    by_first : (b : Bool) (o : Option ℕ) → is_some (if b then Some (g []) else o) ≡ (b || is_some o)
    by_first true o = refl
    by_first false o = refl

-- ---- labels

-- the place that one line more gives to a label
pub place_snoc : (ls : List Line) (l : Line) (label : List ℕ)
    → place_among (ls ++ l ∷ []) label ≡ option_or (place_among ls label) (if defines label l then Some (instruction_count ls) else None)
unfolding counted
place_snoc ls l label = counted_snoc instruction_count (defines label) ls l

-- a label has a place where it is among those defined
pub placed_where_defined : (ls : List Line) (label : List ℕ) → is_some (place_among ls label) ≡ is_defined_before ls (Some label)
unfolding counted
placed_where_defined ls label = counted_some instruction_count (defines label) ls ∙ among ls
  where
    by_label : (o : Option (List ℕ)) (known : List (List ℕ)) → (option_map_or (bytes_eq label) o false || list_any (bytes_eq label) known) ≡ list_any (bytes_eq label) (cons_option o known)
    by_label None known = refl
    by_label (Some x) known = refl

    among : (xs : List Line) → list_any (defines label) xs ≡ list_any (bytes_eq label) (labels_defined xs)
    among [] = refl
    among (x ∷ xs) = ap (λ b. defines label x || b) (among xs) ∙ by_label x.label (labels_defined xs)

-- ---- instructions and entries

-- one line more counts where it has an instruction
pub count_snoc : (ls : List Line) (l : Line) → instruction_count (ls ++ l ∷ []) ≡ instruction_count ls + (if is_some (instruction_on l) then 1 else 0)
count_snoc ls l =
    ap (λ items. length (filter_map instruction_in items)) (filter_map-append (λ x. option_map item_anywhere x.statement) ls (l ∷ []))
    ∙ ap length (filter_map-append instruction_in (items_anywhere ls) (cons_option (option_map item_anywhere l.statement) []))
    ∙ length-append (filter_map instruction_in (items_anywhere ls)) (filter_map instruction_in (cons_option (option_map item_anywhere l.statement) []))
    ∙ ap (λ n. instruction_count ls + n) (by_statement l.statement)
  where
    by_item : (o : Option Instr) → length (cons_option o []) ≡ (if is_some o then 1 else 0)
    by_item None = refl
    by_item (Some i) = refl

    by_statement : (o : Option Statement)
        → length (filter_map instruction_in (cons_option (option_map item_anywhere o) [])) ≡ (if is_some (option_and_then instruction_in (option_map item_anywhere o)) then 1 else 0)
    by_statement None = refl
    by_statement (Some s) = by_item (instruction_in (item_anywhere s))

-- the entry that one line more gives
pub entry_snoc : (ls : List Line) (l : Line) (core : Option ℕ) → has_entry (ls ++ l ∷ []) (Some core) ≡ (has_entry ls (Some core) || option_map_or (same_core core) (entry_on l) false)
entry_snoc ls l core =
    ap (λ items. list_any (same_core core) (filter_map core_in items)) (filter_map-append (λ x. option_map item_anywhere x.statement) ls (l ∷ []))
    ∙ ap (list_any (same_core core)) (filter_map-append core_in (items_anywhere ls) (cons_option (option_map item_anywhere l.statement) []))
    ∙ list_any-append (same_core core) (cores_given ls) (filter_map core_in (cons_option (option_map item_anywhere l.statement) []))
    ∙ ap (λ b. list_any (same_core core) (cores_given ls) || b) (by_statement l.statement)
  where
    by_item : (o : Option (Option ℕ)) → list_any (same_core core) (cons_option o []) ≡ option_map_or (same_core core) o false
    by_item None = refl
    by_item (Some c) = or-false (same_core core c)

    by_statement : (o : Option Statement)
        → list_any (same_core core) (filter_map core_in (cons_option (option_map item_anywhere o) [])) ≡ option_map_or (same_core core) (option_and_then core_in (option_map item_anywhere o)) false
    by_statement None = refl
    by_statement (Some s) = by_item (core_in (item_anywhere s))

-- ---- the store

-- a label that is not defined has no place
pub no_place : (ls : List Line) (label : List ℕ) → is_defined_before ls (Some label) ≡ false → place_among ls label ≡ None
no_place ls label h = by_place (place_among ls label) (placed_where_defined ls label ∙ h)
  where
    by_place : (o : Option ℕ) → is_some o ≡ false → o ≡ None
    by_place None h = refl
    by_place (Some n) h = absurd (cc h)

-- the places stay right when a line comes
pub placed_on : (labels : List (List ℕ × ℕ)) (ls : List Line) (l : Line) (count : ℕ) → count ≡ instruction_count ls → ((label : List ℕ) → place_in labels label ≡ place_among ls label)
    → (label : List ℕ) → place_in (with_label labels l.label count) label ≡ place_among (ls ++ l ∷ []) label
placed_on labels ls l count e placed label = by_label l.label ∙ sym (place_snoc ls l label)
  where
    or_none : (o : Option ℕ) → o ≡ option_or o None
    or_none None = refl
    or_none (Some n) = refl

    by_label : (o : Option (List ℕ)) → place_in (with_label labels o count) label ≡ option_or (place_among ls label) (if option_map_or (bytes_eq label) o false then Some (instruction_count ls) else None)
    by_label None = placed label ∙ or_none (place_among ls label)
    by_label (Some x) = lookup_snoc labels x count label ∙ ap (λ o. option_or o (if bytes_eq label x then Some count else None)) (placed label) ∙ ap (λ n. option_or (place_among ls label) (if bytes_eq label x then Some n else None)) e

-- there is room for an instruction that is not one too many
pub has_room : (ls : List Line) (o : Option Statement) → IfSome o (λ s. is_one_too_many ls s ≡ false) → instruction_count ls ≤ 65536
    → instruction_count ls + (if is_some (option_and_then instruction_in (option_map item_anywhere o)) then 1 else 0) ≤ 65536
has_room ls None h most = omega (arith, most)
has_room ls (Some s) h most = by_kind (is_some (instruction_in (item_anywhere s))) h
  where
    by_kind : (b : Bool) → (b && not (nat_lt (instruction_count ls) 65536)) ≡ false → instruction_count ls + (if b then 1 else 0) ≤ 65536
    by_kind true k = by_room (nat_lt (instruction_count ls) 65536) refl k
      where
        by_room : (r : Bool) → nat_lt (instruction_count ls) 65536 ≡ r → not r ≡ false → instruction_count ls + 1 ≤ 65536
        by_room true e k = omega (arith, ltb-true (instruction_count ls) 65536 e)
        by_room false e k = absurd (cc k)
    by_kind false k = omega (arith, most)

-- a label that is not defined has no place among the labels
pub not_among : (labels : List (List ℕ × ℕ)) (ls : List Line) → ((label : List ℕ) → place_in labels label ≡ place_among ls label)
    → (o : Option (Bor (List ℕ))) → is_defined_before ls (option_map (λ l. l.now) o) ≡ false → IfSome o (λ l. place_in labels l.now ≡ None)
not_among labels ls placed None h = tt
not_among labels ls placed (Some l) h = placed l.now ∙ no_place ls l.now h
