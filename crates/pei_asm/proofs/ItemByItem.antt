-- A program that is built item by item is the one that its items list.
use Rattle.std.proofs.Common.{◌≡◌, ℕ, ◌<◌, ◌≢◌, nat_eq, Bool, true, false, ◌||◌, if◌then◌else◌, List, [], ◌∷◌, ◌++◌, map, fold, length, Option, Some, None, refl, sym, ap, ◌∙◌, append_assoc, arith}
use Rattle.std.specs.Bool.{⊤}
use Rattle.std.specs.Prelude.{filter_map, is_some, slice_get, slice_index_or, slice_set}
use Rattle.std.specs.List.{AllByRecursion, cons_option, list_any, range_with_len}
use Rattle.std.specs.Option.{option_or}
use Rattle.std.proofs.lemmas.List.{append-nil, length-set, get_or-set_same, get_or-set_other}
use Rattle.std.proofs.lemmas.List.Elements.{filter_map-append}
use Rattle.std.proofs.lemmas.List.Folds.{list_any-append}
use Rattle.std.proofs.lemmas.List.FromFn.{fill_by_all, get_or-map-range_with_len}
use Rattle.std.proofs.lemmas.Bool.{eqb-true, eq-eqb}
use Rattle.pei_types.specs.declared.instructions.Ask.{Ask}
use Rattle.pei_types.specs.declared.instructions.Instr.{Instr}
use Rattle.pei_types.specs.Program.{Listing}
use Rattle.asm_statements.specs.Mnemonics.{Item, instruction, entry, words, shown, statistics, instruction_in}
use Rattle.pei_asm.specs.Meaning.{ask_in, entry_among, entry_in, is_statistics, listing_of, same_core, words_in}
use Rattle.pei_asm.specs.Items.{with_common_entry, with_item, with_own_entry}
use Rattle.std.proofs.Math.Bool.{or-false, or-true}
use Rattle.pei_types.proofs.Tests.{option_or-None}

-- ---- entries of single cores

-- a core's number is an item's only where it is one of the eight
abbrev pub HasCore : Item → Type 0
HasCore (entry (Some core) pc) = core < 8
HasCore _ = ⊤

same_number : (c k : ℕ) → nat_eq c k ≡ true → c ≡ k
same_number c k h = omega (arith, eqb-true c k h)

-- the entry of a core is its first
entry_snoc : (items : List Item) (x : Item) (core : Option ℕ) → entry_among (items ++ x ∷ []) core ≡ option_or (entry_among items core) (entry_in core x)
entry_snoc items x core = ap (λ xs. slice_get xs 0) (filter_map-append (entry_in core) items (x ∷ [])) ∙ first (filter_map (entry_in core) items) (entry_in core x)
  where
    first : (xs : List ℕ) (o : Option ℕ) → slice_get (xs ++ cons_option o []) 0 ≡ option_or (slice_get xs 0) o
    first [] None = refl
    first [] (Some y) = refl
    first (x ∷ xs) o = refl

-- one core's entry is put in where it has none
own_entries_on : (f : ℕ → Option ℕ) (core pc : ℕ) → core < 8
    → with_own_entry (map f (range_with_len 0 8)) core pc ≡ map (λ c. option_or (f c) (if same_core (Some c) (Some core) then Some pc else None)) (range_with_len 0 8)
own_entries_on f core pc h = fill_by_all (λ c. option_or (f c) (if same_core (Some c) (Some core) then Some pc else None)) (with_own_entry old core pc) 8 None (long (is_some (slice_index_or old core None))) (λ k less. at k less (is_some (slice_index_or old core None)) refl (nat_eq k core) refl)
  where
    old : List (Option ℕ)
    old = map f (range_with_len 0 8)

    here : (k : ℕ) → k < 8 → slice_index_or old k None ≡ f k
    here k less = get_or-map-range_with_len f 0 8 k k None less (omega arith)

    long : (b : Bool) → length (if b then old else slice_set old core (Some pc)) ≡ 8
    long true = refl
    long false = length-set old core (Some pc)

    stays : (o : Option ℕ) (r : Option ℕ) → is_some o ≡ true → o ≡ option_or o r
    stays None r e = absurd (cc e)
    stays (Some x) r e = refl

    comes : (o : Option ℕ) → is_some o ≡ false → Some pc ≡ option_or o (Some pc)
    comes None e = refl
    comes (Some x) e = absurd (cc e)

    other : (k : ℕ) → nat_eq k core ≡ false → k ≢ core
    other k e = λ same. absurd (cc (sym e ∙ ap (λ n. nat_eq n core) same ∙ eq-eqb core core refl))

    at : (k : ℕ) → k < 8 → (b : Bool) → is_some (slice_index_or old core None) ≡ b → (same : Bool) → nat_eq k core ≡ same
        → slice_index_or (if b then old else slice_set old core (Some pc)) k None ≡ option_or (f k) (if same then Some pc else None)
    at k less true e true q = here k less ∙ stays (f k) (Some pc) (ap is_some (sym (here k less) ∙ ap (λ n. slice_index_or old n None) (same_number k core q)) ∙ e)
    at k less true e false q = here k less ∙ sym (option_or-None (f k))
    at k less false e true q =
        ap (λ n. slice_index_or (slice_set old core (Some pc)) n None) (same_number k core q) ∙ get_or-set_same old core (Some pc) None h
        ∙ comes (f k) (ap is_some (sym (here k less) ∙ ap (λ n. slice_index_or old n None) (same_number k core q)) ∙ e)
    at k less false e false q = get_or-set_other old core k (Some pc) None (other k q) ∙ here k less ∙ sym (option_or-None (f k))

-- ---- one item on

listing_with : List Instr → List (ℕ × List ℕ) → List Ask → List (Option ℕ) → Option ℕ → Bool → Listing
listing_with instrs lines asks own common stats =
    record { instrs = instrs; lines = lines; asks = asks; own_entries = own; common_entry = common; statistics = stats }

alike : {i i2 : List Instr} {l l2 : List (ℕ × List ℕ)} {a a2 : List Ask} {o o2 : List (Option ℕ)} {c c2 : Option ℕ} {b b2 : Bool}
    → i ≡ i2 → l ≡ l2 → a ≡ a2 → o ≡ o2 → c ≡ c2 → b ≡ b2 → listing_with i l a o c b ≡ listing_with i2 l2 a2 o2 c2 b2
alike {i} {i2} {l} {l2} {a} {a2} {o} {o2} {c} {c2} {b} {b2} ei el ea eo ec eb =
    ap (λ x. listing_with x l a o c b) ei ∙ ap (λ x. listing_with i2 x a o c b) el ∙ ap (λ x. listing_with i2 l2 x o c b) ea
    ∙ ap (λ x. listing_with i2 l2 a2 x c b) eo ∙ ap (λ x. listing_with i2 l2 a2 o2 x b) ec ∙ ap (listing_with i2 l2 a2 o2 c2) eb

same_map : (f g : ℕ → Option ℕ) → ((c : ℕ) → f c ≡ g c) → (xs : List ℕ) → map f xs ≡ map g xs
same_map f g h [] = refl
same_map f g h (x ∷ xs) = ap (λ y. y ∷ map f xs) (h x) ∙ ap (λ ys. g x ∷ ys) (same_map f g h xs)

-- what some items and one more list, part by part
parts_on : (items : List Item) (x : Item) → listing_of (items ++ x ∷ [])
    ≡ listing_with (filter_map instruction_in items ++ cons_option (instruction_in x) []) (filter_map words_in items ++ cons_option (words_in x) []) (filter_map ask_in items ++ cons_option (ask_in x) [])
    (map (λ c. option_or (entry_among items (Some c)) (entry_in (Some c) x)) (range_with_len 0 8)) (option_or (entry_among items None) (entry_in None x)) (list_any is_statistics items || (is_statistics x || false))
unfolding listing_with
parts_on items x =
    alike (filter_map-append instruction_in items (x ∷ [])) (filter_map-append words_in items (x ∷ [])) (filter_map-append ask_in items (x ∷ []))
    (same_map (λ c. entry_among (items ++ x ∷ []) (Some c)) (λ c. option_or (entry_among items (Some c)) (entry_in (Some c) x)) (λ c. entry_snoc items x (Some c)) (range_with_len 0 8))
    (entry_snoc items x None) (list_any-append is_statistics items (x ∷ []))

no_entry_on : (items : List Item) → map (λ c. option_or (entry_among items (Some c)) None) (range_with_len 0 8) ≡ map (λ c. entry_among items (Some c)) (range_with_len 0 8)
no_entry_on items = same_map (λ c. option_or (entry_among items (Some c)) None) (λ c. entry_among items (Some c)) (λ c. option_or-None (entry_among items (Some c))) (range_with_len 0 8)

common_on : (o : Option ℕ) (pc : ℕ) → option_or o (Some pc) ≡ with_common_entry o pc
common_on None pc = refl
common_on (Some x) pc = refl

pub item_on_listing : (items : List Item) (x : Item) → HasCore x → listing_of (items ++ x ∷ []) ≡ with_item (listing_of items) x
unfolding listing_with
item_on_listing items (instruction i) h =
    parts_on items (instruction i) ∙ alike refl (append-nil _) (append-nil _) (no_entry_on items) (option_or-None _) (or-false _)
item_on_listing items (entry (Some core) pc) h =
    parts_on items (entry (Some core) pc) ∙ alike (append-nil _) (append-nil _) (append-nil _) (sym (own_entries_on (λ c. entry_among items (Some c)) core pc h)) (option_or-None _) (or-false _)
item_on_listing items (entry None pc) h =
    parts_on items (entry None pc) ∙ alike (append-nil _) (append-nil _) (append-nil _) (no_entry_on items) (common_on (entry_among items None) pc) (or-false _)
item_on_listing items (words addr values) h =
    parts_on items (words addr values) ∙ alike (append-nil _) refl (append-nil _) (no_entry_on items) (option_or-None _) (or-false _)
item_on_listing items (shown ask) h =
    parts_on items (shown ask) ∙ alike (append-nil _) (append-nil _) refl (no_entry_on items) (option_or-None _) (or-false _)
item_on_listing items statistics h =
    parts_on items statistics ∙ alike (append-nil _) (append-nil _) (append-nil _) (no_entry_on items) (option_or-None _) (or-true _)

-- ---- all items

built_on : (done rest : List Item) → AllByRecursion HasCore rest → fold with_item (listing_of done) rest ≡ listing_of (done ++ rest)
built_on done [] h = ap listing_of (sym (append-nil done))
built_on done (x ∷ rest) h =
    ap (λ p. fold with_item p rest) (sym (item_on_listing done x h.0)) ∙ built_on (done ++ x ∷ []) rest h.1 ∙ ap listing_of (append_assoc done (x ∷ []) rest)

-- the program of some items, from the empty program on
pub built : (items : List Item) → AllByRecursion HasCore items → fold with_item (listing_of []) items ≡ listing_of items
built items h = built_on [] items h

-- items add instructions behind those that are there
pub instructions_on : (p : Listing) (items : List Item) → (fold with_item p items).instrs ≡ p.instrs ++ filter_map instruction_in items
instructions_on p [] = sym (append-nil p.instrs)
instructions_on p (instruction i ∷ items) = instructions_on (with_item p (instruction i)) items ∙ append_assoc p.instrs (i ∷ []) (filter_map instruction_in items)
instructions_on p (entry (Some core) pc ∷ items) = instructions_on (with_item p (entry (Some core) pc)) items
instructions_on p (entry None pc ∷ items) = instructions_on (with_item p (entry None pc)) items
instructions_on p (words addr values ∷ items) = instructions_on (with_item p (words addr values)) items
instructions_on p (shown ask ∷ items) = instructions_on (with_item p (shown ask)) items
instructions_on p (statistics ∷ items) = instructions_on (with_item p statistics) items
