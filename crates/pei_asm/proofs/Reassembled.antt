-- The items of a canonical text list its program.
use Rattle.std.proofs.lemmas.Bool.{eqb-true, eq-eqb}
use Rattle.std.proofs.lemmas.List.{append-nil}
use Rattle.std.proofs.lemmas.List.Elements.{filter_map-append}
use Rattle.std.proofs.lemmas.List.Folds.{list_any-append}
use Rattle.std.proofs.lemmas.List.FromFn.{fill_by_all}
use Rattle.std.proofs.Common.{◌≡◌, ◌≢◌, ℕ, zero, suc, ◌+◌, ◌<◌, ◌≤◌, nat_eq, Bool, true, false, not, ◌&&◌, if◌then◌else◌, List, [], ◌∷◌, ◌++◌, length, map, Option, Some, None, refl, sym, ◌∙◌, ap, arith}
use Rattle.std.specs.Prelude.{filter_map, slice_get, slice_index_or, IfSome}
use Rattle.std.specs.List.{AllByRecursion, list_any}
use Rattle.pei_types.specs.declared.instructions.Ask.{Ask}
use Rattle.pei_types.specs.declared.instructions.Instr.{Instr}
use Rattle.pei_types.specs.declared.instructions.Instr.TheVariants as instr
use Rattle.pei_types.specs.Program.{Listing}
use Rattle.asm_statements.specs.Mnemonics.{Item, instruction, entry, words, shown, statistics, core_in, instruction_in}
use Rattle.pei_asm.specs.Meaning.{are_distinct, are_new, ask_in, entry_among, entry_in, is_statistics, listing_of, same_core, words_in}
use Rattle.pei_asm.specs.Canonical.{label, target_of}
use Rattle.pei_asm.proofs.InstrLines.{aimed}
use Rattle.pei_asm.proofs.Headers.{common_items, own_items, own_items_of}
use Rattle.pei_asm.proofs.WrittenParts.{header_items}

-- ---- instructions whose labels have their places

-- labels have the places that these name
abbrev pub IsPlaced : (List ℕ → ℕ) → Option ℕ → Type 0
IsPlaced f e = IfSome e (λ k. f (label k) ≡ k)

aimed_same : (f : List ℕ → ℕ) (i : Instr) → IsPlaced f (target_of i) → aimed f i ≡ i
aimed_same f (instr.Li rd n) h = refl
aimed_same f (instr.Add rd ra rb) h = refl
aimed_same f (instr.Sub rd ra rb) h = refl
aimed_same f (instr.Mul rd ra rb) h = refl
aimed_same f (instr.And rd ra rb) h = refl
aimed_same f (instr.Or rd ra rb) h = refl
aimed_same f (instr.Xor rd ra rb) h = refl
aimed_same f (instr.Addi rd ra n) h = refl
aimed_same f (instr.Andi rd ra n) h = refl
aimed_same f (instr.Shl rd ra n) h = refl
aimed_same f (instr.Shr rd ra n) h = refl
aimed_same f (instr.Ld rd ra n) h = refl
aimed_same f (instr.St rv ra n) h = refl
aimed_same f (instr.Beq ra rb to) h = ap (instr.Beq ra rb) h
aimed_same f (instr.Bne ra rb to) h = ap (instr.Bne ra rb) h
aimed_same f (instr.Bltu ra rb to) h = ap (instr.Bltu ra rb) h
aimed_same f (instr.Bgeu ra rb to) h = ap (instr.Bgeu ra rb) h
aimed_same f (instr.Jmp to) h = ap instr.Jmp h
aimed_same f (instr.Pinc ra n) h = refl
aimed_same f (instr.Pmin ra n rv) h = refl
aimed_same f (instr.Pprobe rd ra n rk) h = refl
aimed_same f (instr.Phist rd ra n rs) h = refl
aimed_same f (instr.Pdot rd ra n rx) h = refl
aimed_same f instr.Pfence h = refl
aimed_same f (instr.Out ra) h = refl
aimed_same f instr.Halt h = refl

-- ---- what one part gives

instrs_given : (f : List ℕ → ℕ) (is : List Instr) → AllByRecursion (λ i. IsPlaced f (target_of i)) is → filter_map instruction_in (map (λ i. instruction (aimed f i)) is) ≡ is
instrs_given f [] h = refl
instrs_given f (i ∷ is) h = ap (λ x. x ∷ filter_map instruction_in (map (λ y. instruction (aimed f y)) is)) (aimed_same f i h.0) ∙ ap (λ xs. i ∷ xs) (instrs_given f is h.1)

words_given : (lines : List (ℕ × List ℕ)) → filter_map words_in (map (λ l. words l.0 l.1) lines) ≡ lines
words_given [] = refl
words_given (l ∷ lines) = ap (λ xs. l ∷ xs) (words_given lines)

asks_given : (asks : List Ask) → filter_map ask_in (map shown asks) ≡ asks
asks_given [] = refl
asks_given (a ∷ asks) = ap (λ xs. a ∷ xs) (asks_given asks)

module _ {X : Type 0} (get : Item → Option X) where
  common_none : (common : Option ℕ) (f : List ℕ → ℕ) → ((pc : ℕ) → get (entry None pc) ≡ None) → filter_map get (common_items common f) ≡ []
  unfolding common_items
  common_none None f h = refl
  common_none (Some k) f h = rw (h (f (label k))) refl

  own_none_of : (core : ℕ) (e : Option ℕ) (f : List ℕ → ℕ) → ((pc : ℕ) → get (entry (Some core) pc) ≡ None) → filter_map get (own_items_of core e f) ≡ []
  unfolding own_items_of
  own_none_of core None f h = refl
  own_none_of core (Some k) f h = rw (h (f (label k))) refl

  own_none : (core : ℕ) (es : List (Option ℕ)) (f : List ℕ → ℕ) → ((c pc : ℕ) → core ≤ c → get (entry (Some c) pc) ≡ None) → filter_map get (own_items core es f) ≡ []
  unfolding own_items
  own_none core [] f h = refl
  own_none core (e ∷ es) f h =
      filter_map-append get (own_items_of core e f) (own_items (core + 1) es f)
      ∙ rw (own_none_of core e f (λ pc. h core pc (omega arith)), own_none (core + 1) es f (λ c pc less. h c pc (omega (arith, less)))) refl

  words_none : (lines : List (ℕ × List ℕ)) → ((addr : ℕ) (ns : List ℕ) → get (words addr ns) ≡ None) → filter_map get (map (λ l. words l.0 l.1) lines) ≡ []
  words_none [] h = refl
  words_none (l ∷ lines) h = rw (h l.0 l.1) (words_none lines h)

  asks_none : (asks : List Ask) → ((a : Ask) → get (shown a) ≡ None) → filter_map get (map shown asks) ≡ []
  asks_none [] h = refl
  asks_none (a ∷ asks) h = rw (h a) (asks_none asks h)

  statistics_none : (asked : Bool) → get statistics ≡ None → filter_map get (if asked then statistics ∷ [] else []) ≡ []
  statistics_none true h = rw h refl
  statistics_none false h = refl

  instrs_none : (f : List ℕ → ℕ) (is : List Instr) → ((i : Instr) → get (instruction i) ≡ None) → filter_map get (map (λ i. instruction (aimed f i)) is) ≡ []
  instrs_none f [] h = refl
  instrs_none f (i ∷ is) h = rw (h (aimed f i)) (instrs_none f is h)

  -- part by part
  six : (a b c d e i : List Item) (a' b' c' d' e' i' : List X) → filter_map get a ≡ a' → filter_map get b ≡ b' → filter_map get c ≡ c' → filter_map get d ≡ d' → filter_map get e ≡ e' → filter_map get i ≡ i'
      → filter_map get ((a ++ (b ++ (c ++ (d ++ e)))) ++ i) ≡ (a' ++ (b' ++ (c' ++ (d' ++ e')))) ++ i'
  six a b c d e i a' b' c' d' e' i' ha hb hc hd he hi =
      filter_map-append get (a ++ (b ++ (c ++ (d ++ e)))) i
      ∙ ap (λ xs. xs ++ filter_map get i) (filter_map-append get a (b ++ (c ++ (d ++ e)))
      ∙ ap (λ xs. filter_map get a ++ xs) (filter_map-append get b (c ++ (d ++ e))
      ∙ ap (λ xs. filter_map get b ++ xs) (filter_map-append get c (d ++ e) ∙ ap (λ xs. filter_map get c ++ xs) (filter_map-append get d e))))
      ∙ rw (ha, hb, hc, hd, he, hi) refl

-- ---- entries

unfoldable pub listed_entry : Option ℕ → List ℕ
listed_entry None = []
listed_entry (Some k) = k ∷ []

common_given : (common : Option ℕ) (f : List ℕ → ℕ) → IsPlaced f common → filter_map (entry_in None) (common_items common f) ≡ listed_entry common
unfolding common_items listed_entry
common_given None f h = refl
common_given (Some k) f h = ap (λ n. n ∷ []) h

other_core : (c k : ℕ) → c ≢ k → nat_eq c k ≡ false
other_core c k other = by_test (nat_eq c k) refl
  where
    by_test : (b : Bool) → nat_eq c k ≡ b → b ≡ false
    by_test true e = absurd (other (eqb-true c k e))
    by_test false e = refl

not_its : (c k pc : ℕ) → c ≢ k → entry_in (Some c) (entry (Some k) pc) ≡ None
not_its c k pc other = ap (λ b. if b then Some pc else None) (other_core c k other)

its : (c k pc : ℕ) → c ≡ k → entry_in (Some c) (entry (Some k) pc) ≡ Some pc
its c k pc same = ap (λ b. if b then Some pc else None) (eq-eqb c k same)

-- the entry of a core is the one in its place
own_given : (f : List ℕ → ℕ) (c k d : ℕ) (es : List (Option ℕ)) → c ≡ k + d → AllByRecursion (IsPlaced f) es → slice_get (filter_map (entry_in (Some c)) (own_items k es f)) 0 ≡ slice_index_or es d None
unfolding own_items own_items_of
own_given f c k zero [] e h = refl
own_given f c k (suc d) [] e h = refl
own_given f c k zero (None ∷ es) e h =
    ap (λ xs. slice_get xs 0) (own_none (entry_in (Some c)) (k + 1) es f (λ c' pc less. not_its c c' pc (λ same. absurd (omega (arith, e, less, same)))))
own_given f c k zero (Some n ∷ es) e h =
    ap (λ xs. slice_get xs 0) (filter_map-append (entry_in (Some c)) (entry (Some k) (f (label n)) ∷ []) (own_items (k + 1) es f))
    ∙ rw (its c k (f (label n)) (omega (arith, e))) (ap Some h.0)
own_given f c k (suc d) (None ∷ es) e h = own_given f c (k + 1) d es (omega (arith, e)) h.1
own_given f c k (suc d) (Some n ∷ es) e h =
    ap (λ xs. slice_get xs 0) (filter_map-append (entry_in (Some c)) (entry (Some k) (f (label n)) ∷ []) (own_items (k + 1) es f))
    ∙ rw (not_its c k (f (label n)) (λ same. absurd (omega (arith, e, same)))) (own_given f c (k + 1) d es (omega (arith, e)) h.1)

-- ---- the program

module _ (p : Listing) (f : List ℕ → ℕ) (common_placed : IsPlaced f p.common_entry) (own_placed : AllByRecursion (IsPlaced f) p.own_entries)
    (instrs_placed : AllByRecursion (λ i. IsPlaced f (target_of i)) p.instrs) (eight : length p.own_entries ≡ 8) where
  items : List Item
  items = header_items p.common_entry p.own_entries p.lines p.asks p.statistics f ++ map (λ i. instruction (aimed f i)) p.instrs

  by_six : {X : Type 0} (get : Item → Option X) (a b c d e i : List X) → filter_map get (common_items p.common_entry f) ≡ a → filter_map get (own_items 0 p.own_entries f) ≡ b
      → filter_map get (map (λ l. words l.0 l.1) p.lines) ≡ c → filter_map get (map shown p.asks) ≡ d → filter_map get (if p.statistics then statistics ∷ [] else []) ≡ e
      → filter_map get (map (λ i. instruction (aimed f i)) p.instrs) ≡ i → filter_map get items ≡ (a ++ (b ++ (c ++ (d ++ e)))) ++ i
  unfolding items
  by_six get a b c d e i ha hb hc hd he hi = six get (common_items p.common_entry f) (own_items 0 p.own_entries f) (map (λ l. words l.0 l.1) p.lines) (map shown p.asks) (if p.statistics then statistics ∷ [] else []) (map (λ i. instruction (aimed f i)) p.instrs) a b c d e i ha hb hc hd he hi

  instrs_are : filter_map instruction_in items ≡ p.instrs
  instrs_are =
      by_six instruction_in [] [] [] [] [] p.instrs (common_none instruction_in p.common_entry f (λ pc. refl)) (own_none instruction_in 0 p.own_entries f (λ c pc less. refl))
      (words_none instruction_in p.lines (λ a ns. refl)) (asks_none instruction_in p.asks (λ a. refl)) (statistics_none instruction_in p.statistics refl) (instrs_given f p.instrs instrs_placed)

  lines_are : filter_map words_in items ≡ p.lines
  lines_are =
      by_six words_in [] [] p.lines [] [] [] (common_none words_in p.common_entry f (λ pc. refl)) (own_none words_in 0 p.own_entries f (λ c pc less. refl))
      (words_given p.lines) (asks_none words_in p.asks (λ a. refl)) (statistics_none words_in p.statistics refl) (instrs_none words_in f p.instrs (λ i. refl))
      ∙ append-nil (p.lines ++ []) ∙ append-nil p.lines

  asks_are : filter_map ask_in items ≡ p.asks
  asks_are =
      by_six ask_in [] [] [] p.asks [] [] (common_none ask_in p.common_entry f (λ pc. refl)) (own_none ask_in 0 p.own_entries f (λ c pc less. refl))
      (words_none ask_in p.lines (λ a ns. refl)) (asks_given p.asks) (statistics_none ask_in p.statistics refl) (instrs_none ask_in f p.instrs (λ i. refl))
      ∙ append-nil (p.asks ++ []) ∙ append-nil p.asks

  common_is : entry_among items None ≡ p.common_entry
  unfolding listed_entry
  common_is =
      ap (λ xs. slice_get xs 0) (by_six (entry_in None) (listed_entry p.common_entry) [] [] [] [] [] (common_given p.common_entry f common_placed) (own_none (entry_in None) 0 p.own_entries f (λ c pc less. refl))
      (words_none (entry_in None) p.lines (λ a ns. refl)) (asks_none (entry_in None) p.asks (λ a. refl)) (statistics_none (entry_in None) p.statistics refl) (instrs_none (entry_in None) f p.instrs (λ i. refl)))
      ∙ by_given p.common_entry
    where
      by_given : (o : Option ℕ) → slice_get ((listed_entry o ++ []) ++ []) 0 ≡ o
      by_given None = refl
      by_given (Some k) = refl

  own_is : (c : ℕ) → c < 8 → slice_index_or p.own_entries c None ≡ entry_among items (Some c)
  own_is c low =
      let mine = filter_map (entry_in (Some c)) (own_items 0 p.own_entries f)
      in sym (ap (λ xs. slice_get xs 0) (by_six (entry_in (Some c)) [] mine [] [] [] [] (common_none (entry_in (Some c)) p.common_entry f (λ pc. refl)) refl
      (words_none (entry_in (Some c)) p.lines (λ a ns. refl)) (asks_none (entry_in (Some c)) p.asks (λ a. refl)) (statistics_none (entry_in (Some c)) p.statistics refl) (instrs_none (entry_in (Some c)) f p.instrs (λ i. refl))
      ∙ append-nil (mine ++ []) ∙ append-nil mine)
      ∙ own_given f c 0 c p.own_entries (omega arith) own_placed)

  asked_is : list_any is_statistics items ≡ p.statistics
  unfolding items
  asked_is = any_by_filter items ∙ ap some (by_six asked [] [] [] [] (marks p.statistics) [] (common_none asked p.common_entry f (λ pc. refl)) (own_none asked 0 p.own_entries f (λ c pc less. refl))
      (words_none asked p.lines (λ a ns. refl)) (asks_none asked p.asks (λ a. refl)) (marked p.statistics) (instrs_none asked f p.instrs (λ i. refl))) ∙ by_mark p.statistics
    where
      asked : Item → Option Bool
      asked statistics = Some true
      asked _ = None

      some : List Bool → Bool
      some [] = false
      some (x ∷ xs) = true

      marks : Bool → List Bool
      marks true = true ∷ []
      marks false = []

      marked : (b : Bool) → filter_map asked (if b then statistics ∷ [] else []) ≡ marks b
      marked true = refl
      marked false = refl

      any_by_filter : (xs : List Item) → list_any is_statistics xs ≡ some (filter_map asked xs)
      any_by_filter [] = refl
      any_by_filter (instruction i ∷ xs) = any_by_filter xs
      any_by_filter (entry c pc ∷ xs) = any_by_filter xs
      any_by_filter (words addr ns ∷ xs) = any_by_filter xs
      any_by_filter (shown a ∷ xs) = any_by_filter xs
      any_by_filter (statistics ∷ xs) = refl

      by_mark : (b : Bool) → some (marks b ++ []) ≡ b
      by_mark true = refl
      by_mark false = refl

  listing_is : (instrs : List Instr) (lines : List (ℕ × List ℕ)) (asks : List Ask) (own : List (Option ℕ)) (common : Option ℕ) (asked : Bool)
      → instrs ≡ p.instrs → lines ≡ p.lines → asks ≡ p.asks → own ≡ p.own_entries → common ≡ p.common_entry → asked ≡ p.statistics
      → record { instrs = instrs; lines = lines; asks = asks; own_entries = own; common_entry = common; statistics = asked } ≡ p
  listing_is instrs lines asks own common asked a b c d e g = rw (a, b, c, d, e, g) refl

  pub listed_again : listing_of (header_items p.common_entry p.own_entries p.lines p.asks p.statistics f ++ map (λ i. instruction (aimed f i)) p.instrs) ≡ p
  unfolding items
  listed_again =
      listing_is _ _ _ _ _ _ instrs_are lines_are asks_are (sym (fill_by_all (λ c. entry_among items (Some c)) p.own_entries 8 None eight own_is)) common_is asked_is

-- what stands before the instructions has none
pub header_without_instr : (p : Listing) (f : List ℕ → ℕ) → filter_map instruction_in (header_items p.common_entry p.own_entries p.lines p.asks p.statistics f) ≡ []
header_without_instr p f =
    ap (filter_map instruction_in) (sym (append-nil (header_items p.common_entry p.own_entries p.lines p.asks p.statistics f)))
    ∙ six instruction_in (common_items p.common_entry f) (own_items 0 p.own_entries f) (map (λ l. words l.0 l.1) p.lines) (map shown p.asks) (if p.statistics then statistics ∷ [] else []) [] [] [] [] [] [] []
    (common_none instruction_in p.common_entry f (λ pc. refl)) (own_none instruction_in 0 p.own_entries f (λ c pc less. refl))
    (words_none instruction_in p.lines (λ a ns. refl)) (asks_none instruction_in p.asks (λ a. refl)) (statistics_none instruction_in p.statistics refl) refl

-- ---- cores

core_of_own : (f : List ℕ → ℕ) (earlier : List (Option ℕ)) (k : ℕ) (es : List (Option ℕ)) → ((c : ℕ) → k ≤ c → list_any (same_core (Some c)) earlier ≡ false)
    → are_new same_core earlier (filter_map core_in (own_items k es f)) ≡ true
unfolding own_items own_items_of
core_of_own f earlier k [] h = refl
core_of_own f earlier k (None ∷ es) h = core_of_own f earlier (k + 1) es (λ c less. h c (omega (arith, less)))
core_of_own f earlier k (Some n ∷ es) h =
    ap (λ b. not b && are_new same_core (earlier ++ Some k ∷ []) (filter_map core_in (own_items (k + 1) es f))) (h k (omega arith))
    ∙ core_of_own f (earlier ++ Some k ∷ []) (k + 1) es
    (λ c less. list_any-append (same_core (Some c)) earlier (Some k ∷ []) ∙ rw (h c (omega (arith, less)), other_core c k (λ same. absurd (omega (arith, less, same)))) refl)

-- no core has two entries
pub cores_distinct : (p : Listing) (f : List ℕ → ℕ)
    → are_distinct same_core (filter_map core_in (header_items p.common_entry p.own_entries p.lines p.asks p.statistics f ++ map (λ i. instruction (aimed f i)) p.instrs)) ≡ true
unfolding common_items
cores_distinct p f =
    let own = filter_map core_in (own_items 0 p.own_entries f)
    in ap (are_distinct same_core) (six core_in (common_items p.common_entry f) (own_items 0 p.own_entries f) (map (λ l. words l.0 l.1) p.lines) (map shown p.asks) (if p.statistics then statistics ∷ [] else []) (map (λ i. instruction (aimed f i)) p.instrs) (filter_map core_in (common_items p.common_entry f)) own [] [] [] [] refl refl
    (words_none core_in p.lines (λ a ns. refl)) (asks_none core_in p.asks (λ a. refl)) (statistics_none core_in p.statistics refl) (instrs_none core_in f p.instrs (λ i. refl))
    ∙ append-nil (filter_map core_in (common_items p.common_entry f) ++ (own ++ [])) ∙ ap (λ xs. filter_map core_in (common_items p.common_entry f) ++ xs) (append-nil own))
    ∙ by_common p.common_entry
  where
    by_common : (o : Option ℕ) → are_new same_core [] (filter_map core_in (common_items o f) ++ filter_map core_in (own_items 0 p.own_entries f)) ≡ true
    by_common None = core_of_own f [] 0 p.own_entries (λ c less. refl)
    by_common (Some k) = core_of_own f (None ∷ []) 0 p.own_entries (λ c less. refl)
