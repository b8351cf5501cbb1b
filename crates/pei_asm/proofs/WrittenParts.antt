-- The parts of a canonical text before its instructions: what they add, and the labels that they name.
use Rattle.std.proofs.lemmas.Bool.{and_parts}
use Rattle.std.proofs.lemmas.List.{append-nil}
use Rattle.std.proofs.lemmas.Grind.{flat_map-append}
use Rattle.std.proofs.lemmas.List.Elements.{filter_map-append}
use Rattle.std.proofs.lemmas.List.Folds.{list_all-append}
use Rattle.std.proofs.Common.{◌≡◌, ℕ, ◌+◌, ◌<◌, ◌≤◌, ◌^◌, Bool, true, false, ◌&&◌, if◌then◌else◌, List, [], ◌∷◌, ◌++◌, length, map, Option, Some, None, refl, sym, ◌∙◌, ap, arith}
use Rattle.std.specs.Prelude.{codes, decimal, filter, filter_map, flat_map, option_map}
use Rattle.std.specs.List.{AllByRecursion, AllZip, list_all}
use Rattle.pei_types.specs.declared.instructions.Ask.{Ask}
use Rattle.pei_types.specs.declared.instructions.Ask.TheVariants as ask
use Rattle.asm_statements.specs.Tokens.{Token, name, number, star}
use Rattle.asm_statements.specs.Mnemonics.{Item, words, shown, statistics}
use Rattle.asm_statements.specs.Statements.{Line, item_of}
use Rattle.pei_asm.specs.Meaning.{label_text, labels_defined, labels_used, names_label}
use Rattle.pei_asm.specs.Canonical.{ask_line, entry_line, label, line, own_entry_lines, phrase, statistics_line, words_line}
use Rattle.pei_asm.proofs.Phrases.{Reads, label_reads, number_reads}
use Rattle.pei_asm.proofs.CanonicalLines.{literal_reads}
use Rattle.pei_asm.proofs.CanonicalDirectives.{Directs, common_directs, own_directs, show_directs, statistics_directs, sum_directs, words_direct}
use Rattle.pei_asm.proofs.Writing.{Writes, writes_both, writes_line, writes_nothing}
use Rattle.pei_asm.proofs.Headers.{IsPlace, IsSmallAsk, IsWordsLine, common_items, own_items, own_items_of}
use Rattle.pei_asm.proofs.Uses.{directive_uses, label_passes, label_passing}

-- the labels that lines use pass a test
abbrev pub uses_pass : (List ℕ → Bool) → List Line → Bool
uses_pass q lines = list_all (λ t. q (label_text t.token)) (flat_map labels_used lines)

-- a part of a text that adds these items, defines no label and uses none but these
pub record Written (text : List ℕ) (items : (List ℕ → ℕ) → List Item) (names : List (List ℕ)) : Type 0 where
  pub lines : List Line
  pub writes : Writes text lines
  pub adds : (f : List ℕ → ℕ) → filter_map (λ l. option_map (item_of f) l.statement) lines ≡ items f
  pub unlabelled : labels_defined lines ≡ []
  pub used : (q : List ℕ → Bool) → list_all q names ≡ true → uses_pass q lines ≡ true

pub uses_both : (q : List ℕ → Bool) (ks ls : List Line) → uses_pass q ks ≡ true → uses_pass q ls ≡ true → uses_pass q (ks ++ ls) ≡ true
uses_both q ks ls h k =
    ap (list_all (λ t. q (label_text t.token))) (flat_map-append labels_used ks ls)
    ∙ list_all-append (λ t. q (label_text t.token)) (flat_map labels_used ks) (flat_map labels_used ls)
    ∙ ap (λ b. b && uses_pass q ls) h ∙ k

written_nothing : Written [] (λ f. []) []
written_nothing = record { lines = []; writes = writes_nothing; adds = λ f. refl; unlabelled = refl; used = λ q h. refl }

pub written_both : {s t : List ℕ} {i j : (List ℕ → ℕ) → List Item} {ns ms : List (List ℕ)} → Written s i ns → Written t j ms → Written (s ++ t) (λ f. i f ++ j f) (ns ++ ms)
written_both {s} {t} {i} {j} {ns} {ms} p r =
    record {
      lines = p.lines ++ r.lines;
      writes = writes_both s t p.lines r.lines p.writes r.writes;
      adds = λ f. filter_map-append (λ l. option_map (item_of f) l.statement) p.lines r.lines ∙ rw (p.adds f, r.adds f) refl;
      unlabelled = filter_map-append (λ l. l.label) p.lines r.lines ∙ rw (p.unlabelled, r.unlabelled) refl;
      used = λ q h.
          let parts = and_parts (list_all q ns) (list_all q ms) (sym (list_all-append q ns ms) ∙ h)
          in uses_both q p.lines r.lines (p.used q parts.0) (r.used q parts.1);
    }

written_line : {item : (List ℕ → ℕ) → Item} (m : List ℕ) (ws : List (List ℕ)) (ts : List Token) (names : List (List ℕ)) → Directs (phrase m ws) item → Reads m (name m) → AllZip Reads ws ts
    → ((q : List ℕ → Bool) → list_all q names ≡ true → list_all (label_passes q) ts ≡ true) → Written (line (phrase m ws)) (λ f. item f ∷ []) names
written_line m ws ts names d read each pass =
    let l : Line = record { label = None; statement = Some d.statement }
    in record {
      lines = l ∷ [];
      writes = writes_line (phrase m ws) l d.bytes d.is;
      adds = λ f. ap (λ x. x ∷ []) (d.adds f);
      unlabelled = refl;
      used = λ q h. ap (list_all (λ t. q (label_text t.token))) (append-nil (filter names_label d.statement.operands)) ∙ directive_uses q m ws ts d.statement d.is read each (pass q h);
    }

-- ---- entries

unfoldable pub names_of : Option ℕ → List (List ℕ)
names_of None = []
names_of (Some k) = label k ∷ []

label_alone_passes : (q : List ℕ → Bool) (k : ℕ) → list_all q (label k ∷ []) ≡ true → (label_passes q (name (label k)) && true) ≡ true
label_alone_passes q k h = ap (λ b. b && true) (label_passing q k (and_parts (q (label k)) true h).0)

common_written : (e : Option ℕ) → IsPlace e → Written (entry_line (codes "*") e) (common_items e) (names_of e)
unfolding IsPlace common_items names_of
common_written None h = written_nothing
common_written (Some k) h =
    written_line (codes ".entry") (codes "*" ∷ label k ∷ []) (star ∷ name (label k) ∷ []) (label k ∷ []) (common_directs k h) (literal_reads 46 (codes "entry") refl refl)
    ((λ column rest stops. refl), (label_reads k h, tt)) (λ q passes. label_alone_passes q k passes)

own_written_of : (core : ℕ) (e : Option ℕ) → core < 8 → IsPlace e → Written (entry_line (decimal core) e) (own_items_of core e) (names_of e)
unfolding IsPlace own_items_of names_of
own_written_of core None low h = written_nothing
own_written_of core (Some k) low h =
    written_line (codes ".entry") (decimal core ∷ label k ∷ []) (number false core ∷ name (label k) ∷ []) (label k ∷ []) (own_directs core k low h) (literal_reads 46 (codes "entry") refl refl)
    (number_reads core (omega (arith, low)), (label_reads k h, tt)) (λ q passes. label_alone_passes q k passes)

own_written : (core : ℕ) (es : List (Option ℕ)) → core + length es ≤ 8 → AllByRecursion IsPlace es → Written (own_entry_lines core es) (own_items core es) (flat_map names_of es)
unfolding own_items
own_written core [] low h = written_nothing
own_written core (e ∷ es) low h = written_both (own_written_of core e (omega (arith, low)) h.0) (own_written (core + 1) es (omega (arith, low)) h.1)

-- ---- asks and statistics

ask_written : (a : Ask) → IsSmallAsk a → Written (ask_line a) (λ f. shown a ∷ []) []
unfolding IsSmallAsk
ask_written (ask.Show addr count) h =
    written_line (codes ".show") (decimal addr ∷ decimal count ∷ []) (number false addr ∷ number false count ∷ []) [] (show_directs addr count h.0 h.1) (literal_reads 46 (codes "show") refl refl)
    (number_reads addr h.0, (number_reads count h.1, tt)) (λ q passes. refl)
ask_written (ask.Sum addr count) h =
    written_line (codes ".sum") (decimal addr ∷ decimal count ∷ []) (number false addr ∷ number false count ∷ []) [] (sum_directs addr count h.0 h.1) (literal_reads 46 (codes "sum") refl refl)
    (number_reads addr h.0, (number_reads count h.1, tt)) (λ q passes. refl)

asks_written : (asks : List Ask) → AllByRecursion IsSmallAsk asks → Written (flat_map ask_line asks) (λ f. map shown asks) []
asks_written [] h = written_nothing
asks_written (a ∷ asks) h = written_both (ask_written a h.0) (asks_written asks h.1)

statistics_written : (asked : Bool) → Written (statistics_line asked) (λ f. if asked then statistics ∷ [] else []) []
statistics_written true = written_line (codes ".stats") [] [] [] statistics_directs (literal_reads 46 (codes "stats") refl refl) tt (λ q passes. refl)
statistics_written false = written_nothing

-- ---- initial words

numbers_read : (ns : List ℕ) → AllByRecursion (λ n. n < 2 ^ 64) ns → AllZip Reads (map decimal ns) (map (number false) ns)
numbers_read [] h = tt
numbers_read (n ∷ ns) h = (number_reads n h.0, numbers_read ns h.1)

numbers_pass : (q : List ℕ → Bool) (ns : List ℕ) → list_all (label_passes q) (map (number false) ns) ≡ true
numbers_pass q [] = refl
numbers_pass q (n ∷ ns) = numbers_pass q ns

words_written_of : (addr : ℕ) (ns : List ℕ) → IsWordsLine (addr, ns) → Written (words_line (addr, ns)) (λ f. words addr ns ∷ []) []
unfolding IsWordsLine
words_written_of addr [] h = absurd h
words_written_of addr (n ∷ ns) h =
    written_line (codes ".data") (decimal addr ∷ map decimal (n ∷ ns)) (number false addr ∷ number false n ∷ map (number false) ns) [] (words_direct addr n ns h.0 h.1 h.2)
    (literal_reads 46 (codes "data") refl refl) (number_reads addr h.0, (number_reads n h.1, numbers_read ns h.2)) (λ q passes. numbers_pass q ns)

words_written : (lines : List (ℕ × List ℕ)) → AllByRecursion IsWordsLine lines → Written (flat_map words_line lines) (λ f. map (λ l. words l.0 l.1) lines) []
words_written [] h = written_nothing
words_written (l ∷ lines) h = written_both (words_written_of l.0 l.1 h.0) (words_written lines h.1)

-- ---- all of them

-- what stands before the instructions adds
abbrev pub header_items : Option ℕ → List (Option ℕ) → List (ℕ × List ℕ) → List Ask → Bool → (List ℕ → ℕ) → List Item
header_items common own lines asks asked f =
    common_items common f ++ (own_items 0 own f ++ (map (λ l. words l.0 l.1) lines ++ (map shown asks ++ (if asked then statistics ∷ [] else []))))

pub header_written : (common : Option ℕ) (own : List (Option ℕ)) (lines : List (ℕ × List ℕ)) (asks : List Ask) (asked : Bool) → IsPlace common → length own ≤ 8 → AllByRecursion IsPlace own
    → AllByRecursion IsWordsLine lines → AllByRecursion IsSmallAsk asks
    → Written (entry_line (codes "*") common ++ (own_entry_lines 0 own ++ (flat_map words_line lines ++ (flat_map ask_line asks ++ statistics_line asked)))) (header_items common own lines asks asked)
    (names_of common ++ (flat_map names_of own ++ []))
header_written common own lines asks asked h eight hs ws small =
    written_both (common_written common h) (written_both (own_written 0 own (omega (arith, eight)) hs) (written_both (words_written lines ws) (written_both (asks_written asks small) (statistics_written asked))))
