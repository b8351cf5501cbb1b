-- The canonical text of a program spells it.
use Rattle.std.proofs.lemmas.Bool.{eq-eqb}
use Rattle.std.proofs.lemmas.List.{append_assoc, append-nil}
use Rattle.std.proofs.lemmas.List.Elements.{filter_map-append, recursion_from_All}
use Rattle.std.proofs.lemmas.List.Folds.{list_all-append}
use Rattle.std.proofs.Common.{◌≡◌, ℕ, ◌+◌, ◌<◌, ◌≤◌, ◌^◌, Bool, true, ◌&&◌, ◌||◌, List, [], ◌∷◌, ◌++◌, length, map, Option, Some, None, refl, sym, ◌∙◌, ap, subst, arith}
use Rattle.std.specs.Prelude.{codes, filter_map, flat_map, is_some, option_map, unwrap_or, IfSome}
use Rattle.std.specs.List.{AllByRecursion, list_all, list_any}
use Rattle.pei_types.specs.Program.{HasRegisters, Listing}
use Rattle.asm_statements.specs.Mnemonics.{instruction, core_in, instruction_in}
use Rattle.asm_statements.specs.Statements.{Line, item_of}
use Rattle.pei_asm.specs.Meaning.{AreSound, Spells, are_distinct, lines_read, listing_of, place_among, program_of, same_core}
use Rattle.pei_asm.specs.Canonical.{IsPrintable, ask_line, canonical, entry_line, instr_lines, is_at, is_named, label, last_line, own_entry_lines, statistics_line, target_of, words_line}
use Rattle.pei_asm.proofs.InstrLines.{IsSmall, aimed}
use Rattle.pei_asm.proofs.Headers.{IsPlace, IsSmallAsk, IsWordsLine}
use Rattle.pei_asm.proofs.Writing.{Writes, empty_line, meant_whole, read_whole, writes_both}
use Rattle.pei_asm.proofs.LabelPlaces.{AreAt, empty_at, header_at}
use Rattle.pei_asm.proofs.WrittenParts.{Written, header_items, header_written, names_of, uses_both, uses_pass}
use Rattle.pei_asm.proofs.WrittenInstrs.{HasPassingTarget, InstrsWritten, LastWritten, instrs_written, last_written}
use Rattle.pei_asm.proofs.Reassembled.{cores_distinct, header_without_instr, listed_again}
use Rattle.std.proofs.Math.Bool.{or-true}

-- what each printable program meets
pub record IsWritable (p : Listing) : Type 0 where
  pub printable : IsPrintable p
  pub registers : AllByRecursion HasRegisters p.instrs
  pub small : AllByRecursion IsSmall p.instrs
  pub few : length p.instrs ≤ 65536
  pub eight : length p.own_entries ≡ 8
  pub words : AllByRecursion IsWordsLine p.lines
  pub asks : AllByRecursion IsSmallAsk p.asks

-- ---- facts on the places that elements name

module _ (P : ℕ → Type 0) where
  by_place : (o : Option ℕ) → ((k : ℕ) → is_at k o ≡ true → P k) → IfSome o P
  by_place None h = tt
  by_place (Some n) h = h n (eq-eqb n n refl)

  each_named : {X : Type 0} (place : X → Option ℕ) (xs : List X) → ((k : ℕ) → list_any (λ x. is_at k (place x)) xs ≡ true → P k) → AllByRecursion (λ x. IfSome (place x) P) xs
  each_named place [] h = tt
  each_named place (x ∷ xs) h = (
    by_place (place x) (λ k a. h k (ap (λ b. b || list_any (λ y. is_at k (place y)) xs) a)),
    each_named place xs (λ k a. h k (ap (λ b. is_at k (place x) || b) a ∙ or-true (is_at k (place x)))),
  )

module _ (P Q R : ℕ → Type 0) (both : (k : ℕ) → P k → Q k → R k) where
  by_both : (o : Option ℕ) → IfSome o P → IfSome o Q → IfSome o R
  by_both None h g = tt
  by_both (Some k) h g = both k h g

  each_both : {X : Type 0} (place : X → Option ℕ) (xs : List X) → AllByRecursion (λ x. IfSome (place x) P) xs → AllByRecursion (λ x. IfSome (place x) Q) xs → AllByRecursion (λ x. IfSome (place x) R) xs
  each_both place [] h g = tt
  each_both place (x ∷ xs) h g = (by_both (place x) h.0 g.0, each_both place xs h.1 g.1)

-- ---- names that pass a test

names_pass : (q : List ℕ → Bool) (o : Option ℕ) → IfSome o (λ k. q (label k) ≡ true) → list_all q (names_of o) ≡ true
unfolding names_of
names_pass q None h = refl
names_pass q (Some k) h = ap (λ b. b && true) h

all_names_pass : (q : List ℕ → Bool) (es : List (Option ℕ)) → AllByRecursion (λ e. IfSome e (λ k. q (label k) ≡ true)) es → list_all q (flat_map names_of es) ≡ true
all_names_pass q [] h = refl
all_names_pass q (e ∷ es) h = list_all-append q (names_of e) (flat_map names_of es) ∙ rw (names_pass q e h.0, all_names_pass q es h.1) refl

-- ---- the whole text

joined : (a b c d e i l : List ℕ) → (a ++ (b ++ (c ++ (d ++ e)))) ++ (i ++ l) ≡ a ++ b ++ c ++ d ++ e ++ i ++ l
joined a b c d e i l = simp append_assoc refl

module _ (p : Listing) (w : IsWritable p) where
  small_place : (k : ℕ) → k ≤ length p.instrs → k < 2 ^ 64
  small_place k h = omega (arith, h, w.few)

  is_place : (o : Option ℕ) → IfSome o (λ k. k ≤ length p.instrs) → IsPlace o
  unfolding IsPlace
  is_place None h = tt
  is_place (Some k) h = small_place k h

  are_places : (es : List (Option ℕ)) → AllByRecursion (λ e. IfSome e (λ k. k ≤ length p.instrs)) es → AllByRecursion IsPlace es
  are_places [] h = tt
  are_places (e ∷ es) h = (is_place e h.0, are_places es h.1)

  own_within : AllByRecursion (λ e. IfSome e (λ k. k ≤ length p.instrs)) p.own_entries
  own_within = recursion_from_All (λ e. IfSome e (λ k. k ≤ length p.instrs)) p.own_entries w.printable.own

  header_text : List ℕ
  header_text = entry_line (codes "*") p.common_entry ++ (own_entry_lines 0 p.own_entries ++ (flat_map words_line p.lines ++ (flat_map ask_line p.asks ++ statistics_line p.statistics)))

  header : Written header_text (header_items p.common_entry p.own_entries p.lines p.asks p.statistics) (names_of p.common_entry ++ (flat_map names_of p.own_entries ++ []))
  unfolding header_text
  header =
      header_written p.common_entry p.own_entries p.lines p.asks p.statistics (is_place p.common_entry w.printable.common) (omega (arith, w.eight)) (are_places p.own_entries own_within) w.words w.asks

  body : InstrsWritten (is_named p) 0 p.instrs (instr_lines p 0 p.instrs)
  body = instrs_written p 0 p.instrs w.registers w.small (omega (arith, w.few))

  last : LastWritten (is_named p) (length p.instrs) (last_line p)
  last = last_written p (omega (arith, w.few))

  lines : List Line
  lines = header.lines ++ (body.lines ++ last.lines)

  whole : List Line
  whole = lines ++ empty_line ∷ []

  writes : Writes (canonical p) lines
  unfolding header_text lines
  writes =
      subst (λ text. Writes text lines)
      (joined (entry_line (codes "*") p.common_entry) (own_entry_lines 0 p.own_entries) (flat_map words_line p.lines) (flat_map ask_line p.asks) (statistics_line p.statistics) (instr_lines p 0 p.instrs) (last_line p))
      (writes_both header_text (instr_lines p 0 p.instrs ++ last_line p) header.lines (body.lines ++ last.lines) header.writes
      (writes_both (instr_lines p 0 p.instrs) (last_line p) body.lines last.lines body.writes last.writes))

  -- ---- its labels

  at_header : AreAt (is_named p) 0 0 header.lines
  at_header = header_at (is_named p) header.lines header.unlabelled (ap (λ items. length (filter_map instruction_in items)) (header.adds (λ text. 0)) ∙ ap length (header_without_instr p (λ text. 0)))

  placed : AreAt (is_named p) (length p.instrs) (length p.instrs + 1) whole
  unfolding whole lines
  placed =
      let at_body : AreAt (is_named p) (length p.instrs) (length p.instrs) (header.lines ++ body.lines) =
      subst (λ n. AreAt (is_named p) n n (header.lines ++ body.lines)) (from_none (length p.instrs)) (body.placed header.lines at_header)
      in empty_at (is_named p) (length p.instrs) (length p.instrs + 1) (header.lines ++ (body.lines ++ last.lines))
      (subst (λ ls. AreAt (is_named p) (length p.instrs) (length p.instrs + 1) ls) (append_assoc header.lines body.lines last.lines) (last.placed (header.lines ++ body.lines) at_body))
    where
      from_none : (n : ℕ) → 0 + n ≡ n
      from_none n = omega arith

  place : List ℕ → ℕ
  place = λ text. unwrap_or (place_among whole text) 0

  is_label_there : List ℕ → Bool
  is_label_there = λ text. is_some (place_among whole text)

  abbrev Known : ℕ → Type 0
  Known k = place_among whole (label k) ≡ Some k

  known : (k : ℕ) → k ≤ length p.instrs → is_named p k ≡ true → Known k
  known k within named = placed.here k (omega (arith, within)) (small_place k within) named

  entry_named : (k : ℕ) → list_any (is_at k) (p.common_entry ∷ p.own_entries) ≡ true → is_named p k ≡ true
  entry_named k h = ap (λ b. b || list_any (λ i. is_at k (target_of i)) p.instrs) h

  target_named : (k : ℕ) → list_any (λ i. is_at k (target_of i)) p.instrs ≡ true → is_named p k ≡ true
  target_named k h = ap (λ b. list_any (is_at k) (p.common_entry ∷ p.own_entries) || b) h ∙ or-true (list_any (is_at k) (p.common_entry ∷ p.own_entries))

  entries_known : AllByRecursion (λ e. IfSome e Known) (p.common_entry ∷ p.own_entries)
  entries_known =
      each_both (λ k. k ≤ length p.instrs) (λ k. is_named p k ≡ true) Known known (λ e. e) (p.common_entry ∷ p.own_entries) (w.printable.common, own_within)
      (each_named (λ k. is_named p k ≡ true) (λ e. e) (p.common_entry ∷ p.own_entries) entry_named)

  targets_known : AllByRecursion (λ i. IfSome (target_of i) Known) p.instrs
  targets_known =
      each_both (λ k. k ≤ length p.instrs) (λ k. is_named p k ≡ true) Known known target_of p.instrs
      (recursion_from_All (λ i. IfSome (target_of i) (λ to. to ≤ length p.instrs)) p.instrs w.printable.targets)
      (each_named (λ k. is_named p k ≡ true) target_of p.instrs target_named)

  entries_placed : AllByRecursion (λ e. IfSome e (λ k. place (label k) ≡ k)) (p.common_entry ∷ p.own_entries)
  unfolding place
  entries_placed = each_both Known Known (λ k. place (label k) ≡ k) (λ k h g. ap (λ o. unwrap_or o 0) h) (λ e. e) (p.common_entry ∷ p.own_entries) entries_known entries_known

  targets_placed : AllByRecursion (λ i. IfSome (target_of i) (λ k. place (label k) ≡ k)) p.instrs
  unfolding place
  targets_placed = each_both Known Known (λ k. place (label k) ≡ k) (λ k h g. ap (λ o. unwrap_or o 0) h) target_of p.instrs targets_known targets_known

  entries_there : AllByRecursion (λ e. IfSome e (λ k. is_label_there (label k) ≡ true)) (p.common_entry ∷ p.own_entries)
  unfolding is_label_there
  entries_there = each_both Known Known (λ k. is_label_there (label k) ≡ true) (λ k h g. ap is_some h) (λ e. e) (p.common_entry ∷ p.own_entries) entries_known entries_known

  targets_there : AllByRecursion (HasPassingTarget is_label_there) p.instrs
  unfolding is_label_there
  targets_there = each_both Known Known (λ k. is_label_there (label k) ≡ true) (λ k h g. ap is_some h) target_of p.instrs targets_known targets_known

  used : uses_pass is_label_there whole ≡ true
  unfolding whole lines
  used =
      uses_both is_label_there (header.lines ++ (body.lines ++ last.lines)) (empty_line ∷ [])
      (uses_both is_label_there header.lines (body.lines ++ last.lines)
      (header.used is_label_there
      (list_all-append is_label_there (names_of p.common_entry) (flat_map names_of p.own_entries ++ [])
      ∙ ap (λ ns. list_all is_label_there (names_of p.common_entry) && list_all is_label_there ns) (append-nil (flat_map names_of p.own_entries))
      ∙ rw (names_pass is_label_there p.common_entry entries_there.0, all_names_pass is_label_there p.own_entries entries_there.1) refl))
      (uses_both is_label_there body.lines last.lines (body.used is_label_there targets_there) (last.used is_label_there)))
      refl

  -- ---- its items

  items_are : (f : List ℕ → ℕ) → filter_map (λ l. option_map (item_of f) l.statement) whole ≡ header_items p.common_entry p.own_entries p.lines p.asks p.statistics f ++ map (λ i. instruction (aimed f i)) p.instrs
  unfolding whole lines
  items_are f =
      let get = λ (l : Line). option_map (item_of f) l.statement
      in let instrs = map (λ i. instruction (aimed f i)) p.instrs
      in filter_map-append get (header.lines ++ (body.lines ++ last.lines)) (empty_line ∷ [])
      ∙ append-nil (filter_map get (header.lines ++ (body.lines ++ last.lines)))
      ∙ filter_map-append get header.lines (body.lines ++ last.lines)
      ∙ ap (λ xs. xs ++ filter_map get (body.lines ++ last.lines)) (header.adds f)
      ∙ ap (λ xs. header_items p.common_entry p.own_entries p.lines p.asks p.statistics f ++ xs)
      (filter_map-append get body.lines last.lines ∙ ap (λ xs. xs ++ filter_map get last.lines) (body.adds f) ∙ ap (λ xs. instrs ++ xs) (last.adds f) ∙ append-nil instrs)

  sound : AreSound whole
  unfolding is_label_there
  sound =
      record {
        labels = placed.distinct;
        used = used;
        entries = ap (λ items. are_distinct same_core (filter_map core_in items)) (items_are (λ text. 0)) ∙ cores_distinct p (λ text. 0);
        room = omega (arith, placed.counted, w.few);
      }

  program : program_of whole ≡ p
  unfolding place
  program = ap listing_of (items_are place) ∙ listed_again p place entries_placed.0 entries_placed.1 targets_placed w.eight

  pub canonical_spells : Spells (canonical p) p
  unfolding whole
  canonical_spells =
      let read : lines_read (canonical p) ≡ whole = read_whole (canonical p) lines writes
      in record {
        each = meant_whole (canonical p) lines writes;
        sound = subst AreSound (sym read) sound;
        program = sym (ap program_of read ∙ program);
      }
