-- The labels of a canonical text and their places.
use Rattle.std.proofs.lemmas.Bool.{ltb-true, ltb-false}
use Rattle.std.proofs.lemmas.List.{append_assoc, append-nil}
use Rattle.std.proofs.lemmas.List.Elements.{filter_map-append}
use Rattle.std.proofs.lemmas.Slice.Eq.{bytes_eq-Decides}
use Rattle.std.proofs.Common.{◌≡◌, ◌≢◌, ℕ, ◌+◌, ◌<◌, ◌≤◌, ◌^◌, nat_lt, Bool, true, false, not, ◌&&◌, if◌then◌else◌, List, [], ◌∷◌, ◌++◌, Some, None, refl, sym, ◌∙◌, ap, arith}
use Rattle.std.specs.Prelude.{is_some}
use Rattle.std.specs.List.{cons_option, list_any}
use Rattle.std.specs.Option.{option_map_or, option_or}
use Rattle.std.specs.Str.{bytes_eq}
use Rattle.asm_statements.specs.Statements.{Line}
use Rattle.pei_asm.specs.Meaning.{are_distinct, are_new, defines, instruction_count, labels_defined, place_among}
use Rattle.pei_asm.specs.Stored.{instruction_on}
use Rattle.pei_asm.specs.Canonical.{label}
use Rattle.pei_asm.proofs.InstrParts.{label_if}
use Rattle.pei_asm.proofs.Phrases.{label_injective}
use Rattle.pei_asm.proofs.Placing.{count_snoc, no_place, place_snoc, placed_where_defined}

-- ---- equal labels

same_bytes : (xs : List ℕ) → bytes_eq xs xs ≡ true
same_bytes xs = (bytes_eq-Decides xs xs).1 refl

other_label : (j k : ℕ) → j < 2 ^ 64 → k < 2 ^ 64 → j ≢ k → bytes_eq (label j) (label k) ≡ false
other_label j k small_j small_k other = by_test (bytes_eq (label j) (label k)) refl
  where
    by_test : (b : Bool) → bytes_eq (label j) (label k) ≡ b → b ≡ false
    by_test true e = absurd (other (label_injective j k small_j small_k ((bytes_eq-Decides (label j) (label k)).0 e)))
    by_test false e = refl

-- ---- distinct ones

pub new_snoc : {X : Type 0} (eq : X → X → Bool) (earlier xs : List X) (y : X) → are_new eq earlier xs ≡ true → list_any (eq y) (earlier ++ xs) ≡ false → are_new eq earlier (xs ++ y ∷ []) ≡ true
new_snoc eq earlier [] y h other = ap (λ b. not b && true) (ap (list_any (eq y)) (sym (append-nil earlier)) ∙ other)
new_snoc eq earlier (x ∷ xs) y h other =
    by_first (not (list_any (eq x) earlier)) h (λ rest. new_snoc eq (earlier ++ x ∷ []) xs y rest (ap (list_any (eq y)) (append_assoc earlier (x ∷ []) xs) ∙ other))
  where
    by_first : (b : Bool) → (b && are_new eq (earlier ++ x ∷ []) xs) ≡ true → (are_new eq (earlier ++ x ∷ []) xs ≡ true → are_new eq (earlier ++ x ∷ []) (xs ++ y ∷ []) ≡ true)
        → (b && are_new eq (earlier ++ x ∷ []) (xs ++ y ∷ [])) ≡ true
    by_first true k next = next k
    by_first false k next = absurd (cc k)

-- ---- lines one by one

-- the lines have so many instructions, and those labels below a number that a test names, each at its place
pub record AreAt (named : ℕ → Bool) (count below : ℕ) (ls : List Line) : Type 0 where
  pub counted : instruction_count ls ≡ count
  pub here : (j : ℕ) → j < below → j < 2 ^ 64 → named j ≡ true → place_among ls (label j) ≡ Some j
  pub later : (j : ℕ) → below ≤ j → j < 2 ^ 64 → place_among ls (label j) ≡ None
  pub distinct : are_distinct bytes_eq (labels_defined ls) ≡ true

-- the instructions of a line that has one, or none
abbrev pub instructions_on : Line → ℕ
instructions_on l = if is_some (instruction_on l) then 1 else 0

distinct_on : (ls : List Line) (l : Line) (k : ℕ) (named : Bool) → l.label ≡ label_if named k → place_among ls (label k) ≡ None → are_distinct bytes_eq (labels_defined ls) ≡ true
    → are_distinct bytes_eq (labels_defined (ls ++ l ∷ [])) ≡ true
distinct_on ls l k named at none h =
    ap (are_distinct bytes_eq) (filter_map-append (λ x. x.label) ls (l ∷ []) ∙ ap (λ o. labels_defined ls ++ cons_option o []) at) ∙ by_name named
  where
    by_name : (b : Bool) → are_distinct bytes_eq (labels_defined ls ++ cons_option (label_if b k) []) ≡ true
    by_name true = new_snoc bytes_eq [] (labels_defined ls) (label k) h (sym (placed_where_defined ls (label k)) ∙ ap is_some none)
    by_name false = ap (are_distinct bytes_eq) (append-nil (labels_defined ls)) ∙ h

-- a line of the place that comes next
pub line_at : (named : ℕ → Bool) (k : ℕ) (ls : List Line) (l : Line) → k < 2 ^ 64 → l.label ≡ label_if (named k) k → AreAt named k k ls → AreAt named (k + instructions_on l) (k + 1) (ls ++ l ∷ [])
line_at named k ls l small at h =
    record {
      counted = count_snoc ls l ∙ ap (λ n. n + instructions_on l) h.counted;
      here = λ j low small_j is_named. place_snoc ls l (label j) ∙ here j small_j is_named (nat_lt j k) refl low;
      later = λ j high small_j. place_snoc ls l (label j) ∙ later j high small_j;
      distinct = distinct_on ls l k (named k) at (h.later k (omega arith) small) h.distinct;
    }
  where
    defined : (b : Bool) → named k ≡ b → b ≡ true → (if defines (label k) l then Some (instruction_count ls) else None) ≡ Some k
    defined true e q =
        ap (λ o. if option_map_or (bytes_eq (label k)) o false then Some (instruction_count ls) else None) (at ∙ ap (λ b. label_if b k) e)
        ∙ ap (λ b. if b then Some (instruction_count ls) else None) (same_bytes (label k)) ∙ ap Some h.counted
    defined false e q = absurd (cc q)

    here : (j : ℕ) → j < 2 ^ 64 → named j ≡ true → (b : Bool) → nat_lt j k ≡ b → j < k + 1 → option_or (place_among ls (label j)) (if defines (label j) l then Some (instruction_count ls) else None) ≡ Some j
    here j small_j is_named true e low = ap (λ o. option_or o (if defines (label j) l then Some (instruction_count ls) else None)) (h.here j (ltb-true j k e) small_j is_named)
    here j small_j is_named false e low =
        let same : j ≡ k = omega (arith, ltb-false j k e, low)
        in ap (λ o. option_or o (if defines (label j) l then Some (instruction_count ls) else None)) (h.later j (ltb-false j k e) small_j)
        ∙ ap (λ i. if defines (label i) l then Some (instruction_count ls) else None) same ∙ defined (named k) refl (ap named (sym same) ∙ is_named) ∙ ap Some (sym same)

    undefined : (j : ℕ) → k + 1 ≤ j → j < 2 ^ 64 → (b : Bool) → option_map_or (bytes_eq (label j)) (label_if b k) false ≡ false
    undefined j high small_j true = other_label j k small_j small (λ e. absurd (omega (arith, high, e)))
    undefined j high small_j false = refl

    later : (j : ℕ) → k + 1 ≤ j → j < 2 ^ 64 → option_or (place_among ls (label j)) (if defines (label j) l then Some (instruction_count ls) else None) ≡ None
    later j high small_j =
        ap (λ o. option_or o (if defines (label j) l then Some (instruction_count ls) else None)) (h.later j (omega (arith, high)) small_j)
        ∙ ap (λ o. if option_map_or (bytes_eq (label j)) o false then Some (instruction_count ls) else None) at
        ∙ ap (λ b. if b then Some (instruction_count ls) else None) (undefined j high small_j (named k))

-- a place that nothing names needs no line
pub passed_over : (named : ℕ → Bool) (k : ℕ) (ls : List Line) → named k ≡ false → AreAt named k k ls → AreAt named k (k + 1) ls
passed_over named k ls unnamed h =
    record {
      counted = h.counted;
      here = λ j low small is_named. here j small is_named (nat_lt j k) refl low;
      later = λ j high small. h.later j (omega (arith, high)) small;
      distinct = h.distinct;
    }
  where
    here : (j : ℕ) → j < 2 ^ 64 → named j ≡ true → (b : Bool) → nat_lt j k ≡ b → j < k + 1 → place_among ls (label j) ≡ Some j
    here j small is_named true e low = h.here j (ltb-true j k e) small is_named
    here j small is_named false e low =
        let same : j ≡ k = omega (arith, ltb-false j k e, low)
        in absurd (cc (sym is_named ∙ ap named same ∙ unnamed))

-- an empty line changes nothing
pub empty_at : (named : ℕ → Bool) (count below : ℕ) (ls : List Line) → AreAt named count below ls → AreAt named count below (ls ++ record { label = None; statement = None } ∷ [])
empty_at named count below ls h =
    let l : Line = record { label = None; statement = None }
    in record {
      counted = count_snoc ls l ∙ omega (arith, h.counted);
      here = λ j low small is_named. place_snoc ls l (label j) ∙ ap (λ o. option_or o None) (h.here j low small is_named);
      later = λ j high small. place_snoc ls l (label j) ∙ ap (λ o. option_or o None) (h.later j high small);
      distinct = ap (are_distinct bytes_eq) (filter_map-append (λ x. x.label) ls (l ∷ []) ∙ append-nil (labels_defined ls)) ∙ h.distinct;
    }

-- lines that define no label and have no instruction
pub header_at : (named : ℕ → Bool) (ls : List Line) → labels_defined ls ≡ [] → instruction_count ls ≡ 0 → AreAt named 0 0 ls
header_at named ls unlabelled none =
    record {
      counted = none;
      here = λ j low small is_named. absurd (omega (arith, low));
      later = λ j high small. no_place ls (label j) (ap (list_any (bytes_eq (label j))) unlabelled);
      distinct = ap (are_distinct bytes_eq) unlabelled;
    }
