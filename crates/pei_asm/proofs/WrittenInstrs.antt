-- The lines of the instructions in a canonical text: what they add, the labels that they use, and the places of those that they define.
use Rattle.std.proofs.lemmas.List.{append_assoc, append-nil}
use Rattle.std.proofs.lemmas.List.Elements.{filter_map-append}
use Rattle.std.proofs.Common.{◌≡◌, ℕ, suc, ◌+◌, ◌<◌, ◌^◌, Bool, true, false, if◌then◌else◌, List, [], ◌∷◌, ◌++◌, length, map, Some, None, refl, sym, ◌∙◌, ap, subst, arith}
use Rattle.std.specs.Prelude.{codes, filter, filter_map, is_some, option_map, IfSome}
use Rattle.std.specs.List.{AllByRecursion, list_all}
use Rattle.pei_types.specs.declared.instructions.Instr.{Instr}
use Rattle.pei_types.specs.Program.{HasRegisters, Listing}
use Rattle.asm_statements.specs.Mnemonics.{Item, instruction, instruction_in}
use Rattle.asm_statements.specs.Statements.{Line, item_of}
use Rattle.pei_asm.specs.Meaning.{label_text, names_label}
use Rattle.pei_asm.specs.Canonical.{instr_line, instr_lines, instr_text, is_named, label, last_line, line, target_of}
use Rattle.pei_asm.proofs.InstrLines.{IsSmall, aimed}
use Rattle.pei_asm.proofs.InstrParts.{label_if}
use Rattle.pei_asm.proofs.CanonicalText.{labelled_bytes, labelled_means, plain_means, text_bytes}
use Rattle.pei_asm.proofs.Writing.{Writes, label_alone, label_alone_bytes, writes_both, writes_line, writes_nothing}
use Rattle.pei_asm.proofs.Uses.{labelled_uses, plain_uses}
use Rattle.pei_asm.proofs.LabelPlaces.{AreAt, instructions_on, line_at, passed_over}
use Rattle.pei_asm.proofs.WrittenParts.{uses_both, uses_pass}

-- the label of its place passes a test
abbrev pub HasPassingTarget : (List ℕ → Bool) → Instr → Type 0
HasPassingTarget q i = IfSome (target_of i) (λ to. q (label to) ≡ true)

-- ---- one instruction

record InstrWritten (i : Instr) (named : Bool) (k : ℕ) (text : List ℕ) : Type 0 where
  meant : Line
  writes : Writes text (meant ∷ [])
  adds : (f : List ℕ → ℕ) → filter_map (λ l. option_map (item_of f) l.statement) (meant ∷ []) ≡ instruction (aimed f i) ∷ []
  used : (q : List ℕ → Bool) → HasPassingTarget q i → uses_pass q (meant ∷ []) ≡ true
  labelled : meant.label ≡ label_if named k
  one : instructions_on meant ≡ 1

instr_written : (i : Instr) → HasRegisters i → IsSmall i → (k : ℕ) → k < 2 ^ 64 → (named : Bool) → InstrWritten i named k (line ((if named then label k ++ codes ": " else []) ++ instr_text i))
instr_written i h small k small_k true =
    let m = labelled_means i h small k small_k
    in let l : Line = record { label = Some (label k); statement = Some m.statement }
    in record {
      meant = l;
      writes = subst (λ text. Writes (line text) (l ∷ [])) (sym (append_assoc (label k) (codes ": ") (instr_text i))) (writes_line (label k ++ (codes ": " ++ instr_text i)) l (labelled_bytes i h small k small_k) m.is);
      adds = λ f. ap (λ x. x ∷ []) (m.item f);
      used = λ q passes. ap (list_all (λ t. q (label_text t.token))) (append-nil (filter names_label m.statement.operands)) ∙ labelled_uses q i m.statement k h small small_k m.is passes;
      labelled = refl;
      one = ap (λ x. if is_some (instruction_in x) then 1 else 0) (m.item (λ text. 0));
    }
instr_written i h small k small_k false =
    let m = plain_means i h small
    in let l : Line = record { label = None; statement = Some m.statement }
    in record {
      meant = l;
      writes = writes_line (instr_text i) l (text_bytes i h small) m.is;
      adds = λ f. ap (λ x. x ∷ []) (m.item f);
      used = λ q passes. ap (list_all (λ t. q (label_text t.token))) (append-nil (filter names_label m.statement.operands)) ∙ plain_uses q i m.statement h small m.is passes;
      labelled = refl;
      one = ap (λ x. if is_some (instruction_in x) then 1 else 0) (m.item (λ text. 0));
    }

-- ---- all of them

pub record InstrsWritten (named : ℕ → Bool) (k : ℕ) (is : List Instr) (text : List ℕ) : Type 0 where
  pub lines : List Line
  pub writes : Writes text lines
  pub adds : (f : List ℕ → ℕ) → filter_map (λ l. option_map (item_of f) l.statement) lines ≡ map (λ i. instruction (aimed f i)) is
  pub used : (q : List ℕ → Bool) → AllByRecursion (HasPassingTarget q) is → uses_pass q lines ≡ true
  pub placed : (ls : List Line) → AreAt named k k ls → AreAt named (k + length is) (k + length is) (ls ++ lines)

moved : (named : ℕ → Bool) (a b : ℕ) (ks ls : List Line) → a ≡ b → ks ≡ ls → AreAt named a a ks → AreAt named b b ls
moved named a b ks ls e h x = subst (λ xs. AreAt named b b xs) h (subst (λ n. AreAt named n n ks) e x)

none_more : (k : ℕ) → k ≡ k + 0
none_more k = omega arith

one_less : (k n : ℕ) → (k + 1) + n ≡ k + suc n
one_less k n = omega arith

pub instrs_written : (p : Listing) (k : ℕ) (is : List Instr) → AllByRecursion HasRegisters is → AllByRecursion IsSmall is → k + length is < 2 ^ 64 → InstrsWritten (is_named p) k is (instr_lines p k is)
instrs_written p k [] h small room =
    record {
      lines = [];
      writes = writes_nothing;
      adds = λ f. refl;
      used = λ q passes. refl;
      placed = λ ls at. moved (is_named p) k (k + 0) ls (ls ++ []) (none_more k) (sym (append-nil ls)) at;
    }
instrs_written p k (i ∷ is) h small room =
    let small_k : k < 2 ^ 64 = omega (arith, room)
    in let first = instr_written i h.0 small.0 k small_k (is_named p k)
    in let rest = instrs_written p (k + 1) is h.1 small.1 (omega (arith, room))
    in record {
      lines = first.meant ∷ rest.lines;
      writes = writes_both (instr_line p k i) (instr_lines p (k + 1) is) (first.meant ∷ []) rest.lines first.writes rest.writes;
      adds = λ f. joined f first.meant rest.lines (instruction (aimed f i)) (map (λ x. instruction (aimed f x)) is) (first.adds f) (rest.adds f);
      used = λ q passes. uses_both q (first.meant ∷ []) rest.lines (first.used q passes.0) (rest.used q passes.1);
      placed = λ ls at.
          moved (is_named p) ((k + 1) + length is) (k + suc (length is)) ((ls ++ first.meant ∷ []) ++ rest.lines) (ls ++ first.meant ∷ rest.lines) (one_less k (length is)) (append_assoc ls (first.meant ∷ []) rest.lines)
          (rest.placed (ls ++ first.meant ∷ []) (subst (λ n. AreAt (is_named p) (k + n) (k + 1) (ls ++ first.meant ∷ [])) first.one (line_at (is_named p) k ls first.meant small_k first.labelled at)));
    }
  where
    joined : (f : List ℕ → ℕ) (l : Line) (ls : List Line) (x : Item) (xs : List Item) → filter_map (λ y. option_map (item_of f) y.statement) (l ∷ []) ≡ x ∷ []
        → filter_map (λ y. option_map (item_of f) y.statement) ls ≡ xs → filter_map (λ y. option_map (item_of f) y.statement) (l ∷ ls) ≡ x ∷ xs
    joined f l ls x xs e g = filter_map-append (λ y. option_map (item_of f) y.statement) (l ∷ []) ls ∙ rw (e, g) refl

-- ---- the label behind the last instruction

pub record LastWritten (named : ℕ → Bool) (n : ℕ) (text : List ℕ) : Type 0 where
  pub lines : List Line
  pub writes : Writes text lines
  pub adds : (f : List ℕ → ℕ) → filter_map (λ l. option_map (item_of f) l.statement) lines ≡ []
  pub used : (q : List ℕ → Bool) → uses_pass q lines ≡ true
  pub placed : (ls : List Line) → AreAt named n n ls → AreAt named n (n + 1) (ls ++ lines)

last_by : (named : ℕ → Bool) (n : ℕ) → n < 2 ^ 64 → (b : Bool) → named n ≡ b → LastWritten named n (if b then line (label n ++ codes ":") else [])
last_by named n small true e =
    let l : Line = record { label = Some (label n); statement = None }
    in record {
      lines = l ∷ [];
      writes = writes_line (label n ++ codes ":") l (label_alone_bytes n small) (label_alone n small);
      adds = λ f. refl;
      used = λ q. refl;
      placed = λ ls at. subst (λ k. AreAt named k (n + 1) (ls ++ l ∷ [])) (sym (none_more n)) (line_at named n ls l small (ap (λ b. label_if b n) (sym e)) at);
    }
last_by named n small false e =
    record {
      lines = [];
      writes = writes_nothing;
      adds = λ f. refl;
      used = λ q. refl;
      placed = λ ls at. subst (λ xs. AreAt named n (n + 1) xs) (sym (append-nil ls)) (passed_over named n ls e at);
    }

pub last_written : (p : Listing) → length p.instrs < 2 ^ 64 → LastWritten (is_named p) (length p.instrs) (last_line p)
last_written p small = last_by (is_named p) (length p.instrs) small (is_named p (length p.instrs)) refl
