-- The labels that the statement of a canonical line uses.
use Rattle.std.proofs.lemmas.Bool.{and_parts}
use Rattle.std.proofs.Common.{◌≡◌, ℕ, ◌+◌, ◌<◌, ◌^◌, Bool, true, false, not, ◌&&◌, ◌||◌, if◌then◌else◌, List, [], ◌∷◌, ◌++◌, length, drop, Option, Some, None, refl, sym, ◌∙◌, ap, arith}
use Rattle.std.specs.Prelude.{◌==◌, codes, filter, find, is_some, option_map, slice_index, IfSome}
use Rattle.std.specs.List.{AllByRecursion, AllZip, list_all}
use Rattle.std.specs.Option.{option_and_then, option_map_or}
use Rattle.std.specs.Str.{byte, is_utf8}
use Rattle.pei_types.specs.declared.instructions.Instr.{Instr}
use Rattle.pei_types.specs.declared.instructions.Instr.TheVariants as instr
use Rattle.pei_types.specs.Program.{HasRegisters}
use Rattle.asm_statements.specs.Tokens.{Token, name, Placed, tokens_from, tokens_of}
use Rattle.asm_statements.specs.Mnemonics.{Row, is_label, rows_named}
use Rattle.asm_statements.specs.Statements.{Statement, Line, behind_label, fits_row, is_in_range, label_of, line_from, line_of, line_with, meaning_of, statement_in, statement_named, statement_with, tokens_alone}
use Rattle.pei_asm.specs.Meaning.{is_label_token, label_text, names_label}
use Rattle.pei_asm.specs.Canonical.{instr_text, label, phrase, register, target_of}
use Rattle.pei_asm.proofs.Phrases.{Reads, label_reads, phrase_reads, register_of-register, separated_commas, with_commas}
use Rattle.pei_asm.proofs.InstrLines.{IsSmall, mnemonic_of, operands_of}
use Rattle.pei_asm.proofs.CanonicalLines.{first_of, text_tokens}
use Rattle.std.proofs.Math.Bool.{or-true}

-- ---- the statement of a line, from its tokens

with_statement : (label : Option (List ℕ)) (o : Option Statement) (l : Line) (s : Statement) → line_with label o ≡ Some l → l.statement ≡ Some s → o ≡ Some s
with_statement label None l s e h = absurd (cc e)
with_statement label (Some x) l s e h = by_range (is_in_range x) e
  where
    by_range : (b : Bool) → (if b then Some (record { label = label; statement = Some x }) else None) ≡ Some l → Some x ≡ Some s
    by_range true k = ap (option_and_then (λ y. y.statement)) k ∙ h
    by_range false k = absurd (cc k)

stated : (label : Option (List ℕ)) (placed : List Placed) (l : Line) (s : Statement) → line_from label placed ≡ Some l → l.statement ≡ Some s → statement_in placed ≡ Some s
stated label [] l s e h = absurd (none_is (ap (option_and_then (λ y. y.statement)) e ∙ h))
  where
    none_is : None ≡ Some s → ⊥
    none_is k = cc k
stated label (t ∷ rest) l s e h = with_statement label (statement_in (t ∷ rest)) l s e h

with_label : (label : Option (List ℕ)) (o : Option Statement) (l : Line) → line_with label o ≡ Some l → label ≡ l.label
with_label label None l e = absurd (cc e)
with_label label (Some x) l e = by_range (is_in_range x) e
  where
    by_range : (b : Bool) → (if b then Some (record { label = label; statement = Some x }) else None) ≡ Some l → label ≡ l.label
    by_range true k = ap (option_and_then (λ y. y.label)) k
    by_range false k = absurd (cc k)

labelled : (label : Option (List ℕ)) (placed : List Placed) (l : Line) → line_from label placed ≡ Some l → label ≡ l.label
labelled label [] l e = ap (option_and_then (λ y. y.label)) e
labelled label (t ∷ rest) l e = with_label label (statement_in (t ∷ rest)) l e

operands_are : (placed : List Placed) (m : List ℕ) (ts : List Token) (s : Statement) → statement_in placed ≡ Some s → tokens_alone placed ≡ name m ∷ with_commas ts → tokens_alone s.operands ≡ ts
unfolding first_of
operands_are [] m ts s e h = absurd (cc h)
operands_are (t ∷ rest) m ts s e h =
    let parts = separated_commas rest ts (ap (drop 1) h)
    in by_row parts.operands parts.tokens (find (fits_row parts.operands) (rows_named m))
    (sym (ap (λ x. statement_named x rest) (ap first_of h) ∙ ap (option_and_then (statement_with (rows_named m))) parts.split) ∙ e)
  where
    by_row : (ops : List Placed) → tokens_alone ops ≡ ts → (o : Option Row) → option_map (λ r. record { row = r; operands = ops }) o ≡ Some s → tokens_alone s.operands ≡ ts
    by_row ops same None k = absurd (cc k)
    by_row ops same (Some r) k = ap (λ o. tokens_alone (option_map_or (λ (x : Statement). x.operands) o [])) (sym k) ∙ same

line_meant : (text : List ℕ) (l : Line) → meaning_of text ≡ Some l → line_of (tokens_of text) ≡ Some l
line_meant text l e = by_utf8 (is_utf8 text) e
  where
    by_utf8 : (b : Bool) → (if b then line_of (tokens_of text) else None) ≡ Some l → line_of (tokens_of text) ≡ Some l
    by_utf8 true k = k
    by_utf8 false k = absurd (cc k)

-- the statement of a text stands behind its label
pub statement_meant : (text : List ℕ) (l : Line) (s : Statement) → meaning_of text ≡ Some l → l.statement ≡ Some s → statement_in (behind_label l.label (tokens_of text)) ≡ Some s
statement_meant text l s e h =
    let placed = tokens_of text
    in let is_line : line_from (label_of placed) (behind_label (label_of placed) placed) ≡ Some l = line_meant text l e
    in ap (λ o. statement_in (behind_label o placed)) (sym (labelled (label_of placed) (behind_label (label_of placed) placed) l is_line))
    ∙ stated (label_of placed) (behind_label (label_of placed) placed) l s is_line h

-- ---- labels that pass a test

abbrev pub label_passes : (List ℕ → Bool) → Token → Bool
label_passes q t = not (is_label_token t) || q (label_text t)

pub labels_pass : (q : List ℕ → Bool) (ops : List Placed) → list_all (label_passes q) (tokens_alone ops) ≡ true → list_all (λ t. q (label_text t.token)) (filter names_label ops) ≡ true
labels_pass q [] h = refl
labels_pass q (t ∷ ops) h =
    let parts = and_parts (label_passes q t.token) (list_all (label_passes q) (tokens_alone ops)) h
    in by_kind (names_label t) parts.0 (labels_pass q ops parts.1)
  where
    by_kind : (b : Bool) → (not b || q (label_text t.token)) ≡ true → list_all (λ x. q (label_text x.token)) (filter names_label ops) ≡ true
        → list_all (λ x. q (label_text x.token)) (if b then t ∷ filter names_label ops else filter names_label ops) ≡ true
    by_kind true k rest = ap (λ b. b && list_all (λ x. q (label_text x.token)) (filter names_label ops)) k ∙ rest
    by_kind false k rest = rest

passing : (q : List ℕ → Bool) (ts : List Token) (s : Statement) → tokens_alone s.operands ≡ ts → list_all (label_passes q) ts ≡ true → list_all (λ t. q (label_text t.token)) (filter names_label s.operands) ≡ true
passing q ts s e h = labels_pass q s.operands (ap (list_all (label_passes q)) e ∙ h)

-- ---- lines

pub directive_uses : (q : List ℕ → Bool) (m : List ℕ) (ws : List (List ℕ)) (ts : List Token) (s : Statement) → meaning_of (phrase m ws) ≡ Some (record { label = None; statement = Some s })
    → Reads m (name m) → AllZip Reads ws ts → list_all (label_passes q) ts ≡ true → list_all (λ t. q (label_text t.token)) (filter names_label s.operands) ≡ true
directive_uses q m ws ts s e read each h =
    passing q ts s
    (operands_are (tokens_of (phrase m ws)) m ts s (statement_meant (phrase m ws) (record { label = None; statement = Some s }) s e refl) (phrase_reads m ws ts read each 1))
    h

pub label_passing : (q : List ℕ → Bool) (k : ℕ) → q (label k) ≡ true → label_passes q (name (label k)) ≡ true
label_passing q k h = ap (λ b. not (is_label_token (name (label k))) || b) h ∙ or-true (not (is_label (label k)))

-- ---- instructions

register_passing : (q : List ℕ → Bool) (r : ℕ) → r < 16 → label_passes q (name (register r)) ≡ true
register_passing q r h = ap (λ o. not (not (slice_index (register r) 0 == byte ".") && not (is_some o)) || q (register r)) (register_of-register r h) ∙ no_label (not (slice_index (register r) 0 == byte "."))
  where
    no_label : (b : Bool) → (not (b && false) || q (register r)) ≡ true
    no_label true = refl
    no_label false = refl

all_pass : (q : List ℕ → Bool) (ts : List Token) → AllByRecursion (λ t. label_passes q t ≡ true) ts → list_all (label_passes q) ts ≡ true
all_pass q [] h = refl
all_pass q (t ∷ ts) h = ap (λ b. b && list_all (label_passes q) ts) h.0 ∙ all_pass q ts h.1

-- an instruction uses the label of its place alone
operands_pass : (q : List ℕ → Bool) (i : Instr) → HasRegisters i → IfSome (target_of i) (λ to. q (label to) ≡ true) → AllByRecursion (λ t. label_passes q t ≡ true) (operands_of i)
operands_pass q (instr.Li rd n) h to_passes = (register_passing q rd (omega (arith, h)), (refl, tt))
operands_pass q (instr.Add rd ra rb) h to_passes = (register_passing q rd (omega (arith, h.0)), (register_passing q ra (omega (arith, h.1)), (register_passing q rb (omega (arith, h.2)), tt)))
operands_pass q (instr.Sub rd ra rb) h to_passes = (register_passing q rd (omega (arith, h.0)), (register_passing q ra (omega (arith, h.1)), (register_passing q rb (omega (arith, h.2)), tt)))
operands_pass q (instr.Mul rd ra rb) h to_passes = (register_passing q rd (omega (arith, h.0)), (register_passing q ra (omega (arith, h.1)), (register_passing q rb (omega (arith, h.2)), tt)))
operands_pass q (instr.And rd ra rb) h to_passes = (register_passing q rd (omega (arith, h.0)), (register_passing q ra (omega (arith, h.1)), (register_passing q rb (omega (arith, h.2)), tt)))
operands_pass q (instr.Or rd ra rb) h to_passes = (register_passing q rd (omega (arith, h.0)), (register_passing q ra (omega (arith, h.1)), (register_passing q rb (omega (arith, h.2)), tt)))
operands_pass q (instr.Xor rd ra rb) h to_passes = (register_passing q rd (omega (arith, h.0)), (register_passing q ra (omega (arith, h.1)), (register_passing q rb (omega (arith, h.2)), tt)))
operands_pass q (instr.Addi rd ra n) h to_passes = (register_passing q rd (omega (arith, h.0)), (register_passing q ra (omega (arith, h.1)), (refl, tt)))
operands_pass q (instr.Andi rd ra n) h to_passes = (register_passing q rd (omega (arith, h.0)), (register_passing q ra (omega (arith, h.1)), (refl, tt)))
operands_pass q (instr.Shl rd ra n) h to_passes = (register_passing q rd (omega (arith, h.0)), (register_passing q ra (omega (arith, h.1)), (refl, tt)))
operands_pass q (instr.Shr rd ra n) h to_passes = (register_passing q rd (omega (arith, h.0)), (register_passing q ra (omega (arith, h.1)), (refl, tt)))
operands_pass q (instr.Ld rd ra n) h to_passes = (register_passing q rd (omega (arith, h.0)), (register_passing q ra (omega (arith, h.1)), (refl, tt)))
operands_pass q (instr.St rv ra n) h to_passes = (register_passing q rv (omega (arith, h.0)), (register_passing q ra (omega (arith, h.1)), (refl, tt)))
operands_pass q (instr.Beq ra rb to) h to_passes = (register_passing q ra (omega (arith, h.0)), (register_passing q rb (omega (arith, h.1)), (label_passing q to to_passes, tt)))
operands_pass q (instr.Bne ra rb to) h to_passes = (register_passing q ra (omega (arith, h.0)), (register_passing q rb (omega (arith, h.1)), (label_passing q to to_passes, tt)))
operands_pass q (instr.Bltu ra rb to) h to_passes = (register_passing q ra (omega (arith, h.0)), (register_passing q rb (omega (arith, h.1)), (label_passing q to to_passes, tt)))
operands_pass q (instr.Bgeu ra rb to) h to_passes = (register_passing q ra (omega (arith, h.0)), (register_passing q rb (omega (arith, h.1)), (label_passing q to to_passes, tt)))
operands_pass q (instr.Jmp to) h to_passes = (label_passing q to to_passes, tt)
operands_pass q (instr.Pinc ra n) h to_passes = (register_passing q ra (omega (arith, h)), (refl, tt))
operands_pass q (instr.Pmin ra n rv) h to_passes = (register_passing q ra (omega (arith, h.0)), (refl, (register_passing q rv (omega (arith, h.1)), tt)))
operands_pass q (instr.Pprobe rd ra n rk) h to_passes = (register_passing q rd (omega (arith, h.0)), (register_passing q ra (omega (arith, h.1)), (refl, (register_passing q rk (omega (arith, h.2)), tt))))
operands_pass q (instr.Phist rd ra n rs) h to_passes = (register_passing q rd (omega (arith, h.0)), (register_passing q ra (omega (arith, h.1)), (refl, (register_passing q rs (omega (arith, h.2)), tt))))
operands_pass q (instr.Pdot rd ra n rx) h to_passes = (register_passing q rd (omega (arith, h.0)), (register_passing q ra (omega (arith, h.1)), (refl, (register_passing q rx (omega (arith, h.2)), tt))))
operands_pass q instr.Pfence h to_passes = tt
operands_pass q (instr.Out ra) h to_passes = (register_passing q ra (omega (arith, h)), tt)
operands_pass q instr.Halt h to_passes = tt

pub plain_uses : (q : List ℕ → Bool) (i : Instr) (s : Statement) → HasRegisters i → IsSmall i → meaning_of (instr_text i) ≡ Some (record { label = None; statement = Some s })
    → IfSome (target_of i) (λ to. q (label to) ≡ true) → list_all (λ t. q (label_text t.token)) (filter names_label s.operands) ≡ true
plain_uses q i s h small e to_passes =
    passing q (operands_of i) s
    (operands_are (tokens_of (instr_text i)) (mnemonic_of i) (operands_of i) s (statement_meant (instr_text i) (record { label = None; statement = Some s }) s e refl) (text_tokens i h small 1))
    (all_pass q (operands_of i) (operands_pass q i h to_passes))

pub labelled_uses : (q : List ℕ → Bool) (i : Instr) (s : Statement) (k : ℕ) → HasRegisters i → IsSmall i → k < 2 ^ 64
    → meaning_of (label k ++ (codes ": " ++ instr_text i)) ≡ Some (record { label = Some (label k); statement = Some s })
    → IfSome (target_of i) (λ to. q (label to) ≡ true) → list_all (λ t. q (label_text t.token)) (filter names_label s.operands) ≡ true
labelled_uses q i s k h small small_k e to_passes =
    let text = label k ++ (codes ": " ++ instr_text i)
    in let column = ((1 + length (label k)) + 1) + 1
    in let behind : drop 2 (tokens_of (label k ++ (codes ": " ++ instr_text i))) ≡ tokens_from 0 (((1 + length (label k)) + 1) + 1) (instr_text i) =
    ap (drop 2) (label_reads k small_k 1 (codes ": " ++ instr_text i) (record { names = refl; letters = refl; digits = refl }))
    in passing q (operands_of i) s
    (operands_are (tokens_from 0 column (instr_text i)) (mnemonic_of i) (operands_of i) s
    (ap statement_in (sym behind) ∙ statement_meant text (record { label = Some (label k); statement = Some s }) s e refl)
    (text_tokens i h small column))
    (all_pass q (operands_of i) (operands_pass q i h to_passes))
