-- Loops that add a piece, or a mark, for each element of a list.
use Rattle.std.proofs.lemmas.Bool.{ltb-true, ltb-false}
use Rattle.std.proofs.lemmas.List.{append_assoc, append-nil}
use Rattle.std.proofs.lemmas.Option.{slice_get_within, get_or_from_slice_get}
use Rattle.std.proofs.Math.Seq.{drop-cons}
use Rattle.std.proofs.Common.{◌≡◌, ℕ, suc, ◌+◌, ◌<◌, nat_lt, Bool, true, false, ◌||◌, if◌then◌else◌, List, [], ◌∷◌, ◌++◌, drop, get_or, map, slice_get, flat_map, codes, decimal, Some, refl, sym, ◌∙◌, ap, subst, arith}
use Rattle.std.specs.List.{list_any}
use Rattle.pei_types.specs.declared.instructions.Instr.{Instr}
use Rattle.pei_types.specs.Program.{Listing}
use Rattle.pei_asm.specs.Canonical.{instr_line, instr_lines, instr_text, is_named, label, line, listed}

-- an element, and those behind it
pub next_got : {T : Type 0} (xs : List T) (i : ℕ) (x : T) → slice_get xs i ≡ Some x → drop i xs ≡ x ∷ drop (i + 1) xs
next_got xs i x at =
    drop-cons xs i x (slice_get_within xs i x at) ∙ ap (λ y. y ∷ drop (suc i) xs) (get_or_from_slice_get xs i x x at) ∙ ap (λ n. x ∷ drop n xs) (one_more i)
  where
    one_more : (n : ℕ) → suc n ≡ n + 1
    one_more n = omega arith

-- one piece more
piece_on : (before now piece rest total : List ℕ) → now ≡ before ++ piece → before ++ (piece ++ rest) ≡ total → now ++ rest ≡ total
piece_on before now piece rest total added so_far = ap (λ xs. xs ++ rest) added ∙ append_assoc before piece rest ∙ so_far

pub added_on : {T : Type 0} (f : T → List ℕ) (xs : List T) (i : ℕ) (x : T) (before now total : List ℕ) → slice_get xs i ≡ Some x → now ≡ before ++ f x → before ++ flat_map f (drop i xs) ≡ total → now ++ flat_map f (drop (i + 1) xs) ≡ total
added_on f xs i x before now total at added so_far =
    piece_on before now (f x) (flat_map f (drop (i + 1) xs)) total added (ap (λ ys. before ++ flat_map f ys) (sym (next_got xs i x at)) ∙ so_far)

pub instr_added_on : (p : Listing) (is : List Instr) (pc : ℕ) (i : Instr) (named : Bool) (before now total : List ℕ) → slice_get is pc ≡ Some i → named ≡ is_named p pc
    → now ≡ before ++ line ((if named then label pc ++ codes ": " else []) ++ instr_text i)
    → before ++ instr_lines p pc (drop pc is) ≡ total → now ++ instr_lines p (pc + 1) (drop (pc + 1) is) ≡ total
instr_added_on p is pc i named before now total at same added so_far =
    piece_on before now (instr_line p pc i) (instr_lines p (pc + 1) (drop (pc + 1) is)) total
    (added ∙ ap (λ b. before ++ line ((if b then label pc ++ codes ": " else []) ++ instr_text i)) same)
    (ap (λ ys. before ++ instr_lines p pc ys) (sym (next_got is pc i at)) ∙ so_far)

-- the numbers of a line of words, each behind a comma
pub listed_numbers : (n : ℕ) (ns : List ℕ) → listed (decimal n ∷ map decimal ns) ≡ decimal n ++ flat_map (λ x. codes ", " ++ decimal x) ns
listed_numbers n [] = sym (append-nil (decimal n))
listed_numbers n (m ∷ ns) = ap (λ xs. decimal n ++ (codes ", " ++ xs)) (listed_numbers m ns) ∙ ap (λ xs. decimal n ++ xs) (sym (append_assoc (codes ", ") (decimal m) (flat_map (λ x. codes ", " ++ decimal x) ns)))

-- one mark more
or_assoc : (a b c : Bool) → ((a || b) || c) ≡ (a || (b || c))
or_assoc true b c = refl
or_assoc false b c = refl

pub marked_on : {T : Type 0} (test : T → Bool) (xs : List T) (i : ℕ) (x : T) (before now total : Bool) → slice_get xs i ≡ Some x → now ≡ (before || test x)
    → (before || list_any test (drop i xs)) ≡ total → (now || list_any test (drop (i + 1) xs)) ≡ total
marked_on test xs i x before now total at marked so_far =
    ap (λ b. b || list_any test (drop (i + 1) xs)) marked ∙ or_assoc before (test x) (list_any test (drop (i + 1) xs)) ∙ ap (λ ys. before || list_any test ys) (sym (next_got xs i x at)) ∙ so_far

-- a fact of one element more
abbrev pub AllBelow : {T : Type 0} → (T → Type 0) → ℕ → List T → Type 0
AllBelow {T} P i xs = (k : ℕ) (d : T) → k < i → P (get_or xs k d)

pub all_on : {T : Type 0} (P : T → Type 0) (xs : List T) (i : ℕ) (x : T) → slice_get xs i ≡ Some x → P x → AllBelow P i xs → AllBelow P (i + 1) xs
all_on P xs i x at h so_far k d less = by_less (nat_lt k i) refl
  where
    by_less : (b : Bool) → nat_lt k i ≡ b → P (get_or xs k d)
    by_less true e = so_far k d (ltb-true k i e)
    by_less false e =
        let same : i ≡ k = omega (arith, ltb-false k i e, less)
        in subst P (sym (get_or_from_slice_get xs i x d at) ∙ ap (λ n. get_or xs n d) same) h
