-- The words of one line, one after the other.
use Rattle.std.proofs.Common.{◌≡◌, ℕ, ◌+◌, ◌*◌, ◌/◌, ◌%◌, ◌<◌, ◌≤◌, Bool, true, false, not, nat_lt, eqb, cond, List, [], ◌∷◌, ◌++◌, length, get_or, set, take, drop, slice_get, Some, None, refl, sym, ◌∙◌, ap, subst, append_assoc, arith}
use Rattle.std.specs.List.{flat_map}
use Rattle.std.proofs.lemmas.Bool.Decides.{nat_tests}
use Rattle.std.proofs.lemmas.Option.{get_or_from_slice_get, slice_get_within}
use Rattle.std.proofs.lemmas.List.{at_drop_more, at_drop_all, flat_map_more, length-take-le, take_all, take_more}
use Rattle.pei_types.specs.Image.{Given, OutOfRange, Overlap, Misaligned, first_word_refusal, or_then, word_refusal, words_from, words_of_line}
use Rattle.pei_types.specs.Program.{Listing}
use Rattle.pei_loader.specs.declared.faults.LoadFault.{LoadFault}
use Rattle.pei_loader.specs.Faults.{IsFaultOf}
use Rattle.pei_loader.specs.Filled.{Filled, given_before, line_refusal, line_refusal_at, marked_refusal}
use Rattle.pei_loader.proofs.Refusals.{fault_along, fault_first, none_first}
use Rattle.pei_loader.proofs.Words.{marks_tell, place_more, words_from-push}

-- the first fault of an aligned line is that of its words
pub aligned_line : (blocks : ℕ) (p : Listing) (i addr : ℕ) (words : List ℕ) → slice_get p.lines i ≡ Some (addr, words) → addr % 8 ≡ 0 → line_refusal_at blocks p i ≡ first_word_refusal blocks (given_before p i) (words_from addr words)
aligned_line blocks p i addr words found aligned =
    ap (line_refusal blocks (given_before p i)) (get_or_from_slice_get p.lines i (addr, words) (0, []) found)
    ∙ ap (λ b. cond b (first_word_refusal blocks (given_before p i) (words_from addr words)) (Some (Misaligned addr))) (is_aligned aligned)
  where
    is_aligned : addr % 8 ≡ 0 → eqb (addr % 8) 0 ≡ true
    is_aligned h = grind (arith, nat_tests)

-- the words before the next line are those of this one too
pub given_more : (p : Listing) (i addr : ℕ) (words : List ℕ) → slice_get p.lines i ≡ Some (addr, words) → given_before p (i + 1) ≡ given_before p i ++ words_from addr words
given_more p i addr words found =
    ap (flat_map words_of_line)
    (take_more p.lines i (0, []) (slice_get_within p.lines i (addr, words) found)
    ∙ ap (λ line. take i p.lines ++ line ∷ []) (get_or_from_slice_get p.lines i (addr, words) (0, []) found))
    ∙ sym (flat_map_more words_of_line [] (take i p.lines) (addr, words))

-- the fault of the rest of a line is that of its next word, or else of what follows
pub next_word : (blocks : ℕ) (e : List Given) (next : ℕ) (words : List ℕ) (k : ℕ) → k < length words → first_word_refusal blocks e (words_from next (drop k words)) ≡ or_then (word_refusal blocks e next) (first_word_refusal blocks e (words_from (next + 8) (drop (k + 1) words)))
next_word blocks e next words k h = at_drop_more (λ ws. first_word_refusal blocks e (words_from next ws)) words k 0 h

-- what stands in the loop over the words of a line
pub record Reached (blocks : ℕ) (e : List Given) (addr : ℕ) (words : List ℕ) (k next : ℕ) (ws : List ℕ) (given : List Bool) : Type 0 where
  pub aligned : addr % 8 ≡ 0
  pub here : next ≡ addr + 8 * k
  pub filled : Filled blocks (e ++ words_from addr (take k words)) ws given
  pub rest : first_word_refusal blocks e (words_from next (drop k words)) ≡ first_word_refusal blocks e (words_from addr words)

-- the marks tell of the next word what the earlier lines do
marks_tell_here : (blocks : ℕ) (e : List Given) (addr : ℕ) (words : List ℕ) (k next : ℕ) (ws : List ℕ) (given : List Bool) → Reached blocks e addr words k next ws given → k < length words → marked_refusal blocks given next ≡ word_refusal blocks e next
marks_tell_here blocks e addr words k next ws given r h =
    marks_tell blocks e addr (take k words) ws given next r.filled (omega (arith, length-take-le k words (omega (arith, h)), r.here)) (omega (arith, r.here, r.aligned))

-- the fault of a word is that of its line
pub word_fault : (blocks : ℕ) (e : List Given) (addr : ℕ) (words : List ℕ) (k next : ℕ) (ws : List ℕ) (given : List Bool) (f : LoadFault) → Reached blocks e addr words k next ws given → k < length words → IsFaultOf f (marked_refusal blocks given next) → IsFaultOf f (first_word_refusal blocks e (words_from addr words))
word_fault blocks e addr words k next ws given f r h fault =
    fault_along f _ _ (sym (next_word blocks e next words k h) ∙ r.rest)
    (fault_first f (word_refusal blocks e next) _ (fault_along f _ _ (marks_tell_here blocks e addr words k next ws given r h) fault))

-- a word without a fault has no mark
free_place : (blocks : ℕ) (given : List Bool) (n : ℕ) → n < 64 * blocks → marked_refusal blocks given n ≡ None → get_or given (n / 8) false ≡ false
free_place blocks given n inside none = by (get_or given (n / 8) false) (sym inner ∙ none)
  where
    below : nat_lt n (64 * blocks) ≡ true
    below = grind (arith, nat_tests)

    inner : marked_refusal blocks given n ≡ cond (get_or given (n / 8) false) (Some (Overlap n)) None
    inner = ap (λ b. cond (not b) (Some (OutOfRange n)) (cond (get_or given (n / 8) false) (Some (Overlap n)) None)) below

    by : (b : Bool) → cond b (Some (Overlap n)) None ≡ None → b ≡ false
    by true h = absurd (cc h)
    by false h = refl

-- One word more of the line.
pub one_more : (blocks : ℕ) (e : List Given) (addr : ℕ) (words : List ℕ) (k next : ℕ) (ws ws' : List ℕ) (given given' : List Bool) → Reached blocks e addr words k next ws given → k < length words → next < 64 * blocks → marked_refusal blocks given next ≡ None → ws' ≡ set ws (next / 8) (get_or words k 0) → given' ≡ set given (next / 8) true → Reached blocks e addr words (k + 1) (next + 8) ws' given'
one_more blocks e addr words k next ws ws' given given' r h inside none ws_is given_is =
    record {
      aligned = r.aligned;
      here = omega (arith, r.here);
      filled = rw (ws_is, given_is) (subst (λ gs. Filled blocks gs (set ws (next / 8) (get_or words k 0)) (set given (next / 8) true)) same (place_more blocks _ ws given next (get_or words k 0) r.filled inside (omega (arith, r.here, r.aligned)) (free_place blocks given next inside none)));
      rest = sym (next_word blocks e next words k h ∙ none_first (word_refusal blocks e next) _ (sym (marks_tell_here blocks e addr words k next ws given r h) ∙ none)) ∙ r.rest;
    }
  where
    same : (e ++ words_from addr (take k words)) ++ (next, get_or words k 0) ∷ [] ≡ e ++ words_from addr (take (k + 1) words)
    same =
        append_assoc e (words_from addr (take k words)) ((next, get_or words k 0) ∷ [])
        ∙ ap (λ n. e ++ (words_from addr (take k words) ++ (n, get_or words k 0) ∷ [])) (omega (arith, length-take-le k words (omega (arith, h)), r.here))
        ∙ ap (λ gs. e ++ gs) (sym (words_from-push addr (take k words) (get_or words k 0)) ∙ ap (words_from addr) (sym (take_more words k 0 h)))

-- At the end of the line its words are placed, and it has no fault.
pub line_filled : (blocks : ℕ) (p : Listing) (i addr : ℕ) (words : List ℕ) (k next : ℕ) (ws : List ℕ) (given : List Bool) → slice_get p.lines i ≡ Some (addr, words) → Reached blocks (given_before p i) addr words k next ws given → length words ≤ k → Filled blocks (given_before p (i + 1)) ws given
line_filled blocks p i addr words k next ws given found r h =
    subst (λ gs. Filled blocks gs ws given)
    (ap (λ us. given_before p i ++ words_from addr us) (take_all k words h) ∙ sym (given_more p i addr words found)) r.filled

pub line_free : (blocks : ℕ) (p : Listing) (i addr : ℕ) (words : List ℕ) (k next : ℕ) (ws : List ℕ) (given : List Bool) → slice_get p.lines i ≡ Some (addr, words) → Reached blocks (given_before p i) addr words k next ws given → length words ≤ k → line_refusal_at blocks p i ≡ None
line_free blocks p i addr words k next ws given found r h =
    aligned_line blocks p i addr words found r.aligned
    ∙ sym r.rest
    ∙ at_drop_all (λ us. first_word_refusal blocks (given_before p i) (words_from next us)) words k h
