-- Words placed one after the other.
use Rattle.std.proofs.Common.{◌≡◌, ◌≢◌, ℕ, ◌+◌, ◌*◌, ◌/◌, ◌%◌, ◌<◌, ◌≤◌, Bool, true, false, not, ◌||◌, ◌==◌, nat_lt, eqb, cond, List, [], ◌∷◌, ◌++◌, length, get_or, set, find, Some, None, refl, sym, ◌∙◌, ap, subst, ⊎_elim, arith}
use Rattle.std.specs.List.{list_any}
use Rattle.std.proofs.lemmas.Bool.Decides.{nat_tests}
use Rattle.std.proofs.lemmas.Bool.{cases_eq}
use Rattle.std.proofs.lemmas.List.{get_or-set_same, get_or-set_other, length-set}
use Rattle.std.proofs.lemmas.List.Folds.{list_any-append}
use Rattle.pei_types.specs.Image.{Given, OutOfRange, Overlap, word_in, words_from, word_refusal}
use Rattle.pei_loader.specs.Filled.{Filled, marked_refusal}
use Rattle.std.proofs.Math.Bool.{or-false, or-true}

-- the words of a line with one more
pub words_from-push : (a : ℕ) (xs : List ℕ) (w : ℕ) → words_from a (xs ++ w ∷ []) ≡ words_from a xs ++ (a + 8 * length xs, w) ∷ []
words_from-push a [] w = ap (λ n. (n, w) ∷ []) (omega arith)
words_from-push a (x ∷ xs) w =
    ap (λ gs. (a, x) ∷ gs) (words_from-push (a + 8) xs w ∙ ap (λ n. words_from (a + 8) xs ++ (n, w) ∷ []) (omega arith))

not_equal : (x y : ℕ) → x < y → eqb x y ≡ false
not_equal x y h = grind (arith, nat_tests)

-- no word before an address is at it
pub none_at_end : (a : ℕ) (xs : List ℕ) (n : ℕ) → a + 8 * length xs ≤ n → list_any (λ (g : Given). g.0 == n) (words_from a xs) ≡ false
none_at_end a [] n h = refl
none_at_end a (x ∷ xs) n h =
    ap (λ b. b || list_any (λ (g : Given). g.0 == n) (words_from (a + 8) xs)) (not_equal a n (omega arith))
    ∙ none_at_end (a + 8) xs n (omega arith)

-- the words of this line are not at the next address
none_in_line : (e : List Given) (a : ℕ) (xs : List ℕ) (n : ℕ) → a + 8 * length xs ≤ n → list_any (λ (g : Given). g.0 == n) (e ++ words_from a xs) ≡ list_any (λ (g : Given). g.0 == n) e
none_in_line e a xs n h =
    list_any-append (λ (g : Given). g.0 == n) e (words_from a xs)
    ∙ ap (λ b. list_any (λ (g : Given). g.0 == n) e || b) (none_at_end a xs n h)
    ∙ or-false (list_any (λ (g : Given). g.0 == n) e)

-- what the marks say of the next word of a line is what the earlier lines say
pub marks_tell : (blocks : ℕ) (e : List Given) (a : ℕ) (xs : List ℕ) (words : List ℕ) (given : List Bool) (n : ℕ) → Filled blocks (e ++ words_from a xs) words given → a + 8 * length xs ≡ n → n % 8 ≡ 0 → marked_refusal blocks given n ≡ word_refusal blocks e n
marks_tell blocks e a xs words given n filled at aligned = by (nat_lt n (64 * blocks)) refl
  where
    below : nat_lt n (64 * blocks) ≡ true → n < 64 * blocks
    below h = grind (arith, nat_tests)

    by : (b : Bool) → nat_lt n (64 * blocks) ≡ b → cond (not b) (Some (OutOfRange n)) (cond (get_or given (n / 8) false) (Some (Overlap n)) None) ≡ cond (not b) (Some (OutOfRange n)) (cond (list_any (λ (g : Given). g.0 == n) e) (Some (Overlap n)) None)
    by true h =
        ap (λ b. cond b (Some (Overlap n)) None)
        (filled.marked n (below h) aligned ∙ none_in_line e a xs n (omega (arith, at)))
    by false h = refl

-- what is found, and whether any is, in a list with one more
find_push_same : (p : Given → Bool) (gs : List Given) (g : Given) → list_any p gs ≡ false → p g ≡ true → find p (gs ++ g ∷ []) ≡ Some g
find_push_same p [] g none at_it = ap (λ b. cond b (Some g) None) at_it
find_push_same p (x ∷ gs) g none at_it = by (p x) none (λ h. find_push_same p gs g h at_it)
  where
    by : (b : Bool) → (b || list_any p gs) ≡ false → (list_any p gs ≡ false → find p (gs ++ g ∷ []) ≡ Some g) → cond b (Some x) (find p (gs ++ g ∷ [])) ≡ Some g
    by true h next = absurd (cc h)
    by false h next = next h

find_push_other : (p : Given → Bool) (gs : List Given) (g : Given) → p g ≡ false → find p (gs ++ g ∷ []) ≡ find p gs
find_push_other p [] g not_it = ap (λ b. cond b (Some g) None) not_it
find_push_other p (x ∷ gs) g not_it = ap (λ o. cond (p x) (Some x) o) (find_push_other p gs g not_it)

any_push : (p : Given → Bool) (gs : List Given) (g : Given) (b : Bool) → p g ≡ b → list_any p (gs ++ g ∷ []) ≡ (list_any p gs || b)
any_push p gs g b e = list_any-append p gs (g ∷ []) ∙ ap (λ c. list_any p gs || c) (or-false (p g) ∙ e)

-- One word more at a free place.
pub place_more : (blocks : ℕ) (gs : List Given) (words : List ℕ) (given : List Bool) (n w : ℕ) → Filled blocks gs words given → n < 64 * blocks → n % 8 ≡ 0 → get_or given (n / 8) false ≡ false → Filled blocks (gs ++ (n, w) ∷ []) (set words (n / 8) w) (set given (n / 8) true)
place_more blocks gs words given n w filled inside aligned free =
    record {
      room = length-set words (n / 8) w ∙ filled.room;
      marks = length-set given (n / 8) true ∙ filled.marks;
      placed = placed;
      marked = marked;
    }
  where
    same : (x y : ℕ) → x ≡ y → eqb x y ≡ true
    same x y h = grind (arith, nat_tests)

    other : (x y : ℕ) → x ≢ y → eqb x y ≡ false
    other x y h = grind (arith, nat_tests)

    within : n / 8 < 8 * blocks
    within = omega arith

    none : list_any (λ (g : Given). g.0 == n) gs ≡ false
    none = sym (filled.marked n inside aligned) ∙ free

    elsewhere : (addr : ℕ) → addr % 8 ≡ 0 → addr ≢ n → addr / 8 ≢ n / 8
    elsewhere addr whole differs = λ e. differs (omega (arith, e))

    placed_here : (addr : ℕ) → addr ≡ n → get_or (set words (n / 8) w) (addr / 8) 0 ≡ word_in (find (λ (g : Given). g.0 == addr) (gs ++ (n, w) ∷ []))
    placed_here addr e =
        subst (λ (k : ℕ). get_or (set words (n / 8) w) (k / 8) 0 ≡ word_in (find (λ (g : Given). g.0 == k) (gs ++ (n, w) ∷ []))) (sym e)
        (get_or-set_same words (n / 8) w 0 (omega (arith, filled.room, within))
        ∙ sym (ap word_in (find_push_same (λ g. g.0 == n) gs (n, w) none (same n n refl))))

    placed_elsewhere : (addr : ℕ) → addr < 64 * blocks → addr % 8 ≡ 0 → addr ≢ n → get_or (set words (n / 8) w) (addr / 8) 0 ≡ word_in (find (λ (g : Given). g.0 == addr) (gs ++ (n, w) ∷ []))
    placed_elsewhere addr low whole differs =
        get_or-set_other words (n / 8) (addr / 8) w 0 (elsewhere addr whole differs)
        ∙ filled.placed addr low whole
        ∙ sym (ap word_in (find_push_other (λ g. g.0 == addr) gs (n, w) (other n addr (λ e. differs (sym e)))))

    placed : (addr : ℕ) → addr < 64 * blocks → addr % 8 ≡ 0 → get_or (set words (n / 8) w) (addr / 8) 0 ≡ word_in (find (λ (g : Given). g.0 == addr) (gs ++ (n, w) ∷ []))
    placed addr low whole =
        ⊎_elim (λ e. placed_here addr e) (λ differs. placed_elsewhere addr low whole differs) (cases_eq addr n)

    marked_here : (addr : ℕ) → addr ≡ n → get_or (set given (n / 8) true) (addr / 8) false ≡ list_any (λ (g : Given). g.0 == addr) (gs ++ (n, w) ∷ [])
    marked_here addr e =
        subst (λ (k : ℕ). get_or (set given (n / 8) true) (k / 8) false ≡ list_any (λ (g : Given). g.0 == k) (gs ++ (n, w) ∷ [])) (sym e)
        (get_or-set_same given (n / 8) true false (omega (arith, filled.marks, within))
        ∙ sym (any_push (λ g. g.0 == n) gs (n, w) true (same n n refl) ∙ or-true (list_any (λ (g : Given). g.0 == n) gs)))

    marked_elsewhere : (addr : ℕ) → addr < 64 * blocks → addr % 8 ≡ 0 → addr ≢ n → get_or (set given (n / 8) true) (addr / 8) false ≡ list_any (λ (g : Given). g.0 == addr) (gs ++ (n, w) ∷ [])
    marked_elsewhere addr low whole differs =
        get_or-set_other given (n / 8) (addr / 8) true false (elsewhere addr whole differs)
        ∙ filled.marked addr low whole
        ∙ sym (any_push (λ g. g.0 == addr) gs (n, w) false (other n addr (λ e. differs (sym e))) ∙ or-false (list_any (λ (g : Given). g.0 == addr) gs))

    marked : (addr : ℕ) → addr < 64 * blocks → addr % 8 ≡ 0 → get_or (set given (n / 8) true) (addr / 8) false ≡ list_any (λ (g : Given). g.0 == addr) (gs ++ (n, w) ∷ [])
    marked addr low whole =
        ⊎_elim (λ e. marked_here addr e) (λ differs. marked_elsewhere addr low whole differs) (cases_eq addr n)
