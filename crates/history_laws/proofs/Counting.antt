-- One claim changes: which lane has what, and how many.
use Rattle.std.proofs.Common.{◌≡◌, ℕ, zero, suc, ◌+◌, ◌*◌, ◌<◌, ◌≤◌, Bool, true, false, List, [], ◌∷◌, length, get_or, eqb, eqb-true, eq-eqb, refl, sym, ◌∙◌, ap, subst, arith}
use Rattle.pei_types.specs.Recency.{change_at, list_at}
use Rattle.pei_types.specs.Schedule.{LaneClaim, Free}
use Rattle.history_laws.specs.Holders.{claim_at, one, count_in, count_all}
use Rattle.history_laws.proofs.Lists.{get_or-change_at_same, get_or-change_at_other}
use Rattle.pei_types.proofs.Lists.{length-change_at}

-- ---- one place

abbrev pub changed : List (List LaneClaim) → ℕ → ℕ → (LaneClaim → LaneClaim) → List (List LaneClaim)
changed claims c l f = change_at claims c (λ lanes. change_at lanes l f)

pub claim_here : (claims : List (List LaneClaim)) (c l : ℕ) (f : LaneClaim → LaneClaim) → c < length claims → l < length (list_at claims c) → claim_at (changed claims c l f) c l ≡ f (claim_at claims c l)
claim_here claims c l f h k =
    ap (λ lanes. get_or lanes l Free) (get_or-change_at_same claims c (λ lanes. change_at lanes l f) [] h)
    ∙ get_or-change_at_same (list_at claims c) l f Free k

pub claim_other : (claims : List (List LaneClaim)) (c l d n : ℕ) (f : LaneClaim → LaneClaim) → c < length claims → ((c ≡ d) × (l ≡ n) → ⊥) → claim_at (changed claims c l f) d n ≡ claim_at claims d n
claim_other claims c l d n f h other = by (eqb c d) refl
  where
    by : (b : Bool) → eqb c d ≡ b → claim_at (changed claims c l f) d n ≡ claim_at claims d n
    by true e =
        let same : c ≡ d = eqb-true c d e
        in subst (λ z. claim_at (changed claims c l f) z n ≡ claim_at claims z n) same
        (ap (λ lanes. get_or lanes n Free) (get_or-change_at_same claims c (λ lanes. change_at lanes l f) [] h)
        ∙ get_or-change_at_other (list_at claims c) l n f Free (λ q. other (same, q)))
    by false e = ap (λ lanes. get_or lanes n Free) (get_or-change_at_other claims c d (λ lanes. change_at lanes l f) [] (λ q. differ q))
      where
        differ : c ≡ d → ⊥
        differ q = absurd (cc (sym e ∙ eq-eqb c d q))

pub length-changed : (claims : List (List LaneClaim)) (c l d : ℕ) (f : LaneClaim → LaneClaim) → c < length claims → length (list_at (changed claims c l f) d) ≡ length (list_at claims d)
length-changed claims c l d f h = by (eqb c d) refl
  where
    by : (b : Bool) → eqb c d ≡ b → length (list_at (changed claims c l f) d) ≡ length (list_at claims d)
    by true e =
        subst (λ z. length (list_at (changed claims c l f) z) ≡ length (list_at claims z)) (eqb-true c d e)
        (ap length (get_or-change_at_same claims c (λ lanes. change_at lanes l f) [] h) ∙ length-change_at (list_at claims c) l f)
    by false e = ap length (get_or-change_at_other claims c d (λ lanes. change_at lanes l f) [] (λ q. differ q))
      where
        differ : c ≡ d → ⊥
        differ q = absurd (cc (sym e ∙ eq-eqb c d q))

-- ---- counts

count_in_change : (t : LaneClaim → Bool) (xs : List LaneClaim) (i : ℕ) (f : LaneClaim → LaneClaim) → i < length xs → count_in t (change_at xs i f) + one (t (get_or xs i Free)) ≡ count_in t xs + one (t (f (get_or xs i Free)))
count_in_change t [] i f h = absurd (omega (arith, h))
count_in_change t (x ∷ xs) zero f h = omega arith
count_in_change t (x ∷ xs) (suc i) f h = omega (arith, count_in_change t xs i f (omega (arith, h)))

pub count_change : (t : LaneClaim → Bool) (xss : List (List LaneClaim)) (c l : ℕ) (f : LaneClaim → LaneClaim) → c < length xss → l < length (list_at xss c) → count_all t (changed xss c l f) + one (t (claim_at xss c l)) ≡ count_all t xss + one (t (f (claim_at xss c l)))
count_change t [] c l f h k = absurd (omega (arith, h))
count_change t (xs ∷ xss) zero l f h k = omega (arith, count_in_change t xs l f k)
count_change t (xs ∷ xss) (suc c) l f h k = omega (arith, count_change t xss c l f (omega (arith, h)) k)

count_in_some : (t : LaneClaim → Bool) (xs : List LaneClaim) (i : ℕ) → t Free ≡ false → t (get_or xs i Free) ≡ true → 0 < count_in t xs
count_in_some t [] i none h = absurd (cc (sym none ∙ h))
count_in_some t (x ∷ xs) zero none h = rw h (omega arith)
count_in_some t (x ∷ xs) (suc i) none h = omega (arith, count_in_some t xs i none h)

-- where a lane holds, the count is not 0
pub count_some : (t : LaneClaim → Bool) (xss : List (List LaneClaim)) (c l : ℕ) → t Free ≡ false → t (claim_at xss c l) ≡ true → 0 < count_all t xss
count_some t [] c l none h = absurd (cc (sym none ∙ h))
count_some t (xs ∷ xss) zero l none h = omega (arith, count_in_some t xs l none h)
count_some t (xs ∷ xss) (suc c) l none h = omega (arith, count_some t xss c l none h)

-- a count is at most the number of lists by their length
count_in_few : (t : LaneClaim → Bool) (xs : List LaneClaim) → count_in t xs ≤ length xs
count_in_few t [] = omega arith
count_in_few t (x ∷ xs) = by (t x) (count_in_few t xs)
  where
    by : (b : Bool) → count_in t xs ≤ length xs → one b + count_in t xs ≤ suc (length xs)
    by true h = omega (arith, h)
    by false h = omega (arith, h)

pub count_few : (t : LaneClaim → Bool) (xss : List (List LaneClaim)) → ((c : ℕ) → c < length xss → length (list_at xss c) ≤ 5) → count_all t xss ≤ length xss * 5
count_few t [] h = omega arith
count_few t (xs ∷ xss) h = omega (arith, count_in_few t xs, h 0 (omega arith), count_few t xss (λ c k. h (suc c) (omega (arith, k))))
