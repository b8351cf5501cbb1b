-- Lists whose stamps rise, and logs that have each stamp once.
use Rattle.std.proofs.Common.{◌≡◌, ◌⊎◌, inl, inr, ℕ, zero, suc, ◌<◌, ◌≤◌, Bool, true, false, cond, nat_lt, List, [], ◌∷◌, ◌++◌, map, filter, find, Some, None, option_map, refl, sym, ◌∙◌, ap, subst, arith, eq-eqb, eqb-true}
use Rattle.std.specs.Prelude.{◌==◌}
use Rattle.std.specs.List.{AllByRecursion}
use Rattle.std.proofs.lemmas.Bool.{ne_eqb, ltb-true, ltb-false, lt-ltb, le-ltb}
use Rattle.std.proofs.lemmas.List.{append-nil, map-append}
use Rattle.std.proofs.lemmas.List.Elements.{filter-append}
use Rattle.pei_types.specs.declared.stamps.Stamped.{Stamped}
use Rattle.pei_types.specs.Recency.{list_at}
use Rattle.history_laws.specs.Members.{In}
use Rattle.bank_laws.specs.Logs.{has_stamp, in_first, in_next, event_with, events_below, Rises, IsFront}
use Rattle.history_laws.proofs.Lists.{each_of, each_in}

is_below : ℕ → Stamped → Bool
is_below n x = nat_lt x.stamp n

-- ---- one list

-- one of two items of a rising list with one stamp is the other
pub same_item : (log : List Stamped) (x y : Stamped) → Rises log → In x log → In y log → x.stamp ≡ y.stamp → x ≡ y
same_item [] x y h i j e = absurd i
same_item (z ∷ log) x y h (inl f) (inl g) e = f ∙ sym g
same_item (z ∷ log) x y h (inl f) (inr j) e = absurd (let less : z.stamp < y.stamp = each_of (λ w. z.stamp < w.stamp) log y h.0 j in let q : x.stamp ≡ z.stamp = ap (λ (w : Stamped). w.stamp) f in omega (arith, less, q, e))
same_item (z ∷ log) x y h (inr i) (inl g) e = absurd (let less : z.stamp < x.stamp = each_of (λ w. z.stamp < w.stamp) log x h.0 i in let q : y.stamp ≡ z.stamp = ap (λ (w : Stamped). w.stamp) g in omega (arith, less, q, e))
same_item (z ∷ log) x y h (inr i) (inr j) e = same_item log x y h.1 i j e

-- no item has a stamp
abbrev pub Lacks : ℕ → List Stamped → Type 0
Lacks n log = (y : Stamped) → In y log → y.stamp ≡ n → ⊥

pub lacks_none : (n : ℕ) (log : List Stamped) → Lacks n log → filter (has_stamp n) log ≡ []
lacks_none n [] h = refl
lacks_none n (x ∷ log) h = rw (ne_eqb x.stamp n (λ e. h x (inl refl) e)) (lacks_none n log (λ y i. h y (inr i)))

pub find_lacks : (n : ℕ) (log : List Stamped) → Lacks n log → find (has_stamp n) log ≡ None
find_lacks n [] h = refl
find_lacks n (x ∷ log) h = rw (ne_eqb x.stamp n (λ e. h x (inl refl) e)) (find_lacks n log (λ y i. h y (inr i)))

-- what comes behind in a rising list lacks an earlier stamp
later_lacks : (x : Stamped) (log : List Stamped) → AllByRecursion (λ y. x.stamp < y.stamp) log → Lacks x.stamp log
later_lacks x log h y i e = absurd (let less : x.stamp < y.stamp = each_of (λ w. x.stamp < w.stamp) log y h i in omega (arith, less, e))

pub has_once : (n : ℕ) (log : List Stamped) (x : Stamped) → Rises log → In x log → x.stamp ≡ n → filter (has_stamp n) log ≡ x ∷ []
has_once n [] x h i e = absurd i
has_once n (z ∷ log) x h (inl f) e =
    let here : z.stamp ≡ n = ap (λ (w : Stamped). w.stamp) (sym f) ∙ e
    in let none : filter (has_stamp n) log ≡ [] = subst (λ k. filter (has_stamp k) log ≡ []) here (lacks_none z.stamp log (later_lacks z log h.0))
    in rw (eq-eqb z.stamp n here) (ap (λ ys. z ∷ ys) none ∙ ap (λ w. w ∷ []) (sym f))
has_once n (z ∷ log) x h (inr i) e =
    let less : z.stamp < x.stamp = each_of (λ w. z.stamp < w.stamp) log x h.0 i
    in rw (ne_eqb z.stamp n (λ q. absurd (omega (arith, less, e, q)))) (has_once n log x h.1 i e)

pub find_once : (n : ℕ) (log : List Stamped) (x : Stamped) → Rises log → In x log → x.stamp ≡ n → find (has_stamp n) log ≡ Some x
find_once n [] x h i e = absurd i
find_once n (z ∷ log) x h (inl f) e = rw (eq-eqb z.stamp n (ap (λ (w : Stamped). w.stamp) (sym f) ∙ e)) (ap Some (sym f))
find_once n (z ∷ log) x h (inr i) e =
    let less : z.stamp < x.stamp = each_of (λ w. z.stamp < w.stamp) log x h.0 i
    in rw (ne_eqb z.stamp n (λ q. absurd (omega (arith, less, e, q)))) (find_once n log x h.1 i e)

-- items with stamps from n on are not below n
pub none_below : (n : ℕ) (log : List Stamped) → AllByRecursion (λ y. n ≤ y.stamp) log → filter (λ x. nat_lt x.stamp n) log ≡ []
none_below n [] h = refl
none_below n (x ∷ log) h = rw (le-ltb x.stamp n h.0) (none_below n log h.1)

all_below : (n : ℕ) (log : List Stamped) → AllByRecursion (λ y. y.stamp < n) log → filter (λ x. nat_lt x.stamp n) log ≡ log
all_below n [] h = refl
all_below n (x ∷ log) h = rw (lt-ltb x.stamp n h.0) (ap (λ ys. x ∷ ys) (all_below n log h.1))

-- one stamp more
below_more : (n : ℕ) (log : List Stamped) → Rises log → filter (λ x. nat_lt x.stamp (suc n)) log ≡ filter (λ x. nat_lt x.stamp n) log ++ filter (has_stamp n) log
below_more n [] h = refl
below_more n (x ∷ log) h = by (nat_lt x.stamp n) (x.stamp == n) refl refl (below_more n log h.1)
  where
    beyond : (k : ℕ) → n ≤ x.stamp → k ≤ suc n → AllByRecursion (λ y. k ≤ y.stamp) log
    beyond k le low = each_in (λ y. k ≤ y.stamp) log (λ y i. let less : x.stamp < y.stamp = each_of (λ w. x.stamp < w.stamp) log y h.0 i in omega (arith, less, le, low))

    lacks : n ≤ x.stamp → Lacks n log
    lacks le y i e = absurd (let less : x.stamp < y.stamp = each_of (λ w. x.stamp < w.stamp) log y h.0 i in omega (arith, less, le, e))

    by : (low here : Bool) → nat_lt x.stamp n ≡ low → (x.stamp == n) ≡ here → filter (λ y. nat_lt y.stamp (suc n)) log ≡ filter (λ y. nat_lt y.stamp n) log ++ filter (has_stamp n) log → filter (λ y. nat_lt y.stamp (suc n)) (x ∷ log) ≡ cond low (x ∷ filter (λ y. nat_lt y.stamp n) log) (filter (λ y. nat_lt y.stamp n) log) ++ cond here (x ∷ filter (has_stamp n) log) (filter (has_stamp n) log)
    by true true e f rest = absurd (let less : x.stamp < n = ltb-true x.stamp n e in let q : x.stamp ≡ n = eqb-true x.stamp n f in omega (arith, less, q))
    by true false e f rest = let less : x.stamp < n = ltb-true x.stamp n e in rw (lt-ltb x.stamp (suc n) (omega (arith, less))) (ap (λ ys. x ∷ ys) rest)
    by false true e f rest =
        let q : x.stamp ≡ n = eqb-true x.stamp n f
        in let le : n ≤ x.stamp = omega (arith, q)
        in rw (lt-ltb x.stamp (suc n) (omega (arith, q)), none_below (suc n) log (beyond (suc n) le (omega arith)), none_below n log (beyond n le (omega arith)), lacks_none n log (lacks le)) refl
    by false false e f rest =
        let le : n ≤ x.stamp = ltb-false x.stamp n e
        in let apart : x.stamp ≡ n → ⊥ = λ q. absurd (cc (sym f ∙ eq-eqb x.stamp n q))
        in rw (le-ltb x.stamp (suc n) (beyond_it le (eq_or_less n x.stamp le) apart)) rest
      where
        eq_or_less : (a b : ℕ) → a ≤ b → (b ≡ a) ⊎ (suc a ≤ b)
        eq_or_less a b q = split (nat_lt a b) refl
          where
            split : (t : Bool) → nat_lt a b ≡ t → (b ≡ a) ⊎ (suc a ≤ b)
            split true r = inr (let s : a < b = ltb-true a b r in omega (arith, s))
            split false r = inl (let s : b ≤ a = ltb-false a b r in omega (arith, s, q))

        beyond_it : n ≤ x.stamp → (x.stamp ≡ n) ⊎ (suc n ≤ x.stamp) → (x.stamp ≡ n → ⊥) → suc n ≤ x.stamp
        beyond_it q (inl r) apart = absurd (apart r)
        beyond_it q (inr r) apart = r

pub events_more : (n : ℕ) (log : List Stamped) (x : Stamped) → Rises log → In x log → x.stamp ≡ n → events_below (suc n) log ≡ events_below n log ++ x.event ∷ []
events_more n log x h i e =
    ap (map (λ (y : Stamped). y.event)) (below_more n log h ∙ ap (λ ys. filter (λ y. nat_lt y.stamp n) log ++ ys) (has_once n log x h i e))
    ∙ map-append (λ (y : Stamped). y.event) (filter (λ y. nat_lt y.stamp n) log) (x ∷ [])

pub events_same : (n : ℕ) (log : List Stamped) → Rises log → Lacks n log → events_below (suc n) log ≡ events_below n log
events_same n log h lacks =
    ap (map (λ (y : Stamped). y.event)) (below_more n log h ∙ ap (λ ys. filter (λ y. nat_lt y.stamp n) log ++ ys) (lacks_none n log lacks) ∙ append-nil (filter (λ y. nat_lt y.stamp n) log))

pub events_at_start : (log : List Stamped) → events_below 0 log ≡ []
events_at_start log = ap (map (λ (y : Stamped). y.event)) (none_below 0 log (each_in (λ y. 0 ≤ y.stamp) log (λ y i. omega arith)))

-- ---- fronts

pub rises_front : (front back : List Stamped) → Rises (front ++ back) → Rises front
rises_front [] back h = tt
rises_front (x ∷ front) back h = (fronts front h.0, rises_front front back h.1)
  where
    fronts : (xs : List Stamped) → AllByRecursion (λ y. x.stamp < y.stamp) (xs ++ back) → AllByRecursion (λ y. x.stamp < y.stamp) xs
    fronts [] k = tt
    fronts (y ∷ xs) k = (k.0, fronts xs k.1)

-- what comes behind an item has greater stamps
behind : (front back : List Stamped) (x : Stamped) → Rises (front ++ back) → In x front → AllByRecursion (λ y. x.stamp ≤ y.stamp) back
behind [] back x h i = absurd i
behind (z ∷ front) back x h (inl f) = backs front h.0
  where
    backs : (xs : List Stamped) → AllByRecursion (λ y. z.stamp < y.stamp) (xs ++ back) → AllByRecursion (λ y. x.stamp ≤ y.stamp) back
    backs [] k = each_in (λ y. x.stamp ≤ y.stamp) back (λ y j. let less : z.stamp < y.stamp = each_of (λ w. z.stamp < w.stamp) back y k j in let q : x.stamp ≡ z.stamp = ap (λ (w : Stamped). w.stamp) f in omega (arith, less, q))
    backs (y ∷ xs) k = backs xs k.1
behind (z ∷ front) back x h (inr i) = behind front back x h.1 i

-- the events before one that was seen
pub events_seen : (seen log : List Stamped) (x : Stamped) → IsFront seen log → Rises log → In x seen → events_below x.stamp seen ≡ events_below x.stamp log
events_seen seen log x front h i =
    let rest = front.0
    in let rising : Rises (seen ++ rest) = subst Rises front.1 h
    in sym (ap (events_below x.stamp) front.1
    ∙ ap (map (λ (y : Stamped). y.event)) (filter-append (λ y. nat_lt y.stamp x.stamp) seen rest ∙ ap (λ ys. filter (λ y. nat_lt y.stamp x.stamp) seen ++ ys) (none_below x.stamp rest (behind seen rest x rising i)) ∙ append-nil (filter (λ y. nat_lt y.stamp x.stamp) seen)))

-- ---- all logs

-- the event of a stamp, where each stamp stands in one log
pub event_found : (logs : List (List Stamped)) (k : ℕ) (x : Stamped) → ((j : ℕ) → Rises (list_at logs j)) → ((j : ℕ) (y : Stamped) → In y (list_at logs j) → y.stamp ≡ x.stamp → j ≡ k) → In x (list_at logs k) → event_with x.stamp logs ≡ Some (record { bank = k; event = x.event })
event_found [] k x rising once i = absurd i
event_found (log ∷ logs) zero x rising once i = ap (λ o. in_first o (option_map in_next (event_with x.stamp logs))) (find_once x.stamp log x (rising 0) i refl)
event_found (log ∷ logs) (suc k) x rising once i =
    ap (λ o. in_first o (option_map in_next (event_with x.stamp logs))) (find_lacks x.stamp log (λ y j e. absurd (let q : 0 ≡ suc k = once 0 y j e in omega (arith, q))))
    ∙ ap (option_map in_next) (event_found logs k x (λ j. rising (suc j)) (λ j y l e. let q : suc j ≡ suc k = once (suc j) y l e in omega (arith, q)) i)

-- ---- lists that grow

-- below a stamp that is above all, everything
pub events_all : (n : ℕ) (log : List Stamped) → AllByRecursion (λ y. y.stamp < n) log → events_below n log ≡ map (λ x. x.event) log
events_all n log h = ap (map (λ (y : Stamped). y.event)) (all_below n log h)

-- what stands before the last item of a rising list is below it
pub before_last_item : (log : List Stamped) (x : Stamped) → Rises (log ++ x ∷ []) → AllByRecursion (λ y. y.stamp < x.stamp) log
before_last_item [] x h = tt
before_last_item (z ∷ log) x h = (last log h.0, before_last_item log x h.1)
  where
    last : (xs : List Stamped) → AllByRecursion (λ y. z.stamp < y.stamp) (xs ++ x ∷ []) → z.stamp < x.stamp
    last [] k = k.0
    last (y ∷ xs) k = last xs k.1

pub events_before_last : (log : List Stamped) (x : Stamped) → Rises (log ++ x ∷ []) → events_below x.stamp (log ++ x ∷ []) ≡ map (λ y. y.event) log
events_before_last log x h =
    let front : IsFront log (log ++ x ∷ []) = (x ∷ [], refl)
    in ap (map (λ (y : Stamped). y.event))
    (filter-append (λ y. nat_lt y.stamp x.stamp) log (x ∷ []) ∙ ap (λ ys. filter (λ y. nat_lt y.stamp x.stamp) log ++ ys) (none_below x.stamp (x ∷ []) (omega arith, tt)) ∙ append-nil (filter (λ y. nat_lt y.stamp x.stamp) log) ∙ all_below x.stamp log (before_last_item log x h))
