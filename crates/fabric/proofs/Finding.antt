-- The event with a stamp in a log whose stamps rise.
use Rattle.std.proofs.Common.{◌≡◌, ◌≢◌, ℕ, zero, suc, ◌<◌, ◌==◌, Bool, true, false, List, [], ◌∷◌, find, length, get_or, cond, Some, None, slice_get, refl, ◌∙◌, ap, subst, arith, eq-eqb}
use Rattle.std.specs.Prelude.{AllPairs}
use Rattle.std.specs.List.{AllByRecursion}
use Rattle.std.proofs.lemmas.Bool.Decides.{nat_tests}
use Rattle.pei_types.specs.declared.events.Event.{Event}
use Rattle.pei_types.specs.declared.stamps.Stamped.{Stamped}
use Rattle.bank_laws.specs.Logs.{Rises, has_stamp}
use Rattle.fabric.specs.IssueStamps.{log_with}

-- all stamps behind one are above it
above : (n : ℕ) (es : List Event) (ns : List ℕ) (j d : ℕ) → length ns ≡ length es → AllByRecursion (λ y. n < y.stamp) (log_with es ns) → j < length ns → n < get_or ns j d
above n [] [] j d sized h l = absurd (omega (arith, l))
above n [] (k ∷ ns) j d sized h l = absurd (omega (arith, sized))
above n (e ∷ es) [] j d sized h l = absurd (omega (arith, l))
above n (e ∷ es) (k ∷ ns) zero d sized h l = h.0
above n (e ∷ es) (k ∷ ns) (suc j) d sized h l = above n es ns j d (omega (arith, sized)) h.1 (omega (arith, l))

rise_at : (es : List Event) (ns : List ℕ) → length ns ≡ length es → Rises (log_with es ns) → (i j d : ℕ) → i < j → j < length ns → get_or ns i d < get_or ns j d
rise_at [] [] sized h i j d le l = absurd (omega (arith, l))
rise_at [] (k ∷ ns) sized h i j d le l = absurd (omega (arith, sized))
rise_at (e ∷ es) [] sized h i j d le l = absurd (omega (arith, l))
rise_at (e ∷ es) (k ∷ ns) sized h i zero d le l = absurd (omega (arith, le))
rise_at (e ∷ es) (k ∷ ns) sized h zero (suc j) d le l = above k es ns j d (omega (arith, sized)) h.0 (omega (arith, l))
rise_at (e ∷ es) (k ∷ ns) sized h (suc i) (suc j) d le l = rise_at es ns (omega (arith, sized)) h.1 i j d (omega (arith, le)) (omega (arith, l))

pub stamps_rise : (es : List Event) (ns : List ℕ) → length ns ≡ length es → Rises (log_with es ns) → AllPairs (λ x y. x < y) ns
stamps_rise es ns sized h = rise_at es ns sized h

-- ---- the event

if_passes : (test : Stamped → Bool) (x : Stamped) (xs : List Stamped) → test x ≡ true → find test (x ∷ xs) ≡ Some x
if_passes test x xs h = ap (λ b. cond b (Some x) (find test xs)) h

if_fails : (test : Stamped → Bool) (x : Stamped) (xs : List Stamped) → test x ≡ false → find test (x ∷ xs) ≡ find test xs
if_fails test x xs h = ap (λ b. cond b (Some x) (find test xs)) h

not_same : (n k : ℕ) → n ≢ k → (n == k) ≡ false
not_same n k h = grind (arith, nat_tests)

pub found_at : (es : List Event) (ns : List ℕ) (i stamp : ℕ) (e : Event) → length ns ≡ length es → Rises (log_with es ns) → slice_get ns i ≡ Some stamp → slice_get es i ≡ Some e → find (has_stamp stamp) (log_with es ns) ≡ Some (record { stamp = stamp; event = e })
found_at [] ns i stamp e sized h at here = absurd (cc here)
found_at (x ∷ es) [] i stamp e sized h at here = absurd (cc at)
found_at (x ∷ es) (n ∷ ns) zero stamp e sized h at here =
    let same : n ≡ stamp = some_is n stamp at
    in if_passes (has_stamp stamp) (record { stamp = n; event = x }) (log_with es ns) (eq-eqb n stamp same) ∙ ap (λ (k : ℕ). Some (record { stamp = k; event = x })) same ∙ ap (λ (y : Event). Some (record { stamp = stamp; event = y })) (event_is x e here)
  where
    some_is : (x y : ℕ) → Some x ≡ Some y → x ≡ y
    some_is x y k = cc

    event_is : (x y : Event) → Some x ≡ Some y → x ≡ y
    event_is x y k = cc
found_at (x ∷ es) (n ∷ ns) (suc i) stamp e sized h at here =
    let under : n < stamp = at_above n es ns i stamp (omega (arith, sized)) h.0 at
    in if_fails (has_stamp stamp) (record { stamp = n; event = x }) (log_with es ns) (not_same n stamp (λ same. omega (arith, under, same))) ∙ found_at es ns i stamp e (omega (arith, sized)) h.1 at here
  where
    at_above : (n : ℕ) (es : List Event) (ns : List ℕ) (i stamp : ℕ) → length ns ≡ length es → AllByRecursion (λ y. n < y.stamp) (log_with es ns) → slice_get ns i ≡ Some stamp → n < stamp
    at_above n [] [] i stamp sized h at = absurd (cc at)
    at_above n [] (k ∷ ns) i stamp sized h at = absurd (omega (arith, sized))
    at_above n (e ∷ es) [] i stamp sized h at = absurd (cc at)
    at_above n (e ∷ es) (k ∷ ns) zero stamp sized h at = subst (λ x. n < x) (first k stamp at) h.0
      where
        first : (x y : ℕ) → Some x ≡ Some y → x ≡ y
        first x y k = cc
    at_above n (e ∷ es) (k ∷ ns) (suc i) stamp sized h at = at_above n es ns i stamp (omega (arith, sized)) h.1 at

pub found_nowhere : (es : List Event) (ns : List ℕ) (stamp : ℕ) → AllByRecursion (λ n. n ≢ stamp) ns → find (has_stamp stamp) (log_with es ns) ≡ None
found_nowhere [] ns stamp h = refl
found_nowhere (x ∷ es) [] stamp h = refl
found_nowhere (x ∷ es) (n ∷ ns) stamp h = if_fails (has_stamp stamp) (record { stamp = n; event = x }) (log_with es ns) (not_same n stamp h.0) ∙ found_nowhere es ns stamp h.1

pub some_within : (xs : List ℕ) (i x : ℕ) → slice_get xs i ≡ Some x → i < length xs
some_within [] i x h = absurd (cc h)
some_within (y ∷ ys) zero x h = omega arith
some_within (y ∷ ys) (suc i) x h = let rest = some_within ys i x h in omega (arith, rest)
