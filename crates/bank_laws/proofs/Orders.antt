-- PEIs by the stamps of their issues, and what a fence waits for.
use Rattle.std.proofs.Common.{◌≡◌, ℕ, zero, suc, ◌<◌, ◌≤◌, Bool, true, false, not, ◌&&◌, cond, nat_lt, List, [], ◌∷◌, ◌++◌, map, filter, Option, Some, None, is_none, refl, sym, ◌∙◌, ap, subst, arith, ltb-true, ltb-false}
use Rattle.std.specs.Prelude.{IfSome}
use Rattle.std.specs.List.{AllByRecursion, cons_option}
use Rattle.std.proofs.lemmas.Bool.{lt-ltb, le-ltb}
use Rattle.std.proofs.lemmas.List.{append-nil}
use Rattle.std.proofs.lemmas.List.Elements.{filter-append}
use Rattle.pei_types.specs.declared.stamps.Stamped.{Stamped}
use Rattle.pei_types.specs.declared.identifiers.CoreId.{CoreId}
use Rattle.pei_types.specs.declared.identifiers.PeiId.{PeiId}
use Rattle.pei_types.specs.declared.events.Event.{Event}
use Rattle.pei_types.specs.declared.machines.MachineSpec.{MachineSpec}
use Rattle.pei_types.specs.MachineState.{State, state_after, fence_of}
use Rattle.pei_types.specs.History.{Pei, issued_peis, pei_issued_by, has_left, unfinished_peis, begins_fence, before_fence}
use Rattle.pei_types.specs.Operation.{is_writer}
use Rattle.pei_types.specs.Recency.{list_at}
use Rattle.pei_types.proofs.Lists.{each_weaker, each_append}
use Rattle.pei_types.proofs.Pushes.{issued_peis-push}
use Rattle.history_laws.specs.Members.{In}
use Rattle.history_laws.specs.TrackedPeis.{Agrees, as_issued, fence_is_on, writers_awaited}
use Rattle.coherence_laws.specs.Sets.{EachPair}
use Rattle.bank_laws.specs.Banks.{journal_of}
use Rattle.bank_laws.specs.Logs.{history_below, merged, AreStamped}
use Rattle.bank_laws.specs.Merge.{AreIssueStamps, StandByIssue}
use Rattle.bank_laws.proofs.Histories.{journal_of-push}
use Rattle.bank_laws.proofs.Lists.{filter-all, filter-turned}
use Rattle.bank_laws.proofs.Logs.{NextIs, next_is}
use Rattle.bank_laws.proofs.Stamps.{same_item}
use Rattle.history_laws.proofs.Grows.{before_last_other, before_last_same}

-- ---- lists

pub pair_push : {A : Type 0} (R : A → A → Type 0) (xs : List A) (y : A) → EachPair R xs → AllByRecursion (λ x. R x y) xs → EachPair R (xs ++ y ∷ [])
pair_push R [] y h e = (tt, tt)
pair_push R (x ∷ xs) y h e = (each_append (R x) xs (y ∷ []) h.0 (e.0, tt), pair_push R xs y h.1 e.1)

pair_filter : {A : Type 0} (R : A → A → Type 0) (test : A → Bool) (xs : List A) → EachPair R xs → EachPair R (filter test xs)
pair_filter R test [] h = tt
pair_filter {A} R test (x ∷ xs) h = by (test x) (each_filtered xs h.0) (pair_filter R test xs h.1)
  where
    each_filtered : (ys : List A) → AllByRecursion (R x) ys → AllByRecursion (R x) (filter test ys)
    each_filtered [] k = tt
    each_filtered (y ∷ ys) k = at (test y) (each_filtered ys k.1)
      where
        at : (b : Bool) → AllByRecursion (R x) (filter test ys) → AllByRecursion (R x) (cond b (y ∷ filter test ys) (filter test ys))
        at true r = (k.0, r)
        at false r = r

    by : (b : Bool) → AllByRecursion (R x) (filter test xs) → EachPair R (filter test xs) → EachPair R (cond b (x ∷ filter test xs) (filter test xs))
    by true e r = (e, r)
    by false e r = r

pair_unmap : {A B : Type 0} (R : B → B → Type 0) (f : A → B) (xs : List A) → EachPair R (map f xs) → EachPair (λ x y. R (f x) (f y)) xs
pair_unmap R f [] h = tt
pair_unmap {A} R f (x ∷ xs) h = (each_unmap xs h.0, pair_unmap R f xs h.1)
  where
    each_unmap : (ys : List A) → AllByRecursion (R (f x)) (map f ys) → AllByRecursion (λ y. R (f x) (f y)) ys
    each_unmap [] k = tt
    each_unmap (y ∷ ys) k = (k.0, each_unmap ys k.1)

filter_of_map : {A B : Type 0} (p : B → Bool) (f : A → B) (xs : List A) → filter p (map f xs) ≡ map f (filter (λ x. p (f x)) xs)
filter_of_map p f [] = refl
filter_of_map {A} {B} p f (x ∷ xs) = by (p (f x)) (filter_of_map p f xs)
  where
    by : (b : Bool) → filter p (map f xs) ≡ map f (filter (λ y. p (f y)) xs) → cond b (f x ∷ filter p (map f xs)) (filter p (map f xs)) ≡ map f (cond b (x ∷ filter (λ y. p (f y)) xs) (filter (λ y. p (f y)) xs))
    by true h = ap (λ ys. f x ∷ ys) h
    by false h = h

map_of_map : {A B C : Type 0} (g : B → C) (f : A → B) (xs : List A) → map g (map f xs) ≡ map (λ x. g (f x)) xs
map_of_map g f [] = refl
map_of_map g f (x ∷ xs) = ap (λ ys. g (f x) ∷ ys) (map_of_map g f xs)

-- two tests, one in the other
filter_both : {A : Type 0} (p q : A → Bool) (xs : List A) → filter p (filter q xs) ≡ filter (λ x. p x && q x) xs
filter_both p q [] = refl
filter_both {A} p q (x ∷ xs) = by (p x) (q x) refl (filter_both p q xs)
  where
    by : (b c : Bool) → p x ≡ b → filter p (filter q xs) ≡ filter (λ y. p y && q y) xs → filter p (cond c (x ∷ filter q xs) (filter q xs)) ≡ cond (b && c) (x ∷ filter (λ y. p y && q y) xs) (filter (λ y. p y && q y) xs)
    by true true e h = rw e (ap (λ ys. x ∷ ys) h)
    by false true e h = rw e h
    by true false e h = h
    by false false e h = h

-- ---- issues

-- the PEIs issued stand by their stamps, which are below the next
pub record Issues (stamp : PeiId → ℕ) (n : ℕ) (ps : List Pei) : Type 0 where
  pub rising : EachPair (λ p q. stamp p.id < stamp q.id) ps
  pub below : AllByRecursion (λ p. stamp p.id < n) ps

issue_more : (stamp : PeiId → ℕ) (n : ℕ) (ps : List Pei) (o : Option Pei) → Issues stamp n ps → IfSome o (λ p. stamp p.id ≡ n) → Issues stamp (suc n) (ps ++ cons_option o [])
issue_more stamp n ps None h e =
    let wider : AllByRecursion (λ p. stamp p.id < suc n) ps = each_weaker (λ p. stamp p.id < n) (λ p. stamp p.id < suc n) (λ p k. omega (arith, k)) ps h.below
    in subst (Issues stamp (suc n)) (sym (append-nil ps)) (record { rising = h.rising; below = wider })
issue_more stamp n ps (Some p) h e =
    record {
      rising = pair_push (λ x y. stamp x.id < stamp y.id) ps p h.rising (each_weaker (λ x. stamp x.id < n) (λ x. stamp x.id < stamp p.id) (λ x k. subst (λ i. stamp x.id < i) (sym e) k) ps h.below);
      below = each_append (λ x. stamp x.id < suc n) ps (p ∷ []) (each_weaker (λ x. stamp x.id < n) (λ x. stamp x.id < suc n) (λ x k. omega (arith, k)) ps h.below) (omega (arith, e), tt);
    }

-- of the next event
stamp_next : (n : ℕ) (logs : List (List Stamped)) (stamp : PeiId → ℕ) → AreIssueStamps logs stamp → (x : NextIs n logs) → IfSome (pei_issued_by x.item.event.actor x.item.event.kind) (λ p. stamp p.id ≡ n)
stamp_next n logs stamp stamps x = by (pei_issued_by x.item.event.actor x.item.event.kind) refl
  where
    by : (o : Option Pei) → pei_issued_by x.item.event.actor x.item.event.kind ≡ o → IfSome o (λ p. stamp p.id ≡ n)
    by None e = tt
    by (Some p) e = stamps x.bank x.item p x.there e ∙ x.stamp

pub merged_more : (n : ℕ) (logs : List (List Stamped)) (x : NextIs n logs) → merged (suc n) logs ≡ merged n logs ++ x.item.event ∷ []
merged_more n logs x = ap journal_of x.more ∙ journal_of-push (history_below n logs) (record { bank = x.bank; event = x.item.event })

issued_more : (n : ℕ) (logs : List (List Stamped)) (x : NextIs n logs) → issued_peis (merged (suc n) logs) ≡ issued_peis (merged n logs) ++ cons_option (pei_issued_by x.item.event.actor x.item.event.kind) []
issued_more n logs x = ap issued_peis (merged_more n logs x) ∙ issued_peis-push (merged n logs) x.item.event

issues_below : (last : ℕ) (logs : List (List Stamped)) (stamp : PeiId → ℕ) → AreStamped last logs → AreIssueStamps logs stamp → (n : ℕ) → n ≤ last → Issues stamp n (issued_peis (merged n logs))
issues_below last logs stamp h stamps zero within = record { rising = tt; below = tt }
issues_below last logs stamp h stamps (suc n) within =
    let x = next_is last n logs h (omega (arith, within))
    in subst (Issues stamp (suc n)) (sym (issued_more n logs x))
    (issue_more stamp n (issued_peis (merged n logs)) (pei_issued_by x.item.event.actor x.item.event.kind) (issues_below last logs stamp h stamps n (omega (arith, within))) (stamp_next n logs stamp stamps x))

-- the PEIs on their way stand by the stamps of their issues
pub stand_by_issue : (m : MachineSpec) (last : ℕ) (logs : List (List Stamped)) (stamp : PeiId → ℕ) → AreStamped last logs → AreIssueStamps logs stamp → Agrees m (state_after m (merged last logs)) (merged last logs) → StandByIssue stamp (state_after m (merged last logs)).peis
stand_by_issue m last logs stamp h stamps g =
    let journal : List Event = merged last logs
    in let s : State = state_after m journal
    in pair_unmap (λ (p q : Pei). stamp p.id < stamp q.id) as_issued s.peis
    (subst (EachPair (λ p q. stamp p.id < stamp q.id)) g.unfinished
    (pair_filter (λ p q. stamp p.id < stamp q.id) (λ p. not (has_left journal p.id)) (issued_peis journal) (issues_below last logs stamp h stamps last (omega arith)).rising))

-- ---- fences

module _ (last : ℕ) (logs : List (List Stamped)) (c : CoreId) (f : ℕ) (h : AreStamped last logs) (x : Stamped) (bank : ℕ) (there : In x (list_at logs bank)) (at : x.stamp ≡ f) (begins : begins_fence c x.event ≡ true) (newest : (k : ℕ) (y : Stamped) → In y (list_at logs k) → begins_fence c y.event ≡ true → y.stamp ≤ f) where
  -- the events before the core's last fence
  pub before_fence_is : (n : ℕ) → n ≤ last → f < n → before_fence c (merged n logs) ≡ merged f logs
  before_fence_is zero within less = absurd (omega (arith, less))
  before_fence_is (suc n) within less = by (nat_lt f n) refl (before_fence_is n (omega (arith, within)))
    where
      y : NextIs n logs
      y = next_is last n logs h (omega (arith, within))

      by : (b : Bool) → nat_lt f n ≡ b → (f < n → before_fence c (merged n logs) ≡ merged f logs) → before_fence c (merged (suc n) logs) ≡ merged f logs
      by true e earlier =
          let more : f < n = ltb-true f n e
          in ap (before_fence c) (merged_more n logs y) ∙ before_last_other (begins_fence c) (merged n logs) y.item.event (other more (begins_fence c y.item.event) refl) ∙ earlier more
        where
          other : f < n → (b : Bool) → begins_fence c y.item.event ≡ b → begins_fence c y.item.event ≡ false
          other more true q = absurd (let le : y.item.stamp ≤ f = newest y.bank y.item y.there q in let k : y.item.stamp ≡ n = y.stamp in omega (arith, le, k, more))
          other more false q = q
      by false e earlier =
          let same : f ≡ n = (let le : n ≤ f = ltb-false f n e in omega (arith, le, less))
          in let event : x ≡ y.item = item_is same
          in ap (before_fence c) (merged_more n logs y)
          ∙ before_last_same (begins_fence c) (merged n logs) y.item.event (subst (λ (z : Stamped). begins_fence c z.event ≡ true) event begins)
          ∙ ap (λ i. merged i logs) (sym same)
        where
          item_is : f ≡ n → x ≡ y.item
          item_is same =
              let stamps : x.stamp ≡ y.item.stamp = at ∙ same ∙ sym y.stamp
              in let banks : bank ≡ y.bank = h.once bank y.bank x y.item there y.there stamps
              in same_item (list_at logs y.bank) x y.item (h.rising y.bank) (subst (λ k. In x (list_at logs k)) banks there) y.there stamps

-- the PEIs issued with stamps below f
issued_earlier : (last : ℕ) (logs : List (List Stamped)) (stamp : PeiId → ℕ) (f : ℕ) → AreStamped last logs → AreIssueStamps logs stamp → (n : ℕ) → n ≤ last → f ≤ n → issued_peis (merged f logs) ≡ filter (λ p. nat_lt (stamp p.id) f) (issued_peis (merged n logs))
issued_earlier last logs stamp f h stamps zero within le =
    let none : f ≡ 0 = omega (arith, le)
    in subst (λ i. issued_peis (merged i logs) ≡ filter (λ p. nat_lt (stamp p.id) f) (issued_peis (merged 0 logs))) (sym none) refl
issued_earlier last logs stamp f h stamps (suc n) within le = by (nat_lt n f) refl (issued_earlier last logs stamp f h stamps n (omega (arith, within)))
  where
    x : NextIs n logs
    x = next_is last n logs h (omega (arith, within))

    o : Option Pei
    o = pei_issued_by x.item.event.actor x.item.event.kind

    all_kept : (ps : List Pei) → AllByRecursion (λ p. stamp p.id < f) ps → AllByRecursion (λ p. nat_lt (stamp p.id) f ≡ true) ps
    all_kept ps k = each_weaker (λ p. stamp p.id < f) (λ p. nat_lt (stamp p.id) f ≡ true) (λ p less. lt-ltb (stamp p.id) f less) ps k

    dropped : (q : Option Pei) → IfSome q (λ p. stamp p.id ≡ n) → f ≤ n → filter (λ p. nat_lt (stamp p.id) f) (cons_option q []) ≡ []
    dropped None e k = refl
    dropped (Some p) e k = rw (le-ltb (stamp p.id) f (omega (arith, e, k))) refl

    by : (b : Bool) → nat_lt n f ≡ b → (f ≤ n → issued_peis (merged f logs) ≡ filter (λ p. nat_lt (stamp p.id) f) (issued_peis (merged n logs))) → issued_peis (merged f logs) ≡ filter (λ p. nat_lt (stamp p.id) f) (issued_peis (merged (suc n) logs))
    by true e earlier =
        let same : f ≡ suc n = (let less : n < f = ltb-true n f e in omega (arith, less, le))
        in subst (λ i. issued_peis (merged i logs) ≡ filter (λ p. nat_lt (stamp p.id) f) (issued_peis (merged (suc n) logs))) (sym same)
        (sym (filter-all (λ p. nat_lt (stamp p.id) f) (issued_peis (merged (suc n) logs)) (all_kept (issued_peis (merged (suc n) logs)) (subst (λ i. AllByRecursion (λ p. stamp p.id < i) (issued_peis (merged (suc n) logs))) (sym same) (issues_below last logs stamp h stamps (suc n) within).below))))
    by false e earlier =
        let more : f ≤ n = ltb-false n f e
        in earlier more
        ∙ sym (ap (filter (λ p. nat_lt (stamp p.id) f)) (issued_more n logs x) ∙ filter-append (λ p. nat_lt (stamp p.id) f) (issued_peis (merged n logs)) (cons_option o [])
        ∙ ap (λ ys. filter (λ p. nat_lt (stamp p.id) f) (issued_peis (merged n logs)) ++ ys) (dropped o (stamp_next n logs stamp stamps x) more) ∙ append-nil (filter (λ p. nat_lt (stamp p.id) f) (issued_peis (merged n logs))))

-- a fence that is on waits for the writers on their way whose issues have smaller stamps than its begin
pub fence_waits : (m : MachineSpec) (last : ℕ) (logs : List (List Stamped)) (stamp : PeiId → ℕ) (c : CoreId) (f : ℕ) → AreStamped last logs → AreIssueStamps logs stamp → Agrees m (state_after m (merged last logs)) (merged last logs) → (x : Stamped) (bank : ℕ) → In x (list_at logs bank) → x.stamp ≡ f → begins_fence c x.event ≡ true → ((k : ℕ) (y : Stamped) → In y (list_at logs k) → begins_fence c y.event ≡ true → y.stamp ≤ f) → is_none (fence_of (state_after m (merged last logs)) c) ≡ false → fence_of (state_after m (merged last logs)) c ≡ Some (map (λ p. p.id) (filter (λ p. is_writer p.op && nat_lt (stamp p.id) f) (state_after m (merged last logs)).peis))
fence_waits m last logs stamp c f h stamps g x bank there at begins newest on = by (fence_is_on c journal) refl
  where
    journal : List Event
    journal = merged last logs

    s : State
    s = state_after m journal

    less : f < last
    less = let k : x.stamp < last = h.below bank x there in omega (arith, k, at)

    issued : issued_peis (before_fence c journal) ≡ filter (λ p. nat_lt (stamp p.id) f) (issued_peis journal)
    issued = ap issued_peis (before_fence_is last logs c f h x bank there at begins newest last (omega arith) less) ∙ issued_earlier last logs stamp f h stamps last (omega arith) (omega (arith, less))

    awaited : writers_awaited c journal ≡ map (λ p. p.id) (filter (λ p. is_writer p.op && nat_lt (stamp p.id) f) s.peis)
    awaited =
        ap (λ ps. map (λ (p : Pei). p.id) (filter (λ p. is_writer p.op) (filter (λ p. not (has_left journal p.id)) ps))) issued
        ∙ ap (λ ps. map (λ (p : Pei). p.id) (filter (λ p. is_writer p.op) ps)) (filter-turned (λ p. not (has_left journal p.id)) (λ p. nat_lt (stamp p.id) f) (issued_peis journal))
        ∙ ap (map (λ (p : Pei). p.id)) (filter_both (λ p. is_writer p.op) (λ p. nat_lt (stamp p.id) f) (unfinished_peis journal) ∙ ap (filter (λ p. is_writer p.op && nat_lt (stamp p.id) f)) g.unfinished ∙ filter_of_map (λ p. is_writer p.op && nat_lt (stamp p.id) f) as_issued s.peis)
        ∙ map_of_map (λ (p : Pei). p.id) as_issued (filter (λ p. is_writer p.op && nat_lt (stamp p.id) f) s.peis)

    by : (b : Bool) → fence_is_on c journal ≡ b → fence_of s c ≡ Some (map (λ p. p.id) (filter (λ p. is_writer p.op && nat_lt (stamp p.id) f) s.peis))
    by true e = g.fences c ∙ rw e (ap Some awaited)
    by false e =
        let off : fence_of s c ≡ None = g.fences c ∙ rw e refl
        in absurd (cc (sym on ∙ ap is_none off))
