-- From stamps to the clauses of exclusion and of fences.
use Rattle.std.proofs.Common.{◌≡◌, ◌⊎◌, inl, inr, ℕ, zero, suc, ◌<◌, ◌≤◌, Bool, true, false, not, ◌&&◌, ◌||◌, nat_lt, List, [], ◌∷◌, ◌++◌, Option, Some, None, IsTrue, refl, sym, ◌∙◌, ap, ap₂, subst, arith, ltb-true, ltb-false}
use Rattle.std.specs.Prelude.{IfSome}
use Rattle.std.specs.List.{list_any, list_all, cons_option}
use Rattle.std.proofs.Math.Bool.{or-false}
use Rattle.std.proofs.lemmas.List.Folds.{list_any-append}
use Rattle.pei_types.specs.declared.stamps.Stamped.{Stamped}
use Rattle.pei_types.specs.declared.identifiers.CoreId.{CoreId}
use Rattle.pei_types.specs.declared.identifiers.PeiId.{PeiId}
use Rattle.pei_types.specs.declared.events.Event.{Event}
use Rattle.pei_types.specs.declared.events.EventKind.{EventKind}
use Rattle.pei_types.specs.declared.events.EventKind.TheVariants as event
use Rattle.pei_types.specs.declared.machines.MachineSpec.{MachineSpec}
use Rattle.pei_types.specs.Blocks.{same_core, same_pei}
use Rattle.pei_types.specs.MachineState.{pei_id}
use Rattle.pei_types.specs.Exclusion.{EntersAlone, conflicts}
use Rattle.pei_types.specs.Fence.{FencesEarlier, earlier_writers_left}
use Rattle.pei_types.specs.History.{Pei, issued_peis, pei_issued_by, pei_of, has_entered, has_left, unfinished_peis, active_peis, begins_fence, ends_fence, before_fence, is_enter}
use Rattle.pei_types.specs.Legal.{EachEvent}
use Rattle.pei_types.specs.Operation.{is_writer}
use Rattle.pei_types.specs.Recency.{list_at}
use Rattle.pei_types.proofs.Histories.{each_push}
use Rattle.pei_types.proofs.Identities.{same_pei_is}
use Rattle.pei_types.proofs.Lists.{found_passes}
use Rattle.pei_types.proofs.Tests.{same_self}
use Rattle.pei_types.proofs.Pushes.{issued_peis-push}
use Rattle.history_laws.specs.Members.{In}
use Rattle.bank_laws.specs.Logs.{merged, AreStamped}
use Rattle.bank_laws.specs.Across.{Happens, Issues, HappensBelow, enters, leaves, ExcludeByStamps, FenceByStamps}
use Rattle.bank_laws.proofs.Lists.{found_in}
use Rattle.bank_laws.proofs.Logs.{NextIs, next_is}
use Rattle.bank_laws.proofs.Orders.{merged_more}
use Rattle.bank_laws.proofs.Stamps.{same_item}
use Rattle.history_laws.proofs.Lists.{in_filter}
use Rattle.history_laws.proofs.Grows.{before_last_other, before_last_same}

-- ---- what happened before a stamp

any_more : (test : Event → Bool) (n : ℕ) (logs : List (List Stamped)) (x : NextIs n logs) → list_any test (merged (suc n) logs) ≡ (list_any test (merged n logs) || test x.item.event)
any_more test n logs x =
    ap (list_any test) (merged_more n logs x) ∙ list_any-append test (merged n logs) (x.item.event ∷ []) ∙ ap (λ b. list_any test (merged n logs) || b) (or-false (test x.item.event))

or_cases : (x y : Bool) → (x || y) ≡ true → (x ≡ true) ⊎ (y ≡ true)
or_cases true y h = inl refl
or_cases false y h = inr h

or_second : (x y : Bool) → y ≡ true → (x || y) ≡ true
or_second true y h = refl
or_second false y h = h

-- the event of a stamp is the one that stands in a log with it
next_item : (last n : ℕ) (logs : List (List Stamped)) → AreStamped last logs → (y : NextIs n logs) (x : Stamped) (k : ℕ) → In x (list_at logs k) → x.stamp ≡ n → y.item ≡ x
next_item last n logs h y x k there at =
    let same : y.item.stamp ≡ x.stamp = y.stamp ∙ sym at
    in let bank : y.bank ≡ k = h.once y.bank k y.item x y.there there same
    in same_item (list_at logs k) y.item x (h.rising k) (subst (λ j. In y.item (list_at logs j)) bank y.there) there same

pub happened : (last : ℕ) (logs : List (List Stamped)) (test : Event → Bool) → AreStamped last logs → (n : ℕ) → n ≤ last → list_any test (merged n logs) ≡ true → HappensBelow logs test n
happened last logs test h zero within e = absurd (cc e)
happened last logs test h (suc n) within e = by (or_cases (list_any test (merged n logs)) (test x.item.event) (sym (any_more test n logs x) ∙ e)) (happened last logs test h n (omega (arith, within)))
  where
    x : NextIs n logs
    x = next_is last n logs h (omega (arith, within))

    by : (list_any test (merged n logs) ≡ true) ⊎ (test x.item.event ≡ true) → (list_any test (merged n logs) ≡ true → HappensBelow logs test n) → HappensBelow logs test (suc n)
    by (inl q) earlier = let r = earlier q in let less : r.0 < n = r.1 in (r.0, omega (arith, less), r.2)
    by (inr q) earlier = (n, omega arith, record { bank = x.bank; item = x.item; there = x.there; at = x.stamp; passes = q })

pub happens : (last : ℕ) (logs : List (List Stamped)) (test : Event → Bool) → AreStamped last logs → (n : ℕ) → n ≤ last → (i : ℕ) → i < n → Happens logs test i → list_any test (merged n logs) ≡ true
happens last logs test h zero within i less e = absurd (omega (arith, less))
happens last logs test h (suc n) within i less e = any_more test n logs x ∙ by (nat_lt i n) refl (happens last logs test h n (omega (arith, within)) i)
  where
    x : NextIs n logs
    x = next_is last n logs h (omega (arith, within))

    by : (b : Bool) → nat_lt i n ≡ b → (i < n → Happens logs test i → list_any test (merged n logs) ≡ true) → (list_any test (merged n logs) || test x.item.event) ≡ true
    by true q earlier = ap (λ b. b || test x.item.event) (earlier (ltb-true i n q) e)
    by false q earlier =
        let at : e.item.stamp ≡ n = (let le : n ≤ i = ltb-false i n q in let stamp : e.item.stamp ≡ i = e.at in omega (arith, le, less, stamp))
        in or_second (list_any test (merged n logs)) (test x.item.event) (ap (λ (z : Stamped). test z.event) (next_item last n logs h x e.item e.bank e.there at) ∙ e.passes)

-- each PEI issued before a stamp
pub issued_at : (last : ℕ) (logs : List (List Stamped)) → AreStamped last logs → (n : ℕ) → n ≤ last → (p : Pei) → In p (issued_peis (merged n logs)) → (i : ℕ) × (i < n) × Issues logs p i
issued_at last logs h zero within p here = absurd here
issued_at last logs h (suc n) within p here = by (pei_issued_by x.item.event.actor x.item.event.kind) refl (issued_at last logs h n (omega (arith, within)) p)
  where
    x : NextIs n logs
    x = next_is last n logs h (omega (arith, within))

    split : (ps : List Pei) (q : Pei) → In p (ps ++ q ∷ []) → In p ps ⊎ (p ≡ q)
    split [] q (inl e) = inr e
    split [] q (inr i) = absurd i
    split (r ∷ ps) q (inl e) = inl (inl e)
    split (r ∷ ps) q (inr i) = at (split ps q i)
      where
        at : In p ps ⊎ (p ≡ q) → In p (r ∷ ps) ⊎ (p ≡ q)
        at (inl j) = inl (inr j)
        at (inr e) = inr e

    kept : (ps : List Pei) → In p (ps ++ []) → In p ps
    kept [] i = i
    kept (r ∷ ps) (inl e) = inl e
    kept (r ∷ ps) (inr i) = inr (kept ps i)

    by : (o : Option Pei) → pei_issued_by x.item.event.actor x.item.event.kind ≡ o → (In p (issued_peis (merged n logs)) → (i : ℕ) × (i < n) × Issues logs p i) → (i : ℕ) × (i < suc n) × Issues logs p i
    by o e earlier = at o e (subst (In p) (ap issued_peis (merged_more n logs x) ∙ issued_peis-push (merged n logs) x.item.event ∙ ap (λ q. issued_peis (merged n logs) ++ cons_option q []) e) here)
      where
        old : In p (issued_peis (merged n logs)) → (i : ℕ) × (i < suc n) × Issues logs p i
        old i = let r = earlier i in let less : r.0 < n = r.1 in (r.0, omega (arith, less), r.2)

        at : (q : Option Pei) → pei_issued_by x.item.event.actor x.item.event.kind ≡ q → In p (issued_peis (merged n logs) ++ cons_option q []) → (i : ℕ) × (i < suc n) × Issues logs p i
        at None f i = old (kept (issued_peis (merged n logs)) i)
        at (Some q) f i = which (split (issued_peis (merged n logs)) q i)
          where
            which : In p (issued_peis (merged n logs)) ⊎ (p ≡ q) → (i : ℕ) × (i < suc n) × Issues logs p i
            which (inl j) = old j
            which (inr g) = (n, omega arith, record { bank = x.bank; item = x.item; there = x.there; at = x.stamp; issues = f ∙ ap Some (sym g) })

-- ---- exclusion

all_true : {A : Type 0} (test : A → Bool) (xs : List A) → ((x : A) → In x xs → test x ≡ true) → list_all test xs ≡ true
all_true test [] h = refl
all_true test (x ∷ xs) h = rw (h x (inl refl)) (all_true test xs (λ y i. h y (inr i)))

module _ (last : ℕ) (logs : List (List Stamped)) (h : AreStamped last logs) where
  alone_at : (m : MachineSpec) → ExcludeByStamps m logs → (n : ℕ) → n < last → (x : NextIs n logs) → EntersAlone m (merged n logs) x.item.event.actor x.item.event.kind
  alone_at m ex n less x = by x.item.event.kind refl
    where
      within : n ≤ last
      within = omega (arith, less)

      by : (kind : EventKind) → x.item.event.kind ≡ kind → EntersAlone m (merged n logs) x.item.event.actor kind
      by (event.Enter seq) e = found (pei_of (merged n logs) id) refl
        where
          id : PeiId
          id = pei_id x.item.event.actor seq

          enter : Happens logs (enters id) n
          enter =
              record {
                bank = x.bank;
                item = x.item;
                there = x.there;
                at = x.stamp;
                passes = ap (λ k. same_core x.item.event.actor.core x.item.event.actor.core && is_enter k seq) e ∙ ap₂ (λ a b. a && b) (same_self x.item.event.actor.core.0) (same_self seq);
              }

          found : (o : Option Pei) → pei_of (merged n logs) id ≡ o → IfSome o (λ p. IsTrue (list_all (λ q. not (conflicts m p.block p.op q.block q.op)) (active_peis (merged n logs))))
          found None f = tt
          found (Some p) f = all_true (λ q. not (conflicts m p.block p.op q.block q.op)) (active_peis (merged n logs)) (λ q i. free q i (conflicts m p.block p.op q.block q.op) refl)
            where
              own : In p (issued_peis (merged n logs))
              own = found_in (λ r. same_pei r.id id) (issued_peis (merged n logs)) p f

              named : p.id ≡ id
              named = same_pei_is p.id id (found_passes (λ r. same_pei r.id id) (issued_peis (merged n logs)) p f)

              free : (q : Pei) → In q (active_peis (merged n logs)) → (b : Bool) → conflicts m p.block p.op q.block q.op ≡ b → not (conflicts m p.block p.op q.block q.op) ≡ true
              free q i false g = ap not g
              free q i true g = absurd (clash (same_pei p.id q.id) refl)
                where
                  active : In q (unfinished_peis (merged n logs)) × (has_entered (merged n logs) q.id ≡ true)
                  active = in_filter (λ r. has_entered (merged n logs) r.id) (unfinished_peis (merged n logs)) q i

                  unfinished : In q (issued_peis (merged n logs)) × (not (has_left (merged n logs) q.id) ≡ true)
                  unfinished = in_filter (λ r. not (has_left (merged n logs) r.id)) (issued_peis (merged n logs)) q active.0

                  entered : HappensBelow logs (enters q.id) n
                  entered = happened last logs (enters q.id) h n within active.1

                  p_issued : (j : ℕ) × (j < n) × Issues logs p j
                  p_issued = issued_at last logs h n within p own

                  q_issued : (j : ℕ) × (j < n) × Issues logs q j
                  q_issued = issued_at last logs h n within q unfinished.0

                  entering : Happens logs (enters p.id) n
                  entering = subst (λ k. Happens logs (enters k) n) (sym named) enter

                  stays : not (has_left (merged n logs) q.id) ≡ true → has_left (merged n logs) q.id ≡ true → ⊥
                  stays stayed left = absurd (cc (sym stayed ∙ ap not left))

                  clash : (b : Bool) → same_pei p.id q.id ≡ b → ⊥
                  clash true k =
                      let again : entered.0 ≡ n = ex.once q.id entered.0 n entered.2 (subst (λ r. Happens logs (enters r) n) (same_pei_is p.id q.id k) entering)
                      in let before : entered.0 < n = entered.1
                      in absurd (omega (arith, again, before))
                  clash false k = one (ex.apart p q n entered.0 p_issued.0 q_issued.0 p_issued.2 q_issued.2 k g entering entered.2)
                    where
                      one : HappensBelow logs (leaves p.id) entered.0 ⊎ HappensBelow logs (leaves q.id) n → ⊥
                      one (inl r) =
                          let after : n < r.0 = ex.later p.id n r.0 entering r.2
                          in let below : r.0 < entered.0 = r.1
                          in let before : entered.0 < n = entered.1
                          in absurd (omega (arith, after, below, before))
                      one (inr r) = stays unfinished.1 (happens last logs (leaves q.id) h n within r.0 r.1 r.2)
      by _ e = tt

  -- ---- fences

  -- the core's last fence before a stamp, or none
  last_fence : (c : CoreId) (n : ℕ) → n ≤ last → (before_fence c (merged n logs) ≡ []) ⊎ ((f : ℕ) × (f < n) × Happens logs (begins_fence c) f × ((i : ℕ) → i < n → Happens logs (begins_fence c) i → i ≤ f) × (before_fence c (merged n logs) ≡ merged f logs))
  last_fence c zero within = inl refl
  last_fence c (suc n) within = by (begins_fence c x.item.event) refl (last_fence c n (omega (arith, within)))
    where
      x : NextIs n logs
      x = next_is last n logs h (omega (arith, within))

      -- an event below the next stamp is earlier, or the last
      earlier_or : (i : ℕ) → i < suc n → (i < n) ⊎ (i ≡ n)
      earlier_or i less = at (nat_lt i n) refl
        where
          at : (b : Bool) → nat_lt i n ≡ b → (i < n) ⊎ (i ≡ n)
          at true q = inl (ltb-true i n q)
          at false q = inr (let le : n ≤ i = ltb-false i n q in omega (arith, le, less))

      by : (b : Bool) → begins_fence c x.item.event ≡ b → (before_fence c (merged n logs) ≡ []) ⊎ ((f : ℕ) × (f < n) × Happens logs (begins_fence c) f × ((i : ℕ) → i < n → Happens logs (begins_fence c) i → i ≤ f) × (before_fence c (merged n logs) ≡ merged f logs)) → (before_fence c (merged (suc n) logs) ≡ []) ⊎ ((f : ℕ) × (f < suc n) × Happens logs (begins_fence c) f × ((i : ℕ) → i < suc n → Happens logs (begins_fence c) i → i ≤ f) × (before_fence c (merged (suc n) logs) ≡ merged f logs))
      by true e before =
          inr (n, omega arith, record { bank = x.bank; item = x.item; there = x.there; at = x.stamp; passes = e }, λ i less _. omega (arith, less), ap (before_fence c) (merged_more n logs x) ∙ before_last_same (begins_fence c) (merged n logs) x.item.event e)
      by false e (inl none) = inl (ap (before_fence c) (merged_more n logs x) ∙ before_last_other (begins_fence c) (merged n logs) x.item.event e ∙ none)
      by false e (inr r) =
          let less : r.0 < n = r.1
          in inr (r.0, omega (arith, less), r.2, λ i k p. not_last i p (earlier_or i k), ap (before_fence c) (merged_more n logs x) ∙ before_last_other (begins_fence c) (merged n logs) x.item.event e ∙ r.4)
        where
          not_last : (i : ℕ) → Happens logs (begins_fence c) i → (i < n) ⊎ (i ≡ n) → i ≤ r.0
          not_last i p (inl q) = r.3 i q p
          not_last i p (inr q) = absurd (cc (sym e ∙ ap (λ (z : Stamped). begins_fence c z.event) (next_item last n logs h x p.item p.bank p.there (p.at ∙ q)) ∙ p.passes))

  fenced_at : FenceByStamps logs → (n : ℕ) → n < last → (x : NextIs n logs) → FencesEarlier (merged n logs) x.item.event.actor x.item.event.kind
  fenced_at fences n less x = by x.item.event.kind refl
    where
      c : CoreId
      c = x.item.event.actor.core

      within : n ≤ last
      within = omega (arith, less)

      by : (kind : EventKind) → x.item.event.kind ≡ kind → FencesEarlier (merged n logs) x.item.event.actor kind
      by event.FenceEnd e = at (last_fence c n within)
        where
          ends : Happens logs (ends_fence c) n
          ends = record { bank = x.bank; item = x.item; there = x.there; at = x.stamp; passes = ends_here x.item.event e }
            where
              ends_here : (y : Event) → y.kind ≡ event.FenceEnd → ends_fence y.actor.core y ≡ true
              ends_here y f = ap (λ k. ends_fence y.actor.core (record { actor = y.actor; kind = k })) f ∙ ap (λ b. b && true) (same_self y.actor.core.0)

          at : (before_fence c (merged n logs) ≡ []) ⊎ ((f : ℕ) × (f < n) × Happens logs (begins_fence c) f × ((i : ℕ) → i < n → Happens logs (begins_fence c) i → i ≤ f) × (before_fence c (merged n logs) ≡ merged f logs)) → IsTrue (earlier_writers_left (merged n logs) c)
          at (inl none) = ap (λ es. list_all (λ (p : Pei). not (is_writer p.op) || has_left (merged n logs) p.id) (issued_peis es)) none
          at (inr r) =
              let begin : r.0 < n = r.1
              in ap (λ es. list_all (λ (p : Pei). not (is_writer p.op) || has_left (merged n logs) p.id) (issued_peis es)) r.4
              ∙ all_true (λ p. not (is_writer p.op) || has_left (merged n logs) p.id) (issued_peis (merged r.0 logs)) (λ p i. left p i (is_writer p.op) refl)
            where
              left : (p : Pei) → In p (issued_peis (merged r.0 logs)) → (w : Bool) → is_writer p.op ≡ w → (not (is_writer p.op) || has_left (merged n logs) p.id) ≡ true
              left p i false w = ap (λ b. not b || has_left (merged n logs) p.id) w
              left p i true w =
                  let begin : r.0 < n = r.1
                  in let issued = issued_at last logs h r.0 (omega (arith, begin, within)) p i
                  in let gone = fences c r.0 n r.1 r.2 ends r.3 p issued.0 issued.2 issued.1 w
                  in ap (λ b. not b || has_left (merged n logs) p.id) w ∙ happens last logs (leaves p.id) h n within gone.0 gone.1 gone.2
      by _ e = tt

  -- ---- the whole journal

  each_of_all : (P : List Event → Event → Type 0) → ((n : ℕ) → n < last → (x : NextIs n logs) → P (merged n logs) x.item.event) → (n : ℕ) → n ≤ last → EachEvent P (merged n logs)
  each_of_all P step zero within = none
    where
      none : (before rest : List Event) (e : Event) → [] ≡ before ++ e ∷ rest → P before e
      none [] rest e same = absurd (cc same)
      none (y ∷ before) rest e same = absurd (cc same)
  each_of_all P step (suc n) within =
      let less : n < last = omega (arith, within)
      in let x = next_is last n logs h less
      in subst (EachEvent P) (sym (merged_more n logs x)) (each_push P (merged n logs) x.item.event (each_of_all P step n (omega (arith, within))) (step n less x))

  pub each_alone : (m : MachineSpec) → ExcludeByStamps m logs → EachEvent (λ before e. EntersAlone m before e.actor e.kind) (merged last logs)
  each_alone m ex = each_of_all (λ before e. EntersAlone m before e.actor e.kind) (alone_at m ex) last (omega arith)

  pub each_fenced : FenceByStamps logs → EachEvent (λ before e. FencesEarlier before e.actor e.kind) (merged last logs)
  each_fenced fences = each_of_all (λ before e. FencesEarlier before e.actor e.kind) (fenced_at fences) last (omega arith)
