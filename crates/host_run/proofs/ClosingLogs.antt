-- The logs of a closed table are those of one journal: their stamps are the numbers below its length, and merged they are it.
use Rattle.std.proofs.Common.{◌≡◌, ◌⊎◌, inl, inr, ℕ, zero, suc, ◌<◌, ◌≤◌, Bool, true, false, List, [], ◌∷◌, ◌++◌, cond, map, length, get_or, take, Option, Some, None, refl, sym, ◌∙◌, ap, subst, eqb, eq-eqb, eqb-true, arith}
use Rattle.std.specs.List.{AllByRecursion, cons_option}
use Rattle.std.proofs.lemmas.List.{map-append, take-map}
use Rattle.std.proofs.Math.Seq.{take-length, take-suc}
use mathlib.Core.Option.{some, some-injective, some-ne-none}
use lib.ListN.{get_elem?}
use Rattle.atomic_table.proofs.Lists.{at_map}
use Rattle.pei_types.specs.declared.events.Event.{Event}
use Rattle.pei_types.specs.declared.identifiers.CoreId.{CoreId}
use Rattle.pei_types.specs.declared.stamps.Stamped.{Stamped}
use Rattle.pei_types.specs.Blocks.{same_core}
use Rattle.pei_types.specs.Recency.{list_at}
use Rattle.history_laws.specs.Members.{In}
use Rattle.history_laws.proofs.Lists.{in_map, map_in}
use Rattle.coherence_laws.specs.Sets.{EachPair}
use Rattle.bank_laws.specs.Banks.{journal_of}
use Rattle.bank_laws.specs.Logs.{AreOwn, AreStamped, Rises, event_with, history_below, merged}
use Rattle.bank_laws.proofs.Stamps.{event_found}
use Rattle.shared_table.specs.declared.claims.Made.{Made}
use Rattle.shared_table.specs.ClosedTable.{BankEvent, IsJournalOf, events_in, place_of, places_of}
use Rattle.shared_table.specs.Journal.{Place, Filled, Kept, IsMade, by_core, in_bank, log_of, made_by, picked}
use Rattle.shared_table.proofs.Pairs.{at_unmap}
use Rattle.shared_table.proofs.Places.{at_log, at_made, log_at, made_at, one_made, same_made}
use Rattle.thread_laws.proofs.Lanes.{at_of_in, in_of_at}

-- ---- lists

-- an item that is there is below the length
pub at_below : {A : Type 0} (xs : List A) (i : ℕ) (x : A) → get_elem? xs i ≡ some x → i < length xs
at_below [] i x e = absurd (some-ne-none x (sym e))
at_below (y ∷ xs) zero x e = omega arith
at_below (y ∷ xs) (suc i) x e = let h = at_below xs i x e in omega (arith, h)

pub there_at : {A : Type 0} (xs : List A) (i : ℕ) → i < length xs → (x : A) × (get_elem? xs i ≡ some x)
there_at [] i h = absurd (omega (arith, h))
there_at (y ∷ xs) zero h = (y, refl)
there_at (y ∷ xs) (suc i) h = there_at xs i (omega (arith, h))

pub get_at : {A : Type 0} (xs : List A) (i : ℕ) (x d : A) → get_elem? xs i ≡ some x → get_or xs i d ≡ x
get_at [] i x d e = absurd (some-ne-none x (sym e))
get_at (y ∷ xs) zero x d e = some-injective y x e
get_at (y ∷ xs) (suc i) x d e = get_at xs i x d e

-- one list of several, or none
pub list_there : {A : Type 0} (xs : List (List A)) (k : ℕ) → (get_elem? xs k ≡ some (list_at xs k)) ⊎ (list_at xs k ≡ [])
list_there [] k = inr refl
list_there (x ∷ xs) zero = inl refl
list_there (x ∷ xs) (suc k) = list_there xs k

pairs_map : {A B : Type 0} (R : B → B → Type 0) (f : A → B) (xs : List A) → EachPair (λ x y. R (f x) (f y)) xs → EachPair R (map f xs)
pairs_map R f [] h = tt
pairs_map R f (x ∷ xs) h = (each xs h.0, pairs_map R f xs h.1)
  where
    each : (ys : List _) → AllByRecursion (λ y. R (f x) (f y)) ys → AllByRecursion (R (f x)) (map f ys)
    each [] k = tt
    each (y ∷ ys) k = (k.0, each ys k.1)

-- ---- what is picked rises

module _ {A C : Type 0} (f : ℕ → A → Option C) (stamp : C → ℕ) (is : (n : ℕ) (p : A) (x : C) → f n p ≡ Some x → stamp x ≡ n) where
  from_on : (n m : ℕ) (ps : List A) → m < n → AllByRecursion (λ y. m < stamp y) (picked f n ps)
  from_on n m [] h = tt
  from_on n m (p ∷ ps) h = by (f n p) refl (from_on (suc n) m ps (omega (arith, h)))
    where
      by : (o : Option C) → f n p ≡ o → AllByRecursion (λ y. m < stamp y) (picked f (suc n) ps) → AllByRecursion (λ y. m < stamp y) (cons_option o (picked f (suc n) ps))
      by None e rest = rest
      by (Some x) e rest = let same = is n p x e in (omega (arith, h, same), rest)

  pub picked_rises : (n : ℕ) (ps : List A) → EachPair (λ x y. stamp x < stamp y) (picked f n ps)
  picked_rises n [] = tt
  picked_rises n (p ∷ ps) = by (f n p) refl (picked_rises (suc n) ps)
    where
      by : (o : Option C) → f n p ≡ o → EachPair (λ x y. stamp x < stamp y) (picked f (suc n) ps) → EachPair (λ x y. stamp x < stamp y) (cons_option o (picked f (suc n) ps))
      by None e rest = rest
      by (Some x) e rest = let same = is n p x e in (from_on (suc n) (stamp x) ps (omega (arith, same)), rest)

bank_stamp : (b n : ℕ) (p : Place) (x : Stamped) → in_bank b n p ≡ Some x → x.stamp ≡ n
bank_stamp b n (Filled d e) x h = by (eqb d b) h
  where
    by : (t : Bool) → cond t (Some (record { stamp = n; event = e })) None ≡ Some x → x.stamp ≡ n
    by true k = let it : record { stamp = n; event = e } ≡ x = cc k in sym (ap (λ (y : Stamped). y.stamp) it)
    by false k = absurd (cc k)
bank_stamp b n (Kept d c) x h = absurd (cc h)

core_stamp : (c n : ℕ) (p : Place) (x : Made) → by_core c n p ≡ Some x → x.stamp ≡ n
core_stamp c n (Filled d e) x h = by (eqb e.actor.core.0 c) h
  where
    by : (t : Bool) → cond t (Some (record { stamp = n; bank = d; event = e })) None ≡ Some x → x.stamp ≡ n
    by true k = let it : record { stamp = n; bank = d; event = e } ≡ x = cc k in sym (ap (λ (y : Made). y.stamp) it)
    by false k = absurd (cc k)
core_stamp c n (Kept d k) x h = absurd (cc h)

pub log_rises : (b : ℕ) (ps : List Place) → Rises (log_of b ps)
log_rises b ps = picked_rises (in_bank b) (λ (x : Stamped). x.stamp) (bank_stamp b) 0 ps

-- the events of a core in a journal, with their places as stamps
abbrev pub stamped_of : Made → Stamped
stamped_of x = record { stamp = x.stamp; event = x.event }

abbrev pub own_in : List BankEvent → CoreId → List Stamped
own_in journal c = map stamped_of (made_by c.0 (places_of journal))

own_rises : (journal : List BankEvent) (c : CoreId) → Rises (own_in journal c)
own_rises journal c =
    pairs_map (λ (x : Stamped) (y : Stamped). x.stamp < y.stamp) stamped_of (made_by c.0 (places_of journal)) (picked_rises (by_core c.0) (λ (x : Made). x.stamp) (core_stamp c.0) 0 (places_of journal))

-- ---- the logs of one journal

module _ (entries room : ℕ) (logs : List (List Stamped)) (journal : List BankEvent) (sound : IsJournalOf entries room logs journal) where
  made_there : (i : ℕ) (x : BankEvent) → get_elem? journal i ≡ some x → IsMade (places_of journal) i x.bank x.event
  made_there i x e = at_map place_of journal i x e

  there_made : (n b : ℕ) (e : Event) → IsMade (places_of journal) n b e → (x : BankEvent) × (get_elem? journal n ≡ some x) × (x.bank ≡ b) × (x.event ≡ e)
  there_made n b e h =
      let r = at_unmap place_of journal n (Filled b e) h
      in let same = same_made r.0.bank b r.0.event e r.2
      in (r.0, r.1, same.0, same.1)

  log_is : (k : ℕ) → (list_at logs k ≡ log_of k (places_of journal)) ⊎ (list_at logs k ≡ [])
  log_is k = by (list_there logs k)
    where
      by : (get_elem? logs k ≡ some (list_at logs k)) ⊎ (list_at logs k ≡ []) → (list_at logs k ≡ log_of k (places_of journal)) ⊎ (list_at logs k ≡ [])
      by (inl e) = inl (sound.logs_are k (list_at logs k) e)
      by (inr e) = inr e

  pub in_log : (k : ℕ) (x : Stamped) → In x (list_at logs k) → IsMade (places_of journal) x.stamp k x.event
  in_log k x i = by (log_is k)
    where
      by : (list_at logs k ≡ log_of k (places_of journal)) ⊎ (list_at logs k ≡ []) → IsMade (places_of journal) x.stamp k x.event
      by (inl e) = let at = at_of_in (log_of k (places_of journal)) x (subst (In x) e i) in log_at k (places_of journal) at.0 x at.1
      by (inr e) = absurd (subst (In x) e i)

  pub to_log : (n b : ℕ) (e : Event) → IsMade (places_of journal) n b e → In (record { stamp = n; event = e }) (list_at logs b)
  to_log n b e h = by (there_at logs b (within (there_made n b e h)))
    where
      within : (x : BankEvent) × (get_elem? journal n ≡ some x) × (x.bank ≡ b) × (x.event ≡ e) → b < length logs
      within r = subst (λ d. d < length logs) r.2 (sound.within n r.0 r.1)

      at : (log : List Stamped) → get_elem? logs b ≡ some log → list_at logs b ≡ log
      at log q = other (list_there logs b) q
        where
          other : (get_elem? logs b ≡ some (list_at logs b)) ⊎ (list_at logs b ≡ []) → get_elem? logs b ≡ some log → list_at logs b ≡ log
          other (inl p) q = some-injective (list_at logs b) log (sym p ∙ q)
          other (inr p) q = get_at logs b log [] q

      by : (log : List Stamped) × (get_elem? logs b ≡ some log) → In (record { stamp = n; event = e }) (list_at logs b)
      by r =
          let i = at_log b (places_of journal) n e h
          in subst (In (record { stamp = n; event = e })) (sym (at r.0 r.1 ∙ sound.logs_are b r.0 r.1)) (in_of_at (log_of b (places_of journal)) (record { stamp = n; event = e }) i.0 i.1)

  -- The stamps of all logs are the numbers below the journal's length.
  pub stamped : AreStamped (length journal) logs
  stamped = record { rising = rising; below = below; there = there; once = once }
    where
      rising : (k : ℕ) → Rises (list_at logs k)
      rising k = by (log_is k)
        where
          by : (list_at logs k ≡ log_of k (places_of journal)) ⊎ (list_at logs k ≡ []) → Rises (list_at logs k)
          by (inl e) = subst Rises (sym e) (log_rises k (places_of journal))
          by (inr e) = subst Rises (sym e) tt

      below : (k : ℕ) (x : Stamped) → In x (list_at logs k) → x.stamp < length journal
      below k x i = let r = there_made x.stamp k x.event (in_log k x i) in at_below journal x.stamp r.0 r.1

      there : (i : ℕ) → i < length journal → (k : ℕ) × (x : Stamped) × In x (list_at logs k) × (x.stamp ≡ i)
      there i h =
          let r = there_at journal i h
          in (r.0.bank, record { stamp = i; event = r.0.event }, to_log i r.0.bank r.0.event (made_there i r.0 r.1), refl)

      once : (j k : ℕ) (x y : Stamped) → In x (list_at logs j) → In y (list_at logs k) → x.stamp ≡ y.stamp → j ≡ k
      once j k x y at_x at_y same =
          (one_made (places_of journal) x.stamp j k x.event y.event (in_log j x at_x) (subst (λ n. IsMade (places_of journal) n k y.event) (sym same) (in_log k y at_y))).0

  -- Merged, they are the journal.
  merged_below : (n : ℕ) → n ≤ length journal → merged n logs ≡ take n (events_in journal)
  merged_below zero h = refl
  merged_below (suc n) h =
      ap (λ o. journal_of (history_below n logs ++ cons_option o [])) found
      ∙ map-append (λ x. x.event) (history_below n logs) (record { bank = r.0.bank; event = r.0.event } ∷ [])
      ∙ ap (λ es. es ++ r.0.event ∷ []) (merged_below n (omega (arith, h)))
      ∙ sym (take-suc (events_in journal) n r.0.event inside ∙ ap (λ e. take n (events_in journal) ++ e ∷ []) (get_at (events_in journal) n r.0.event r.0.event (at_map (λ (x : BankEvent). x.event) journal n r.0 r.1)))
    where
      r : (x : BankEvent) × (get_elem? journal n ≡ some x)
      r = there_at journal n (omega (arith, h))

      inside : n < length (events_in journal)
      inside = at_below (events_in journal) n r.0.event (at_map (λ (x : BankEvent). x.event) journal n r.0 r.1)

      item : In (record { stamp = n; event = r.0.event }) (list_at logs r.0.bank)
      item = to_log n r.0.bank r.0.event (made_there n r.0 r.1)

      found : event_with n logs ≡ Some (record { bank = r.0.bank; event = r.0.event })
      found = event_found logs r.0.bank (record { stamp = n; event = r.0.event }) stamped.rising (λ j y i e. stamped.once j r.0.bank y (record { stamp = n; event = r.0.event }) i item e) item

  pub merged_is : merged (length journal) logs ≡ events_in journal
  merged_is = merged_below (length journal) (omega arith) ∙ take-map (λ (x : BankEvent). x.event) (length journal) journal ∙ ap (map (λ (x : BankEvent). x.event)) (take-length journal)

  -- The events of each core are its own in all logs.
  pub are_own : (c : CoreId) → AreOwn c (own_in journal c) logs
  are_own c = record { rising = own_rises journal c; own = own; all = all }
    where
      own : (x : Stamped) → In x (own_in journal c) → (k : ℕ) × In x (list_at logs k) × (same_core x.event.actor.core c ≡ true)
      own x i =
          let r = in_map stamped_of (made_by c.0 (places_of journal)) x i
          in let at = at_of_in (made_by c.0 (places_of journal)) r.0 r.1
          in let made = made_at c.0 (places_of journal) at.0 r.0 at.1
          in let core : same_core r.0.event.actor.core c ≡ true = eq-eqb r.0.event.actor.core.0 c.0 made.1
          in (r.0.bank, subst (λ y. In y (list_at logs r.0.bank)) (sym r.2) (to_log r.0.stamp r.0.bank r.0.event made.0), subst (λ (y : Stamped). same_core y.event.actor.core c ≡ true) (sym r.2) core)

      all : (k : ℕ) (x : Stamped) → In x (list_at logs k) → same_core x.event.actor.core c ≡ true → In x (own_in journal c)
      all k x i core =
          let at = at_made c.0 (places_of journal) x.stamp k x.event (in_log k x i) (eqb-true x.event.actor.core.0 c.0 core)
          in map_in stamped_of (made_by c.0 (places_of journal)) (record { stamp = x.stamp; bank = k; event = x.event }) (in_of_at (made_by c.0 (places_of journal)) (record { stamp = x.stamp; bank = k; event = x.event }) at.0 at.1)
