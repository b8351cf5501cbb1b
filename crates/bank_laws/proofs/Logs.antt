-- The history that the logs of the banks make, in the order of their stamps.
use Rattle.std.proofs.Common.{◌≡◌, ◌⊎◌, inl, inr, ℕ, zero, suc, ◌+◌, ◌<◌, ◌≤◌, Bool, true, false, nat_lt, List, [], ◌∷◌, ◌++◌, map, length, Some, None, option_map, refl, sym, ◌∙◌, ap, subst, arith, eqb-true, eq-eqb, ltb-true, ltb-false}
use Rattle.std.specs.Prelude.{if◌then◌else◌}
use Rattle.std.specs.List.{cons_option}
use Rattle.std.proofs.lemmas.List.{append_assoc, append-nil, map-append, length_push, length-map}
use Rattle.pei_types.specs.declared.stamps.Stamped.{Stamped}
use Rattle.pei_types.specs.declared.identifiers.CoreId.{CoreId}
use Rattle.pei_types.specs.declared.events.Event.{Event}
use Rattle.pei_types.specs.declared.machines.MachineSpec.{MachineSpec}
use Rattle.pei_types.specs.Blocks.{same_core}
use Rattle.pei_types.specs.Core.{events_of}
use Rattle.pei_types.specs.Exclusion.{EntersAlone}
use Rattle.pei_types.specs.Fence.{FencesEarlier}
use Rattle.pei_types.specs.Legal.{EachEvent}
use Rattle.pei_types.specs.Program.{Listing, Contents}
use Rattle.pei_types.specs.Recency.{list_at}
use Rattle.pei_types.proofs.Pushes.{events_of-push}
use Rattle.pei_types.proofs.Tests.{same_self}
use Rattle.history_laws.specs.Members.{In}
use Rattle.bank_laws.specs.Banks.{Placed, EachPlaced, journal_of, log_of, is_made_in}
use Rattle.bank_laws.specs.Rows.{IsRowIn, GoesInBank}
use Rattle.bank_laws.specs.Logs.{event_with, in_first, in_next, NextInLogs, history_below, merged, events_below, Rises, AreStamped, AreOwn, IsFront, GoesBySeen, HandsBack, CoresHandBack}
use Rattle.bank_laws.proofs.Histories.{journal_of-push, log_of-own, log_of-other, placed_push, placed_none}
use Rattle.bank_laws.proofs.Lists.{in_front, in_back}
use Rattle.bank_laws.proofs.Stamps.{same_item, events_more, events_same, events_at_start, events_seen, events_all, events_before_last, event_found, find_lacks, Lacks}
use Rattle.history_laws.proofs.Lists.{each_in}

-- the next event of the history: it stands in one log
pub record NextIs (n : ℕ) (logs : List (List Stamped)) : Type 0 where
  pub bank : ℕ
  pub item : Stamped
  pub there : In item (list_at logs bank)
  pub stamp : item.stamp ≡ n
  pub more : history_below (suc n) logs ≡ history_below n logs ++ record { bank = bank; event = item.event } ∷ []

pub next_is : (last n : ℕ) (logs : List (List Stamped)) → AreStamped last logs → n < last → NextIs n logs
next_is last n logs h less =
    let t = h.there n less
    in let found = subst (λ i. event_with i logs ≡ Some (record { bank = t.0; event = t.1.event })) t.3 (event_found logs t.0 t.1 h.rising (λ j y i e. h.once j t.0 y t.1 i t.2 e) t.2)
    in record { bank = t.0; item = t.1; there = t.2; stamp = t.3; more = ap (λ o. history_below n logs ++ cons_option o []) found }

-- no other log has its stamp
other_lacks : (last n : ℕ) (logs : List (List Stamped)) (k : ℕ) (x : NextIs n logs) → AreStamped last logs → (x.bank ≡ k → ⊥) → Lacks n (list_at logs k)
other_lacks last n logs k x h apart y i e = apart (sym (h.once k x.bank y x.item i x.there (e ∙ sym x.stamp)))

pub log_below : (last : ℕ) (logs : List (List Stamped)) → AreStamped last logs → (n : ℕ) → n ≤ last → (k : ℕ) → log_of k (history_below n logs) ≡ events_below n (list_at logs k)
log_below last logs h zero within k = sym (events_at_start (list_at logs k))
log_below last logs h (suc n) within k = by (next_is last n logs h (omega (arith, within))) (log_below last logs h n (omega (arith, within)) k)
  where
    by : (x : NextIs n logs) → log_of k (history_below n logs) ≡ events_below n (list_at logs k) → log_of k (history_below (suc n) logs) ≡ events_below (suc n) (list_at logs k)
    by x before = ap (log_of k) x.more ∙ own (is_made_in k placed) refl
      where
        placed : Placed
        placed = record { bank = x.bank; event = x.item.event }

        own : (b : Bool) → is_made_in k placed ≡ b → log_of k (history_below n logs ++ placed ∷ []) ≡ events_below (suc n) (list_at logs k)
        own true e =
            let here : In x.item (list_at logs k) = subst (λ j. In x.item (list_at logs j)) (eqb-true x.bank k e) x.there
            in log_of-own k (history_below n logs) placed e ∙ ap (λ es. es ++ x.item.event ∷ []) before
            ∙ sym (events_more n (list_at logs k) x.item (h.rising k) here x.stamp)
        own false e =
            log_of-other k (history_below n logs) placed e ∙ before
            ∙ sym (events_same n (list_at logs k) (h.rising k) (other_lacks last n logs k x h (λ q. absurd (cc (sym e ∙ eq-eqb x.bank k q)))))

pub own_below : (last : ℕ) (logs : List (List Stamped)) (c : CoreId) (mine : List Stamped) → AreStamped last logs → AreOwn c mine logs → (n : ℕ) → n ≤ last → events_of c (journal_of (history_below n logs)) ≡ events_below n mine
own_below last logs c mine h own zero within = sym (events_at_start mine)
own_below last logs c mine h own (suc n) within = by (next_is last n logs h (omega (arith, within))) (own_below last logs c mine h own n (omega (arith, within)))
  where
    by : (x : NextIs n logs) → events_of c (journal_of (history_below n logs)) ≡ events_below n mine → events_of c (journal_of (history_below (suc n) logs)) ≡ events_below (suc n) mine
    by x before =
        ap (λ xs. events_of c (journal_of xs)) x.more ∙ ap (events_of c) (journal_of-push (history_below n logs) (record { bank = x.bank; event = x.item.event }))
        ∙ events_of-push c (journal_of (history_below n logs)) x.item.event ∙ whose (same_core x.item.event.actor.core c) refl
      where
        whose : (b : Bool) → same_core x.item.event.actor.core c ≡ b → (events_of c (journal_of (history_below n logs)) ++ (if b then x.item.event ∷ [] else [])) ≡ events_below (suc n) mine
        whose true e = ap (λ es. es ++ x.item.event ∷ []) before ∙ sym (events_more n mine x.item own.rising (own.all x.bank x.item x.there e) x.stamp)
        whose false e = append-nil (events_of c (journal_of (history_below n logs))) ∙ before ∙ sym (events_same n mine own.rising lacks)
          where
            lacks : Lacks n mine
            lacks y i q =
                let o = own.own y i
                in let bank : o.0 ≡ x.bank = h.once o.0 x.bank y x.item o.1 x.there (q ∙ sym x.stamp)
                in let same : y ≡ x.item = same_item (list_at logs x.bank) y x.item (h.rising x.bank) (subst (λ j. In y (list_at logs j)) bank o.1) x.there (q ∙ sym x.stamp)
                in absurd (cc (sym e ∙ ap (λ (z : Stamped). same_core z.event.actor.core c) (sym same) ∙ o.2))

pub history_length : (last : ℕ) (logs : List (List Stamped)) → AreStamped last logs → (n : ℕ) → n ≤ last → length (history_below n logs) ≡ n
history_length last logs h zero within = refl
history_length last logs h (suc n) within =
    let x = next_is last n logs h (omega (arith, within))
    in let placed : Placed = record { bank = x.bank; event = x.item.event }
    in let before : length (history_below n logs) ≡ n = history_length last logs h n (omega (arith, within))
    in let more : length (history_below n logs ++ placed ∷ []) ≡ length (history_below n logs) + 1 = length_push (history_below n logs) placed
    in ap length x.more ∙ omega (arith, more, before)

-- a history begins with each earlier one
pub history_front : (n last : ℕ) (logs : List (List Stamped)) → n ≤ last → (rest : List Placed) × (history_below last logs ≡ history_below n logs ++ rest)
history_front n zero logs within = ([], subst (λ k. [] ≡ history_below k logs ++ []) (sym (let z : n ≡ 0 = omega (arith, within) in z)) refl)
history_front n (suc last) logs within = by (nat_lt last n) refl (λ q. history_front n last logs q)
  where
    by : (b : Bool) → nat_lt last n ≡ b → (n ≤ last → (rest : List Placed) × (history_below last logs ≡ history_below n logs ++ rest)) → (rest : List Placed) × (history_below (suc last) logs ≡ history_below n logs ++ rest)
    by true e earlier =
        let same : n ≡ suc last = (let less : last < n = ltb-true last n e in omega (arith, less, within))
        in ([], subst (λ k. history_below (suc last) logs ≡ history_below k logs ++ []) (sym same) (sym (append-nil (history_below (suc last) logs))))
    by false e earlier =
        let r = earlier (ltb-false last n e)
        in (
          r.0 ++ cons_option (event_with last logs) [],
          ap (λ xs. xs ++ cons_option (event_with last logs) []) r.1 ∙ append_assoc (history_below n logs) r.0 (cons_option (event_with last logs) []),
        )

-- the journal around an event
pub journal_around : (last n : ℕ) (logs : List (List Stamped)) → n < last → (x : NextIs n logs) → (rest : List Event) × (merged last logs ≡ journal_of (history_below n logs) ++ x.item.event ∷ rest)
journal_around last n logs less x =
    let placed : Placed = record { bank = x.bank; event = x.item.event }
    in let r = history_front (suc n) last logs (omega (arith, less))
    in (
      journal_of r.0,
      ap journal_of (r.1 ∙ ap (λ xs. xs ++ r.0) x.more ∙ append_assoc (history_below n logs) (placed ∷ []) r.0)
          ∙ map-append (λ (y : Placed). y.event) (history_below n logs) (placed ∷ r.0),
    )

-- no log has an event with the stamp
event_lacks : (n : ℕ) (logs : List (List Stamped)) → ((k : ℕ) → Lacks n (list_at logs k)) → event_with n logs ≡ None
event_lacks n [] lacks = refl
event_lacks n (log ∷ logs) lacks =
    ap (λ o. in_first o (option_map in_next (event_with n logs))) (find_lacks n log (lacks 0))
    ∙ ap (option_map in_next) (event_lacks n logs (λ k. lacks (suc k)))

-- one that is found is below the last
pub found_below : (last n : ℕ) (logs : List (List Stamped)) (x : Placed) → AreStamped last logs → event_with n logs ≡ Some x → n < last
found_below last n logs x h e = by (nat_lt n last) refl
  where
    by : (b : Bool) → nat_lt n last ≡ b → n < last
    by true less = ltb-true n last less
    by false more = absurd (cc (sym e ∙ event_lacks n logs (λ k y i q. let under = h.below k y i in let over = ltb-false n last more in omega (arith, under, over, q))))

pub next_in_logs : (last n : ℕ) (logs : List (List Stamped)) → AreStamped last logs → n < last → NextInLogs last n logs
next_in_logs last n logs h less =
    let t = h.there n less
    in let placed : Placed = record { bank = t.0; event = t.1.event }
    in let found : event_with n logs ≡ Some placed = subst (λ i. event_with i logs ≡ Some placed) t.3 (event_found logs t.0 t.1 h.rising (λ j y i e. h.once j t.0 y t.1 i t.2 e) t.2)
    in let more : history_below (suc n) logs ≡ history_below n logs ++ placed ∷ [] = ap (λ o. history_below n logs ++ cons_option o []) found
    in let around = journal_around last n logs less (record { bank = t.0; item = t.1; there = t.2; stamp = t.3; more = more })
    in record {
      placed = placed;
      item = t.1;
      there = t.2;
      event = refl;
      found = found;
      more = ap journal_of more ∙ journal_of-push (history_below n logs) placed;
      rest = around.0;
      whole = around.1;
    }

-- ---- what cores hand back

row_moved : (p : Listing) (m : MachineSpec) (image : Contents) (j k : ℕ) (log back own front : List Event) (e : Event) → j ≡ k → log ≡ back → own ≡ front → IsRowIn p m image j log own e → IsRowIn p m image k back front e
row_moved p m image j k log back own front e bank same mine h =
    subst (λ i. IsRowIn p m image i back front e) bank (subst (λ es. IsRowIn p m image j es front e) same (subst (λ es. IsRowIn p m image j log es e) mine h))

module _ (p : Listing) (m : MachineSpec) (image : Contents) (last : ℕ) (logs : List (List Stamped)) (mine : CoreId → List Stamped) (seen : CoreId → List (List Stamped)) (h : AreStamped last logs) (hands : CoresHandBack p m image logs mine seen) where
  -- the next event is a row of its bank
  next_row : (n : ℕ) → n < last → (x : NextIs n logs) → IsRowIn p m image x.bank (log_of x.bank (history_below n logs)) (events_of x.item.event.actor.core (journal_of (history_below n logs))) x.item.event
  next_row n less x =
      let c : CoreId = x.item.event.actor.core
      in let own : In x.item (mine c) = (hands.own c).all x.bank x.item x.there (same_self c.0)
      in let back = hands.rows c x.item own
      in let front : IsFront (list_at (seen c) back.0) (list_at logs back.0) = hands.fronts c back.0
      in let there : In x.item (list_at logs back.0) = subst (In x.item) (sym front.1) (in_front (list_at (seen c) back.0) front.0 x.item back.1)
      in let bank : back.0 ≡ x.bank = h.once back.0 x.bank x.item x.item there x.there refl
      in let within : n ≤ last = omega (arith, less)
      in let log : events_below x.item.stamp (list_at (seen c) back.0) ≡ log_of x.bank (history_below n logs) =
      events_seen (list_at (seen c) back.0) (list_at logs back.0) x.item front (h.rising back.0) back.1
      ∙ ap (λ j. events_below x.item.stamp (list_at logs j)) bank ∙ ap (λ i. events_below i (list_at logs x.bank)) x.stamp ∙ sym (log_below last logs h n within x.bank)
      in let events : events_below x.item.stamp (mine c) ≡ events_of c (journal_of (history_below n logs)) =
      ap (λ i. events_below i (mine c)) x.stamp ∙ sym (own_below last logs c (mine c) h (hands.own c) n within)
      in row_moved p m image back.0 x.bank (events_below x.item.stamp (list_at (seen c) back.0)) (log_of x.bank (history_below n logs)) (events_below x.item.stamp (mine c)) (events_of c (journal_of (history_below n logs))) x.item.event bank log events back.2

  -- each event goes by its row in its bank
  pub each_goes : last ≤ m.events → EachEvent (λ before e. EntersAlone m before e.actor e.kind) (merged last logs) → EachEvent (λ before e. FencesEarlier before e.actor e.kind) (merged last logs) → (n : ℕ) → n ≤ last → EachPlaced (GoesInBank p m image) (history_below n logs)
  each_goes room alone fenced zero within = placed_none (GoesInBank p m image)
  each_goes room alone fenced (suc n) within =
      let less : n < last = omega (arith, within)
      in let x = next_is last n logs h less
      in let around = journal_around last n logs less x
      in let size : length (history_below n logs) ≡ n = history_length last logs h n (omega (arith, within))
      in subst (EachPlaced (GoesInBank p m image)) (sym x.more)
      (placed_push (GoesInBank p m image) (history_below n logs) (record { bank = x.bank; event = x.item.event }) (each_goes room alone fenced n (omega (arith, within)))
      (record {
        room = omega (arith, size, room, less);
        row = next_row n less x;
        alone = alone (journal_of (history_below n logs)) around.0 x.item.event around.1;
        fenced = fenced (journal_of (history_below n logs)) around.0 x.item.event around.1;
      }))

-- ---- what one core hands back, as it goes on

pub seen_more : (p : Listing) (m : MachineSpec) (image : Contents) (mine : List Stamped) (seen more : List (List Stamped)) → ((k : ℕ) → IsFront (list_at seen k) (list_at more k)) → ((k : ℕ) → Rises (list_at more k)) → HandsBack p m image mine seen → HandsBack p m image mine more
seen_more p m image mine seen more fronts rising h x i =
    let r = h x i
    in let front : IsFront (list_at seen r.0) (list_at more r.0) = fronts r.0
    in (
      r.0,
      subst (In x) (sym front.1) (in_front (list_at seen r.0) front.0 x r.1),
      row_moved p m image r.0 r.0 (events_below x.stamp (list_at seen r.0)) (events_below x.stamp (list_at more r.0)) (events_below x.stamp mine) (events_below x.stamp mine) x.event refl (events_seen (list_at seen r.0) (list_at more r.0) x front (rising r.0) r.1) refl r.2,
    )

pub one_more : (p : Listing) (m : MachineSpec) (image : Contents) (mine : List Stamped) (seen : List (List Stamped)) (k : ℕ) (log : List Stamped) (x : Stamped) → Rises (mine ++ x ∷ []) → Rises (list_at seen k) → list_at seen k ≡ log ++ x ∷ [] → IsRowIn p m image k (map (λ y. y.event) log) (map (λ y. y.event) mine) x.event → HandsBack p m image mine seen → HandsBack p m image (mine ++ x ∷ []) seen
one_more p m image mine seen k log x rising risen last row h y i = by (in_last mine i)
  where
    in_last : (ys : List Stamped) → In y (ys ++ x ∷ []) → In y ys ⊎ (y ≡ x)
    in_last [] (inl e) = inr e
    in_last [] (inr j) = absurd j
    in_last (z ∷ ys) (inl e) = inl (inl e)
    in_last (z ∷ ys) (inr j) = later (in_last ys j)
      where
        later : In y ys ⊎ (y ≡ x) → In y (z ∷ ys) ⊎ (y ≡ x)
        later (inl q) = inl (inr q)
        later (inr e) = inr e

    own : (z : Stamped) → In z mine → events_below z.stamp mine ≡ events_below z.stamp (mine ++ x ∷ [])
    own z j = events_seen mine (mine ++ x ∷ []) z (x ∷ [], refl) rising j

    newest : GoesBySeen p m image (mine ++ x ∷ []) seen x
    newest = (
      k,
      subst (In x) (sym last) (in_back log (x ∷ []) x (inl refl)),
      row_moved p m image k k (map (λ y. y.event) log) (events_below x.stamp (list_at seen k)) (map (λ y. y.event) mine) (events_below x.stamp (mine ++ x ∷ [])) x.event refl
          (sym (ap (events_below x.stamp) last ∙ events_before_last log x (subst Rises last risen))) (sym (events_before_last mine x rising)) row,
    )

    by : In y mine ⊎ (y ≡ x) → GoesBySeen p m image (mine ++ x ∷ []) seen y
    by (inl j) =
        let r = h y j
        in (r.0, r.1, row_moved p m image r.0 r.0 (events_below y.stamp (list_at seen r.0)) (events_below y.stamp (list_at seen r.0)) (events_below y.stamp mine) (events_below y.stamp (mine ++ x ∷ [])) y.event refl refl (own y j) r.2)
    by (inr e) = subst (GoesBySeen p m image (mine ++ x ∷ []) seen) (sym e) newest

-- ---- whole logs

pub log_whole : (n : ℕ) (logs : List (List Stamped)) (k : ℕ) → AreStamped n logs → log_of k (history_below n logs) ≡ map (λ x. x.event) (list_at logs k)
log_whole n logs k h = log_below n logs h n (omega arith) k ∙ events_all n (list_at logs k) (each_in (λ y. y.stamp < n) (list_at logs k) (h.below k))

pub own_whole : (n : ℕ) (logs : List (List Stamped)) (c : CoreId) (mine : List Stamped) → AreStamped n logs → AreOwn c mine logs → events_of c (merged n logs) ≡ map (λ x. x.event) mine
own_whole n logs c mine h own = own_below n logs c mine h own n (omega arith) ∙ events_all n mine (each_in (λ y. y.stamp < n) mine (λ y i. let o = own.own y i in h.below o.0 y o.1))

pub merged_size : (n : ℕ) (logs : List (List Stamped)) → AreStamped n logs → length (merged n logs) ≡ n
merged_size n logs h = length-map (history_below n logs) (λ (y : Placed). y.event) ∙ history_length n logs h n (omega arith)
