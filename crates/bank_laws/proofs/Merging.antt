-- Logs of banks that vouch for their rows make a machine in order.
use Rattle.std.proofs.Common.{◌≡◌, inl, inr, ℕ, zero, suc, ◌<◌, ◌≤◌, List, [], ◌∷◌, ◌++◌, length, map, filter, nat_lt, false, sym, ◌∙◌, ap, subst, arith, IsTrue}
use Rattle.std.proofs.lemmas.Bool.{lt-ltb, le-ltb}
use Rattle.std.proofs.lemmas.List.{map-append}
use Rattle.pei_types.specs.declared.stamps.Stamped.{Stamped}
use Rattle.pei_types.specs.declared.events.Event.{Event}
use Rattle.pei_types.specs.declared.machines.MachineSpec.{MachineSpec}
use Rattle.pei_types.specs.Calls.{is_actor_of}
use Rattle.pei_types.specs.MachineState.{state_after}
use Rattle.pei_types.specs.Exclusion.{EntersAlone}
use Rattle.pei_types.specs.Fence.{FencesEarlier}
use Rattle.pei_types.specs.Legal.{EachEvent}
use Rattle.pei_types.specs.Program.{Contents}
use Rattle.pei_types.specs.Recency.{list_at}
use Rattle.history_laws.specs.Members.{In}
use Rattle.history_laws.specs.Sound.{IssuesUnfenced}
use Rattle.bank_laws.specs.Banks.{EachPlaced, journal_of, log_of}
use Rattle.bank_laws.specs.Logs.{history_below, merged, events_below, Rises, AreStamped}
use Rattle.bank_laws.specs.Rows.{IsRowOfBank, IsGuardedWidely, GoesInSome}
use Rattle.bank_laws.proofs.Histories.{placed_push, placed_none}
use Rattle.bank_laws.proofs.Logs.{next_is, log_below, history_length, journal_around}
use Rattle.bank_laws.proofs.Stamps.{none_below}
use Rattle.history_laws.proofs.Lists.{each_of, each_in}

-- a rising list around an item
around_item : (log : List Stamped) (x : Stamped) → Rises log → In x log → (rest : List Stamped) × (log ≡ filter (λ y. nat_lt y.stamp x.stamp) log ++ x ∷ rest)
around_item [] x h i = absurd i
around_item (z ∷ log) x h (inl e) =
    let none : filter (λ y. nat_lt y.stamp x.stamp) log ≡ [] = none_below x.stamp log (each_in (λ y. x.stamp ≤ y.stamp) log (λ y j. let less : z.stamp < y.stamp = each_of (λ w. z.stamp < w.stamp) log y h.0 j in let same : x.stamp ≡ z.stamp = ap (λ (w : Stamped). w.stamp) e in omega (arith, less, same)))
    in let first : nat_lt z.stamp x.stamp ≡ false = le-ltb z.stamp x.stamp (let same : x.stamp ≡ z.stamp = ap (λ (w : Stamped). w.stamp) e in omega (arith, same))
    in (log, rw first (rw none (ap (λ w. w ∷ log) (sym e))))
around_item (z ∷ log) x h (inr i) =
    let r = around_item log x h.1 i
    in let less : z.stamp < x.stamp = each_of (λ w. z.stamp < w.stamp) log x h.0 i
    in (r.0, rw (lt-ltb z.stamp x.stamp less) (ap (λ ys. z ∷ ys) r.1))

-- a fact on each event of a log, at an item
pub at_item : (P : List Event → Event → Type 0) (log : List Stamped) (x : Stamped) → Rises log → In x log → EachEvent P (map (λ y. y.event) log) → P (events_below x.stamp log) x.event
at_item P log x h i each =
    let r = around_item log x h i
    in each (events_below x.stamp log) (map (λ (y : Stamped). y.event) r.0) x.event
    (ap (map (λ (y : Stamped). y.event)) r.1 ∙ map-append (λ (y : Stamped). y.event) (filter (λ y. nat_lt y.stamp x.stamp) log) (x ∷ r.0))

module _ (m : MachineSpec) (image : Contents) (last : ℕ) (logs : List (List Stamped)) (h : AreStamped last logs) (room : last ≤ m.events) (rows : (k : ℕ) → EachEvent (IsRowOfBank m image k) (map (λ x. x.event) (list_at logs k))) (actors : EachEvent (λ before e. IsTrue (is_actor_of m e.actor)) (merged last logs)) (guarded : EachEvent (λ before e. IsGuardedWidely m (state_after m before) e.actor e.kind) (merged last logs)) (alone : EachEvent (λ before e. EntersAlone m before e.actor e.kind) (merged last logs)) (fenced : EachEvent (λ before e. FencesEarlier before e.actor e.kind) (merged last logs)) (unfenced : EachEvent (λ before e. IssuesUnfenced before e.actor e.kind) (merged last logs)) where
  pub each_in_some : (n : ℕ) → n ≤ last → EachPlaced (GoesInSome m image) (history_below n logs)
  each_in_some zero within = placed_none (GoesInSome m image)
  each_in_some (suc n) within =
      let less : n < last = omega (arith, within)
      in let low : n ≤ last = omega (arith, within)
      in let x = next_is last n logs h less
      in let around = journal_around last n logs less x
      in let size : length (history_below n logs) ≡ n = history_length last logs h n low
      in let before : List Event = journal_of (history_below n logs)
      in let log : events_below x.item.stamp (list_at logs x.bank) ≡ log_of x.bank (history_below n logs) = ap (λ i. events_below i (list_at logs x.bank)) x.stamp ∙ sym (log_below last logs h n low x.bank)
      in subst (EachPlaced (GoesInSome m image)) (sym x.more)
      (placed_push (GoesInSome m image) (history_below n logs) (record { bank = x.bank; event = x.item.event }) (each_in_some n low)
      (record {
        actor = actors before around.0 x.item.event around.1;
        room = omega (arith, size, room, less);
        row = subst (λ es. IsRowOfBank m image x.bank es x.item.event) log (at_item (IsRowOfBank m image x.bank) (list_at logs x.bank) x.item (h.rising x.bank) x.there (rows x.bank));
        guarded = guarded before around.0 x.item.event around.1;
        alone = alone before around.0 x.item.event around.1;
        fenced = fenced before around.0 x.item.event around.1;
        unfenced = unfenced before around.0 x.item.event around.1;
      }))
