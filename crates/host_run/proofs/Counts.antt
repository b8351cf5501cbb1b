-- A core has issued no more PEIs than it has made events, and made no more events than there were stamps.
use Rattle.std.proofs.Common.{◌≡◌, ◌⊎◌, inl, inr, ℕ, zero, suc, ◌+◌, ◌<◌, ◌≤◌, List, [], ◌∷◌, ◌++◌, length, map, replicate, slice_index, refl, sym, ◌∙◌, ap, subst, arith}
use Rattle.std.proofs.lemmas.List.{length-append, length-map}
use Rattle.std.specs.List.{AllByRecursion}
use Rattle.pei_types.specs.declared.events.Event.{Event}
use Rattle.pei_types.specs.declared.events.EventKind.{EventKind}
use Rattle.pei_types.specs.declared.events.EventKind.TheVariants as event
use Rattle.pei_types.specs.declared.identifiers.Actor.{Actor}
use Rattle.pei_types.specs.declared.identifiers.CoreId.{CoreId}
use Rattle.pei_types.specs.declared.machines.MachineSpec.{MachineSpec}
use Rattle.pei_types.specs.declared.stamps.Stamped.{Stamped}
use Rattle.pei_types.specs.MachineState.{state_after}
use Rattle.pei_types.specs.Recency.{change_at}
use Rattle.pei_types.proofs.Lists.{each_both, each_map, each_weaker}
use Rattle.bank_laws.specs.Logs.{Rises}
use Rattle.bank_laws.specs.Own.{next_issues}
use Rattle.bank_laws.proofs.Histories.{journal_induction}
use Rattle.history_laws.proofs.Lists.{each_in}
use Rattle.shared_table.specs.declared.claims.Made.{Made}
use Rattle.shared_table.specs.Parts.{mine}
use Rattle.shared_table.specs.Place.{SeatView}
use Rattle.shared_table.specs.Timed.{IsAbove}
use Rattle.thread_laws.proofs.Lanes.{at_of_in}
use Rattle.host_run.specs.Laws.{TurnLaws}
use Rattle.host_run.specs.Own.{core_of, own_events, own_log}

one_more : (xs : List ℕ) (i j : ℕ) → slice_index (change_at xs i suc) j ≤ suc (slice_index xs j)
one_more [] i j = omega arith
one_more (x ∷ xs) zero zero = omega arith
one_more (x ∷ xs) zero (suc j) = omega arith
one_more (x ∷ xs) (suc i) zero = omega arith
one_more (x ∷ xs) (suc i) (suc j) = one_more xs i j

one_event : (a : Actor) (kind : EventKind) (xs : List ℕ) (j : ℕ) → slice_index (next_issues a kind xs) j ≤ suc (slice_index xs j)
one_event a (event.Issue seq lane o b x) xs j = one_more xs a.core.0 j
one_event a _ xs j = omega arith

none_yet : (n j : ℕ) → slice_index (replicate n 0) j ≤ 0
none_yet zero j = omega arith
none_yet (suc n) zero = omega arith
none_yet (suc n) (suc j) = none_yet n j

pub issues_few : TurnLaws → (m : MachineSpec) (own : List Event) (c : CoreId) → slice_index (state_after m own).issues c.0 ≤ length own
issues_few laws m own c = journal_induction (λ es. slice_index (state_after m es).issues c.0 ≤ length es) (none_yet m.cores c.0) step own
  where
    step : (before : List Event) (e : Event) → slice_index (state_after m before).issues c.0 ≤ length before → slice_index (state_after m (before ++ e ∷ [])).issues c.0 ≤ length (before ++ e ∷ [])
    step before e h =
        let more = one_event e.actor e.kind (state_after m before).issues c.0
        in let size = length-append before (e ∷ [])
        in subst (λ ns. slice_index ns c.0 ≤ length (before ++ e ∷ [])) (sym (laws.cores.issues m before e)) (omega (arith, more, h, size))

-- stamps from b on that rise are few
rising_few : (xs : List Stamped) (b n : ℕ) → Rises xs → AllByRecursion (λ x. (b ≤ x.stamp) × (x.stamp < n)) xs → b + length xs ≤ n ⊎ (xs ≡ [])
rising_few [] b n h k = inr refl
rising_few (x ∷ xs) b n h k = by (rising_few xs (suc x.stamp) n h.1 (each_both (λ y. suc x.stamp ≤ y.stamp) (λ y. y.stamp < n) xs h.0 (each_weaker (λ y. (b ≤ y.stamp) × (y.stamp < n)) (λ y. y.stamp < n) (λ y g. g.1) xs k.1)))
  where
    by : (suc x.stamp + length xs ≤ n) ⊎ (xs ≡ []) → (b + length (x ∷ xs) ≤ n) ⊎ (x ∷ xs ≡ [])
    by (inl g) = inl (let low = k.0.0 in omega (arith, g, low))
    by (inr none) = inl (let low = k.0.0 in let high = k.0.1 in let size : length xs ≡ 0 = ap length none in omega (arith, low, high, size))

pub events_few : (s : SeatView) (n : ℕ) → Rises (own_log s) → IsAbove n s.knows.side → length (own_events s) ≤ n
events_few s n rises above =
    by (rising_few (own_log s) 0 n rises
    (each_map (λ (y : Made). y.stamp < n) (λ (y : Stamped). (0 ≤ y.stamp) × (y.stamp < n)) (λ (y : Made). record { stamp = y.stamp; event = y.event }) (λ y h. (omega arith, h)) (mine s)
    (each_in (λ (y : Made). y.stamp < n) (mine s) (λ y i. let r = at_of_in (mine s) y i in above.0 r.0 y r.1))))
  where
    same : length (own_log s) ≡ length (own_events s)
    same = length-map (mine s) (λ (y : Made). record { stamp = y.stamp; event = y.event }) ∙ sym (length-map (mine s) (λ (y : Made). y.event))

    by : (0 + length (own_log s) ≤ n) ⊎ (own_log s ≡ []) → length (own_events s) ≤ n
    by (inl g) = omega (arith, g, same)
    by (inr none) = let size : length (own_log s) ≡ 0 = ap length none in omega (arith, size, same)
