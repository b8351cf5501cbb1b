-- A journal of banks is complete where each core has handed back its end.
use Rattle.std.proofs.Common.{◌≡◌, inl, inr, ℕ, ◌<◌, Bool, true, List, [], ◌∷◌, map, Option, Some, None, is_some, refl, sym, ◌∙◌, ap}
use Rattle.std.specs.Prelude.{filter_map, slice_get}
use Rattle.std.specs.List.{list_all, range_with_len, cons_option}
use Rattle.std.proofs.Common.{arith, suc, zero, ◌+◌}
use Rattle.pei_types.specs.declared.stamps.Stamped.{Stamped}
use Rattle.pei_types.specs.declared.identifiers.CoreId.{CoreId}
use Rattle.pei_types.specs.declared.calls.EndKind.{EndKind}
use Rattle.pei_types.specs.declared.events.Event.{Event}
use Rattle.pei_types.specs.declared.machines.MachineSpec.{MachineSpec}
use Rattle.pei_types.specs.Ends.{IsComplete, end_in, end_of}
use Rattle.history_laws.specs.Members.{In}
use Rattle.bank_laws.specs.Logs.{AreStamped, AreOwn, merged}
use Rattle.bank_laws.proofs.Logs.{own_whole}

first_there : (xs : List Event) (e : Event) (kind : EndKind) → In e xs → end_in e.kind ≡ Some kind → is_some (slice_get (filter_map (λ y. end_in y.kind) xs) 0) ≡ true
first_there [] e kind i h = absurd i
first_there (x ∷ xs) e kind i h = by (end_in x.kind) refl i (λ j. first_there xs e kind j h)
  where
    by : (o : Option EndKind) → end_in x.kind ≡ o → In e (x ∷ xs) → (In e xs → is_some (slice_get (filter_map (λ y. end_in y.kind) xs) 0) ≡ true) → is_some (slice_get (cons_option o (filter_map (λ y. end_in y.kind) xs)) 0) ≡ true
    by (Some k) f j rest = refl
    by None f (inl same) rest = absurd (cc (sym f ∙ ap (λ (y : Event). end_in y.kind) (sym same) ∙ h))
    by None f (inr j) rest = rest j

in_map : (xs : List Stamped) (x : Stamped) → In x xs → In x.event (map (λ y. y.event) xs)
in_map [] x i = absurd i
in_map (y ∷ xs) x (inl e) = inl (ap (λ (z : Stamped). z.event) e)
in_map (y ∷ xs) x (inr i) = inr (in_map xs x i)

all_cores : (test : CoreId → Bool) (a n : ℕ) → ((c : CoreId) → c.0 < a + n → test c ≡ true) → list_all test (map (λ c. record { 0 = c }) (range_with_len a n)) ≡ true
all_cores test a zero h = refl
all_cores test a (suc n) h = rw (h (record { 0 = a }) (omega arith)) (all_cores test (a + 1) n (λ c less. h c (omega (arith, less))))

pub complete_when_ended : (m : MachineSpec) (n : ℕ) (logs : List (List Stamped)) (mine : CoreId → List Stamped) → AreStamped n logs → ((c : CoreId) → AreOwn c (mine c) logs) → ((c : CoreId) → c.0 < m.cores → (x : Stamped) × (kind : EndKind) × In x (mine c) × (end_in x.event.kind ≡ Some kind)) → IsComplete m (merged n logs)
complete_when_ended m n logs mine h own ends =
    all_cores (λ c. is_some (end_of (merged n logs) c)) 0 m.cores
    (λ c less.
    let r = ends c (omega (arith, less))
    in ap (λ es. is_some (slice_get (filter_map (λ (y : Event). end_in y.kind) es) 0)) (own_whole n logs c (mine c) h (own c))
    ∙ first_there (map (λ (y : Stamped). y.event) (mine c)) r.0.event r.1 (in_map (mine c) r.0 r.2) r.3)
