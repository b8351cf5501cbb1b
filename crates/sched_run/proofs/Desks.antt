-- Steps of a directory.
use Rattle.std.proofs.Common.{◌≡◌, ℕ, zero, suc, List, [], ◌∷◌, get_or, slice_index_or, slice_set, slice_get, Some, refl, ◌∙◌, ap}
use Rattle.pei_types.specs.declared.identifiers.Actor.{Actor}
use Rattle.pei_types.specs.Claims.{Claims, no_claims}
use Rattle.pei_types.specs.Recency.{change_at}
use Rattle.sched_run.specs.LaneClaims.{entry_in, stepped, with_claim_at}
use Rattle.sched_run.specs.declared.claims.Desk.{Desk}
use Rattle.sched_run.specs.declared.claims.LaneClaim.{LaneClaim as Claim}
use Rattle.sched_run.specs.declared.claims.OwnClaims.{OwnClaims}

set_is_change : (xs : List Claims) (e : ℕ) (c : Claims) (change : Claims → Claims) → slice_get xs e ≡ Some c → slice_set xs e (change c) ≡ change_at xs e change
set_is_change [] e c change h = refl
set_is_change (x ∷ xs) zero c change h = ap (λ y. change y ∷ xs) (same x c h)
  where
    same : (a b : Claims) → Some a ≡ Some b → b ≡ a
    same a b k = cc
set_is_change (x ∷ xs) (suc e) c change h = ap (λ ys. x ∷ ys) (set_is_change xs e c change h)

-- the entry that a look finds
pub entry_is : (d : Desk) (e : ℕ) (c : Claims) → slice_get d.directory e ≡ Some c → entry_in d e ≡ c
entry_is d e c h = found d.directory e c h
  where
    found : (xs : List Claims) (i : ℕ) (x : Claims) → slice_get xs i ≡ Some x → get_or xs i no_claims ≡ x
    found [] i x k = absurd (cc k)
    found (y ∷ xs) zero x k = cc
    found (y ∷ xs) (suc i) x k = found xs i x k

-- an entry and what its lane has changed
pub stepped_is : (d f : Desk) (a : Actor) (e : ℕ) (c : Claims) (change : Claims → Claims) (claim : Claim) (directory : List Claims) → slice_get d.directory e ≡ Some c → directory ≡ slice_set d.directory e (change c) → f ≡ record { directory = directory; lanes = with_claim_at d.lanes a claim } → f ≡ stepped d a e change claim
stepped_is d f a e c change claim directory found changed is =
    is ∙ ap (λ xs. record { directory = xs; lanes = with_claim_at d.lanes a claim }) (changed ∙ set_is_change d.directory e c change found)

-- what a lane has, set
pub lane_set : (lanes : List OwnClaims) (a : Actor) (claim : Claim) → slice_set lanes a.core.0 (record { 0 = slice_set (slice_index_or lanes a.core.0 (record { 0 = [] })).0 a.lane.0 claim }) ≡ with_claim_at lanes a claim
lane_set lanes a claim = by lanes a.core.0
  where
    by : (xs : List OwnClaims) (i : ℕ) → slice_set xs i (record { 0 = slice_set (slice_index_or xs i (record { 0 = [] })).0 a.lane.0 claim }) ≡ change_at xs i (λ own. record { 0 = slice_set own.0 a.lane.0 claim })
    by [] i = refl
    by (x ∷ xs) zero = refl
    by (x ∷ xs) (suc i) = ap (λ ys. x ∷ ys) (by xs i)
