-- What lanes have of the directory, in the words of the definitions.
use Rattle.std.specs.Prelude.{ℕ, ◌+◌, List, map, replicate, take, slice_index_or, slice_set}
use Rattle.pei_types.specs.declared.identifiers.Actor.{Actor}
use Rattle.pei_types.specs.declared.events.EventKind.{EventKind}
use Rattle.pei_types.specs.declared.events.EventKind.TheVariants as event
use Rattle.pei_types.specs.declared.machines.MachineSpec.{MachineSpec}
use Rattle.pei_types.specs.Claims.{Claims, no_claims}
use Rattle.pei_types.specs.Recency.{change_at}
use Rattle.pei_types.specs.Schedule.{LaneClaim, Free, Announced, Held, Spent}
use Rattle.sched_run.specs.declared.claims.Desk.{Desk}
use Rattle.sched_run.specs.declared.claims.LaneClaim.{LaneClaim as Claim}
use Rattle.sched_run.specs.declared.claims.OwnClaims.{OwnClaims}
use Rattle.sched_run.specs.declared.claims.LaneClaim.TheVariants as claim

-- the definition's claim
abbrev pub seen_claim : Claim → LaneClaim
seen_claim claim.Free = Free
seen_claim (claim.Announced entry) = Announced entry
seen_claim (claim.Held entry mode) = Held entry mode
seen_claim (claim.Spent entry mode) = Spent entry mode

-- no lane of a core has anything
abbrev pub none_held : OwnClaims
none_held = record { 0 = replicate 5 claim.Free }

-- what a lane has, and with something else
abbrev pub claim_in : Desk → Actor → Claim
claim_in d a = slice_index_or (slice_index_or d.lanes a.core.0 none_held).0 a.lane.0 claim.Free

abbrev pub with_claim_at : List OwnClaims → Actor → Claim → List OwnClaims
with_claim_at lanes a c = change_at lanes a.core.0 (λ own. record { 0 = slice_set own.0 a.lane.0 c })

-- an entry of the directory
abbrev pub entry_in : Desk → ℕ → Claims
entry_in d entry = slice_index_or d.directory entry no_claims

-- one directory step: an entry and what the lane has of it change
abbrev pub stepped : Desk → Actor → ℕ → (Claims → Claims) → Claim → Desk
stepped d a entry change c = record { directory = change_at d.directory entry change; lanes = with_claim_at d.lanes a c }

-- a claim whose PEI leaves is spent
abbrev pub claim_after : EventKind → Claim → Claim
claim_after (event.Leave seq) (claim.Held entry mode) = claim.Spent entry mode
claim_after _ c = c

-- the claims of the machine's lanes
abbrev pub claims_of : MachineSpec → Desk → List (List LaneClaim)
claims_of m d = map (λ own. map seen_claim (take (m.buffer + 1) own.0)) (take m.cores d.lanes)
