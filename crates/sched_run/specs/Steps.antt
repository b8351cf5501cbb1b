-- What a turn comes to.
use Rattle.std.specs.Prelude.{◌≡◌, ℕ, ◌+◌, ◌<◌, Bool, ⊤, true, false, [], ◌∷◌, ◌++◌, Option, Some, None, slice_get}
use Rattle.pei_types.specs.declared.identifiers.Actor.{Actor}
use Rattle.pei_types.specs.declared.identifiers.CoreId.{CoreId}
use Rattle.pei_types.specs.declared.events.Event.{Event}
use Rattle.pei_types.specs.declared.inflight_looks.StallCause.TheVariants as stall
use Rattle.pei_types.specs.declared.machines.CoreConfig.{CoreConfig}
use Rattle.pei_types.specs.declared.operations.Mode.{Mode}
use Rattle.pei_types.specs.declared.inflight_looks.StallCause.{StallCause}
use Rattle.pei_types.specs.Claims.{Claims, is_granted, with_claim}
use Rattle.pei_types.specs.MachineState.{look_in}
use Rattle.pei_types.specs.Core.{CoreNext, Calls, Busy, Ended, CoreState, at_stop, after_answer}
use Rattle.pei_types.specs.Next.{Turn as Row, Makes, Stalls}
use Rattle.pei_types.specs.Program.{Listing}
use Rattle.pei_types.specs.Schedule.{Run, peis_step, whole_table}
use Rattle.pim_directory.specs.Words.{IsHeld, IsReady}
use Rattle.fabric.specs.History.{History, IsEntryFree, call_row_of, lane_row_of, needs_of, state_of}
use Rattle.sched_run.specs.LaneClaims.{claim_after, claim_in, claims_of, entry_in, stepped, with_claim_at}
use Rattle.sched_run.specs.declared.turns.Step.{Step}
use Rattle.sched_run.specs.declared.turns.Step.TheVariants as step
use Rattle.sched_run.specs.declared.claims.Desk.{Desk}
use Rattle.sched_run.specs.declared.claims.LaneClaim.{LaneClaim as Claim}
use Rattle.sched_run.specs.declared.claims.LaneClaim.TheVariants as claim

-- the event of a row, if it makes one, and the machine after it
abbrev pub event_of : Actor → Row → Option Event
event_of a (Makes kind) = Some (record { actor = a; kind = kind })
event_of a (Stalls cause) = None

abbrev pub with_made : History → Option Event → History
with_made h None = h
with_made h (Some e) = record h { journal = h.journal ++ e ∷ [] }

-- the row of a core's program that does x next: a core that waits for a reply or has ended stalls
abbrev pub program_row : CoreNext → History → CoreId → Row
program_row (Calls x) h c = call_row_of h c x
program_row (Busy register pei) h c = Stalls stall.Idle
program_row (Ended kind) h c = Stalls stall.Idle

-- The core has taken the event in, and stops next where it stops after that.
abbrev pub TookIn : Listing → CoreConfig → CoreState → CoreState → Option Event → Type 0
TookIn p config s t None = at_stop p config t ≡ at_stop p config s
TookIn p config s t (Some e) = at_stop p config t ≡ at_stop p config (after_answer p (at_stop p config s) e.kind)

-- ---- a lane's turn

-- a machine with its directory as a run of the definitions
abbrev pub run_at : History → Desk → ℕ → ℕ → Run
run_at h d turns stalls = record { journal = h.journal; entries = d.directory; claims = claims_of h.machine d; turns = turns; stalls = stalls }

abbrev pub waited : Step → ℕ
waited step.Waited = 1
waited _ = 0

-- an event that was made is the next of the journal
abbrev pub made_in : Step → Option Event
made_in (step.Made e) = Some e
made_in _ = None

-- an event that was made is this actor's
abbrev pub IsOwn : Actor → Step → Type 0
IsOwn a (step.Made e) = e.actor ≡ a
IsOwn a _ = ⊤

-- The definition's step of the lane leads from the machine and its directory before the turn to those after it.
pub record GoesOn (h : History) (d : Desk) (a : Actor) (turns stalls : ℕ) (taken : Step) (g : History) (f : Desk) : Type 0 where
  pub made : g ≡ with_made h (made_in taken)
  pub own : IsOwn a taken
  pub step : run_at g f (turns + 1) (stalls + waited taken) ≡ peis_step (whole_table h.machine h.image) h.machine (run_at h d turns stalls) a (look_in (state_of h) a.core a.lane)

-- an entry of the directory is there, of which P holds
abbrev pub Entry : Desk → ℕ → (Claims → Type 0) → Type 0
Entry d entry P = (c : Claims) × (slice_get d.directory entry ≡ Some c) × P c

-- whether a lane waits for its directory entry
abbrev pub waits_for_grant : StallCause → Bool
waits_for_grant stall.NeedsGrant = true
waits_for_grant _ = false

-- what a lane has is not a claim of a PEI that has left
abbrev pub IsUnspent : Claim → Type 0
IsUnspent (claim.Spent entry mode) = ⊥
IsUnspent _ = ⊤

-- a claim was tried: it is held, or nothing has changed
abbrev pub Tries : Desk → Actor → ℕ → Mode → Step → Desk → Type 0
Tries d a entry mode step.Claimed f = (is_granted (entry_in d entry) mode ≡ true) × (f ≡ stepped d a entry (λ c. with_claim c mode) (claim.Held entry mode))
Tries d a entry mode step.Waited f = (is_granted (entry_in d entry) mode ≡ false) × (f ≡ d)
Tries d a entry mode (step.Made e) f = ⊥

-- the PEI of a lane took the row that it has under a claim
abbrev pub Took : History → Desk → Actor → Row → Step → History → Desk → Type 0
Took h d a row (step.Made e) g f = (row ≡ Makes e.kind) × (e.actor ≡ a) × (g ≡ with_made h (Some e)) × (f ≡ record d { lanes = with_claim_at d.lanes a (claim_after e.kind (claim_in d a)) })
Took h d a row step.Waited g f = ((cause : StallCause) × (row ≡ Stalls cause)) × (g ≡ h) × (f ≡ d)
Took h d a row step.Claimed g f = ⊥

abbrev pub Enters : History → Desk → Actor → Step → History → Desk → Type 0
Enters h d a taken g f = Took h d a (lane_row_of h true a.core a.lane) taken g f

-- What a lane's next step of the directory needs: a claim that is given back is held, an entry has room for one more, a
-- writer that tries waits for the entry that its PEI needs, and where a PEI that is to enter has a claim, no active PEI
-- conflicts with it.
pub record IsReadyFor (h : History) (d : Desk) (a : Actor) : Type 0 where
  pub spent : (e : ℕ) (k : Mode) → claim_in d a ≡ claim.Spent e k → Entry d e (λ c. IsHeld c k)
  pub few : (e : ℕ) (k : Mode) → needs_of h a.core a.lane ≡ Some (e, k) → Entry d e (λ c. (c.readers < 255) × (c.waiting < 255))
  pub waits : (e n : ℕ) (k : Mode) → claim_in d a ≡ claim.Announced n → needs_of h a.core a.lane ≡ Some (e, k) → Entry d e (λ c. IsReady c k)
  pub free : (n : ℕ) (k : Mode) → claim_in d a ≡ claim.Held n k → lane_row_of h false a.core a.lane ≡ Stalls stall.NeedsGrant → IsEntryFree h a.core a.lane
