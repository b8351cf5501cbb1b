-- What a lane's next step of the directory needs holds in a run on its way.
use Rattle.std.proofs.Common.{◌≡◌, ℕ, ◌<◌, ◌≤◌, true, false, ◌&&◌, Some, get_or, sym, ◌∙◌, ap, subst, arith, eq-eqb, refl}
use Rattle.std.proofs.lemmas.Option.{slice_get-get_or, same_Some}
use Rattle.pei_types.specs.declared.identifiers.Actor.{Actor}
use Rattle.pei_types.specs.declared.events.EventKind.TheVariants as event
use Rattle.pei_types.specs.declared.inflight_looks.PeiLook.{PeiLook}
use Rattle.pei_types.specs.declared.inflight_looks.StallCause.TheVariants as stall
use Rattle.pei_types.specs.declared.machines.MachineSpec.{MachineSpec}
use Rattle.pei_types.specs.declared.operations.Mode.{Mode}
use Rattle.pei_types.specs.declared.operations.Mode.TheVariants as mode
use Rattle.pei_types.specs.Blocks.{entry_of}
use Rattle.pei_types.specs.Claims.{Claims, no_claims}
use Rattle.pei_types.specs.MachineState.{first_unentered, look_in}
use Rattle.pei_types.specs.Next.{Stalls}
use Rattle.pei_types.specs.Operation.{mode_of}
use Rattle.pei_types.specs.Program.{Listing}
use Rattle.pei_types.specs.Schedule.{Spent}
use Rattle.pei_types.proofs.Groups.{entry_below}
use Rattle.fabric.specs.History.{IsEntryFree, lane_row_of, needs_of, state_of}
use Rattle.history_laws.specs.Holders.{Holding, claim_at, counted, holds_entry, same_mode, waits_on}
use Rattle.history_laws.specs.Laws.{HoldingTells, WholeRunsAreLegal}
use Rattle.inflight.specs.OnTheWay.{IsLaneOf}
use Rattle.pim_directory.specs.Words.{IsHeld, IsReady}
use Rattle.sched_run.specs.LaneClaims.{claim_in, claims_of, seen_claim}
use Rattle.sched_run.specs.DefinedRun.{IsRunning}
use Rattle.sched_run.specs.Steps.{Entry, IsReadyFor}
use Rattle.sched_run.specs.declared.claims.LaneClaim.{LaneClaim as Claim}
use Rattle.sched_run.specs.declared.claims.LaneClaim.TheVariants as claim
use Rattle.sched_run.specs.declared.running.Running.{Running}
use Rattle.sched_run.proofs.Granting.{grant_needs}
use Rattle.sched_run.proofs.Stepped.{claim_seen, entry_found}

held_by : (c : Claims) (k : Mode) → 0 < counted k c → IsHeld c k
held_by c mode.Reader h = h
held_by c mode.Writer h = h

holds_itself : (e : ℕ) (k : Mode) → holds_entry e k (Spent e k) ≡ true
holds_itself e k = ap (λ b. b && same_mode k k) (eq-eqb e e refl) ∙ same k
  where
    same : (j : Mode) → same_mode j j ≡ true
    same mode.Reader = refl
    same mode.Writer = refl

module _ (free_by : WholeRunsAreLegal) (tells : HoldingTells) (p : Listing) (v : Running) (a : Actor) (on : IsRunning p v) (lane : IsLaneOf v.fabric.machine a.core a.lane) where
  abbrev pub m : MachineSpec
  m = v.fabric.machine

  holding : Holding m (state_of v.fabric) v.desk.directory (claims_of m v.desk)
  holding = on.whole.holding

  seen : (c : Claim) → claim_in v.desk a ≡ c → claim_at (claims_of m v.desk) a.core.0 a.lane.0 ≡ seen_claim c
  seen c is = claim_seen v.fabric v.desk a 0 v.stalls lane ∙ ap seen_claim is

  -- an entry of the directory is there
  there : (e : ℕ) (P : Claims → Type 0) → e < m.directory → P (get_or v.desk.directory e no_claims) → Entry v.desk e P
  there e P below h = (get_or v.desk.directory e no_claims, slice_get-get_or v.desk.directory e no_claims (subst (λ n. e < n) (sym holding.size) below), h)

  -- the PEI in the lane, whose entry and mode these are
  needed : (e : ℕ) (k : Mode) → needs_of v.fabric a.core a.lane ≡ Some (e, k) → (q : PeiLook) × (look_in (state_of v.fabric) a.core a.lane ≡ Some q) × (entry_of m q.block ≡ e) × (mode_of q.op ≡ k)
  needed e k needs = entry_found m (first_unentered (state_of v.fabric) a.core) (look_in (state_of v.fabric) a.core a.lane) e k needs

  below : (e : ℕ) (k : Mode) → needs_of v.fabric a.core a.lane ≡ Some (e, k) → e < m.directory
  below e k needs = let q = needed e k needs in subst (λ n. n < m.directory) q.2 (entry_below m q.0.block)

  spent : (e : ℕ) (k : Mode) → claim_in v.desk a ≡ claim.Spent e k → Entry v.desk e (λ c. IsHeld c k)
  spent e k is =
      let holds = ap (holds_entry e k) (seen (claim.Spent e k) is) ∙ holds_itself e k
      in there e (λ c. IsHeld c k) (holding.below a.core.0 a.lane.0 e k holds) (held_by _ k (tells.held m (state_of v.fabric) v.desk.directory (claims_of m v.desk) holding a.core.0 a.lane.0 e k holds))

  few : (e : ℕ) (k : Mode) → needs_of v.fabric a.core a.lane ≡ Some (e, k) → Entry v.desk e (λ c. (c.readers < 255) × (c.waiting < 255))
  few e k needs =
      let within = below e k needs
      in there e (λ c. (c.readers < 255) × (c.waiting < 255)) within
      (less _ (tells.few m (state_of v.fabric) v.desk.directory (claims_of m v.desk) holding e mode.Reader within), less _ (tells.few_wait m (state_of v.fabric) v.desk.directory (claims_of m v.desk) holding e within))
    where
      less : (n : ℕ) → n ≤ 40 → n < 255
      less n h = omega (arith, h)

  waits : (e n : ℕ) (k : Mode) → claim_in v.desk a ≡ claim.Announced n → needs_of v.fabric a.core a.lane ≡ Some (e, k) → Entry v.desk e (λ c. IsReady c k)
  waits e n k is needs =
      let q = needed e k needs
      in let w = holding.announced a n (seen (claim.Announced n) is)
      in let same : w.0 ≡ q.0 = same_Some w.0 q.0 (sym w.1 ∙ q.1)
      in let entry : n ≡ e = sym w.3 ∙ ap (λ z. entry_of m z.block) same ∙ q.2
      in let writes : mode.Writer ≡ k = sym w.4 ∙ ap (λ z. mode_of z.op) same ∙ q.3
      in subst (λ j. Entry v.desk e (λ c. IsReady c j)) writes
      (there e (λ c. IsReady c mode.Writer) (below e k needs)
      (tells.waits m (state_of v.fabric) v.desk.directory (claims_of m v.desk) holding a.core.0 a.lane.0 e (below e k needs) (ap (waits_on e) (seen (claim.Announced n) is) ∙ eq-eqb n e entry)))

  free : (n : ℕ) (k : Mode) → claim_in v.desk a ≡ claim.Held n k → lane_row_of v.fabric false a.core a.lane ≡ Stalls stall.NeedsGrant → IsEntryFree v.fabric a.core a.lane
  free n k is row =
      let q = grant_needs v.fabric a.core a.lane row
      in free_by.enters m (state_of v.fabric) v.desk.directory (claims_of m v.desk) a (event.Enter 0) q.0 n k holding q.1 q.2 (seen (claim.Held n k) is)

  pub ready : IsReadyFor v.fabric v.desk a
  ready = record { spent = spent; few = few; waits = waits; free = free }
