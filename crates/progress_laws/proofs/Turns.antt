-- The turns of a run are counted.
use Rattle.std.proofs.Common.{◌≡◌, ℕ, zero, suc, ◌+◌, Bool, true, false, if◌then◌else◌, Option, Some, None, refl}
use Rattle.pei_types.specs.declared.identifiers.Actor.{Actor}
use Rattle.pei_types.specs.declared.machines.MachineSpec.{MachineSpec}
use Rattle.pei_types.specs.declared.operations.Mode.{Mode}
use Rattle.pei_types.specs.declared.operations.Mode.TheVariants as mode
use Rattle.pei_types.specs.declared.inflight_looks.PeiLook.{PeiLook}
use Rattle.pei_types.specs.declared.inflight_looks.StallCause.TheVariants as stall
use Rattle.pei_types.specs.Claims.{is_granted, with_claim}
use Rattle.pei_types.specs.MachineState.{state_after, look_in}
use Rattle.pei_types.specs.Core.{CoreNext, Calls, Busy, Ended, next_of_core}
use Rattle.pei_types.specs.Blocks.{entry_of}
use Rattle.pei_types.specs.Operation.{mode_of}
use Rattle.pei_types.specs.Next.{Turn, Makes, Stalls}
use Rattle.pei_types.specs.Program.{Listing, Contents}
use Rattle.pei_types.specs.Schedule.{Run, Table, LaneClaim, Free, Announced, Held, Spent, whole_table, by_row, after_stall, with_step, claims_at, after_try, toward_enter, toward_enter_of, claiming, claim_of, lane_step, program_step, step_of_lane, turn}

by_row_counts : (r : Run) (a : Actor) (t : Turn) → (by_row r a t).turns ≡ r.turns + 1
by_row_counts r a (Makes kind) = refl
by_row_counts r a (Stalls cause) = refl

after_try_counts : (r : Run) (a : Actor) (entry : ℕ) (k : Mode) → (after_try r a entry k).turns ≡ r.turns + 1
after_try_counts r a entry k = go (is_granted (claims_at r entry) k)
  where
    go : (b : Bool) → (if b then with_step r a entry (λ c. with_claim c k) (Held entry k) else after_stall r).turns ≡ r.turns + 1
    go true = refl
    go false = refl

toward_counts : (t : Table) (r : Run) (a : Actor) (p : PeiLook) (entry : ℕ) (k : Mode) (claim : LaneClaim) → (toward_enter t r a p entry k claim).turns ≡ r.turns + 1
toward_counts t r a p entry mode.Writer Free = refl
toward_counts t r a p entry mode.Reader Free = after_try_counts r a entry mode.Reader
toward_counts t r a p entry mode.Writer (Announced at) = after_try_counts r a entry mode.Writer
toward_counts t r a p entry mode.Reader (Announced at) = after_try_counts r a entry mode.Reader
toward_counts t r a p entry mode.Writer (Held at held) = by_row_counts r a (t.at_lane r.journal true (Some p))
toward_counts t r a p entry mode.Reader (Held at held) = by_row_counts r a (t.at_lane r.journal true (Some p))
toward_counts t r a p entry mode.Writer (Spent at held) = refl
toward_counts t r a p entry mode.Reader (Spent at held) = refl

toward_of_counts : (t : Table) (m : MachineSpec) (r : Run) (a : Actor) (o : Option PeiLook) → (toward_enter_of t m r a o).turns ≡ r.turns + 1
toward_of_counts t m r a None = refl
toward_of_counts t m r a (Some p) = toward_counts t r a p (entry_of m p.block) (mode_of p.op) (claim_of r a)

claiming_counts : (t : Table) (m : MachineSpec) (r : Run) (a : Actor) (o : Option PeiLook) (row : Turn) → (claiming t m r a o row).turns ≡ r.turns + 1
claiming_counts t m r a o (Stalls stall.NeedsGrant) = toward_of_counts t m r a o
claiming_counts t m r a o (Makes kind) = refl
claiming_counts t m r a o (Stalls _) = refl

lane_counts : (t : Table) (m : MachineSpec) (r : Run) (a : Actor) (o : Option PeiLook) (claim : LaneClaim) → (lane_step t m r a o claim).turns ≡ r.turns + 1
lane_counts t m r a o Free = claiming_counts t m r a o (t.at_lane r.journal false o)
lane_counts t m r a o (Announced at) = claiming_counts t m r a o (t.at_lane r.journal false o)
lane_counts t m r a o (Held entry k) = claiming_counts t m r a o (t.at_lane r.journal false o)
lane_counts t m r a o (Spent entry k) = refl

program_counts : (t : Table) (r : Run) (a : Actor) (x : CoreNext) → (program_step t r a x).turns ≡ r.turns + 1
program_counts t r a (Calls x) = by_row_counts r a (t.at_call r.journal a.core x)
program_counts t r a (Busy register pei) = refl
program_counts t r a (Ended how) = refl

by_lane : (l : ℕ) (p : Listing) (m : MachineSpec) (image : Contents) (r : Run) (a : Actor) → (step_of_lane l (whole_table m image) p m image r a).turns ≡ r.turns + 1
by_lane zero p m image r a = program_counts (whole_table m image) r a (next_of_core p m image r.journal a.core)
by_lane (suc l) p m image r a = lane_counts (whole_table m image) m r a (look_in (state_after m r.journal) a.core a.lane) (claim_of r a)

-- each turn counts once
pub turn_counts : (p : Listing) (m : MachineSpec) (image : Contents) (r : Run) (a : Actor) → (turn (whole_table m image) p m image r a).turns ≡ r.turns + 1
turn_counts p m image r a = by_lane a.lane.0 p m image r a
