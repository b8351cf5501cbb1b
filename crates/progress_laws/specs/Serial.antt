-- A run of one core so far, where one actor goes on until it stalls.
use Rattle.std.specs.Prelude.{◌≡◌, ℕ, ◌+◌, ◌≤◌, ◌<◌, ◌==◌, Bool, true, false, not, ◌&&◌, List, [], ◌∷◌, length, ⊤, Option, Some, None, slice_index_or}
use Rattle.std.specs.List.{list_any}
use Rattle.pei_types.specs.declared.identifiers.PeiId.{PeiId}
use Rattle.pei_types.specs.declared.inflight_looks.PeiLook.{PeiLook}
use Rattle.pei_types.specs.declared.inflight_looks.Phase.TheVariants as phase
use Rattle.pei_types.specs.declared.machines.MachineSpec.{MachineSpec}
use Rattle.pei_types.specs.Blocks.{entry_of, same_pei}
use Rattle.pei_types.specs.Claims.{no_claims}
use Rattle.pei_types.specs.MachineState.{State, state_after, is_phase, fence_of}
use Rattle.pei_types.specs.Core.{Wait, wait_at}
use Rattle.pei_types.specs.Next.{may_act}
use Rattle.pei_types.specs.Operation.{is_writer}
use Rattle.pei_types.specs.Program.{Listing, Contents}
use Rattle.pei_types.specs.Schedule.{Run, LaneClaim, Free, Announced, Held, Spent, scheduled_run, serial, whole_table}
use Rattle.coherence_laws.specs.Sets.{Each}
use Rattle.history_laws.specs.Holders.{claim_at}
use Rattle.history_laws.specs.Runs.{WholeRun}
use Rattle.progress_laws.specs.Measure.{lane_at, core_0, core_now}

-- the run of a program by one actor until it stalls
abbrev pub serial_run : Listing → MachineSpec → Contents → ℕ → Run
serial_run p m image n = scheduled_run (whole_table m image) p m image (serial m) n

-- a PEI that has not entered
abbrev pub HasNotEntered : PeiLook → Type 0
HasNotEntered p = is_phase p.phase phase.Issued ≡ true

-- Only the oldest PEI may have entered, and then its lane has the turn.
abbrev pub OneWorks : ℕ → List PeiLook → Type 0
OneWorks lane [] = ⊤
OneWorks lane (p ∷ ps) = (is_phase p.phase phase.Issued ≡ false → p.lane.0 ≡ lane) × Each HasNotEntered ps

-- What the lane that has the turn has of the directory is its PEI's, the oldest; a writer alone is announced.
abbrev pub ClaimsFirst : ℕ → LaneClaim → List PeiLook → Type 0
ClaimsFirst lane Free peis = Each HasNotEntered peis
ClaimsFirst lane (Spent entry mode) peis = (0 < lane) × Each HasNotEntered peis
ClaimsFirst lane (Announced at) [] = ⊥
ClaimsFirst lane (Announced at) (p ∷ ps) = (p.lane.0 ≡ lane) × (is_writer p.op ≡ true) × HasNotEntered p
ClaimsFirst lane (Held entry mode) [] = ⊥
ClaimsFirst lane (Held entry mode) (p ∷ ps) = p.lane.0 ≡ lane

-- how many writers wait for an entry: the one that is announced
abbrev pub waiting_for : MachineSpec → ℕ → LaneClaim → List PeiLook → ℕ → Type 0
waiting_for m e (Announced at) (p ∷ ps) n = (n ≤ 1) × (0 < n → entry_of m p.block ≡ e)
waiting_for m e _ _ n = n ≡ 0

-- a PEI of this number is on its way, and has not acted
abbrev pub is_to_act : ℕ → PeiLook → Bool
is_to_act seq p = (p.id.seq == seq) && not (is_phase p.phase phase.Acted)

-- each register that waits, waits for such a PEI
abbrev pub WaitsAct : List (Option Wait) → List PeiLook → Type 0
WaitsAct waits peis = (r : ℕ) (w : Wait) → wait_at waits r ≡ Some w → list_any (is_to_act w.seq) peis ≡ true

-- a fence waits for PEIs on their way
abbrev pub FenceWaits : Option (List PeiId) → List PeiLook → Type 0
FenceWaits None peis = ⊤
FenceWaits (Some ids) peis = Each (λ id. list_any (λ p. same_pei p.id id) peis ≡ true) ids

-- a writer that has read its block can act on it
abbrev pub OwnsRead : MachineSpec → State → PeiLook → Type 0
OwnsRead m s p = is_phase p.phase phase.Read ≡ true → may_act m s p ≡ true

-- Its journal and its directory are a whole run's; only the lane that has the turn has anything of the directory, for the
-- oldest PEI, which alone may have entered. A core waits for PEIs that are to act.
pub record SerialRun (p : Listing) (m : MachineSpec) (image : Contents) (r : Run) : Type 0 where
  pub whole : WholeRun p m image r
  pub works : OneWorks (lane_at m r) (state_after m r.journal).peis
  pub others_free : (l : ℕ) → (l ≡ lane_at m r → ⊥) → claim_at r.claims 0 l ≡ Free
  pub first : ClaimsFirst (lane_at m r) (claim_at r.claims 0 (lane_at m r)) (state_after m r.journal).peis
  pub waiting : (e : ℕ) → waiting_for m e (claim_at r.claims 0 (lane_at m r)) (state_after m r.journal).peis (slice_index_or r.entries e no_claims).waiting
  pub awaits : WaitsAct (core_now p m image r.journal).waits (state_after m r.journal).peis
  pub fenced : FenceWaits (fence_of (state_after m r.journal) core_0) (state_after m r.journal).peis
  pub owns : Each (OwnsRead m (state_after m r.journal)) (state_after m r.journal).peis
  pub counted : length r.journal + r.stalls ≤ r.turns
