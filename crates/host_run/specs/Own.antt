-- What a core's thread keeps of its core's PEIs, in the words of the core's own events.
use Rattle.std.specs.Prelude.{◌≡◌, ℕ, ◌+◌, ◌-◌, ◌<◌, ◌≤◌, ◌/◌, ◌%◌, ◌^◌, ◌==◌, ⊤, Bool, true, false, not, ◌&&◌, nat_lt, if◌then◌else◌, List, [], find, is_none, is_some, length, map, Option, Some, None, option_map, replicate, slice_index, slice_index_or, slice_set}
use Rattle.std.specs.List.{AllByRecursion, range_with_len}
use mathlib.Core.Option.{some}
use lib.ListN.{get_elem?}
use Rattle.pei_types.specs.declared.events.Event.{Event}
use Rattle.pei_types.specs.declared.events.EventKind.{EventKind}
use Rattle.pei_types.specs.declared.events.EventKind.TheVariants as event
use Rattle.pei_types.specs.declared.identifiers.Actor.{Actor}
use Rattle.pei_types.specs.declared.identifiers.BlockNo.{BlockNo}
use Rattle.pei_types.specs.declared.operations.Mode.TheVariants.{Writer}
use Rattle.pei_types.specs.declared.operations.Op.{Op}
use Rattle.pei_types.specs.declared.operations.Operands.{Operands}
use Rattle.pei_types.specs.declared.identifiers.CoreId.{CoreId}
use Rattle.pei_types.specs.declared.identifiers.Lane.{Lane}
use Rattle.pei_types.specs.declared.inflight_looks.PeiLook.{PeiLook}
use Rattle.pei_types.specs.declared.inflight_looks.Phase.TheVariants as phase
use Rattle.pei_types.specs.declared.machines.MachineSpec.{MachineSpec}
use Rattle.pei_types.specs.declared.stamps.Stamped.{Stamped}
use Rattle.pei_types.specs.Blocks.{fold_of, same_core}
use Rattle.pei_types.specs.Calls.{Side, Peis, side_of}
use Rattle.pei_types.specs.MachineState.{State, state_after, look_in, is_phase}
use Rattle.pei_types.specs.Legal.{EachEvent}
use Rattle.pei_types.specs.Limits.{log_two}
use Rattle.pei_types.specs.Operation.{mode_of}
use Rattle.pei_types.specs.Turns.{is_entering}
use Rattle.bank_laws.specs.Banks.{bank_of}
use Rattle.history_laws.specs.Members.{In}
use Rattle.history_laws.specs.TrackedPeis.{fence_is_on}
use Rattle.thread_laws.specs.OwnEvents.{IssuesNext}
use Rattle.shared_table.specs.declared.claims.Claim.{Claim}
use Rattle.shared_table.specs.declared.claims.Claim.TheVariants.{Free, Announced, Held}
use Rattle.shared_table.specs.declared.claims.Active.{Active}
use Rattle.shared_table.specs.Own.{Has, IsHolding, IsIdle}
use Rattle.shared_table.specs.Parts.{active, claims, cleared, core_number, fence, mine, seen}
use Rattle.shared_table.specs.Place.{SeatView}
use Rattle.host_run.specs.declared.own_peis.OwnPei.{OwnPei}
use Rattle.host_run.specs.declared.own_peis.OwnPeis.{OwnPeis}

-- an event that puts a PEI into a lane, or is of one in a lane, names a lane from 1 to 4
abbrev pub IsLane : Lane → Type 0
IsLane l = (1 ≤ l.0) × (l.0 ≤ 4)

abbrev pub IsOnLane : Event → Type 0
IsOnLane e = ((seq : ℕ) (l : Lane) (o : Op) (b : BlockNo) (x : Operands) → e.kind ≡ event.Issue seq l o b x → IsLane l)
    × ((seq : ℕ) → e.kind ≡ event.Enter seq → IsLane e.actor.lane)
    × ((seq : ℕ) → e.kind ≡ event.Leave seq → IsLane e.actor.lane)

abbrev pub core_of : SeatView → CoreId
core_of s = record { 0 = core_number s }

-- the core's events in all banks, with their stamps, and without
abbrev pub own_log : SeatView → List Stamped
own_log s = map (λ x. record { stamp = x.stamp; event = x.event }) (mine s)

abbrev pub own_events : SeatView → List Event
own_events s = map (λ x. x.event) (mine s)

-- what the seat has seen of the log of each bank
abbrev pub seen_logs : MachineSpec → SeatView → List (List Stamped)
seen_logs m s = map (λ k. seen k s) (range_with_len 0 m.banks)

-- the state that the core's own events leave
abbrev pub own_state : MachineSpec → SeatView → State
own_state m s = state_after m (own_events s)

-- a PEI as the thread keeps it
abbrev pub as_own : PeiLook → OwnPei
as_own p = record { seq = p.id.seq; block = p.block; mode = mode_of p.op; entered = not (is_phase p.phase phase.Issued) }

-- by lane, from lane 1 on, the PEIs that a core has in a state
abbrev pub own_lanes : State → CoreId → List (Option OwnPei)
own_lanes s c = map (λ l. option_map as_own (look_in s c (record { 0 = l }))) (range_with_len 1 4)

-- whether a PEI counts where those alone do that have not entered, or where all do
abbrev pub counts : Bool → OwnPei → Bool
counts unentered p = not (unentered && p.entered)

-- the lower of a number so far and that of a lane's PEI, if the PEI counts
abbrev pub lower : Option ℕ → ℕ → Option ℕ
lower None seq = Some seq
lower (Some found) seq = if nat_lt seq found then Some seq else Some found

abbrev pub lower_of : Bool → Option ℕ → Option OwnPei → Option ℕ
lower_of unentered found None = found
lower_of unentered found (Some p) = if counts unentered p then lower found p.seq else found

-- A lane of these has a PEI that counts, with this number, and no PEI that counts has a smaller one.
pub record IsFirst (lanes : List (Option OwnPei)) (unentered : Bool) (seq : ℕ) : Type 0 where
  pub pei : OwnPei
  pub there : In (Some pei) lanes
  pub counted : counts unentered pei ≡ true
  pub number : pei.seq ≡ seq
  pub least : (p : OwnPei) → In (Some p) lanes → counts unentered p ≡ true → seq ≤ p.seq

-- none of these lanes has a PEI that counts
abbrev pub NoneCounts : List (Option OwnPei) → Bool → Type 0
NoneCounts lanes unentered = (p : OwnPei) → In (Some p) lanes → counts unentered p ≡ false

-- what a core has that has made no event
abbrev pub no_peis : OwnPeis
no_peis = record { lanes = replicate 4 None; spent = replicate 4 false; issues = 0; fence = None; cleared = 0 }

-- the PEI in a lane from 1 to 4
abbrev pub pei_in : OwnPeis → ℕ → Option OwnPei
pei_in o lane = slice_index_or o.lanes (lane - 1) None

-- the lowest lane of so many that holds no PEI
abbrev pub free_in : OwnPeis → ℕ → Option Lane
free_in o buffer = find (λ l. is_none (pei_in o l.0)) (map (λ l. record { 0 = l }) (range_with_len 1 buffer))

-- whether the lane has the claim of a PEI that has left
abbrev pub is_spent : OwnPeis → ℕ → Bool
is_spent o lane = slice_index_or o.spent (lane - 1) false

-- the directory entry of a PEI
abbrev pub entry_of : MachineSpec → OwnPei → ℕ
entry_of m p = fold_of p.block.0 (log_two m.directory)

-- A core's own events: the core is one of the machine's, each event is of it, and its issues take next numbers and free lanes.
pub record AreOwnEvents (m : MachineSpec) (c : CoreId) (own : List Event) : Type 0 where
  pub core : c.0 < m.cores
  pub mine : AllByRecursion (λ e. same_core e.actor.core c ≡ true) own
  pub issues : EachEvent (IssuesNext m) own

-- an event of a PEI is of the one that stands in its actor's lane, and has it enter where it has not yet
abbrev pub OfLane : State → Actor → Bool → Side → Type 0
OfLane s a entering (Peis seq) = (p : PeiLook) × (look_in s a.core a.lane ≡ Some p) × (p.id.seq ≡ seq) × (is_phase p.phase phase.Issued ≡ entering)
OfLane s a entering _ = ⊤

abbrev pub IsOfItsLane : MachineSpec → List Event → Event → Type 0
IsOfItsLane m own e = OfLane (state_after m own) e.actor (is_entering e.kind) (side_of e.kind)

-- What the thread keeps is what the core's own events say: its PEIs by lane, how many it issued, and whether its fence is on.
pub record KeepsEvents (m : MachineSpec) (c : CoreId) (own : List Event) (o : OwnPeis) : Type 0 where
  pub events : AreOwnEvents m c own
  pub lanes : o.lanes ≡ own_lanes (state_after m own) c
  pub issues : o.issues ≡ slice_index (state_after m own).issues c.0
  pub fence : is_some o.fence ≡ fence_is_on c own

-- So it is for the events that the seat has; where its fence began, the seat has too; and the first banks, as many as it keeps, are
-- cleared for it.
pub record KeepsPeis (m : MachineSpec) (s : SeatView) (o : OwnPeis) : Type 0 where
  pub kept : KeepsEvents m (core_of s) (own_events s) o
  pub four : length o.spent ≡ 4
  pub fence_is : o.fence ≡ fence s
  pub unfenced : o.fence ≡ None → o.cleared ≡ 0
  pub few : o.cleared ≤ m.banks
  pub cleared_are : (k : ℕ) → k < o.cleared → (i : ℕ) × (get_elem? (cleared s) i ≡ some k)

-- An active PEI of the core in bank b is the PEI in its lane, which has entered.
abbrev pub IsActiveOf : MachineSpec → OwnPeis → ℕ → Active → Type 0
IsActiveOf m o b a =
    (p : OwnPei) × (pei_in o a.lane.0 ≡ Some p) × (p.entered ≡ true) × (a.entry ≡ entry_of m p) × (a.mode ≡ p.mode) × (bank_of m p.block ≡ b) × IsLane a.lane

abbrev pub KeepsActives : MachineSpec → SeatView → OwnPeis → Type 0
KeepsActives m s o = (b i : ℕ) (a : Active) → get_elem? (active b s) i ≡ some a → IsActiveOf m o b a

-- What a lane has of the directory: a spent claim is held. Else a lane with no PEI is free; one that is announced has a writer that has
-- not entered; and one that holds a claim has a PEI of this entry and mode, as each PEI has that has entered.
abbrev pub FitsPei : MachineSpec → Claim → OwnPei → Type 0
FitsPei m Free p = p.entered ≡ false
FitsPei m (Announced e) p = (p.entered ≡ false) × (e ≡ entry_of m p) × (p.mode ≡ Writer)
FitsPei m (Held e k) p = (e ≡ entry_of m p) × (k ≡ p.mode)

abbrev pub FitsLane : MachineSpec → Claim → Option OwnPei → Type 0
FitsLane m c (Some p) = FitsPei m c p
FitsLane m c None = c ≡ Free

-- a spent claim is held, and the PEI in its lane, if there is one, has not entered
abbrev pub IsSpentClaim : Claim → Option OwnPei → Type 0
IsSpentClaim (Held e k) (Some p) = p.entered ≡ false
IsSpentClaim (Held e k) None = ⊤
IsSpentClaim _ _ = ⊥

abbrev pub KeepsLane : MachineSpec → Claim → Bool → Option OwnPei → Type 0
KeepsLane m c true o = IsSpentClaim c o
KeepsLane m c false o = FitsLane m c o

abbrev pub KeepsClaims : MachineSpec → SeatView → OwnPeis → Type 0
KeepsClaims m s o = (lane : ℕ) → 1 ≤ lane → lane ≤ 4 → (c : Claim) × Has (claims s) lane c × KeepsLane m c (is_spent o lane) (pei_in o lane)

-- ---- what an event changes of what the thread keeps

-- What an event of the core does to what its thread keeps: an issue puts its PEI into the lane that it names, and an enter and a
-- leave are of the PEI in their actor's lane. One that leaves has the lane's claim spent. A fence that begins or ends has no bank
-- cleared for it.
abbrev pub as_entered : OwnPei → OwnPei
as_entered p = record p { entered = true }

abbrev pub lanes_after : Actor → EventKind → List (Option OwnPei) → List (Option OwnPei)
lanes_after a (event.Issue seq lane o b operands) lanes = slice_set lanes (lane.0 - 1) (Some (record { seq = seq; block = b; mode = mode_of o; entered = false }))
lanes_after a (event.Enter seq) lanes = slice_set lanes (a.lane.0 - 1) (option_map as_entered (slice_index_or lanes (a.lane.0 - 1) None))
lanes_after a (event.Leave seq) lanes = slice_set lanes (a.lane.0 - 1) None
lanes_after a _ lanes = lanes

abbrev pub spent_after : Actor → EventKind → List Bool → List Bool
spent_after a (event.Leave seq) spent = slice_set spent (a.lane.0 - 1) true
spent_after a _ spent = spent

abbrev pub cleared_after : EventKind → ℕ → ℕ
cleared_after event.FenceBegin cleared = 0
cleared_after event.FenceEnd cleared = 0
cleared_after _ cleared = cleared
