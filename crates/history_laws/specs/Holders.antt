-- What the directory's entries count, and who holds them.
use Rattle.std.specs.Prelude.{◌≡◌, ℕ, ◌+◌, ◌<◌, Bool, true, false, ◌&&◌, ◌==◌, if◌then◌else◌, List, [], ◌∷◌, length, Some, slice_index_or}
use Rattle.pei_types.specs.declared.identifiers.Actor.{Actor}
use Rattle.pei_types.specs.declared.inflight_looks.PeiLook.{PeiLook}
use Rattle.pei_types.specs.declared.inflight_looks.Phase.TheVariants as phase
use Rattle.pei_types.specs.declared.machines.MachineSpec.{MachineSpec}
use Rattle.pei_types.specs.declared.operations.Mode.{Mode}
use Rattle.pei_types.specs.declared.operations.Mode.TheVariants as mode
use Rattle.pei_types.specs.Blocks.{entry_of}
use Rattle.pei_types.specs.Claims.{Claims, no_claims}
use Rattle.pei_types.specs.MachineState.{State, look_in}
use Rattle.pei_types.specs.Operation.{mode_of}
use Rattle.pei_types.specs.Recency.{list_at}
use Rattle.pei_types.specs.Schedule.{LaneClaim, Free, Announced, Held, Spent}
use Rattle.history_laws.specs.EntryOrder.{LanesApart}
use Rattle.history_laws.specs.Members.{In}
use Rattle.history_laws.specs.TrackedPeis.{is_past_issue}

-- what lane l of core c has of the directory
abbrev pub claim_at : List (List LaneClaim) → ℕ → ℕ → LaneClaim
claim_at claims c l = slice_index_or (list_at claims c) l Free

abbrev pub same_mode : Mode → Mode → Bool
same_mode mode.Reader mode.Reader = true
same_mode mode.Writer mode.Writer = true
same_mode _ _ = false

-- whether a lane holds entry e in this mode, or has not yet let it go
abbrev pub holds_entry : ℕ → Mode → LaneClaim → Bool
holds_entry e k (Held at how) = (at == e) && same_mode how k
holds_entry e k (Spent at how) = (at == e) && same_mode how k
holds_entry e k _ = false

abbrev pub one : Bool → ℕ
one b = if b then 1 else 0

-- how many claims pass a test
abbrev pub count_in : (LaneClaim → Bool) → List LaneClaim → ℕ
count_in test [] = 0
count_in test (x ∷ xs) = one (test x) + count_in test xs

abbrev pub count_all : (LaneClaim → Bool) → List (List LaneClaim) → ℕ
count_all test [] = 0
count_all test (xs ∷ xss) = count_in test xs + count_all test xss

-- how many hold an entry in this mode, by the entry
abbrev pub counted : Mode → Claims → ℕ
counted mode.Reader c = c.readers
counted mode.Writer c = c.writers

-- whether a lane has announced itself on entry e
abbrev pub waits_on : ℕ → LaneClaim → Bool
waits_on e (Announced at) = at == e
waits_on e _ = false

-- The entries count the lanes that hold them, and those that wait for them; what a lane holds is one of the directory's
-- entries; where one holds an entry as a writer no other holds it; a lane whose PEI is active holds its entry in its mode,
-- and a lane that holds an entry has such a PEI; a lane that waits has a writer on the entry that has not entered; and no
-- two PEIs of a core are in one lane.
pub record Holding (m : MachineSpec) (s : State) (entries : List Claims) (claims : List (List LaneClaim)) : Type 0 where
  pub cores : length claims ≡ m.cores
  pub lanes : (c : ℕ) → c < m.cores → length (list_at claims c) ≡ m.buffer + 1
  pub size : length entries ≡ m.directory
  pub counts : (e : ℕ) (k : Mode) → e < m.directory → counted k (slice_index_or entries e no_claims) ≡ count_all (holds_entry e k) claims
  pub below : (c l e : ℕ) (k : Mode) → holds_entry e k (claim_at claims c l) ≡ true → e < m.directory
  pub lone : (c l d n e : ℕ) (k : Mode) → holds_entry e mode.Writer (claim_at claims c l) ≡ true → holds_entry e k (claim_at claims d n) ≡ true → (c ≡ d) × (l ≡ n)
  pub active : (l : PeiLook) → In l s.peis → is_past_issue l ≡ true → claim_at claims l.id.core.0 l.lane.0 ≡ Held (entry_of m l.block) (mode_of l.op)
  pub held : (a : Actor) (e : ℕ) (k : Mode) → claim_at claims a.core.0 a.lane.0 ≡ Held e k → (p : PeiLook) × (look_in s a.core a.lane ≡ Some p) × (entry_of m p.block ≡ e) × (mode_of p.op ≡ k)
  pub waiting : (e : ℕ) → e < m.directory → (slice_index_or entries e no_claims).waiting ≡ count_all (waits_on e) claims
  pub announced : (a : Actor) (e : ℕ) → claim_at claims a.core.0 a.lane.0 ≡ Announced e → (p : PeiLook) × (look_in s a.core a.lane ≡ Some p) × (p.phase ≡ phase.Issued) × (entry_of m p.block ≡ e) × (mode_of p.op ≡ mode.Writer)
  pub apart : LanesApart s
