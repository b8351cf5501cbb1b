-- What an access or a lane comes to, as a row of the step table.
use Rattle.std.proofs.Common.{◌≡◌, ℕ, Bool, true, false, if◌then◌else◌, List, [], ◌∷◌, Option, Some, None, is_some, is_none, slice_get, true≢false, IsTrue, refl, sym, ◌∙◌, ap}
use Rattle.std.specs.Prelude.{not, slice_index}
use Rattle.pei_types.specs.declared.identifiers.Block.{Block}
use Rattle.pei_types.specs.declared.identifiers.BlockNo.{BlockNo}
use Rattle.pei_types.specs.declared.identifiers.CoreId.{CoreId}
use Rattle.pei_types.specs.declared.identifiers.PeiId.{PeiId}
use Rattle.pei_types.specs.declared.calls.Call.TheVariants as call
use Rattle.pei_types.specs.declared.events.EventKind.{EventKind}
use Rattle.pei_types.specs.declared.events.EventKind.TheVariants as event
use Rattle.pei_types.specs.declared.machines.MachineSpec.{MachineSpec}
use Rattle.pei_types.specs.Blocks.{block_of, word_of}
use Rattle.pei_types.specs.MachineState.{State, conflict}
use Rattle.pei_types.specs.Guard.{waits_for_none}
use Rattle.pei_types.specs.Next.{Turn, Makes, Stalls, call_row, fence_row}
use Rattle.pmu_dispatch.specs.declared.looks.WantLooks.{WantLooks}
use Rattle.pmu_dispatch.specs.declared.accesses.AccessNext.{AccessNext}
use Rattle.pmu_dispatch.specs.Shown.{AreLooksOf}
use Rattle.trace_check.specs.InState.{made}
use Rattle.pmu_dispatch.specs.Steps.{IsLoadRow, IsStoreRow, access_made, is_message, message_made}

pub same_turn : (t u : Turn) → Some t ≡ Some u → t ≡ u
same_turn t u e = cc e

-- a message that is a turn
pub message_turn : (kind : EventKind) (t : Turn) → message_made kind ≡ Some t → Makes kind ≡ t
message_turn kind t e = by (is_message kind) e
  where
    by : (b : Bool) → (if b then Some (Makes kind) else None) ≡ Some t → Makes kind ≡ t
    by true h = same_turn (Makes kind) t h
    by false h = absurd (cc h)

module _ (m : MachineSpec) (s : State) (content : BlockNo → Block) (core : CoreId) (pc addr : ℕ) (block : BlockNo) (looks : WantLooks) (by : Option PeiId) (answer : AccessNext) where
  pub load_made : IsLoadRow looks by answer → AreLooksOf m s looks → looks.own ≡ core → looks.block ≡ block → block ≡ block_of addr → by ≡ conflict s block false
      → access_made (event.Load addr (slice_index (content block).0 (word_of addr))) pc block answer ≡ Some (call_row m s content core (call.Load pc addr))
  load_made row taken own at is races =
      ap (λ (b : BlockNo). access_made (event.Load addr (slice_index (content b).0 (word_of addr))) pc b answer) (sym at)
      ∙ row m s content pc addr taken (races ∙ ap (λ (b : BlockNo). conflict s b false) (sym at)) (sym is ∙ sym at)
      ∙ ap (λ (c : CoreId). Some (call_row m s content c (call.Load pc addr))) own

  pub store_made : (value : ℕ) → IsStoreRow looks by answer → AreLooksOf m s looks → looks.own ≡ core → looks.block ≡ block → block ≡ block_of addr → by ≡ conflict s block true
      → access_made (event.Store addr value) pc block answer ≡ Some (call_row m s content core (call.Store pc addr value))
  store_made value row taken own at is races =
      ap (λ (b : BlockNo). access_made (event.Store addr value) pc b answer) (sym at)
      ∙ row m s content pc addr value taken (races ∙ ap (λ (b : BlockNo). conflict s b true) (sym at)) (sym is ∙ sym at)
      ∙ ap (λ (c : CoreId). Some (call_row m s content c (call.Store pc addr value))) own

-- the event of a message's turn
pub message_event : (kind : EventKind) (t : Turn) → message_made kind ≡ Some t → Some kind ≡ made (Some t)
message_event kind t e = ap (λ (u : Turn). made (Some u)) (message_turn kind t e)

made_is : (t : Option Turn) (kind : EventKind) → made t ≡ Some kind → t ≡ Some (Makes kind)
made_is None kind e = absurd (cc e)
made_is (Some (Makes k)) kind e = cc
made_is (Some (Stalls cause)) kind e = absurd (cc e)

-- the turn is an event's exactly where its event is that
pub made_there : (t : Option Turn) (row : Option EventKind) (kind : EventKind) → row ≡ made t → (row ≡ Some kind → t ≡ Some (Makes kind)) × (t ≡ Some (Makes kind) → row ≡ Some kind)
made_there t row kind is = (λ e. made_is t kind (sym is ∙ e), λ e. is ∙ ap made e)

-- ---- fences

-- what a fence waits for, as the table of PEIs tells it
abbrev pub FirstOf : Option (List PeiId) → Option PeiId → Type 0
FirstOf fence found = (waits : List PeiId) → fence ≡ Some waits → found ≡ slice_get waits 0

pub fence_stalls : (fence : Option (List PeiId)) (found : Option PeiId) → is_some fence ≡ true → FirstOf fence found → is_none found ≡ false → None ≡ made (Some (fence_row fence))
fence_stalls None found on first some = absurd (cc on)
fence_stalls (Some []) found on first some = absurd (true≢false (sym (ap is_none (first [] refl)) ∙ some))
fence_stalls (Some (p ∷ ps)) found on first some = refl

pub fence_is_done : (fence : Option (List PeiId)) (found : Option PeiId) → is_some fence ≡ true → FirstOf fence found → (IsTrue (is_none found) → (waits : List PeiId) → fence ≡ Some waits → waits ≡ []) × (((waits : List PeiId) → fence ≡ Some waits → waits ≡ []) → IsTrue (is_none found))
fence_is_done None found on first = absurd (cc on)
fence_is_done (Some []) found on first = (λ none waits is. cc, λ done. ap is_none (first [] refl))
fence_is_done (Some (p ∷ ps)) found on first = (
  λ none waits is. absurd (true≢false (sym none ∙ ap is_none (first (p ∷ ps) refl))),
  λ done. let empty : p ∷ ps ≡ [] = done (p ∷ ps) refl in absurd (cc empty),
)

pub told_none : {A : Type 0} (found : Option A) (r : Bool) → is_some found ≡ not r → r ≡ is_none found
told_none None true e = refl
told_none None false e = absurd (cc e)
told_none (Some p) true e = absurd (cc e)
told_none (Some p) false e = refl

pub fence_done : (fence : Option (List PeiId)) (found : Option PeiId) (r : Bool) → is_some fence ≡ true → FirstOf fence found → r ≡ is_none found → r ≡ waits_for_none fence
fence_done None found r on first e = absurd (cc on)
fence_done (Some []) found r on first e = e ∙ ap is_none (first [] refl)
fence_done (Some (p ∷ ps)) found r on first e = e ∙ ap is_none (first (p ∷ ps) refl)

pub fence_off : (fence : Option (List PeiId)) → is_some fence ≡ false → false ≡ waits_for_none fence
fence_off None off = refl
fence_off (Some ps) off = absurd (cc off)

pub not_some : {A : Type 0} (o : Option A) → not (is_some o) ≡ is_none o
not_some None = refl
not_some (Some x) = refl
