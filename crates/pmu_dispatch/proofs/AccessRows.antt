-- The rows of loads and stores.
use Rattle.std.proofs.Common.{◌≡◌, ℕ, Bool, true, false, if◌then◌else◌, Option, Some, None, refl, sym, ◌∙◌, ap}
use Rattle.std.specs.Prelude.{slice_index}
use Rattle.pei_types.specs.declared.identifiers.Block.{Block}
use Rattle.pei_types.specs.declared.identifiers.BlockNo.{BlockNo}
use Rattle.pei_types.specs.declared.identifiers.CoreId.{CoreId}
use Rattle.pei_types.specs.declared.identifiers.PeiId.{PeiId}
use Rattle.pei_types.specs.declared.events.EventKind.{EventKind}
use Rattle.pei_types.specs.declared.events.EventKind.TheVariants as event
use Rattle.pei_types.specs.declared.machines.MachineSpec.{MachineSpec}
use Rattle.pei_types.specs.Blocks.{word_of}
use Rattle.pei_types.specs.MachineState.{State, conflict, is_i, is_owned, letter_of}
use Rattle.pei_types.specs.Next.{Makes, race_or, want}
use Rattle.pmu_dispatch.specs.declared.looks.WantLooks.{WantLooks}
use Rattle.pmu_dispatch.specs.declared.accesses.AccessNext.TheVariants as access
use Rattle.pmu_dispatch.specs.Shown.{AreLooksOf, suffices}
use Rattle.pmu_dispatch.specs.Steps.{IsAccessRow, is_message, message_made}
use Rattle.pmu_dispatch.proofs.Messages.{message_want}
use Rattle.std.proofs.lemmas.Bool.{not-false, not-true}

-- the rows of a load and of a store, where the block is the one of the address
load_at : MachineSpec → State → (BlockNo → Block) → CoreId → ℕ → ℕ → BlockNo → EventKind
load_at m s content c pc addr b =
    race_or (conflict s b false) pc b (if is_i (letter_of m s c b) then want m s c b false else event.Load addr (slice_index (content b).0 (word_of addr)))

store_at : MachineSpec → State → CoreId → ℕ → ℕ → ℕ → BlockNo → EventKind
store_at m s c pc addr value b =
    race_or (conflict s b true) pc b (if is_owned (letter_of m s c b) then event.Store addr value else want m s c b true)

-- an access that races
pub race_row : (store : Bool) (looks : WantLooks) (found : Option PeiId) (by : PeiId) → found ≡ Some by → IsAccessRow store looks found (access.Race by)
unfolding load_at store_at
race_row false looks found by is =
    λ m s content pc addr taken same at.
    let races : conflict s looks.block false ≡ Some by = sym same ∙ is
    in let row : load_at m s content looks.own pc addr looks.block ≡ event.Race pc looks.block by = rw races refl
    in ap (λ (kind : EventKind). Some (Makes kind)) (sym row ∙ ap (load_at m s content looks.own pc addr) (sym at))
race_row true looks found by is =
    λ m s content pc addr value taken same at.
    let races : conflict s looks.block true ≡ Some by = sym same ∙ is
    in let row : store_at m s looks.own pc addr value looks.block ≡ event.Race pc looks.block by = rw races refl
    in ap (λ (kind : EventKind). Some (Makes kind)) (sym row ∙ ap (store_at m s looks.own pc addr value) (sym at))

-- one that the own letter lets the core make
pub hit_row : (store : Bool) (looks : WantLooks) (found : Option PeiId) → found ≡ None → ((m : MachineSpec) (s : State) → AreLooksOf m s looks → suffices store (letter_of m s looks.own looks.block) ≡ true) → IsAccessRow store looks found access.Hit
unfolding load_at store_at
hit_row false looks found none enough =
    λ m s content pc addr taken same at.
    let races : conflict s looks.block false ≡ None = sym same ∙ none
    in let here : is_i (letter_of m s looks.own looks.block) ≡ false = not-true (is_i (letter_of m s looks.own looks.block)) (enough m s taken)
    in let row : load_at m s content looks.own pc addr looks.block ≡ event.Load addr (slice_index (content looks.block).0 (word_of addr)) = rw (races, here) refl
    in ap (λ (kind : EventKind). Some (Makes kind)) (sym row ∙ ap (load_at m s content looks.own pc addr) (sym at))
hit_row true looks found none enough =
    λ m s content pc addr value taken same at.
    let races : conflict s looks.block true ≡ None = sym same ∙ none
    in let row : store_at m s looks.own pc addr value looks.block ≡ event.Store addr value = rw (races, enough m s taken) refl
    in ap (λ (kind : EventKind). Some (Makes kind)) (sym row ∙ ap (store_at m s looks.own pc addr value) (sym at))

pub message_is_made : (kind wanted : EventKind) → kind ≡ wanted → is_message wanted ≡ true → message_made kind ≡ Some (Makes wanted)
message_is_made kind wanted is message = rw (is, message) refl

-- one before which the core wants the block
pub message_row : (store : Bool) (looks : WantLooks) (found : Option PeiId) (kind : EventKind) → found ≡ None
    → ((m : MachineSpec) (s : State) → AreLooksOf m s looks → suffices store (letter_of m s looks.own looks.block) ≡ false)
    → ((m : MachineSpec) (s : State) → AreLooksOf m s looks → kind ≡ want m s looks.own looks.block store)
    → IsAccessRow store looks found (access.Message kind)
unfolding load_at store_at
message_row false looks found kind none lacks wants =
    λ m s content pc addr taken same at.
    let races : conflict s looks.block false ≡ None = sym same ∙ none
    in let lost : is_i (letter_of m s looks.own looks.block) ≡ true = not-false (is_i (letter_of m s looks.own looks.block)) (lacks m s taken)
    in let row : load_at m s content looks.own pc addr looks.block ≡ want m s looks.own looks.block false = rw (races, lost) refl
    in message_is_made kind (want m s looks.own looks.block false) (wants m s taken) (message_want m s looks.own looks.block false)
    ∙ ap (λ (kind : EventKind). Some (Makes kind)) (sym row ∙ ap (load_at m s content looks.own pc addr) (sym at))
message_row true looks found kind none lacks wants =
    λ m s content pc addr value taken same at.
    let races : conflict s looks.block true ≡ None = sym same ∙ none
    in let row : store_at m s looks.own pc addr value looks.block ≡ want m s looks.own looks.block true = rw (races, lacks m s taken) refl
    in message_is_made kind (want m s looks.own looks.block true) (wants m s taken) (message_want m s looks.own looks.block true)
    ∙ ap (λ (kind : EventKind). Some (Makes kind)) (sym row ∙ ap (store_at m s looks.own pc addr value) (sym at))
