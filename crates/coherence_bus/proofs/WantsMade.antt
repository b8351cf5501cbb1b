-- What a core wants, it may make.
use Rattle.std.proofs.Common.{◌≡◌, ℕ, ◌*◌, ◌<◌, Bool, true, false, [], Option, Some, None, refl, subst, ap}
use Rattle.std.specs.Prelude.{if◌then◌else◌, not, ◌||◌, slice_index}
use Rattle.std.proofs.lemmas.Bool.{not-false}
use Rattle.pei_types.specs.declared.identifiers.Block.{Block}
use Rattle.pei_types.specs.declared.identifiers.BlockNo.{BlockNo}
use Rattle.pei_types.specs.declared.identifiers.CoreId.{CoreId}
use Rattle.pei_types.specs.declared.calls.Call.TheVariants as call
use Rattle.pei_types.specs.declared.events.EventKind.{EventKind}
use Rattle.pei_types.specs.declared.events.EventKind.TheVariants as event
use Rattle.pei_types.specs.declared.machines.MachineSpec.{MachineSpec}
use Rattle.pei_types.specs.Blocks.{block_of, word_of}
use Rattle.pei_types.specs.MachineState.{State, Line, LlcLine, is_absent, is_dirty, is_i, is_owned, is_sealed, letter_of, llc_set, mark_of, no_other_has}
use Rattle.pei_types.specs.Next.{Makes, bring_in, evict, grant, grant_modify, grant_shared, holder, l1_victim, make_room, other_holder, other_owner, want}
use Rattle.pei_types.specs.Recency.{victim}
use Rattle.pei_types.proofs.Tests.{if-true, if-false}
use Rattle.coherence_laws.specs.Invariants.{Invariants}
use Rattle.coherence_laws.specs.Laws.{IsAllowed, RowsAreAllowed}
use Rattle.pmu_dispatch.specs.Shown.{suffices}
use Rattle.pmu_dispatch.specs.Steps.{is_message}
use Rattle.coherence_bus.specs.Hierarchy.{Hierarchy, FillsFrom, program_of, state_of}
use Rattle.coherence_bus.specs.Wants.{WantsAreAllowed}
use Rattle.coherence_bus.proofs.AccessEffects.{block_at_start}

-- ---- it is a message, and fills from memory

abbrev IsGood : ℕ → EventKind → Type 0
IsGood blocks kind = (is_message kind ≡ true) × FillsFrom blocks kind

evict_good : (n : ℕ) (m : MachineSpec) (s : State) (v : BlockNo) (o : Option CoreId) → IsGood n (evict m s v o)
evict_good n m s v (Some c) = (refl, tt)
evict_good n m s v None = go (is_dirty (mark_of m s v))
  where
    go : (t : Bool) → IsGood n (if t then event.Clean v else event.EvictLlc v)
    go true = (refl, tt)
    go false = (refl, tt)

bring_in_good : (n : ℕ) (m : MachineSpec) (s : State) (b : BlockNo) (o : Option LlcLine) → b.0 < n → IsGood n (bring_in m s b o)
bring_in_good n m s b (Some line) within = evict_good n m s line.block (holder m s line.block)
bring_in_good n m s b None within = (refl, within)

shared_good : (n : ℕ) (m : MachineSpec) (s : State) (own : CoreId) (b : BlockNo) (o : Option CoreId) → IsGood n (grant_shared m s own b o)
shared_good n m s own b (Some c) = (refl, tt)
shared_good n m s own b None = go (not (no_other_has m s own b) || is_sealed s b)
  where
    go : (t : Bool) → IsGood n (if t then event.GrantS b else event.GrantE b)
    go true = (refl, tt)
    go false = (refl, tt)

modify_good : (n : ℕ) (b : BlockNo) (o : Option CoreId) → IsGood n (grant_modify b o)
modify_good n b (Some c) = (refl, tt)
modify_good n b None = (refl, tt)

grant_good : (n : ℕ) (m : MachineSpec) (s : State) (own : CoreId) (b : BlockNo) (modify : Bool) → IsGood n (grant m s own b modify)
grant_good n m s own b true = modify_good n b (other_holder m s own b)
grant_good n m s own b false = shared_good n m s own b (other_owner m s own b)

make_room_good : (n : ℕ) (m : MachineSpec) (s : State) (own : CoreId) (b : BlockNo) (modify : Bool) (o : Option Line) → IsGood n (make_room m s own b modify o)
make_room_good n m s own b modify (Some line) = (refl, tt)
make_room_good n m s own b modify None = grant_good n m s own b modify

want_good : (n : ℕ) (m : MachineSpec) (s : State) (own : CoreId) (b : BlockNo) (modify : Bool) → b.0 < n → IsGood n (want m s own b modify)
want_good n m s own b modify within = go (is_absent (mark_of m s b))
  where
    go : (t : Bool) → IsGood n (if t then bring_in m s b (victim m.llc_ways (llc_set m s b)) else make_room m s own b modify (l1_victim m s own b))
    go true = bring_in_good n m s b (victim m.llc_ways (llc_set m s b)) within
    go false = make_room_good n m s own b modify (l1_victim m s own b)

-- ---- it is the row of a load or of a store

module _ (rows : RowsAreAllowed) (h : Hierarchy) (own : CoreId) (inv : Invariants h.machine (state_of h)) where
  abbrev none : BlockNo → Block
  none b = record { 0 = [] }

  row : (modify : Bool) (addr : ℕ) → suffices modify (letter_of h.machine (state_of h) own (block_of addr)) ≡ false → IsAllowed h.machine (state_of h) (program_of own) (want h.machine (state_of h) own (block_of addr) modify)
  row false addr lacks =
      rows.at_call h.machine (state_of h) none (program_of own) (call.Load 0 addr) (want h.machine (state_of h) own (block_of addr) false) inv
      (ap Makes (if-true (is_i (letter_of h.machine (state_of h) own (block_of addr))) (want h.machine (state_of h) own (block_of addr) false) (event.Load addr (slice_index (none (block_of addr)).0 (word_of addr))) (not-false (is_i (letter_of h.machine (state_of h) own (block_of addr))) lacks)))
  row true addr lacks =
      rows.at_call h.machine (state_of h) none (program_of own) (call.Store 0 addr 0) (want h.machine (state_of h) own (block_of addr) true) inv
      (ap Makes (if-false (is_owned (letter_of h.machine (state_of h) own (block_of addr))) (event.Store addr 0) (want h.machine (state_of h) own (block_of addr) true) lacks))

  allowed : (modify : Bool) (b : BlockNo) → suffices modify (letter_of h.machine (state_of h) own b) ≡ false → IsAllowed h.machine (state_of h) (program_of own) (want h.machine (state_of h) own b modify)
  allowed modify b = subst (λ (x : BlockNo). suffices modify (letter_of h.machine (state_of h) own x) ≡ false → IsAllowed h.machine (state_of h) (program_of own) (want h.machine (state_of h) own x modify)) (block_at_start b) (row modify (64 * b.0))

pub want_made : RowsAreAllowed → WantsAreAllowed
want_made rows h own b modify inv core within lacks =
    let good = want_good h.machine.blocks h.machine (state_of h) own b modify within
    in let is = allowed rows h own inv modify b lacks
    in record { message = good.0; guarded = is.guarded; memory = good.1 }
