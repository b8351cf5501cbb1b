-- A checker before the first event.
use Rattle.std.proofs.Common.{◌≡◌, ℕ, zero, suc, ◌+◌, ◌<◌, List, [], ◌∷◌, ◌++◌, Some, None, slice_get, ◌∙◌, ap, arith}
use Rattle.std.proofs.lemmas.List.FromFn.{get_or-map-range_with_len}
use Rattle.pei_types.specs.declared.identifiers.BlockNo.{BlockNo}
use Rattle.pei_types.specs.declared.identifiers.CoreId.{CoreId}
use Rattle.pei_types.specs.declared.events.Event.{Event}
use Rattle.pei_types.specs.declared.machines.MachineSpec.{MachineSpec}
use Rattle.pei_types.specs.MachineState.{start_state}
use Rattle.pei_types.specs.Core.{at_stop, core_at_start, core_config}
use Rattle.pei_types.specs.FlatMemory.{flat_block}
use Rattle.pei_types.specs.Legal.{Legal}
use Rattle.pei_types.specs.Program.{Listing, Contents, block_at}
use Rattle.core_exec.specs.CoreView.{Standing}
use Rattle.coherence_bus.specs.Hierarchy.{Hierarchy, content_of, empty_hierarchy}
use Rattle.inflight.specs.OnTheWay.{OnTheWay, none_issued}
use Rattle.locality_monitor.specs.Table.{Table, empty_table}
use Rattle.trace_check.specs.Cores.{IsAt}
use Rattle.trace_check.specs.CheckerParts.{joined}

pub legal_start : (p : Listing) (m : MachineSpec) (image : Contents) → Legal p m image []
legal_start p m image before rest e is = absurd (no_event before is)
  where
    no_event : (xs : List Event) → [] ≡ xs ++ e ∷ rest → ⊥
    no_event [] h = cc h
    no_event (x ∷ xs) h = cc h

pub state_start : (m : MachineSpec) (image : Contents) (bus : Hierarchy) (table : OnTheWay) (monitor : Table) → bus ≡ empty_hierarchy m image → table ≡ none_issued m → monitor ≡ empty_table m.llc_sets m.llc_ways → joined bus table monitor ≡ start_state m
state_start m image bus table monitor eb et em = ap (λ x. joined x table monitor) eb ∙ ap (λ x. joined (empty_hierarchy m image) x monitor) et ∙ ap (joined (empty_hierarchy m image) (none_issued m)) em

pub memory_start : (m : MachineSpec) (image : Contents) (bus : Hierarchy) → bus ≡ empty_hierarchy m image → (b : BlockNo) → b.0 < m.blocks → content_of bus b ≡ flat_block image [] b
memory_start m image bus eb b inside = ap (λ x. content_of x b) eb ∙ get_or-map-range_with_len (λ k. block_at image (record { 0 = k })) 0 m.blocks b.0 b.0 (record { 0 = [] }) inside (omega arith)

start : Contents → ℕ → Standing
start image n = record { state = core_at_start image (record { 0 = n }); instr = None }

-- cores at their start, from one number on
abbrev pub AreAtStart : Contents → ℕ → List Standing → Type 0
AreAtStart image k [] = Unit {0}
AreAtStart image k (x ∷ xs) = (x ≡ record { state = core_at_start image (record { 0 = k }); instr = None }) × AreAtStart image (suc k) xs

core_start : (image : Contents) (k i : ℕ) (xs : List Standing) (s : Standing) → AreAtStart image k xs → slice_get xs i ≡ Some s → s ≡ start image (k + i)
unfolding start
core_start image k i [] s all found = absurd (cc found)
core_start image k zero (x ∷ xs) s all found =
    let same : s ≡ x = cc found
    in let none : k ≡ k + 0 = omega arith
    in same ∙ all.0 ∙ ap (start image) none
core_start image k (suc i) (x ∷ xs) s all found =
    let next : suc k + i ≡ k + suc i = omega arith
    in core_start image (suc k) i xs s all.1 found ∙ ap (start image) next

pub cores_start : (p : Listing) (m : MachineSpec) (image : Contents) (xs : List Standing) → AreAtStart image 0 xs → (c : CoreId) (s : Standing) → c.0 < m.cores → slice_get xs c.0 ≡ Some s → IsAt p m image [] c s.state
unfolding start
cores_start p m image xs all c s within found =
    let here : 0 + c.0 ≡ c.0 = omega arith
    in ap (λ (x : Standing). at_stop p (core_config m) x.state) (core_start image 0 c.0 xs s all found ∙ ap (start image) here)
