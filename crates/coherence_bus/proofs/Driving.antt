-- A bus that is driven by the table of steps.
use Rattle.std.proofs.Common.{◌≡◌, ℕ, ◌<◌, Bool, false, map, refl, sym, subst, ap, ◌∙◌, arith, get_or, replicate, ◌++◌, ◌-◌}
use Rattle.std.specs.List.{range_with_len}
use Rattle.std.proofs.Math.ListN.{get_or-append}
use Rattle.std.proofs.lemmas.List.FromFn.{length-map-range_with_len, get_or-map-range_with_len}
use Rattle.pei_types.specs.declared.identifiers.BlockNo.{BlockNo}
use Rattle.pei_types.specs.declared.identifiers.CoreId.{CoreId}
use Rattle.pei_types.specs.declared.operations.Letter.{Letter}
use Rattle.pei_types.specs.declared.operations.Letter.TheVariants as letter
use Rattle.pei_types.specs.declared.events.EventKind.{EventKind}
use Rattle.pei_types.specs.declared.machines.MachineSpec.{MachineSpec}
use Rattle.pei_types.specs.MachineState.{State, letter_of}
use Rattle.pei_types.specs.Next.{want}
use Rattle.coherence_laws.specs.Invariants.{Invariants}
use Rattle.pmu_dispatch.specs.Shown.{AreLooksOf, eight_letters, looks_with, suffices}
use Rattle.pmu_dispatch.specs.declared.looks.WantLooks.{WantLooks}
use Rattle.coherence_bus.specs.Hierarchy.{Hierarchy, state_of}
use Rattle.coherence_bus.specs.Wants.{MayMake, WantsAreAllowed}
use Rattle.coherence_bus.proofs.Searching.{map_twice}

-- the own letter in the looks
pub letter_looked : (m : MachineSpec) (s : State) (own : CoreId) (b : BlockNo) (d : Letter) → own.0 < m.cores → get_or (eight_letters m s b) own.0 d ≡ letter_of m s own b
letter_looked m s own b d within =
    let f = λ (n : ℕ). letter_of m s (record { 0 = n }) b
    in ap (λ xs. get_or (xs ++ replicate (8 - m.cores) letter.I) own.0 d) (map_twice (λ c. letter_of m s c b) (λ n. record { 0 = n }) (range_with_len 0 m.cores))
    ∙ get_or-append (map f (range_with_len 0 m.cores)) (replicate (8 - m.cores) letter.I) d own.0 (omega (arith, within, length-map-range_with_len f 0 m.cores))
    ∙ get_or-map-range_with_len f 0 m.cores own.0 own.0 d within (omega arith)

module _ (h : Hierarchy) (own : CoreId) (b : BlockNo) (modify : Bool) (looks : WantLooks) (d : Letter) (within : own.0 < h.machine.cores) (is : looks ≡ looks_with h.machine (state_of h) false own b) where
  pub enough : (t : Bool) → suffices modify (get_or looks.letters own.0 d) ≡ t → suffices modify (letter_of h.machine (state_of h) own b) ≡ t
  enough t told = ap (suffices modify) (sym (ap (λ (l : WantLooks). get_or l.letters own.0 d) is ∙ letter_looked h.machine (state_of h) own b d within)) ∙ told

  pub may_make : WantsAreAllowed → Invariants h.machine (state_of h) → b.0 < h.machine.blocks → suffices modify (get_or looks.letters own.0 d) ≡ false
      → (kind : EventKind) → ((m : MachineSpec) (s : State) → AreLooksOf m s looks → kind ≡ want m s looks.own looks.block modify) → MayMake h own kind
  may_make wants inv inside lacks kind told =
      let taken : AreLooksOf h.machine (state_of h) looks = subst (AreLooksOf h.machine (state_of h)) (sym is) (record { core = within; shown = refl })
      in let same : kind ≡ want h.machine (state_of h) own b modify = told h.machine (state_of h) taken ∙ ap (λ (l : WantLooks). want h.machine (state_of h) l.own l.block modify) is
      in subst (MayMake h own) (sym same) (wants h own b modify inv within inside (enough false lacks))
