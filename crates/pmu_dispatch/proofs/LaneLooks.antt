-- What the looks at a PEI's block tell of its state.
use Rattle.std.proofs.Common.{◌≡◌, not, Bool, ◌∙◌, ap}
use Rattle.std.specs.Prelude.{slice_index_or}
use Rattle.pei_types.specs.declared.identifiers.BlockNo.{BlockNo}
use Rattle.pei_types.specs.declared.identifiers.CoreId.{CoreId}
use Rattle.pei_types.specs.declared.inflight_looks.PeiLook.{PeiLook}
use Rattle.pei_types.specs.declared.events.EventKind.{EventKind}
use Rattle.pei_types.specs.declared.machines.MachineSpec.{MachineSpec}
use Rattle.pei_types.specs.declared.operations.Letter.TheVariants as letter
use Rattle.pei_types.specs.MachineState.{State, is_i, is_owned, letter_of, mark_of}
use Rattle.pei_types.specs.Next.{holder, owner, want}
use Rattle.pmu_dispatch.specs.declared.looks.WantLooks.{WantLooks}
use Rattle.pmu_dispatch.specs.Shown.{AreBlocksLooksOf, first_core}
use Rattle.pmu_dispatch.proofs.Cores.{blocks_letter, blocks_holder, blocks_owner, blocks_mark}

module _ (m : MachineSpec) (s : State) (looks : WantLooks) (p : PeiLook) (taken : AreBlocksLooksOf m s looks p) where
  pub peis_letter : slice_index_or looks.letters looks.own.0 letter.I ≡ letter_of m s p.id.core p.block
  peis_letter =
      blocks_letter m s looks taken.taken ∙ ap (λ (c : CoreId). letter_of m s c looks.block) taken.core ∙ ap (λ (b : BlockNo). letter_of m s p.id.core b) taken.block

  pub peis_holder : first_core (λ l. not (is_i l)) looks.letters ≡ holder m s p.block
  peis_holder = blocks_holder m s looks taken.taken ∙ ap (λ (b : BlockNo). holder m s b) taken.block

  pub peis_owner : first_core is_owned looks.letters ≡ owner m s p.block
  peis_owner = blocks_owner m s looks taken.taken ∙ ap (λ (b : BlockNo). owner m s b) taken.block

  pub peis_mark : looks.mark ≡ mark_of m s p.block
  peis_mark = blocks_mark m s looks taken.taken ∙ ap (λ (b : BlockNo). mark_of m s b) taken.block

  pub peis_want : (kind : EventKind) (modify : Bool) → kind ≡ want m s looks.own looks.block modify → kind ≡ want m s p.id.core p.block modify
  peis_want kind modify is =
      is ∙ ap (λ (c : CoreId). want m s c looks.block modify) taken.core ∙ ap (λ (b : BlockNo). want m s p.id.core b modify) taken.block
