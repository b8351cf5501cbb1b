-- A legal journal has what banks ask that merge: its events are of actors of the machine, meet the guards that look at more than
-- one bank, and none issues while a fence of its core is on.
use Rattle.std.proofs.Common.{◌≡◌, Bool, true, false, IsTrue, List, ◌∷◌, refl, subst}
use Rattle.pei_types.specs.declared.events.Event.{Event}
use Rattle.pei_types.specs.declared.events.EventKind.{EventKind}
use Rattle.pei_types.specs.declared.events.EventKind.TheVariants as event
use Rattle.pei_types.specs.declared.identifiers.Actor.{Actor}
use Rattle.pei_types.specs.declared.machines.MachineSpec.{MachineSpec}
use Rattle.pei_types.specs.Calls.{AnswersCall, AnswersNext, is_actor_of}
use Rattle.pei_types.specs.MachineState.{State, state_after}
use Rattle.pei_types.specs.Core.{CoreNext, next_of_core}
use Rattle.pei_types.specs.Guard.{guard}
use Rattle.pei_types.specs.Legal.{EachEvent, Legal, Meets}
use Rattle.pei_types.specs.Program.{Listing, Contents}
use Rattle.pei_types.proofs.Histories.{each_prefix}
use Rattle.history_laws.specs.Fits.{AsksForFence}
use Rattle.history_laws.specs.Laws.{JournalsAreSound}
use Rattle.history_laws.specs.Sound.{IssuesUnfenced}
use Rattle.history_laws.specs.TrackedPeis.{fence_is_on}
use Rattle.bank_laws.specs.Rows.{IsGuardedWidely}

-- a core that asks for a fence issues nothing
asks_unfenced : (x : CoreNext) (m : MachineSpec) (journal : List Event) (a : Actor) (kind : EventKind) → AsksForFence x journal a.core → AnswersCall x m journal a kind → IssuesUnfenced journal a kind
asks_unfenced x m journal a (event.Issue seq lane o b operands) asks h = by (fence_is_on a.core journal) refl
  where
    by : (on : Bool) → fence_is_on a.core journal ≡ on → fence_is_on a.core journal ≡ false
    by true e = absurd (subst (λ y. AnswersNext y (event.Issue seq lane o b operands)) (asks e) h.1.1)
    by false e = e
asks_unfenced x m journal a _ asks h = tt

widely : (m : MachineSpec) (s : State) (a : Actor) (kind : EventKind) → IsTrue (guard m s a kind) → IsGuardedWidely m s a kind
widely m s a (event.Issue seq lane o b operands) h = h
widely m s a event.FenceBegin h = h
widely m s a event.FenceEnd h = h
widely m s a (event.End kind) h = h
widely m s a (event.Enter seq) h = h
widely m s a _ h = tt

module _ (p : Listing) (m : MachineSpec) (image : Contents) (journal : List Event) (legal : Legal p m image journal) where
  pub actors : EachEvent (λ before e. IsTrue (is_actor_of m e.actor)) journal
  actors before rest e same = (legal before rest e same).flat.calls.0

  pub guarded : EachEvent (λ before e. IsGuardedWidely m (state_after m before) e.actor e.kind) journal
  guarded before rest e same = widely m (state_after m before) e.actor e.kind (legal before rest e same).guarded

  pub unfenced : JournalsAreSound → EachEvent (λ before e. IssuesUnfenced before e.actor e.kind) journal
  unfenced sound before rest e same =
      let front : Legal p m image before = each_prefix (Meets p m image) before (e ∷ rest) (subst (EachEvent (Meets p m image)) same legal)
      in asks_unfenced (next_of_core p m image before e.actor.core) m before e.actor e.kind ((sound.legal p m image before front).asks e.actor.core) (legal before rest e same).flat.calls
