-- An event that fits its actor is sound, and rows fit.
use Rattle.std.proofs.Common.{◌≡◌, ◌<◌, Bool, true, false, if◌then◌else◌, List, [], ◌∷◌, ◌++◌, Option, Some, None, IsTrue, refl, sym, ◌∙◌, ap, subst, slice_index}
use Rattle.pei_types.specs.declared.identifiers.Actor.{Actor}
use Rattle.pei_types.specs.declared.identifiers.BlockNo.{BlockNo}
use Rattle.pei_types.specs.declared.identifiers.Lane.{Lane}
use Rattle.pei_types.specs.declared.identifiers.PeiId.{PeiId}
use Rattle.pei_types.specs.declared.calls.Call.TheVariants as call
use Rattle.pei_types.specs.declared.calls.EndKind.{EndKind}
use Rattle.pei_types.specs.declared.operations.Op.{Op}
use Rattle.pei_types.specs.declared.operations.Operands.{Operands}
use Rattle.pei_types.specs.declared.inflight_looks.PeiLook.{PeiLook}
use Rattle.pei_types.specs.declared.inflight_looks.Phase.{Phase}
use Rattle.pei_types.specs.declared.inflight_looks.Phase.TheVariants as phase
use Rattle.pei_types.specs.declared.inflight_looks.StallCause.TheVariants as stall
use Rattle.pei_types.specs.declared.events.Event.{Event}
use Rattle.pei_types.specs.declared.events.EventKind.{EventKind}
use Rattle.pei_types.specs.declared.events.EventKind.TheVariants as event
use Rattle.pei_types.specs.declared.machines.MachineSpec.{MachineSpec}
use Rattle.pei_types.specs.Blocks.{same_pei}
use Rattle.pei_types.specs.Calls.{is_actor_of, follows_phase}
use Rattle.pei_types.specs.MachineState.{State, state_after, first_unentered, first_unfinished, entry_is_taken, look_in, fence_of, free_lane}
use Rattle.pei_types.specs.Core.{CoreNext, Calls, next_of_core}
use Rattle.pei_types.specs.Legal.{MeetsFlatOf, MeetsFlat}
use Rattle.pei_types.specs.Next.{Makes, Stalls, issue_row, fence_row, draining_or, enter_row}
use Rattle.pei_types.specs.Program.{Listing, Contents}
use Rattle.pei_types.proofs.Histories.{each_push, each_of_from}
use Rattle.pei_types.proofs.Pushes.{state_after-push}
use Rattle.history_laws.specs.TrackedPeis.{Agrees}
use Rattle.history_laws.specs.EntryOrder.{InTurn}
use Rattle.history_laws.specs.Fits.{Fits, AsksForFence}
use Rattle.history_laws.specs.Sound.{Sound, SoundRun, IsSoundEvent}
use Rattle.history_laws.proofs.Steps.{agrees_next, agrees_at_start}
use Rattle.history_laws.proofs.Entering.{in_turn_next, in_turn_at_start}
use Rattle.history_laws.proofs.Fences.{settles_next, settles_at_start}
use Rattle.history_laws.proofs.Clauses.{meets_calls, meets_flat, numbers_rightly, fits_entering, fits_fences}
use Rattle.history_laws.proofs.Programs.{asks_next}
use Rattle.pei_types.proofs.Identities.{makes_is, same_pei_is}

-- ---- sound journals

pub sound_at_start : (m : MachineSpec) → Sound m []
sound_at_start m = record { agrees = agrees_at_start m; turns = in_turn_at_start m; fences = settles_at_start }

-- one more sound event
pub sound_next : (m : MachineSpec) (journal : List Event) (e : Event) → IsSoundEvent m journal e → Sound m journal → Sound m (journal ++ e ∷ [])
sound_next m journal e h d =
    let push = sym (state_after-push m journal e)
    in record {
      agrees = subst (λ s. Agrees m s (journal ++ e ∷ [])) push (agrees_next h.0 m (state_after m journal) journal e.actor e.kind h.1 h.2 d.agrees);
      turns = subst (InTurn m) push (in_turn_next h.0 m (state_after m journal) journal e.actor e.kind h.1 h.2 h.3 d.agrees d.turns);
      fences = settles_next m (state_after m journal) journal e.actor e.kind h.4 d.agrees d.fences;
    }

-- an event that fits its actor is sound, where the core keeps asking for a fence that is on
pub fits_sound : (x : CoreNext) (m : MachineSpec) (image : Contents) (journal : List Event) (a : Actor) (kind : EventKind) → Sound m journal → AsksForFence x journal a.core → Fits x m image journal (state_after m journal) a kind → IsSoundEvent m journal (record { actor = a; kind = kind })
fits_sound x m image journal a kind d asks f = (
  x,
  meets_calls x m image (state_after m journal) journal a kind d.agrees f,
  numbers_rightly x m image (state_after m journal) journal a kind f,
  fits_entering x m image (state_after m journal) journal a kind d.agrees f,
  fits_fences x m image (state_after m journal) journal a kind d.agrees asks f,
)

-- a run goes on by an event that fits its actor
pub run_next : (p : Listing) (m : MachineSpec) (image : Contents) (journal : List Event) (a : Actor) (kind : EventKind) → Fits (next_of_core p m image journal a.core) m image journal (state_after m journal) a kind → SoundRun p m image journal → SoundRun p m image (journal ++ record { actor = a; kind = kind } ∷ [])
run_next p m image journal a kind f r =
    let x = next_of_core p m image journal a.core
    in record {
      sound = sound_next m journal (record { actor = a; kind = kind }) (fits_sound x m image journal a kind r.sound (r.asks a.core) f) r.sound;
      asks = asks_next p m image journal a kind (meets_calls x m image (state_after m journal) journal a kind r.sound.agrees f) r.asks;
      legal = each_push (MeetsFlatOf p m image) journal (record { actor = a; kind = kind }) r.legal (meets_flat x m image (state_after m journal) journal a kind r.sound.agrees r.sound.turns r.sound.fences f);
    }

pub run_starts : (p : Listing) (m : MachineSpec) (image : Contents) → SoundRun p m image []
run_starts p m image = record { sound = sound_at_start m; asks = λ c on. absurd (cc on); legal = each_of_from (MeetsFlatOf p m image) [] tt }

-- ---- rows

pub fits_issue : (x : CoreNext) (m : MachineSpec) (image : Contents) (journal : List Event) (s : State) (a : Actor) (kind : EventKind) (o : Op) (b : BlockNo) (operands : Operands) → IsTrue (is_actor_of m a) → a.lane.0 ≡ 0 → x ≡ Calls (call.Pei o b operands) → (lane : Option Lane) → free_lane m s a.core ≡ lane → issue_row (slice_index s.issues a.core.0) o b operands lane ≡ Makes kind → Fits x m image journal s a kind
fits_issue x m image journal s a kind o b operands actor lane same None e h = absurd (cc h)
fits_issue x m image journal s a kind o b operands actor lane same (Some l) e h = subst (Fits x m image journal s a) (makes_is _ kind h) (actor, (lane, (same, refl, e)))

pub fits_fence : (x : CoreNext) (m : MachineSpec) (image : Contents) (journal : List Event) (s : State) (a : Actor) (kind : EventKind) → IsTrue (is_actor_of m a) → a.lane.0 ≡ 0 → x ≡ Calls call.Fence → (o : Option (List PeiId)) → fence_of s a.core ≡ o → fence_row o ≡ Makes kind → Fits x m image journal s a kind
fits_fence x m image journal s a kind actor lane same None e h = subst (Fits x m image journal s a) (makes_is _ kind h) (actor, (lane, (same, e)))
fits_fence x m image journal s a kind actor lane same (Some []) e h = subst (Fits x m image journal s a) (makes_is _ kind h) (actor, (lane, (same, e)))
fits_fence x m image journal s a kind actor lane same (Some (p ∷ ps)) e h = absurd (cc h)

pub fits_end : (x : CoreNext) (m : MachineSpec) (image : Contents) (journal : List Event) (s : State) (a : Actor) (kind : EventKind) (how : EndKind) → IsTrue (is_actor_of m a) → a.lane.0 ≡ 0 → x ≡ Calls (call.End how) → (o : Option PeiId) → first_unfinished s a.core ≡ o → draining_or o (event.End how) ≡ Makes kind → Fits x m image journal s a kind
fits_end x m image journal s a kind how actor lane same None e h = subst (Fits x m image journal s a) (makes_is _ kind h) (actor, (lane, (same, e)))
fits_end x m image journal s a kind how actor lane same (Some p) e h = absurd (cc h)

-- a PEI's row fits
pub phase_follows : (l : PeiLook) (ph : Phase) (kind : EventKind) → l.phase ≡ ph → follows_phase ph kind ≡ true → follows_phase l.phase kind ≡ true
phase_follows l ph kind e h = ap (λ q. follows_phase q kind) e ∙ h

pub fits_enter : (x : CoreNext) (m : MachineSpec) (image : Contents) (journal : List Event) (s : State) (a : Actor) (kind : EventKind) (l : PeiLook) (granted : Bool) → IsTrue (is_actor_of m a) → 0 < a.lane.0 → look_in s a.core a.lane ≡ Some l → l.phase ≡ phase.Issued → (granted ≡ true → entry_is_taken m s l ≡ false) → (o : Option PeiId) → first_unentered s l.id.core ≡ o → enter_row l granted o ≡ Makes kind → Fits x m image journal s a kind
fits_enter x m image journal s a kind l granted actor lane here e free None first h = absurd (cc h)
fits_enter x m image journal s a kind l granted actor lane here e free (Some id) first h = by (same_pei id l.id) refl h
  where
    grants : (g : Bool) → granted ≡ g → same_pei id l.id ≡ true → (if g then Makes (event.Enter l.id.seq) else Stalls stall.NeedsGrant) ≡ Makes kind → Fits x m image journal s a kind
    grants true q same k =
        subst (Fits x m image journal s a) (makes_is _ kind k)
        (actor, (lane, (l, here, refl, phase_follows l phase.Issued (event.Enter l.id.seq) e refl, (first ∙ ap Some (same_pei_is id l.id same), free q))))
    grants false q same k = absurd (cc k)

    by : (b : Bool) → same_pei id l.id ≡ b → (if b then (if granted then Makes (event.Enter l.id.seq) else Stalls stall.NeedsGrant) else Stalls (stall.NotOldest id)) ≡ Makes kind → Fits x m image journal s a kind
    by true same k = grants granted refl same k
    by false same k = absurd (cc k)

-- a fitting event meets the clauses, on a sound journal
pub sound_meets : (x : CoreNext) (m : MachineSpec) (image : Contents) (journal : List Event) (a : Actor) (kind : EventKind) → Sound m journal → Fits x m image journal (state_after m journal) a kind → MeetsFlat x m image journal (record { actor = a; kind = kind })
sound_meets x m image journal a kind d f = meets_flat x m image (state_after m journal) journal a kind d.agrees d.turns d.fences f
