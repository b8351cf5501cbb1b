-- The machine below the cores: one more event, by the laws of histories and those of coherence.
use Rattle.std.proofs.Common.{Bool, true, false, not, refl, ◌∙◌, ◌≡◌, ◌↔◌, ap, ap₂, ℕ, zero, suc, ◌<◌, List, [], ◌∷◌, ◌++◌, IsTrue, Some, sym, subst, arith}
use Rattle.std.proofs.lemmas.Bool.{and_parts}
use Rattle.pei_types.specs.declared.identifiers.Actor.{Actor}
use Rattle.pei_types.specs.declared.calls.Call.TheVariants as call
use Rattle.pei_types.specs.declared.inflight_looks.PeiLook.{PeiLook}
use Rattle.pei_types.specs.declared.inflight_looks.Phase.{Phase}
use Rattle.pei_types.specs.declared.events.Event.{Event}
use Rattle.pei_types.specs.declared.events.EventKind.{EventKind}
use Rattle.pei_types.specs.declared.events.EventKind.TheVariants as event
use Rattle.pei_types.specs.declared.machines.MachineSpec.{MachineSpec}
use Rattle.pei_types.specs.Calls.{AnswersCall, FollowsPei, is_actor_of}
use Rattle.pei_types.specs.MachineState.{State, state_after, look_in, first_unentered, entry_is_taken}
use Rattle.pei_types.specs.Core.{CoreNext, Calls}
use Rattle.pei_types.specs.Exclusion.{EntersAlone}
use Rattle.pei_types.specs.Guard.{guard, pei_guard, is_pei}
use Rattle.pei_types.specs.History.{Pei}
use Rattle.pei_types.specs.Legal.{MeetsAll}
use Rattle.pei_types.specs.Next.{Makes}
use Rattle.pei_types.specs.Program.{Contents}
use Rattle.pei_types.specs.Turns.{IsNextOf, is_entering, lane_turn}
use Rattle.pei_types.proofs.Identities.{same_core_is, same_lane_is}
use Rattle.pei_types.proofs.Pushes.{state_after-push}
use Rattle.pei_types.proofs.Tests.{same_self}
use Rattle.history_laws.specs.EntryOrder.{LanesApart}
use Rattle.history_laws.specs.Fits.{AsksForFence, EntersFree}
use Rattle.history_laws.specs.Laws.{AgreementTells, ExclusionTells, NextEventsMeet, RestIsState}
use Rattle.history_laws.specs.Members.{In}
use Rattle.history_laws.specs.Sound.{MeetsState}
use Rattle.history_laws.specs.TrackedPeis.{as_issued}
use Rattle.coherence_laws.specs.Invariants.{Invariants}
use Rattle.coherence_laws.specs.Laws.{IsAllowed, KeepsInvariants, LanesHoldPeis, RowsAreAllowed, TurnsAreAllowed}
use Rattle.machine_laws.specs.InOrder.{MachineInOrder}
use Rattle.std.proofs.lemmas.Option.{same_Some}

-- a PEI that enters finds its entry free, as a row's condition asks it
free_at_enter : (m : MachineSpec) (s : State) (a : Actor) (kind : EventKind) → EntersFree m s a kind → (p : PeiLook) → look_in s a.core a.lane ≡ Some p → IsTrue (is_entering kind) → entry_is_taken m s p ≡ false
free_at_enter m s a (event.Enter seq) free p here entering = free p here
free_at_enter m s a _ free p here entering = absurd (cc entering)

-- the next row meets the clauses on the state
pub next_meets_state : RowsAreAllowed → TurnsAreAllowed → (x : CoreNext) (m : MachineSpec) (image : Contents) (journal : List Event) (a : Actor) (kind : EventKind) → Invariants m (state_after m journal) → IsTrue (is_actor_of m a) → EntersFree m (state_after m journal) a kind → IsNextOf x m image journal a kind → MeetsState m journal (record { actor = a; kind = kind })
next_meets_state rows turns x m image journal a kind h own free next =
    let allowed : IsAllowed m (state_after m journal) a kind = turns.allowed x m image journal a (is_entering kind) kind h (free_at_enter m (state_after m journal) a kind free) next.1
    in record {
      guarded = allowed.guarded;
      recency = allowed.recency;
      seal = rows.seals_after m (state_after m journal) a kind h own allowed.guarded;
    }

-- and all clauses
pub next_meets_all : RestIsState → RowsAreAllowed → TurnsAreAllowed → (x : CoreNext) (m : MachineSpec) (image : Contents) (journal : List Event) (e : Event) → MachineInOrder m journal → IsTrue (is_actor_of m e.actor) → EntersFree m (state_after m journal) e.actor e.kind → IsNextOf x m image journal e.actor e.kind → MeetsAll x m image journal e
next_meets_all rest rows turns x m image journal e h own free next =
    rest.all x m image journal e.actor e.kind h.sound own free next (next_meets_state rows turns x m image journal e.actor e.kind h.invariants own free next)

-- the invariants of the state after it
pub next_has_invariants : KeepsInvariants → (x : CoreNext) (m : MachineSpec) (image : Contents) (journal : List Event) (e : Event) → Invariants m (state_after m journal) → IsTrue (is_actor_of m e.actor) → MeetsAll x m image journal e → Invariants m (state_after m (journal ++ e ∷ []))
next_has_invariants keeps x m image journal e h own meets =
    subst (Invariants m) (sym (state_after-push m journal e)) (keeps.next m (state_after m journal) e.actor e.kind h own meets.guarded)

-- so the machine stays in order
pub next_in_order : NextEventsMeet → RestIsState → KeepsInvariants → RowsAreAllowed → TurnsAreAllowed → (x : CoreNext) (m : MachineSpec) (image : Contents) (journal : List Event) (e : Event) → MachineInOrder m journal → IsTrue (is_actor_of m e.actor) → EntersFree m (state_after m journal) e.actor e.kind → AsksForFence x journal e.actor.core → IsNextOf x m image journal e.actor e.kind → MachineInOrder m (journal ++ e ∷ [])
next_in_order events rest keeps rows turns x m image journal e h own free asks next =
    record {
      sound = events.sound x m image journal e.actor e.kind h.sound own free asks next;
      invariants = next_has_invariants keeps x m image journal e h.invariants own (next_meets_all rest rows turns x m image journal e h own free next);
    }

-- what a lane does next is the same whatever its core does
lane_alone : (l : ℕ) (x y : CoreNext) (m : MachineSpec) (image : Contents) (journal : List Event) (a : Actor) (kind : EventKind) → 0 < l → lane_turn l x m image journal a (is_entering kind) ≡ Some (Makes kind) → lane_turn l y m image journal a (is_entering kind) ≡ Some (Makes kind)
lane_alone zero x y m image journal a kind lane turn = absurd (omega (arith, lane))
lane_alone (suc l) x y m image journal a kind lane turn = turn

pub next_of_lane : (x y : CoreNext) (m : MachineSpec) (image : Contents) (journal : List Event) (a : Actor) (kind : EventKind) → 0 < a.lane.0 → IsNextOf x m image journal a kind → IsNextOf y m image journal a kind
next_of_lane x y m image journal a kind lane next = (next.0, lane_alone a.lane.0 x y m image journal a kind lane next.1)

-- after a lane's event too, as if its core asked for its fence
pub lane_in_order : NextEventsMeet → RestIsState → KeepsInvariants → RowsAreAllowed → TurnsAreAllowed → (x : CoreNext) (m : MachineSpec) (image : Contents) (journal : List Event) (e : Event) → MachineInOrder m journal → IsTrue (is_actor_of m e.actor) → EntersFree m (state_after m journal) e.actor e.kind → 0 < e.actor.lane.0 → IsNextOf x m image journal e.actor e.kind → MachineInOrder m (journal ++ e ∷ [])
lane_in_order events rest keeps rows turns x m image journal e h own free lane next =
    next_in_order events rest keeps rows turns (Calls call.Fence) m image journal e h own free (λ on. refl) (next_of_lane x (Calls call.Fence) m image journal e.actor e.kind lane next)

-- ---- an event that meets the clauses is a row

pub enters_free : AgreementTells → LanesHoldPeis → (m : MachineSpec) (journal : List Event) (a : Actor) (kind : EventKind) (x : CoreNext) → MachineInOrder m journal → AnswersCall x m journal a kind → IsTrue (guard m (state_after m journal) a kind) → EntersFree m (state_after m journal) a kind
enters_free tells lanes m journal a (event.Enter seq) x h calls ok =
    let s : State = state_after m journal
    in let f = tells.follows m s journal h.sound.agrees a (event.Enter seq) seq calls.1.1
    in let here : look_in s a.core a.lane ≡ Some f.0 = lanes.placed m s a seq f.0 h.invariants f.1 f.2
    in let allowed : pei_guard m s (event.Enter seq) (Some f.0) ≡ true = subst (λ o. pei_guard m s (event.Enter seq) o ≡ true) f.1 ok
    in let free : not (entry_is_taken m s f.0) ≡ true = (and_parts (is_pei (first_unentered s f.0.id.core) f.0.id) (not (entry_is_taken m s f.0)) allowed).1
    in λ l there. subst (λ q. entry_is_taken m s q ≡ false) (same_Some f.0 l (sym here ∙ there)) (is_false (entry_is_taken m s f.0) free)
  where
    is_false : (b : Bool) → not b ≡ true → b ≡ false
    is_false true e = absurd (cc e)
    is_false false e = refl
enters_free tells lanes m journal a _ x h calls ok = tt

-- ---- exclusion in the state and in the history

-- a PEI on its way is found in its lane
look_placed : AgreementTells → LanesHoldPeis → (m : MachineSpec) (journal : List Event) (p : PeiLook) → MachineInOrder m journal → In p (state_after m journal).peis → look_in (state_after m journal) p.id.core p.lane ≡ Some p
look_placed tells lanes m journal p h i =
    let s : State = state_after m journal
    in let t = tells.looks m s journal h.sound.agrees p i
    in let r = tells.found m s journal h.sound.agrees p.id (as_issued p) p.phase t.found t.stands
    in let same : r.0 ≡ p = ap₂ with_phase r.2 r.3
    in lanes.placed m s (record { core = p.id.core; lane = p.lane }) p.id.seq p h.invariants (r.1 ∙ ap Some same) (same_self p.lane.0)
  where
    with_phase : Pei → Phase → PeiLook
    with_phase q ph = record { id = q.id; lane = q.lane; op = q.op; block = q.block; operands = q.operands; phase = ph }

lanes_apart : AgreementTells → LanesHoldPeis → (m : MachineSpec) (journal : List Event) → MachineInOrder m journal → LanesApart (state_after m journal)
lanes_apart tells lanes m journal h p q i j core lane =
    same_Some p q
    (sym (look_placed tells lanes m journal p h i)
    ∙ ap₂ (look_in (state_after m journal)) (same_core_is p.id.core q.id.core core) (same_lane_is p.lane q.lane lane)
    ∙ look_placed tells lanes m journal q h j)

pub enters_alone : AgreementTells → ExclusionTells → LanesHoldPeis → (m : MachineSpec) (journal : List Event) (a : Actor) (seq : ℕ) → MachineInOrder m journal → FollowsPei journal a (event.Enter seq) seq → EntersAlone m journal a (event.Enter seq) ↔ EntersFree m (state_after m journal) a (event.Enter seq)
enters_alone tells excludes lanes m journal a seq h follows =
    excludes.alone m (state_after m journal) journal a seq h.sound.agrees (lanes_apart tells lanes m journal h) follows
