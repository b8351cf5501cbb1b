-- The first clause that an event fails, as the state tells it.
use Rattle.std.proofs.Common.{◌≡◌, ℕ, ◌<◌, Bool, true, false, not, true≢false, List, length, refl, sym, ◌∙◌, ap, subst}
use Rattle.pei_types.specs.declared.identifiers.Actor.{Actor}
use Rattle.pei_types.specs.declared.identifiers.Block.{Block}
use Rattle.pei_types.specs.declared.identifiers.BlockNo.{BlockNo}
use Rattle.pei_types.specs.declared.inflight_looks.Phase.{Phase}
use Rattle.pei_types.specs.declared.inflight_looks.Phase.TheVariants as phase
use Rattle.pei_types.specs.declared.operations.Reply.{Reply}
use Rattle.pei_types.specs.declared.clauses.Clause.{Clause}
use Rattle.pei_types.specs.declared.clauses.Clause.TheVariants as clause
use Rattle.pei_types.specs.declared.events.Event.{Event}
use Rattle.pei_types.specs.declared.events.EventKind.{EventKind}
use Rattle.pei_types.specs.declared.events.EventKind.TheVariants as event
use Rattle.pei_types.specs.declared.machines.MachineSpec.{MachineSpec}
use Rattle.pei_types.specs.Blocks.{block_of}
use Rattle.pei_types.specs.Calls.{follows_phase, is_actor_of}
use Rattle.pei_types.specs.MachineState.{State, state_after}
use Rattle.pei_types.specs.Core.{CoreNext, next_of_core}
use Rattle.pei_types.specs.FlatMemory.{flat_block}
use Rattle.pei_types.specs.Legal.{FailsFirst, Holds, Legal}
use Rattle.pei_types.specs.Operation.{reply_of}
use Rattle.pei_types.specs.Order.{IsInOrder}
use Rattle.pei_types.specs.Program.{Listing, Contents}
use Rattle.pei_types.specs.Turns.{is_entering}
use Rattle.history_laws.specs.Sound.{Sound}
use Rattle.machine_laws.specs.InOrder.{RunInOrder}
use Rattle.trace_check.specs.InState.{AnswersIn, FailsIn, FitsMemory, LooksFit, enters_free, is_ordered, waits_for_own}
use Rattle.trace_check.specs.Issues.{AllFit, RepliesBy}
use Rattle.trace_check.specs.Laws.{Rests}
use Rattle.trace_check.proofs.Clauses.{replies_told, replies_seen, calls_told, calls_seen, enters_told, enters_seen, fence_told, fence_seen}
use Rattle.trace_check.proofs.Judging.{races_told, races_seen, turn_told}
use Rattle.trace_check.proofs.Ordering.{order_told, order_seen}

not_true : (t : Bool) → not t ≡ true → t ≡ false
not_true true h = absurd (cc h)
not_true false h = refl

any_reply : (ph : Phase) (seq : ℕ) (reply other : Reply) → follows_phase ph (event.Act seq reply) ≡ true → follows_phase ph (event.Act seq other) ≡ true
any_reply phase.Read seq reply other h = refl
any_reply phase.Sealed seq reply other h = refl
any_reply _ seq reply other h = absurd (cc h)

module _ (laws : Rests) (p : Listing) (m : MachineSpec) (image : Contents) (past : List Event) (content : BlockNo → Block) (a : Actor) (kind : EventKind)
    (legal : Legal p m image past) (order : RunInOrder p m image past) (same : (b : BlockNo) → b.0 < m.blocks → content b ≡ flat_block image past b) (looks : LooksFit m.blocks (state_after m past)) (fit : AllFit m.blocks past) where
  abbrev s : State
  s = state_after m past

  abbrev x : CoreNext
  x = next_of_core p m image past a.core

  abbrev e : Event
  e = record { actor = a; kind = kind }

  sound : Sound m past
  sound = order.run.sound

  replies_held : RepliesBy m.blocks content past a kind → Holds clause.Replies p m image past e
  replies_held h = replies_told m image past content same fit a kind h

  pub replies_fail : ¬ (RepliesBy m.blocks content past a kind) → FailsFirst clause.Replies p m image past e
  replies_fail h = record { legal = legal; earlier = tt; fails = λ held. h (replies_seen m image past content same fit a kind held) }

  pub actor_fails : RepliesBy m.blocks content past a kind → is_actor_of m a ≡ false → FailsFirst clause.Calls p m image past e
  actor_fails r h = record { legal = legal; earlier = (replies_held r, tt); fails = λ held. true≢false (sym held.0 ∙ h) }

  -- ---- an event of one of the machine's actors with the right reply

  module _ (r : RepliesBy m.blocks content past a kind) (actor : is_actor_of m a ≡ true) (fits : FitsMemory m.blocks x) where
    calls_held : AnswersIn x s a kind → Holds clause.Calls p m image past e
    calls_held h = calls_told laws.agreement laws.lanes x m s past sound.agrees order.invariants a kind actor h

    act_order : (seq : ℕ) (reply : Reply) → AnswersIn x s a (event.Act seq reply) → IsInOrder past a (event.Act seq reply)
    act_order seq reply h =
        let look = h.1
        in let l = look.0
        in let right : Reply = reply_of l.op l.operands (flat_block image past l.block)
        in (laws.fitting.flat x m image past a (event.Act seq right) sound (actor, (h.0, (l, look.1, look.2, any_reply l.phase seq reply right look.3, refl)))).order

    order_held : (k : EventKind) → AnswersIn x s a k → is_ordered s a k ≡ true → IsInOrder past a k
    order_held (event.Load addr value) h o = order_told m s past sound.agrees sound.fences a.core (block_of addr) false (not_true (waits_for_own s a.core (block_of addr) false) o)
    order_held (event.Store addr value) h o = order_told m s past sound.agrees sound.fences a.core (block_of addr) true (not_true (waits_for_own s a.core (block_of addr) true) o)
    order_held (event.Act seq reply) h o = act_order seq reply h
    order_held _ h o = tt

    order_back : (k : EventKind) → IsInOrder past a k → is_ordered s a k ≡ true
    order_back (event.Load addr value) h = ap not (order_seen m s past sound.agrees sound.fences a.core (block_of addr) false h)
    order_back (event.Store addr value) h = ap not (order_seen m s past sound.agrees sound.fences a.core (block_of addr) true h)
    order_back _ h = refl

    entry_held : AnswersIn x s a kind → enters_free m s a kind ≡ true → Holds clause.Directory p m image past e
    entry_held h free = enters_told laws.exclusion x m s past sound.agrees a kind h free

    pub fails_first : (c : Clause) (i : ℕ) → i ≡ length past → FailsIn c x m s content i a kind → FailsFirst c p m image past e
    fails_first clause.Replies i at h = absurd h
    fails_first clause.Calls i at h =
        record { legal = legal; earlier = (replies_held r, tt); fails = λ held. h (calls_seen laws.agreement laws.lanes x m s past sound.agrees order.invariants a kind held) }
    fails_first clause.Order i at h =
        record { legal = legal; earlier = (replies_held r, (calls_held h.0, tt)); fails = λ held. true≢false (sym (order_back kind held) ∙ h.1) }
    fails_first clause.Directory i at h =
        record { legal = legal; earlier = (replies_held r, (calls_held h.0, (order_held kind h.0 h.1, tt))); fails = λ held. true≢false (sym (enters_seen laws.exclusion x m s past sound.agrees a kind h.0 held) ∙ h.2) }
    fails_first clause.Fence i at h =
        record {
          legal = legal;
          earlier = (replies_held r, (calls_held h.0, (order_held kind h.0 h.1, (entry_held h.0 h.2, tt))));
          fails = λ held. h.3 (fence_seen laws.agreement m s past sound.agrees sound.fences a kind held);
        }
    fails_first clause.Race i at h =
        record {
          legal = legal;
          earlier = (replies_held r, (calls_held h.0, (order_held kind h.0 h.1, (entry_held h.0 h.2, (fence_told laws.agreement m s past sound.agrees sound.fences a kind h.3, tt)))));
          fails = λ held. h.4 (races_seen laws.agreement x m s past sound.agrees kind held);
        }
    fails_first clause.Guard i at h =
        record {
          legal = legal;
          earlier = (replies_held r, (calls_held h.0, (order_held kind h.0 h.1, (entry_held h.0 h.2, (fence_told laws.agreement m s past sound.agrees sound.fences a kind h.3, (races_told laws.agreement x m s past sound.agrees kind h.4, tt))))));
          fails = λ held. true≢false (sym held ∙ h.5);
        }
    fails_first clause.Recency i at h =
        record {
          legal = legal;
          earlier = (replies_held r, (calls_held h.0, (order_held kind h.0 h.1, (entry_held h.0 h.2, (fence_told laws.agreement m s past sound.agrees sound.fences a kind h.3, (races_told laws.agreement x m s past sound.agrees kind h.4, (h.5, tt)))))));
          fails = λ held. h.6 held;
        }
    fails_first clause.Monitor i at h =
        record {
          legal = legal;
          earlier = (replies_held r, (calls_held h.0, (order_held kind h.0 h.1, (entry_held h.0 h.2, (fence_told laws.agreement m s past sound.agrees sound.fences a kind h.3, (races_told laws.agreement x m s past sound.agrees kind h.4, (h.5, (h.6, tt))))))));
          fails = λ held. h.7 held;
        }
    fails_first clause.Next i at h =
        record {
          legal = legal;
          earlier = (replies_held r, (calls_held h.0, (order_held kind h.0 h.1, (entry_held h.0 h.2, (fence_told laws.agreement m s past sound.agrees sound.fences a kind h.3, (races_told laws.agreement x m s past sound.agrees kind h.4, (h.5, (h.6, (h.7, tt)))))))));
          fails = λ held. h.8 (subst (λ (n : ℕ). n < m.events) (sym at) held.0, turn_told x m image past content a (is_entering kind) same fits looks ∙ held.1);
        }
    fails_first clause.Seal i at h = absurd h
