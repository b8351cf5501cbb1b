-- What the calls of a bank leave of it.
use Rattle.std.proofs.Common.{◌≡◌, ℕ, zero, suc, ◌<◌, true, false, List, Some, None, length, refl, sym, ◌∙◌, ap, subst, arith}
use Rattle.pei_types.specs.declared.identifiers.Actor.{Actor}
use Rattle.pei_types.specs.declared.identifiers.CoreId.{CoreId}
use Rattle.pei_types.specs.declared.identifiers.Lane.{Lane}
use Rattle.pei_types.specs.declared.calls.Call.{Call}
use Rattle.pei_types.specs.declared.inflight_looks.PeiLook.{PeiLook}
use Rattle.pei_types.specs.declared.events.EventKind.{EventKind}
use Rattle.pei_types.specs.declared.events.EventKind.TheVariants as event
use Rattle.pei_types.specs.MachineState.{entry_is_taken, look_in, state_after}
use Rattle.pei_types.specs.Next.{Makes, lane_row}
use Rattle.pei_types.specs.Program.{Contents}
use Rattle.pei_types.specs.Next.{call_row_by}
use Rattle.journal.specs.Recorded.{Recorded, pushed}
use Rattle.inflight.specs.OnTheWay.{IsLaneOf}
use Rattle.fabric.specs.Likeness.{IsAfter}
use Rattle.fabric.specs.Banks.{BankHistory, IsEntryFreeIn, IsNew, MayCall, call_turn_of, lane_turn_of, stall_in, with_event}
use Rattle.fabric.specs.ValidEvents.{ProgramFits}
use Rattle.fabric.specs.History.{lane_of, program_of}
use Rattle.fabric.specs.KeptBank.{KeepsBank, history_of}
use Rattle.fabric.specs.Laws.{BankLaws}
use Rattle.fabric.specs.Looks.{seen}
use Rattle.fabric.specs.IssueStamps.{log_with}
use Rattle.fabric.specs.Whole.{Whole, content_in}
use Rattle.fabric.specs.declared.looks.CoreLook.{CoreLook}
use Rattle.fabric.proofs.BankGoing.{Adds}
use Rattle.fabric.proofs.BankRows.{Asks, call_fits, call_in_memory, call_is_row, call_same, lane_fits_in, lane_is_row, lane_not_entering, lane_same, turn_shown}
use Rattle.fabric.proofs.Going.{lane_is_actor, program_is_actor}
use Rattle.fabric.proofs.Stampings.{log_events, log_push}

-- the history after one more event
pub history_next : (parts parts' : Whole) (journal journal' : Recorded) (bank : ℕ) (image : Contents) (a : Actor) (kind : EventKind) (n : ℕ) → length journal.stamps ≡ length journal.events → IsAfter parts a kind parts' → journal' ≡ pushed journal n (record { actor = a; kind = kind }) → history_of parts' journal' bank image ≡ with_event (history_of parts journal bank image) n (record { actor = a; kind = kind })
history_next parts parts' journal journal' bank image a kind n sized after told =
    ap (λ (j : Recorded). history_of parts' j bank image) told
    ∙ ap (λ m. record { machine = m; image = image; bank = bank; log = log_with (pushed journal n (record { actor = a; kind = kind })).events (pushed journal n (record { actor = a; kind = kind })).stamps }) after.machine
    ∙ ap (λ l. record { machine = parts.machine; image = image; bank = bank; log = l }) (log_push journal.events journal.stamps (record { actor = a; kind = kind }) n sized)

-- of a lane's event nothing is asked
lanes_fit : (blocks n : ℕ) (kind : EventKind) → 0 < n → ProgramFits blocks n kind
lanes_fit blocks zero kind h = absurd (omega (arith, h))
lanes_fit blocks (suc n) kind h = tt

module _ (laws : BankLaws) (parts : Whole) (journal : Recorded) (bank : ℕ) (image : Contents) (issued : List ℕ) (k : KeepsBank parts journal bank image issued) where
  abbrev h : BankHistory
  h = history_of parts journal bank image

  -- the bank's row for a call, from the one on its parts
  pub call_row_is : (c : CoreId) (look : CoreLook) (x : Call) (kind : EventKind) → MayCall h c look x → call_row_by (seen look) parts.machine parts.state (content_in parts) c x ≡ Makes kind → call_turn_of h c look x ≡ Makes kind
  call_row_is c look x kind may e = turn_shown laws parts journal bank image issued k c look x ∙ call_same laws parts journal bank image issued k c look x may.here ∙ e

  pub call_adds : (c : CoreId) (look : CoreLook) (x : Call) (kind : EventKind) (n : ℕ) → MayCall h c look x → IsNew h.log n → n < parts.machine.events → call_row_by (seen look) parts.machine parts.state (content_in parts) c x ≡ Makes kind → Adds parts journal bank image (program_of c) kind n
  call_adds c look x kind n may new below e =
      let own = call_same laws parts journal bank image issued k c look x may.here ∙ e
      in record {
        actor = program_is_actor parts.machine c may.core;
        row = call_is_row laws parts journal bank image issued k c look x kind may.here own;
        fits = call_fits laws parts journal bank image issued k c look x kind may own;
        in_memory = call_in_memory laws parts journal bank image issued k c look x kind may.fits own;
        new = new;
        below = below;
      }

  pub lane_adds : (c : CoreId) (l : Lane) (look : CoreLook) (kind : EventKind) (n : ℕ) → IsLaneOf parts.machine c l → stall_in (lane_turn_of h false c l look) ≡ None → IsNew h.log n → n < parts.machine.events → lane_row parts.machine parts.state (content_in parts) false (look_in parts.state c l) ≡ Makes kind → Adds parts journal bank image (lane_of c l) kind n
  lane_adds c l look kind n lane goes new below e =
      record {
        actor = lane_is_actor parts.machine c l lane;
        row = lane_is_row laws parts journal bank image issued k false c l look kind (omega (arith, lane.first)) (lane_not_entering laws parts journal bank image issued k c l kind e) (lane_same laws parts journal bank image issued k c l look goes ∙ e);
        fits = lane_fits_in laws parts journal bank image issued k c l kind e;
        in_memory = lanes_fit parts.machine.blocks l.0 kind (omega (arith, lane.first));
        new = new;
        below = below;
      }

  pub enter_adds : (c : CoreId) (l : Lane) (look : CoreLook) (n : ℕ) → IsLaneOf parts.machine c l → (asks : Asks laws parts journal bank image issued k c l look) → IsEntryFreeIn h c l → IsNew h.log n → n < parts.machine.events → Adds parts journal bank image (lane_of c l) (event.Enter asks.pei.id.seq) n
  enter_adds c l look n lane asks free new below =
      record {
        actor = lane_is_actor parts.machine c l lane;
        row = lane_is_row laws parts journal bank image issued k true c l look (event.Enter asks.pei.id.seq) (omega (arith, lane.first)) refl asks.row;
        fits = λ p there. subst (λ es. (q : PeiLook) → look_in (state_after parts.machine es) c l ≡ Some q → entry_is_taken parts.machine (state_after parts.machine es) q ≡ false) (log_events journal.events journal.stamps k.stamped) free p there;
        in_memory = lanes_fit parts.machine.blocks l.0 (event.Enter asks.pei.id.seq) (omega (arith, lane.first));
        new = new;
        below = below;
      }

  pub free_in : (c : CoreId) (l : Lane) → IsEntryFreeIn h c l → (p : PeiLook) → look_in parts.state c l ≡ Some p → entry_is_taken parts.machine parts.state p ≡ false
  free_in c l free p here =
      let told = subst (λ es. (q : PeiLook) → look_in (state_after parts.machine es) c l ≡ Some q → entry_is_taken parts.machine (state_after parts.machine es) q ≡ false) (log_events journal.events journal.stamps k.stamped) free
      in subst (λ ps. (q : PeiLook) → look_in (record parts.state { peis = ps }) c l ≡ Some q → entry_is_taken parts.machine (record parts.state { peis = ps }) q ≡ false) (sym k.state.peis) told p here
